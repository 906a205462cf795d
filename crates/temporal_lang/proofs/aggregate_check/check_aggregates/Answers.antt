use Rattle.std.proofs.Common.{map, sym, subst}
use Rattle.std.specs.Prelude.{Some}
use Rattle.std.proofs.lemmas.Result.{err_from_is_err_and}
use Rattle.smo_ops_spec.specs.First.{first_refusal}
use Rattle.smo_ops_spec.specs.Checks.{Fault}
use Rattle.prima_base.specs.Faults.{IsTested}
use Rattle.temporal_lang_spec.specs.AggregateFaults.{aggregate_tests}
use Rattle.temporal_lang.proofs.AggregateLaws.{refused_too, places_first, places_met}
use Rattle.temporal_lang.proofs.aggregate_check.check_aggregates.Goals as goal

pub returns-in_err-check_places : goal.returns-in_err-check_places
returns-in_err-check_places c =
    let p = err_from_is_err_and c.from_residual.result c.from_residual.ensures.1 in
    rw (p.1, p.2) (refused_too _
    (first_refusal (aggregate_tests (map Some c.args.kinds.now) c.args.items.now c.args.group))
    c.in_err-check_places.field-0.0 (places_first c.args.kinds.now c.args.items.now c.args.group)
    c.in_err-check_places.ensures)

pub returns : goal.returns
returns c = subst (λ (f : Fault). IsTested f c.check_rest.result)
    (sym (places_met c.args.kinds.now c.args.items.now c.args.group
    c.in_ok-check_places.ensures)) c.check_rest.ensures
