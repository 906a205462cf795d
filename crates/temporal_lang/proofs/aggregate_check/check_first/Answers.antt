use Rattle.std.proofs.Common.{List, sym, ap, subst, map, ◌∙◌, arith}
use Rattle.std.specs.Prelude.{Option, Some}
use Rattle.smo_ops_spec.specs.First.{first_refusal}
use Rattle.prima_base.specs.Faults.{IsTested}
use Rattle.prima_base.specs.declared.value.ColType.{ColType}
use Rattle.temporal_lang_spec.specs.AggregateFaults.{aggregate_tests}
use Rattle.temporal_lang.proofs.AggregateLaws.{no_kinds, first_kinds}
use Rattle.temporal_lang.proofs.aggregate_check.check_first.Goals as goal

pub returns-in-empty : goal.returns-in-empty
returns-in-empty c = subst (λ (ks : List (Option ColType)). IsTested (first_refusal
    (aggregate_tests ks c.args.items.now c.args.group)) c.check_aggregates.result)
    (sym (no_kinds c.args.kinds.now (let k = c.in-empty.len_below in omega (arith, k))))
    c.check_aggregates.ensures

pub returns-in-len1-up : goal.returns-in-len1-up
returns-in-len1-up c = subst (λ (ks : List (Option ColType)). IsTested (first_refusal
    (aggregate_tests ks c.args.items.now c.args.group)) c.check_aggregates-in-len1-up.result)
    (ap (map Some) c.deref.ensures.value ∙ first_kinds c.args.kinds.now c.first-item.result
    (let k = c.in-len1-up.len_at_least in omega (arith, k)) c.first-item.is)
    c.check_aggregates-in-len1-up.ensures
