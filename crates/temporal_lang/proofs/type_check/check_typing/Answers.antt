use Rattle.std.proofs.Common.{◌≡◌, ◌∙◌, map, sym, ap, subst}
use Rattle.std.proofs.lemmas.Result.{err_from_is_err_and}
use Rattle.smo_ops_spec.specs.Checks.{Fault}
use Rattle.smo_ops_spec.specs.First.{first_refusal}
use Rattle.smo_ops_spec.proofs.Firsts.{first_after}
use Rattle.temporal_lang_types.specs.Branches.{branches_of}
use Rattle.prima_base.specs.Faults.{IsTested}
use Rattle.temporal_lang_spec.specs.Checking.{types_from, typing_tests, arities, output_kinds}
use Rattle.temporal_lang.specs.Typings.{kind_lists}
use Rattle.temporal_lang.proofs.BranchTypeLaws.{typing_stop}
use Rattle.temporal_lang.proofs.type_check.check_typing.Goals as goal

pub returns-in_err-kinds : goal.returns-in_err-kinds
returns-in_err-kinds c =
    let p = err_from_is_err_and c.from_residual.result c.from_residual.ensures.1 in
    rw (p.1, p.2)
    (typing_stop c.args.schema.now (branches_of c.args.branches.now) c.in_err-kinds.field-0.0
    c.in_err-kinds.ensures)

pub returns : goal.returns
returns c =
    let tables = c.args.schema.now in
    let branches = branches_of c.args.branches.now in
    let typed = c.in_ok-kinds.ensures in
    let all : first_refusal (arities (kind_lists c.deref.result.now))
    ≡ first_refusal (typing_tests tables branches) =
    ap (λ ks. first_refusal (arities (kind_lists ks))) c.deref.ensures.value
    ∙ ap (λ ls. first_refusal (arities ls)) typed.1
    ∙ sym (first_after (types_from tables 0 branches) (arities (map (output_kinds tables) branches))
    typed.0) in
    subst (λ (f : Fault). IsTested f c.check_arities.result) all c.check_arities.ensures
