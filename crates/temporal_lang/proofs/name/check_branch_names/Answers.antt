use Rattle.std.proofs.Common.{sym, ap, subst, ◌≡◌, ◌++◌, ◌∙◌, map}
use Rattle.std.specs.Prelude.{None}
use Rattle.std.proofs.lemmas.Result.{err_from_is_err_and}
use Rattle.smo_ops_spec.specs.Checks.{Fault}
use Rattle.smo_ops_spec.specs.First.{first_refusal}
use Rattle.smo_ops_spec.proofs.Firsts.{first_after, first_before}
use Rattle.temporal_lang_types.specs.Branches.{branch_of}
use Rattle.temporal_lang_spec.specs.Atoms.{sources_of}
use Rattle.prima_base.specs.Faults.{IsTested}
use Rattle.temporal_lang_spec.specs.Checking.{item_tests, reference_test, branch_references}
use Rattle.temporal_lang_spec.specs.Checking.{branch_names}
use Rattle.cond_expr.specs.References.{borrowed}
use Rattle.temporal_lang.proofs.OverflowLaws.{passed_on}
use Rattle.temporal_lang.proofs.name.check_branch_names.Goals as goal

pub returns-in_err-check_items : goal.returns-in_err-check_items
returns-in_err-check_items c =
    let p = err_from_is_err_and c.from_residual.result c.from_residual.ensures.1 in
    let from = c.args.branch.now.from.items in
    let same = ap (λ x. first_refusal (item_tests c.args.schema.now x)) c.deref.ensures.value in
    rw (p.1, p.2)
    (passed_on (first_refusal (item_tests c.args.schema.now c.deref.result.now))
    (first_refusal (branch_names c.args.schema.now (branch_of c.args.branch.now)))
    c.in_err-check_items.field-0.0
    (λ r h. first_before (item_tests c.args.schema.now from)
    (map (reference_test (sources_of c.args.schema.now from))
    (branch_references (branch_of c.args.branch.now))) r (sym same ∙ h))
    c.in_err-check_items.ensures)

pub returns : goal.returns
returns c =
    let from = c.args.branch.now.from.items in
    let b = branch_of c.args.branch.now in
    let none : first_refusal (item_tests c.args.schema.now from) ≡ None =
    ap (λ x. first_refusal (item_tests c.args.schema.now x)) (sym c.deref.ensures.value)
    ∙ c.in_ok-check_items.ensures in
    let all : first_refusal (map (reference_test
    (sources_of c.args.schema.now c.deref-2.result.now)) (borrowed c.deref-3.result.now))
    ≡ first_refusal (branch_names c.args.schema.now b) =
    ap (λ x. first_refusal (map (reference_test (sources_of c.args.schema.now x))
    (borrowed c.deref-3.result.now))) c.deref-2.ensures.value
    ∙ ap (λ y. first_refusal (map (reference_test (sources_of c.args.schema.now from))
    (borrowed y))) c.deref-3.ensures.value
    ∙ ap (λ z. first_refusal (map (reference_test (sources_of c.args.schema.now from)) z))
    (c.in_ok-gather_branch.ensures ∙ ap (λ w. borrowed w ++ branch_references b)
    c.new-references.ensures.items)
    ∙ sym (first_after (item_tests c.args.schema.now from)
    (map (reference_test (sources_of c.args.schema.now from)) (branch_references b)) none) in
    subst (λ (f : Fault). IsTested f c.check_references.result) all c.check_references.ensures
