use Rattle.std.proofs.Common.{◌≡◌, ◌∙◌, sym, ap, subst}
use Rattle.std.proofs.lemmas.Result.{err_from_is_err_and}
use Rattle.smo_ops_spec.specs.First.{first_refusal}
use Rattle.temporal_lang_types.specs.Branches.{branches_of, IsQuery}
use Rattle.temporal_lang_types.specs.Queries.{query_of, a_query}
use Rattle.temporal_lang_spec.specs.Atoms.{branches_with_atoms}
use Rattle.temporal_lang_spec.specs.Checking.{names_tests, typing_tests, period_tests, query_fault}
use Rattle.temporal_lang_spec.specs.Resolved.{HaveFew, AllSmall, AllKnown}
use Rattle.temporal_lang_spec.proofs.BranchLaws.{all_known, query_small, still_small, still_few}
use Rattle.temporal_lang.proofs.CheckLaws.{names_first, typing_next, periods_last, both_ways}
use Rattle.temporal_lang.proofs.CheckLaws.{stop_checked, stop_accepted, stop_refused}
use Rattle.temporal_lang.proofs.CheckLaws.{still_few_branches, still_query}
use Rattle.temporal_lang.proofs.check.check_query.Goals as goal

pub returns-in_err-check_names-clause-checked : goal.returns-in_err-check_names-clause-checked
returns-in_err-check_names-clause-checked c =
    let tables = c.args.schema.now in
    let q = query_of c.args.query.now in
    let few = sym c.in_default.ensures in
    let p = err_from_is_err_and c.from_residual.result c.from_residual.ensures.1 in
    rw (p.1, p.2)
    (stop_checked tables q (first_refusal (names_tests tables (branches_of c.deref.result.now)))
    c.in_err-check_names.field-0.0
    (λ r h. names_first tables q few r (ap (λ bs.
    first_refusal (names_tests tables (branches_of bs))) (sym c.deref.ensures.value) ∙ h))
    c.in_err-check_names.ensures)

pub returns-in_err-check_names-clause-accepted : goal.returns-in_err-check_names-clause-accepted
returns-in_err-check_names-clause-accepted c =
    let tables = c.args.schema.now in
    let q = query_of c.args.query.now in
    let few = sym c.in_default.ensures in
    let p = err_from_is_err_and c.from_residual.result c.from_residual.ensures.1 in
    rw (p.1, p.2)
    (stop_accepted tables q (first_refusal (names_tests tables (branches_of c.deref.result.now)))
    c.in_err-check_names.field-0.0
    (λ r h. names_first tables q few r (ap (λ bs.
    first_refusal (names_tests tables (branches_of bs))) (sym c.deref.ensures.value) ∙ h))
    c.in_err-check_names.ensures)

pub returns-in_err-check_names-clause-refused : goal.returns-in_err-check_names-clause-refused
returns-in_err-check_names-clause-refused c =
    let tables = c.args.schema.now in
    let q = query_of c.args.query.now in
    let few = sym c.in_default.ensures in
    let p = err_from_is_err_and c.from_residual.result c.from_residual.ensures.1 in
    rw (p.1, p.2)
    (stop_refused tables q (first_refusal (names_tests tables (branches_of c.deref.result.now)))
    c.in_err-check_names.field-0.0
    (λ r h. names_first tables q few r (ap (λ bs.
    first_refusal (names_tests tables (branches_of bs))) (sym c.deref.ensures.value) ∙ h))
    c.in_err-check_names.ensures)

pub resolve_branches-requires : goal.resolve_branches-requires
resolve_branches-requires c =
    let tables = c.args.schema.now in
    let q = query_of c.args.query.now in
    let few = sym c.in_default.ensures in
    subst (λ bs. HaveFew (branches_of bs)) (sym c.deref-2.ensures.value) (query_small q few).1

pub check_typing-requires-clause-count : goal.check_typing-requires-clause-count
check_typing-requires-clause-count c =
    let tables = c.args.schema.now in
    let q = query_of c.args.query.now in
    let few = sym c.in_default.ensures in
    let same : branches_of c.deref-3.result.now ≡ branches_with_atoms tables q.branches =
    ap branches_of c.deref-3.ensures.value ∙ c.in_ok-branches.ensures
    ∙ ap (λ bs. branches_with_atoms tables (branches_of bs)) c.deref-2.ensures.value in
    still_few_branches tables c.deref-3.result.now q.branches same (query_small q few).0

pub check_typing-requires-clause-few : goal.check_typing-requires-clause-few
check_typing-requires-clause-few c =
    let tables = c.args.schema.now in
    let q = query_of c.args.query.now in
    let few = sym c.in_default.ensures in
    let same : branches_of c.deref-3.result.now ≡ branches_with_atoms tables q.branches =
    ap branches_of c.deref-3.ensures.value ∙ c.in_ok-branches.ensures
    ∙ ap (λ bs. branches_with_atoms tables (branches_of bs)) c.deref-2.ensures.value in
    subst HaveFew (sym same) (still_few tables q.branches (query_small q few).1)

pub check_typing-requires-clause-small : goal.check_typing-requires-clause-small
check_typing-requires-clause-small c =
    let tables = c.args.schema.now in
    let q = query_of c.args.query.now in
    let few = sym c.in_default.ensures in
    let same : branches_of c.deref-3.result.now ≡ branches_with_atoms tables q.branches =
    ap branches_of c.deref-3.ensures.value ∙ c.in_ok-branches.ensures
    ∙ ap (λ bs. branches_with_atoms tables (branches_of bs)) c.deref-2.ensures.value in
    subst AllSmall (sym same) (still_small tables q.branches (query_small q few).2)

pub check_typing-requires-clause-known : goal.check_typing-requires-clause-known
check_typing-requires-clause-known c =
    let tables = c.args.schema.now in
    let q = query_of c.args.query.now in
    let few = sym c.in_default.ensures in
    let named = ap (λ bs. first_refusal (names_tests tables (branches_of bs)))
    (sym c.deref.ensures.value) ∙ c.in_ok-check_names.ensures in
    let same : branches_of c.deref-3.result.now ≡ branches_with_atoms tables q.branches =
    ap branches_of c.deref-3.ensures.value ∙ c.in_ok-branches.ensures
    ∙ ap (λ bs. branches_with_atoms tables (branches_of bs)) c.deref-2.ensures.value in
    subst (λ bs. AllKnown tables bs) (sym same) (all_known tables q.branches named)

pub returns-in_err-check_typing-clause-checked : goal.returns-in_err-check_typing-clause-checked
returns-in_err-check_typing-clause-checked c =
    let tables = c.args.schema.now in
    let q = query_of c.args.query.now in
    let few = sym c.in_default.ensures in
    let named = ap (λ bs. first_refusal (names_tests tables (branches_of bs)))
    (sym c.deref.ensures.value) ∙ c.in_ok-check_names.ensures in
    let same : branches_of c.deref-3.result.now ≡ branches_with_atoms tables q.branches =
    ap branches_of c.deref-3.ensures.value ∙ c.in_ok-branches.ensures
    ∙ ap (λ bs. branches_with_atoms tables (branches_of bs)) c.deref-2.ensures.value in
    let p = err_from_is_err_and c.from_residual-in_err-check_typing.result
    c.from_residual-in_err-check_typing.ensures.1 in
    rw (p.1, p.2)
    (stop_checked tables q (first_refusal (typing_tests tables (branches_of c.deref-3.result.now)))
    c.in_err-check_typing.field-0.0
    (λ r h. typing_next tables q few named r (ap (λ bs. first_refusal (typing_tests tables bs))
    (sym same) ∙ h))
    c.in_err-check_typing.ensures)

pub returns-in_err-check_typing-clause-accepted : goal.returns-in_err-check_typing-clause-accepted
returns-in_err-check_typing-clause-accepted c =
    let tables = c.args.schema.now in
    let q = query_of c.args.query.now in
    let few = sym c.in_default.ensures in
    let named = ap (λ bs. first_refusal (names_tests tables (branches_of bs)))
    (sym c.deref.ensures.value) ∙ c.in_ok-check_names.ensures in
    let same : branches_of c.deref-3.result.now ≡ branches_with_atoms tables q.branches =
    ap branches_of c.deref-3.ensures.value ∙ c.in_ok-branches.ensures
    ∙ ap (λ bs. branches_with_atoms tables (branches_of bs)) c.deref-2.ensures.value in
    let p = err_from_is_err_and c.from_residual-in_err-check_typing.result
    c.from_residual-in_err-check_typing.ensures.1 in
    rw (p.1, p.2)
    (stop_accepted tables q (first_refusal (typing_tests tables (branches_of c.deref-3.result.now)))
    c.in_err-check_typing.field-0.0
    (λ r h. typing_next tables q few named r (ap (λ bs. first_refusal (typing_tests tables bs))
    (sym same) ∙ h))
    c.in_err-check_typing.ensures)

pub returns-in_err-check_typing-clause-refused : goal.returns-in_err-check_typing-clause-refused
returns-in_err-check_typing-clause-refused c =
    let tables = c.args.schema.now in
    let q = query_of c.args.query.now in
    let few = sym c.in_default.ensures in
    let named = ap (λ bs. first_refusal (names_tests tables (branches_of bs)))
    (sym c.deref.ensures.value) ∙ c.in_ok-check_names.ensures in
    let same : branches_of c.deref-3.result.now ≡ branches_with_atoms tables q.branches =
    ap branches_of c.deref-3.ensures.value ∙ c.in_ok-branches.ensures
    ∙ ap (λ bs. branches_with_atoms tables (branches_of bs)) c.deref-2.ensures.value in
    let p = err_from_is_err_and c.from_residual-in_err-check_typing.result
    c.from_residual-in_err-check_typing.ensures.1 in
    rw (p.1, p.2)
    (stop_refused tables q (first_refusal (typing_tests tables (branches_of c.deref-3.result.now)))
    c.in_err-check_typing.field-0.0
    (λ r h. typing_next tables q few named r (ap (λ bs. first_refusal (typing_tests tables bs))
    (sym same) ∙ h))
    c.in_err-check_typing.ensures)

pub returns-in_err-check_periods-clause-checked : goal.returns-in_err-check_periods-clause-checked
returns-in_err-check_periods-clause-checked c =
    let tables = c.args.schema.now in
    let q = query_of c.args.query.now in
    let few = sym c.in_default.ensures in
    let named = ap (λ bs. first_refusal (names_tests tables (branches_of bs)))
    (sym c.deref.ensures.value) ∙ c.in_ok-check_names.ensures in
    let same : branches_of c.deref-3.result.now ≡ branches_with_atoms tables q.branches =
    ap branches_of c.deref-3.ensures.value ∙ c.in_ok-branches.ensures
    ∙ ap (λ bs. branches_with_atoms tables (branches_of bs)) c.deref-2.ensures.value in
    let typed = ap (λ bs. first_refusal (typing_tests tables bs)) (sym same)
    ∙ c.in_ok-check_typing.ensures in
    let asked = ap (λ ks. first_refusal (period_tests q.when ks)) (sym c.deref-4.ensures.value) in
    let p = err_from_is_err_and c.from_residual-in_err-check_periods.result
    c.from_residual-in_err-check_periods.ensures.1 in
    rw (p.1, p.2)
    (stop_checked tables q (first_refusal (period_tests q.when c.deref-4.result.now))
    c.in_err-check_periods.field-0.0
    (λ r h. periods_last tables q few named typed ∙ asked ∙ h)
    c.in_err-check_periods.ensures)

pub returns-in_err-check_periods-clause-accepted : goal.returns-in_err-check_periods-clause-accepted
returns-in_err-check_periods-clause-accepted c =
    let tables = c.args.schema.now in
    let q = query_of c.args.query.now in
    let few = sym c.in_default.ensures in
    let named = ap (λ bs. first_refusal (names_tests tables (branches_of bs)))
    (sym c.deref.ensures.value) ∙ c.in_ok-check_names.ensures in
    let same : branches_of c.deref-3.result.now ≡ branches_with_atoms tables q.branches =
    ap branches_of c.deref-3.ensures.value ∙ c.in_ok-branches.ensures
    ∙ ap (λ bs. branches_with_atoms tables (branches_of bs)) c.deref-2.ensures.value in
    let typed = ap (λ bs. first_refusal (typing_tests tables bs)) (sym same)
    ∙ c.in_ok-check_typing.ensures in
    let asked = ap (λ ks. first_refusal (period_tests q.when ks)) (sym c.deref-4.ensures.value) in
    let p = err_from_is_err_and c.from_residual-in_err-check_periods.result
    c.from_residual-in_err-check_periods.ensures.1 in
    rw (p.1, p.2)
    (stop_accepted tables q (first_refusal (period_tests q.when c.deref-4.result.now))
    c.in_err-check_periods.field-0.0
    (λ r h. periods_last tables q few named typed ∙ asked ∙ h)
    c.in_err-check_periods.ensures)

pub returns-in_err-check_periods-clause-refused : goal.returns-in_err-check_periods-clause-refused
returns-in_err-check_periods-clause-refused c =
    let tables = c.args.schema.now in
    let q = query_of c.args.query.now in
    let few = sym c.in_default.ensures in
    let named = ap (λ bs. first_refusal (names_tests tables (branches_of bs)))
    (sym c.deref.ensures.value) ∙ c.in_ok-check_names.ensures in
    let same : branches_of c.deref-3.result.now ≡ branches_with_atoms tables q.branches =
    ap branches_of c.deref-3.ensures.value ∙ c.in_ok-branches.ensures
    ∙ ap (λ bs. branches_with_atoms tables (branches_of bs)) c.deref-2.ensures.value in
    let typed = ap (λ bs. first_refusal (typing_tests tables bs)) (sym same)
    ∙ c.in_ok-check_typing.ensures in
    let asked = ap (λ ks. first_refusal (period_tests q.when ks)) (sym c.deref-4.ensures.value) in
    let p = err_from_is_err_and c.from_residual-in_err-check_periods.result
    c.from_residual-in_err-check_periods.ensures.1 in
    rw (p.1, p.2)
    (stop_refused tables q (first_refusal (period_tests q.when c.deref-4.result.now))
    c.in_err-check_periods.field-0.0
    (λ r h. periods_last tables q few named typed ∙ asked ∙ h)
    c.in_err-check_periods.ensures)

pub invariant_of-result : goal.invariant_of-result
invariant_of-result c =
    let tables = c.args.schema.now in
    let q = query_of c.args.query.now in
    let few = sym c.in_default.ensures in
    let same = c.in_ok-branches.ensures ∙ ap (λ bs. branches_with_atoms tables (branches_of bs))
    c.deref-2.ensures.value in
    let kept = c.in_ok-keep.ensures ∙ c.deref-5.ensures.value in
    record {
      valid = subst (λ ks. IsQuery (branches_of c.in_ok-branches.branches.items) q.when ks)
          (sym kept)
          (subst (λ bs. IsQuery bs q.when q.keep) (sym same)
          (still_query tables q.branches q.when q.keep c.args.query.now.valid));
    }

pub returns-clause-checked : goal.returns-clause-checked
returns-clause-checked c =
    let tables = c.args.schema.now in
    let q = query_of c.args.query.now in
    let few = sym c.in_default.ensures in
    let named = ap (λ bs. first_refusal (names_tests tables (branches_of bs)))
    (sym c.deref.ensures.value) ∙ c.in_ok-check_names.ensures in
    let same : branches_of c.deref-3.result.now ≡ branches_with_atoms tables q.branches =
    ap branches_of c.deref-3.ensures.value ∙ c.in_ok-branches.ensures
    ∙ ap (λ bs. branches_with_atoms tables (branches_of bs)) c.deref-2.ensures.value in
    let typed = ap (λ bs. first_refusal (typing_tests tables bs)) (sym same)
    ∙ c.in_ok-check_typing.ensures in
    let asked = ap (λ ks. first_refusal (period_tests q.when ks)) (sym c.deref-4.ensures.value) in
    let kept = c.in_ok-keep.ensures ∙ c.deref-5.ensures.value in
    let made = c.in_ok-branches.ensures ∙ ap (λ bs. branches_with_atoms tables (branches_of bs))
    c.deref-2.ensures.value in (
      periods_last tables q few named typed ∙ asked ∙ c.in_ok-check_periods.ensures,
      ap (λ bs. a_query q.version bs q.when c.in_ok-keep.keep.items) made
          ∙ ap (λ ks. a_query q.version (branches_with_atoms tables q.branches) q.when ks) kept,
    )

pub returns-clause-refused : goal.returns-clause-refused
returns-clause-refused c =
    let tables = c.args.schema.now in
    let q = query_of c.args.query.now in
    let few = sym c.in_default.ensures in
    let named = ap (λ bs. first_refusal (names_tests tables (branches_of bs)))
    (sym c.deref.ensures.value) ∙ c.in_ok-check_names.ensures in
    let same : branches_of c.deref-3.result.now ≡ branches_with_atoms tables q.branches =
    ap branches_of c.deref-3.ensures.value ∙ c.in_ok-branches.ensures
    ∙ ap (λ bs. branches_with_atoms tables (branches_of bs)) c.deref-2.ensures.value in
    let typed = ap (λ bs. first_refusal (typing_tests tables bs)) (sym same)
    ∙ c.in_ok-check_typing.ensures in
    let asked = ap (λ ks. first_refusal (period_tests q.when ks)) (sym c.deref-4.ensures.value) in
    λ r h. both_ways (query_fault tables q) r
    (periods_last tables q few named typed ∙ asked ∙ c.in_ok-check_periods.ensures) h
