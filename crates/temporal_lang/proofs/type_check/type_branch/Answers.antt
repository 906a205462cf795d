use Rattle.std.proofs.Common.{◌∙◌, map, sym, ap, subst, arith}
use Rattle.std.specs.Prelude.{Ok, Err}
use Rattle.std.specs.List.{flat_map}
use Rattle.std.proofs.lemmas.Result.{err_from_is_err_and}
use Rattle.cond_expr.specs.Seen.{tree}
use Rattle.cond_expr.specs.Kinds.{kinds_of}
use Rattle.cond_expr.specs.Faults.{references, test_references, first_unknown, test_untyped}
use Rattle.cond_expr.specs.Faults.{first_of}
use Rattle.temporal_lang_types.specs.Branches.{branch_of}
use Rattle.cond_expr.specs.AtomColumns.{atoms_from}
use Rattle.plain_answers_spec.specs.Branches.{item_columns}
use Rattle.temporal_lang_spec.specs.Atoms.{atom_kinds}
use Rattle.temporal_lang.specs.Typings.{OutputsTyped, IsTypedTest}
use Rattle.temporal_lang.proofs.TypingLaws.{known_both, branch_stop, branch_fine, branch_wrong}
use Rattle.temporal_lang.proofs.type_check.type_branch.Goals as goal

pub type_outputs-requires-clause-known : goal.type_outputs-requires-clause-known
type_outputs-requires-clause-known c =
    let b = branch_of c.args.branch.now in
    let of = ap kinds_of (c.deref-3.ensures.value ∙ c.in_ok-columns.ensures
    ∙ ap (λ f. atoms_from 0 (item_columns c.args.schema.now f)) c.deref.ensures.value) in
    ap (λ k. first_unknown k (flat_map references (map tree c.deref-2.result.now))) of
    ∙ ap (λ os. first_unknown (atom_kinds c.args.schema.now c.args.branch.now.from.items)
    (flat_map references (map tree os))) c.deref-2.ensures.value
    ∙ (known_both (atom_kinds c.args.schema.now c.args.branch.now.from.items)
    (flat_map references b.outs) (test_references b.cond) c.requires.known).0

pub returns-in_err-typed : goal.returns-in_err-typed
returns-in_err-typed c =
    let p = err_from_is_err_and c.from_residual-in_err-typed.result
    c.from_residual-in_err-typed.ensures.1 in
    let of = ap kinds_of (c.deref-3.ensures.value ∙ c.in_ok-columns.ensures
    ∙ ap (λ f. atoms_from 0 (item_columns c.args.schema.now f)) c.deref.ensures.value) in
    let e = c.in_err-typed.field-0.0 in
    rw (p.1, p.2)
    (branch_stop (atom_kinds c.args.schema.now c.args.branch.now.from.items) c.args.at
    (branch_of c.args.branch.now) e
    (subst (λ os. OutputsTyped (atom_kinds c.args.schema.now c.args.branch.now.from.items) c.args.at
    (map tree os) (Err e)) c.deref-2.ensures.value
    (subst (λ k. OutputsTyped k c.args.at (map tree c.deref-2.result.now)
    (Err e)) of c.in_err-typed.ensures)))

pub type_cond-requires-clause-known : goal.type_cond-requires-clause-known
type_cond-requires-clause-known c =
    let b = branch_of c.args.branch.now in
    let of = ap kinds_of (c.deref-4.ensures.value ∙ c.in_ok-columns.ensures
    ∙ ap (λ f. atoms_from 0 (item_columns c.args.schema.now f)) c.deref.ensures.value) in
    ap (λ k. first_unknown k (test_references b.cond)) of
    ∙ (known_both (atom_kinds c.args.schema.now c.args.branch.now.from.items)
    (flat_map references b.outs) (test_references b.cond) c.requires.known).1

pub returns-in-Ok : goal.returns-in-Ok
returns-in-Ok c =
    let b = branch_of c.args.branch.now in
    let of = ap kinds_of (c.deref-3.ensures.value ∙ c.in_ok-columns.ensures
    ∙ ap (λ f. atoms_from 0 (item_columns c.args.schema.now f)) c.deref.ensures.value) in
    let again = ap kinds_of (c.deref-4.ensures.value ∙ c.in_ok-columns.ensures
    ∙ ap (λ f. atoms_from 0 (item_columns c.args.schema.now f)) c.deref.ensures.value) in
    let typed = subst (λ os. OutputsTyped (atom_kinds c.args.schema.now
    c.args.branch.now.from.items) c.args.at (map tree os) (Ok c.in_ok-typed.typed))
    c.deref-2.ensures.value
    (subst (λ k. OutputsTyped k c.args.at (map tree c.deref-2.result.now)
    (Ok c.in_ok-typed.typed)) of c.in_ok-typed.ensures) in
    let cond = c.in-Ok.ensures.0 in
    let outs = typed.1.1 in (
      branch_fine (atom_kinds c.args.schema.now c.args.branch.now.from.items) c.args.at b
          typed.0 (ap (λ k. first_of (test_untyped k 0 b.cond)) (sym again) ∙ c.in-Ok.ensures.1),
      (typed.1.0, omega (arith, cond, outs)),
    )

pub returns : goal.returns
returns c =
    let b = branch_of c.args.branch.now in
    let of = ap kinds_of (c.deref-3.ensures.value ∙ c.in_ok-columns.ensures
    ∙ ap (λ f. atoms_from 0 (item_columns c.args.schema.now f)) c.deref.ensures.value) in
    let again = ap kinds_of (c.deref-4.ensures.value ∙ c.in_ok-columns.ensures
    ∙ ap (λ f. atoms_from 0 (item_columns c.args.schema.now f)) c.deref.ensures.value) in
    let typed = subst (λ os. OutputsTyped (atom_kinds c.args.schema.now
    c.args.branch.now.from.items) c.args.at (map tree os) (Ok c.in_ok-typed.typed))
    c.deref-2.ensures.value
    (subst (λ k. OutputsTyped k c.args.at (map tree c.deref-2.result.now)
    (Ok c.in_ok-typed.typed)) of c.in_ok-typed.ensures) in
    branch_wrong (atom_kinds c.args.schema.now c.args.branch.now.from.items) c.args.at b
    c.in_ok-typed.typed.next c.in-Err.place typed.0 typed.1.1
    (subst (λ k. IsTypedTest k c.in_ok-typed.typed.next b.cond (Err c.in-Err.place)) again
    c.in-Err.ensures)
