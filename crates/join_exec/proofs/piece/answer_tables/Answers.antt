use Rattle.std.proofs.Common.{◌≡◌, ◌≤◌, ◌+◌, ◌++◌, List, map, sym, ap, ◌∙◌, subst}
use Rattle.std.specs.Borrow.{Bor}
use Rattle.std.proofs.lemmas.Result.{IfOk-weaker}
use Rattle.cond_expr.specs.declared.expr.ColRef.{ColRef}
use Rattle.cond_expr.specs.References.{borrowed}
use Rattle.cond_expr.specs.Seen.{tree, test}
use Rattle.plain_answers_spec.specs.Naming.{all_references}
use Rattle.join_exec.specs.Pieces.{atoms_read}
use Rattle.join_exec.specs.Atoms.{AreRead, AreReadable}
use Rattle.join_exec_spec.specs.BorrowedOutputs.{all_values}
use Rattle.join_exec.proofs.AtomAnswers.{its_columns, have_atoms, are_numbered, atoms_borrow}
use Rattle.join_exec.proofs.AtomAnswers.{atoms_answer}
use Rattle.join_exec.proofs.AtomSteps.{if_known}
use Rattle.join_exec.proofs.piece.answer_tables.Goals as goal

pub gather_atoms-requires : goal.gather_atoms-requires
gather_atoms-requires g c =
    let e = ap borrowed c.deref.ensures.value ∙ c.in_ok-gather_references.ensures
    ∙ ap (λ (rs : List (Bor ColRef)). borrowed rs
    ++ all_references (map tree c.args.outs.now) (test c.args.cond.now))
    c.new-references.ensures.items in
    subst (λ (rs : List ColRef). AreReadable c.args.groups.now c.args.version rs 0
    c.args.tables.now) (sym e) c.requires

pub answer_choices-requires : goal.answer_choices-requires
answer_choices-requires g c = are_numbered c.args.groups.now c.args.version c.args.slice
    (borrowed c.deref.result.now) 0 c.args.tables.now c.in_ok-atoms.atoms.items
    c.in_ok-atoms.ensures.atoms

pub returns-clause-borrowed : goal.returns-clause-borrowed
returns-clause-borrowed g c = c.answer_choices.ensures.borrowed all_values
    (atoms_borrow c.args.groups.now c.args.version c.args.slice (borrowed c.deref.result.now)
    all_values
    0 c.args.tables.now c.in_ok-atoms.atoms.items c.in_ok-atoms.ensures.atoms)

pub returns-clause-rows : goal.returns-clause-rows
returns-clause-rows g c = λ m k.
    let e = ap borrowed c.deref.ensures.value ∙ c.in_ok-gather_references.ensures
    ∙ ap (λ (rs : List (Bor ColRef)). borrowed rs
    ++ all_references (map tree c.args.outs.now) (test c.args.cond.now))
    c.new-references.ensures.items in
    let read = subst (λ (rs : List ColRef). AreRead c.args.groups.now c.args.version c.args.slice
    rs 0 c.args.tables.now c.in_ok-atoms.atoms.items) e c.in_ok-atoms.ensures.atoms in
    let rs = all_references (map tree c.args.outs.now) (test c.args.cond.now) in
    IfOk-weaker c.answer_choices.result _ _
    (λ rows q. atoms_answer c.args.groups.now c.args.version c.args.slice (map tree c.args.outs.now)
    (test c.args.cond.now) c.args.tables.now c.in_ok-atoms.atoms.items rows.items m k read
    c.requires q)
    (c.answer_choices.ensures.rows (its_columns c.args.groups.now c.args.version c.args.slice rs 0
    c.args.tables.now) (have_atoms c.args.groups.now c.args.version c.args.slice rs 0
    c.args.tables.now c.in_ok-atoms.atoms.items read) m k)

pub returns-clause-cost : goal.returns-clause-cost
returns-clause-cost g c =
    let e = ap borrowed c.deref.ensures.value ∙ c.in_ok-gather_references.ensures
    ∙ ap (λ (rs : List (Bor ColRef)). borrowed rs
    ++ all_references (map tree c.args.outs.now) (test c.args.cond.now))
    c.new-references.ensures.items in
    subst (λ (rs : List ColRef). c.gather_atoms.new.steps ≤ c.args.steps.now + atoms_read
    c.args.groups.now c.args.version rs 0 c.args.tables.now) e c.gather_atoms.ensures.cost

pub returns-clause-counted : goal.returns-clause-counted
returns-clause-counted g c =
    let e = ap borrowed c.deref.ensures.value ∙ c.in_ok-gather_references.ensures
    ∙ ap (λ (rs : List (Bor ColRef)). borrowed rs
    ++ all_references (map tree c.args.outs.now) (test c.args.cond.now))
    c.new-references.ensures.items in
    let steps = subst (λ (rs : List ColRef). c.gather_atoms.new.steps
    ≡ c.args.steps.now + atoms_read c.args.groups.now c.args.version rs 0 c.args.tables.now) e
    c.in_ok-atoms.ensures.counted in
    if_known c.answer_choices.result steps
