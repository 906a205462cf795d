use Rattle.std.proofs.Common.{◌≤◌, ◌+◌, ℕ, List, map, ap, ◌∙◌, subst}
use Rattle.std.proofs.lemmas.Result.{IfOk-weaker, IfOk-equal}
use Rattle.cond_expr.specs.Trees.{Tree}
use Rattle.cond_expr.specs.Seen.{tree}
use Rattle.join_exec_spec.specs.BorrowedOutputs.{all_values, AllStayBorrowed}
use Rattle.smo_ops_types.specs.Changes.{sets_of}
use Rattle.piece_ir_spec.specs.Pieces.{out_trees}
use Rattle.piece_ir.specs.Shown.{piece_of}
use Rattle.join_exec.proofs.PieceAtoms.{readable, meaning_then, given_ready, given_meaning}
use Rattle.join_exec.proofs.PieceAtoms.{given_reads}
use Rattle.join_exec.proofs.piece.run_piece.Goals as goal

-- not checked: that deref, deref-2 and deref-3 are the outputs, the tables and the copied outputs
-- is a guess
pub answer_tables-requires : goal.answer_tables-requires
answer_tables-requires g c =
    let p = piece_of c.args.piece.now in
    let o = ap (map tree) c.deref-3.ensures.value ∙ c.in_ok-outs.ensures
    ∙ ap (λ os. out_trees (sets_of os)) c.deref.ensures.value in
    given_ready c.args.groups.now c.args.version p c.deref-2.result.now
    (map tree c.deref-3.result.now) c.deref-2.ensures.value o
    (readable c.args.groups.now c.requires.0 c.args.version c.requires.1 c.requires.2 p
    c.requires.3)

pub returns-clause-stored : goal.returns-clause-stored
returns-clause-stored g c = λ m k.
    let p = piece_of c.args.piece.now in
    let o = ap (map tree) c.deref-3.ensures.value ∙ c.in_ok-outs.ensures
    ∙ ap (λ os. out_trees (sets_of os)) c.deref.ensures.value in
    IfOk-weaker c.answer_tables.result _ _ (λ rows q. q
    ∙ given_meaning c.args.groups.now c.args.version p c.deref-2.result.now
    (map tree c.deref-3.result.now) c.deref-2.ensures.value o m)
    (c.answer_tables.ensures.rows m k)

pub returns-clause-rows : goal.returns-clause-rows
returns-clause-rows g c = λ past h m k f.
    let p = piece_of c.args.piece.now in
    let o = ap (map tree) c.deref-3.ensures.value ∙ c.in_ok-outs.ensures
    ∙ ap (λ os. out_trees (sets_of os)) c.deref.ensures.value in
    IfOk-weaker c.answer_tables.result _ _
    (λ rows q. q ∙ given_meaning c.args.groups.now c.args.version p c.deref-2.result.now
    (map tree c.deref-3.result.now) c.deref-2.ensures.value o m
    ∙ meaning_then c.args.groups.now c.args.version c.requires.0 past c.requires.1 h c.requires.2 p
    c.requires.3 m f)
    (c.answer_tables.ensures.rows m k)

pub returns-clause-borrowed : goal.returns-clause-borrowed
returns-clause-borrowed g c =
    let o = ap (map tree) c.deref-3.ensures.value ∙ c.in_ok-outs.ensures
    ∙ ap (λ os. out_trees (sets_of os)) c.deref.ensures.value in
    IfOk-weaker c.answer_tables.result _ _ (λ rows q.
    subst (λ (ts : List Tree). AllStayBorrowed all_values ts rows.items) o q)
    c.answer_tables.ensures.borrowed

pub returns-clause-cost : goal.returns-clause-cost
returns-clause-cost g c =
    let p = piece_of c.args.piece.now in
    let o = ap (map tree) c.deref-3.ensures.value ∙ c.in_ok-outs.ensures
    ∙ ap (λ os. out_trees (sets_of os)) c.deref.ensures.value in
    subst (λ (n : ℕ). c.answer_tables.new.steps ≤ c.args.steps.now + n)
    (given_reads c.args.groups.now c.args.version p c.deref-2.result.now
    (map tree c.deref-3.result.now) c.deref-2.ensures.value o) c.answer_tables.ensures.cost

pub returns-clause-counted : goal.returns-clause-counted
returns-clause-counted g c =
    let p = piece_of c.args.piece.now in
    let o = ap (map tree) c.deref-3.ensures.value ∙ c.in_ok-outs.ensures
    ∙ ap (λ os. out_trees (sets_of os)) c.deref.ensures.value in
    IfOk-equal c.answer_tables.result _ _ _ c.answer_tables.ensures.counted
    (ap (λ (n : ℕ). c.args.steps.now + n) (given_reads c.args.groups.now c.args.version p
    c.deref-2.result.now (map tree c.deref-3.result.now) c.deref-2.ensures.value o))
