use Rattle.std.proofs.Common.{List, map, ap, ◌∙◌, subst}
use Rattle.std.proofs.lemmas.Result.{IfOk-weaker}
use Rattle.relations_spec.specs.Sets.{set_of}
use Rattle.prima_base.specs.Order.{row_cmp}
use Rattle.cond_expr.specs.declared.expr.Expr.{Expr}
use Rattle.cond_expr.specs.Seen.{tree, test}
use Rattle.plain_answers_spec.specs.Choosing.{answers_over}
use Rattle.join_exec_spec.specs.BorrowedOutputs.{AllStayBorrowed}
use Rattle.join_exec_engine.specs.Atoms.{atom_rows}
use Rattle.join_exec.proofs.branch_join.join_atoms.Goals as goal

pub returns-clause-rows : goal.returns-clause-rows
returns-clause-rows c = λ columns have m inside.
    IfOk-weaker c.answer_choices.result _ _
    (λ rows q. q ∙ ap (λ (xs : List Expr). set_of row_cmp
    (answers_over columns (atom_rows c.args.atoms.items m) (map tree xs)
    (test c.args.branch.now.cond))) c.deref.ensures.value)
    (c.answer_choices.ensures.rows columns have m inside)

pub returns-clause-borrowed : goal.returns-clause-borrowed
returns-clause-borrowed c = λ which borrow.
    IfOk-weaker c.answer_choices.result _ _
    (λ rows l. subst (λ (xs : List Expr). AllStayBorrowed which (map tree xs) rows.items)
    c.deref.ensures.value l)
    (c.answer_choices.ensures.borrowed which borrow)
