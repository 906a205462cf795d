use Rattle.std.proofs.Common.{List, map, ap, ◌∙◌}
use Rattle.std.proofs.lemmas.Result.{IfOk-weaker}
use Rattle.relations_spec.specs.Sets.{set_of}
use Rattle.prima_base.specs.declared.value.Value.{Value}
use Rattle.prima_base.specs.Order.{row_cmp}
use Rattle.cond_expr.specs.Seen.{tree, test}
use Rattle.plain_answers_spec.specs.Choosing.{answers_over}
use Rattle.join_exec_engine.proofs.AtomCells.{choices_answered}
use Rattle.join_exec_engine.proofs.AtomOrder.{rows_is}
use Rattle.join_exec_engine.proofs.engine.answer_choices.Goals as goal

pub returns-clause-rows : goal.returns-clause-rows
returns-clause-rows c = λ columns h m k. IfOk-weaker c.answer_atoms.result _ _
    (λ rows q. q
    ∙ ap (set_of row_cmp) (choices_answered columns (map tree c.args.outs.now)
    (test c.args.cond.now) c.args.atoms.items m h)
    ∙ ap (λ (rs : List (List (List Value))). set_of row_cmp
    (answers_over columns rs (map tree c.args.outs.now) (test c.args.cond.now)))
    (rows_is m c.args.atoms.items))
    (c.answer_atoms.ensures.rows m k)
