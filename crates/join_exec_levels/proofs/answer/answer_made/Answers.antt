use Rattle.std.proofs.Common.{List, map, ap, ◌∙◌}
use Rattle.relations_spec.specs.Timed.{Entry, at}
use Rattle.prima_base.specs.declared.value.Value.{Value}
use Rattle.prima_base.specs.Order.{row_cmp}
use Rattle.prima_base.specs.Timed.{entries_of}
use Rattle.cond_expr.specs.Seen.{tree, test}
use Rattle.join_exec_levels.proofs.LevelLaws.{nothing_told}
use Rattle.join_exec_levels.proofs.answer.answer_made.Goals as goal

pub returns-clause-borrowed : goal.returns-clause-borrowed
returns-clause-borrowed c = λ which h k.
    c.settled_count-answered.ensures.borrowed which (map tree c.args.outs.now)
    (c.in_ok-put_choice_answers.ensures.borrowed which h k)

pub returns-clause-inside : goal.returns-clause-inside
returns-clause-inside c = λ m none before.
    c.settled_count-answered.ensures.inside m
    (ap (λ (es : List (Entry (List Value))). at row_cmp es m)
    c.in_ok-put_choice_answers.ensures.rows
    ∙ nothing_told c.args.columns.now (map tree c.args.outs.now) (test c.args.cond.now)
    (entries_of c.args.answered.now.rows.items) (entries_of c.args.choices.now) m none before)
