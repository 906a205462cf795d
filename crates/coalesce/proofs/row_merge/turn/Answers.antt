use Rattle.std.proofs.Common.{ap, sym, ◌∙◌, get_or, max, ◌+◌}
use Rattle.relations_spec.specs.Spans.{Span}
use Rattle.prima_base_rows.specs.Rows.{in_period}
use Rattle.prima_base_rows.proofs.Moves.{no_row}
use Rattle.coalesce.specs.Joining.{touch_rows, join_rows, standing}
use Rattle.coalesce.proofs.Places.{kept_join, kept_swap}
use Rattle.coalesce.proofs.Rows.{joined_row}
use Rattle.coalesce.proofs.row_merge.turn.Goals as goal

pub returns-then-touches-clause-stands : goal.returns-then-touches-clause-stands
returns-then-touches-clause-stands c =
    let xs = c.args.rows.now.items in
    let first = get_or xs c.args.kept no_row in
    let next = get_or xs c.args.next no_row in
    let end = c.period-then-touches.ensures.period no_row in
    kept_join touch_rows join_rows xs c.args.kept c.args.next no_row
    (in_period first c.until-joined.result) c.requires.apart c.requires.within
    (sym (c.touches.ensures no_row) ∙ c.if-touches.true)
    (joined_row first next c.until-joined.result
    (c.until-joined.ensures.start ∙ ap (λ (p : Span). p.start) (c.period.ensures.period no_row))
    (c.until-joined.ensures.end ∙ (λ i. max ((c.period.ensures.period no_row i).end)
    ((c.end.ensures.end ∙ ap (λ (p : Span). p.end) end) i))))
    ∙ ap (standing touch_rows join_rows c.args.kept (c.args.next + 1))
    (sym (c.set_period.ensures.rows no_row))

pub returns-else-touches-clause-stands : goal.returns-else-touches-clause-stands
returns-else-touches-clause-stands c =
    kept_swap touch_rows join_rows c.args.rows.now.items c.exchange.new.rows.items c.args.kept
    c.args.next no_row c.requires.apart c.requires.within
    (sym (c.touches.ensures no_row) ∙ c.if-touches.false) c.exchange.ensures
