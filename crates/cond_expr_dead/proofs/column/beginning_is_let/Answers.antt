use Rattle.std.proofs.Common.{sym, ◌∙◌}
use Rattle.cond_expr.specs.Seen.{test}
use Rattle.cond_expr.specs.Parts.{parts}
use Rattle.cond_expr_dead.proofs.LowerBoundLaws.{by_top, by_excluded}
use Rattle.cond_expr_dead.proofs.column.beginning_is_let.Goals as goal

pub returns-then-highest_is_let : goal.returns-then-highest_is_let
returns-then-highest_is_let c = c.if-highest_is_let.true
    ∙ sym (by_top c.args.column.atom c.args.column.name.now (parts (test c.args.whole.now))
    c.highest_is_let.ensures.valid
    (sym c.highest_is_let.ensures.value ∙ c.if-highest_is_let.true))

pub returns-else-highest_is_let : goal.returns-else-highest_is_let
returns-else-highest_is_let c = c.some_part.ensures.value
    ∙ by_excluded c.args.column.atom c.args.column.name.now (parts (test c.args.whole.now))
    c.highest_is_let.ensures.valid
    (sym c.highest_is_let.ensures.value ∙ c.if-highest_is_let.false)
