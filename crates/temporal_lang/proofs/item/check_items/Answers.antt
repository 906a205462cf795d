use Rattle.std.proofs.Common.{sym, ◌∙◌}
use Rattle.temporal_lang.proofs.ItemLaws.{item_fine}
use Rattle.temporal_lang.proofs.item.check_items.Goals as goal

pub loop-i-preserved : goal.loop-i-preserved
loop-i-preserved c =
    c.loop-i.invariant
    ∙ item_fine c.args.schema.now c.args.from.now c.loop-i.i c.index-from-i.result
    c.loop-i-test.true c.index-from-i.is
    (sym c.is_there.ensures ∙ c.if-not-is_there.false)
    (sym c.has_alias.ensures ∙ c.if-has_alias.false)
