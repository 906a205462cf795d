use Rattle.std.proofs.Common.{◌∙◌, sym, ap}
use Rattle.std.specs.FinMap as map
use Rattle.std.specs.FinMap.{FinMap, from_entries}
use Rattle.prima_base.specs.Order.{bytes_cmp}
use Rattle.smo_ops_spec.specs.Losses.{Loss}
use Rattle.rewrite_losses.proofs.Maps.{get_is, none_of_whole, columns_are}
use Rattle.rewrite_losses.proofs.table_loss.TableLoss.column.Goals as goal

pub returns-then-is_some : goal.returns-then-is_some
returns-then-is_some c = none_of_whole c.args.self.now (from_entries c.self.inside.columns.entries)
    c.self.inside.whole c.self.view_is (sym c.is_some.ensures ∙ c.if-is_some.true) c.args.name.now

pub returns : goal.returns
returns c = c.copied.ensures ∙ c.get.ensures.value
    ∙ sym (get_is c.self.inside.columns.entries c.args.name.now)
    ∙ ap (λ (m : FinMap bytes_cmp Loss). map.get m c.args.name.now)
    (columns_are c.args.self.now (from_entries c.self.inside.columns.entries)
    c.self.inside.whole c.self.view_is (sym c.is_some.ensures ∙ c.if-is_some.false))
