use Rattle.std.proofs.Common.{◌∙◌, sym, ap}
use Rattle.std.specs.Prelude.{Option}
use Rattle.std.specs.FinMap as map
use Rattle.std.specs.FinMap.{get-empty}
use Rattle.prima_base.specs.Order.{bytes_cmp}
use Rattle.smo_ops_versions_spec.specs.ColumnLosses.{Losses as Lost, TableLoss, lost_columns}
use Rattle.rewrite_losses.proofs.Maps.{get_is}
use Rattle.rewrite_losses.proofs.losses.Losses.column.Goals as goal

pub returns-in-Some : goal.returns-in-Some
returns-in-Some c = c.column.ensures
    ∙ ap (λ (o : Option TableLoss). map.get (lost_columns o) c.args.name.now)
    (c.in-Some.ensures.value
    ∙ sym (get_is c.self.inside.lost.entries c.args.table.now)
    ∙ ap (λ (m : Lost). map.get m c.args.table.now) c.self.view_is)

pub returns-in-None : goal.returns-in-None
returns-in-None c = sym (get-empty bytes_cmp c.args.name.now)
    ∙ ap (λ (o : Option TableLoss). map.get (lost_columns o) c.args.name.now)
    (c.in-None.ensures.value
    ∙ sym (get_is c.self.inside.lost.entries c.args.table.now)
    ∙ ap (λ (m : Lost). map.get m c.args.table.now) c.self.view_is)
