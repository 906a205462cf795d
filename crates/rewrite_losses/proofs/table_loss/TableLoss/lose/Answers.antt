use Rattle.std.proofs.Common.{◌∙◌, ap, ◌≡◌}
use Rattle.std.specs.Prelude.{Option, None, Some, is_some}
use Rattle.std.specs.FinMap as map
use Rattle.std.specs.FinMap.{FinMap, from_entries}
use Rattle.prima_base.specs.Order.{bytes_cmp}
use Rattle.smo_ops_spec.specs.Losses.{Loss}
use Rattle.smo_ops_versions_spec.specs.ColumnLosses.{OfColumns, lost_columns}
use Rattle.rewrite_losses.specs.TableLosses.{shown_loss}
use Rattle.rewrite_losses.proofs.Maps.{one_lost, not_whole, columns_are}
use Rattle.rewrite_losses.proofs.table_loss.TableLoss.lose.Goals as goal

pub returns : goal.returns
returns c =
    let none : c.self.inside.whole ≡ None =
    not_whole c.args.self.now (from_entries c.self.inside.columns.entries)
    c.self.inside.whole c.self.view_is c.requires.kept in
    ap (λ (w : Option Loss). shown_loss w (from_entries c.insert.new.self.entries)) none
    ∙ ap OfColumns (one_lost c.self.inside.columns.entries c.insert.new.self.entries
    c.in_ok-copy.field-0 c.args.loss c.in_ok-insert.ensures.updates.0
    ∙ ap (λ (m : FinMap bytes_cmp Loss). map.insert m c.in_ok-copy.field-0 c.args.loss)
    (columns_are c.args.self.now (from_entries c.self.inside.columns.entries)
    c.self.inside.whole c.self.view_is (ap is_some none))
    ∙ ap (λ n. map.insert (lost_columns (Some c.args.self.now)) n c.args.loss) c.in_ok-copy.ensures)
