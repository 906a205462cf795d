use Rattle.std.proofs.Common.{◌∙◌, sym, ap}
use Rattle.std.specs.Prelude.{Some}
use Rattle.std.specs.FinMap as map
use Rattle.smo_ops_versions_spec.specs.ColumnLosses.{Losses as Lost, TableLoss, whole_loss}
use Rattle.smo_ops_versions_spec.specs.ColumnLosses.{lost_columns}
use Rattle.rewrite_losses.proofs.Maps.{one_kept, get_is}
use Rattle.rewrite_losses.proofs.losses.Losses.take.Goals.{in-Some, in-None}
use Rattle.rewrite_losses.proofs.losses.Losses.take.Goals as goal

pub returns-clause-kept : goal.returns-clause-kept
returns-clause-kept c = one_kept c.self.inside.lost.entries c.remove.new.self.entries
    c.args.table.now
    c.remove.ensures.updates.0 ∙ ap (λ (m : Lost). map.remove m c.args.table.now) c.self.view_is

pub returns-clause-whole : goal.returns-clause-whole
returns-clause-whole c = elim c.match-remove.branch [
  | in-Some w ↦ ap (λ (t : TableLoss). whole_loss (Some t)) w.result-is
      ∙ ap whole_loss (sym w.in-Some.is ∙ c.remove.ensures.value
      ∙ sym (get_is c.self.inside.lost.entries c.args.table.now)
      ∙ ap (λ (m : Lost). map.get m c.args.table.now) c.self.view_is)
  | in-None w ↦ ap (λ (t : TableLoss). whole_loss (Some t)) (w.result-is ∙ w.none.ensures)
      ∙ ap whole_loss (sym w.in-None.is ∙ c.remove.ensures.value
      ∙ sym (get_is c.self.inside.lost.entries c.args.table.now)
      ∙ ap (λ (m : Lost). map.get m c.args.table.now) c.self.view_is)
]

pub returns-clause-columns : goal.returns-clause-columns
returns-clause-columns c = elim c.match-remove.branch [
  | in-Some w ↦ ap (λ (t : TableLoss). lost_columns (Some t)) w.result-is
      ∙ ap lost_columns (sym w.in-Some.is ∙ c.remove.ensures.value
      ∙ sym (get_is c.self.inside.lost.entries c.args.table.now)
      ∙ ap (λ (m : Lost). map.get m c.args.table.now) c.self.view_is)
  | in-None w ↦ ap (λ (t : TableLoss). lost_columns (Some t)) (w.result-is ∙ w.none.ensures)
      ∙ ap lost_columns (sym w.in-None.is ∙ c.remove.ensures.value
      ∙ sym (get_is c.self.inside.lost.entries c.args.table.now)
      ∙ ap (λ (m : Lost). map.get m c.args.table.now) c.self.view_is)
]
