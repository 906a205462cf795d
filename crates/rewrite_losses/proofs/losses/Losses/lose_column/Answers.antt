use Rattle.std.proofs.Common.{◌∙◌, ap}
use Rattle.std.proofs.lemmas.Result.{on_ok_weaker}
use Rattle.std.specs.FinMap as map
use Rattle.std.specs.FinMap.{FinMap}
use Rattle.prima_base.specs.Order.{bytes_cmp}
use Rattle.smo_ops_spec.specs.Losses.{Loss}
use Rattle.smo_ops_versions_spec.specs.ColumnLosses.{Losses as Lost, TableLoss, OfColumns}
use Rattle.rewrite_losses.proofs.Maps.{anew}
use Rattle.rewrite_losses.proofs.losses.Losses.lose_column.Goals as goal

pub returns : goal.returns
returns c = on_ok_weaker c.put.result (λ e. e
    ∙ ap (λ (m : Lost). map.insert m c.args.table.now c.lose.new.self) c.take-lost.ensures.kept
    ∙ anew c.args.self.now c.args.table.now c.lose.new.self
    ∙ ap (λ (t : TableLoss). map.insert c.args.self.now c.args.table.now t)
    (c.in_ok-lose.ensures ∙ ap (λ (m : FinMap bytes_cmp Loss).
    OfColumns (map.insert m c.args.name.now c.args.loss)) c.take-lost.ensures.columns))
    c.put.ensures
