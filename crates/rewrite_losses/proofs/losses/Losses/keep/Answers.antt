use Rattle.std.proofs.Common.{◌∙◌, ap}
use Rattle.std.specs.FinMap as map
use Rattle.smo_ops_versions_spec.specs.ColumnLosses.{Losses as Lost}
use Rattle.rewrite_losses.proofs.Maps.{one_kept}
use Rattle.rewrite_losses.proofs.losses.Losses.keep.Goals as goal

pub returns : goal.returns
returns c = one_kept c.self.inside.lost.entries c.remove-lost.new.self.entries c.args.name.now
    c.remove-lost.ensures.updates.0 ∙ ap (λ (m : Lost). map.remove m c.args.name.now) c.self.view_is
