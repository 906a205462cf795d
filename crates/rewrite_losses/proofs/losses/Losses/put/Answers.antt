use Rattle.std.proofs.Common.{◌∙◌, ap}
use Rattle.std.specs.FinMap as map
use Rattle.smo_ops_versions_spec.specs.ColumnLosses.{Losses as Lost}
use Rattle.rewrite_losses.proofs.Maps.{one_lost}
use Rattle.rewrite_losses.proofs.losses.Losses.put.Goals as goal

pub returns : goal.returns
returns c = one_lost c.self.inside.lost.entries c.insert.new.self.entries c.in_ok-copy.field-0
    c.args.lost c.in_ok-insert.ensures.updates.0
    ∙ ap (λ (m : Lost). map.insert m c.in_ok-copy.field-0 c.args.lost) c.self.view_is
    ∙ ap (λ n. map.insert c.args.self.now n c.args.lost) c.in_ok-copy.ensures
