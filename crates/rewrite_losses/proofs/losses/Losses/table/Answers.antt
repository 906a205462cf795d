use Rattle.std.proofs.Common.{◌∙◌, sym, ap}
use Rattle.std.specs.FinMap as map
use Rattle.smo_ops_versions_spec.specs.ColumnLosses.{Losses as Lost, whole_loss}
use Rattle.rewrite_losses.proofs.Maps.{get_is}
use Rattle.rewrite_losses.proofs.losses.Losses.table.Goals as goal

pub returns-in-Some : goal.returns-in-Some
returns-in-Some c = c.whole.ensures ∙ ap whole_loss (c.in-Some.ensures.value
    ∙ sym (get_is c.self.inside.lost.entries c.args.name.now)
    ∙ ap (λ (m : Lost). map.get m c.args.name.now) c.self.view_is)

pub returns-in-None : goal.returns-in-None
returns-in-None c = ap whole_loss (c.in-None.ensures.value
    ∙ sym (get_is c.self.inside.lost.entries c.args.name.now)
    ∙ ap (λ (m : Lost). map.get m c.args.name.now) c.self.view_is)
