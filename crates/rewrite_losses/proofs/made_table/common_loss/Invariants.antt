use Rattle.std.proofs.Common.{◌≡◌, drop}
use Rattle.std.specs.Option.{option_copied, option_or}
use Rattle.smo_ops_spec.specs.Touching.{these_names}
use Rattle.smo_ops_spec.specs.Losses.{first_loss}
use Rattle.smo_ops_spec.specs.Making.{common_names}
use Rattle.rewrite_losses.specs.TableLosses.{loss_in_tables}
use Rattle.rewrite_losses.proofs.made_table.common_loss.Given as goal

abbrev pub invariant-loop-name : goal.invariant-loop-name
invariant-loop-name l =
    option_or l.loss (first_loss (loss_in_tables l.losses
    (these_names (option_copied l.tables.first) (option_copied l.tables.second)))
    (common_names (drop l.name-index l.columns) l.others))
    ≡ first_loss (loss_in_tables l.losses
    (these_names (option_copied l.tables.first) (option_copied l.tables.second)))
    (common_names l.columns l.others)
