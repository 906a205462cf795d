use Rattle.std.proofs.Common.{sym}
use Rattle.smo_ops_types.specs.Commands.{versions_of}
use Rattle.smo_ops_versions_spec.proofs.LossCauses.{no_table_forward}
use Rattle.rewrite_losses.proofs.lost_item.loss_of.Goals as goal

pub returns-then-stored-asked : goal.returns-then-stored-asked
returns-then-stored-asked c = sym (no_table_forward (versions_of c.args.versions.now) c.args.stored
    c.args.asked c.if-stored-asked.true c.args.table.now)
