use Rattle.std.proofs.Common.{sym}
use Rattle.smo_ops_types.specs.Commands.{versions_of}
use Rattle.temporal_lang_types.specs.Branches.{branches_of}
use Rattle.temporal_lang_spec.proofs.ItemsLost.{no_item_forward}
use Rattle.rewrite_losses.proofs.lost_item.first_lost.Goals as goal

pub returns-then-stored-asked : goal.returns-then-stored-asked
returns-then-stored-asked c = sym (no_item_forward (versions_of c.args.versions.now) c.args.stored
    c.args.asked c.if-stored-asked.true (branches_of c.args.query.now.branches.items))
