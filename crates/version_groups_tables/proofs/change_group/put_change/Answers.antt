use Rattle.version_groups_tables.proofs.ChangeGroups.{put_more}
use Rattle.version_groups_tables.proofs.change_group.put_change.Goals as goal

pub returns : goal.returns
returns c = put_more c.args.groups.now.items c.args.place c.args.change c.index_mut.result.now
    c.push.new.self c.requires c.index_mut.ensures.value c.in_ok-push.ensures.items
