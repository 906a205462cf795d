use Rattle.smo_ops_types.specs.Changes.{changes_of}
use Rattle.std.proofs.Common.{take}
use Rattle.version_groups_tables.proofs.ChangeGroups.{stands_here, place_within_groups}
use Rattle.version_groups_tables.proofs.ChangeGroups.{next_grouped}
use Rattle.version_groups_tables.proofs.change_group.changes_by_table.Goals as goal

pub bounds-places-i : goal.bounds-places-i
bounds-places-i c = (stands_here c.args.schema.now c.args.changes.now c.args.places.now c.loop-i.i
    c.index-changes-i.result c.requires c.loop-i-test.true c.index-changes-i.is).0

pub put_change-requires : goal.put_change-requires
put_change-requires c =
    place_within_groups c.args.schema.now c.args.changes.now c.args.places.now c.requires c.loop-i.i
    c.index-changes-i.result (changes_of (take c.loop-i.i c.args.changes.now))
    c.loop-i.groups.items c.loop-i-test.true c.index-changes-i.is c.loop-i.invariant

pub loop-i-preserved : goal.loop-i-preserved
loop-i-preserved c =
    next_grouped c.args.schema.now c.args.changes.now c.args.places.now c.requires c.loop-i.i
    c.index-changes-i.result c.loop-i.groups.items c.put_change.new.groups.items
    c.loop-i-test.true c.index-changes-i.is c.in_ok-put_change.ensures c.loop-i.invariant
