use Rattle.std.proofs.Common.{arith}
use Rattle.version_groups_tables.proofs.ChangeGroups.{next_empty, all_empty}
use Rattle.version_groups_tables.proofs.change_group.empty_groups.Goals as goal

pub loop-preserved : goal.loop-preserved
loop-preserved c =
    next_empty c.args.schema.now c.loop.counter c.len-tables.result c.len-tables.ensures.count
    c.new.result c.loop.groups.items c.push.new.self.items c.loop-test.true c.new.ensures.items
    c.in_ok-push.ensures.items c.loop.invariant

pub returns : goal.returns
returns c =
    all_empty c.args.schema.now c.loop.counter c.len-tables.result c.len-tables.ensures.count
    c.loop.groups.items (let past = c.loop-test.false in omega (arith, past)) c.loop.invariant
