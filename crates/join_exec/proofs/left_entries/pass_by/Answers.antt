use Rattle.std.proofs.Common.{arith, rules}
use Rattle.join_exec.specs.Walking.{left}
use Rattle.join_exec.proofs.Passing.{all_are_left, next_left}
use Rattle.join_exec.proofs.left_entries.pass_by.Goals as goal

pub past-init : goal.past-init
past-init g c = record {
  left = all_are_left c.args.id c.args.moment (left c.args.cursor.now) c.requires;
  count = omega arith;
  rises = omega arith;
}

pub returns-then-is_none-clause-left : goal.returns-then-is_none-clause-left
returns-then-is_none-clause-left g c = next_left c.args.id c.args.moment
    (left c.args.cursor.now) c.past.cursor.head c.next_cell.result c.past.cursor.unread
    c.next_cell.new.self c.is_past.result c.is_past.ensures c.past-test.true
    c.next_cell.ensures.entries c.past.invariant.left

pub past-preserved : goal.past-preserved
past-preserved g c = record {
  left = next_left c.args.id c.args.moment (left c.args.cursor.now) c.past.cursor.head
      c.next_cell.result c.past.cursor.unread c.next_cell.new.self c.is_past.result
      c.is_past.ensures c.past-test.true c.next_cell.ensures.entries c.past.invariant.left;
  count = search rules;
  rises = search rules;
}
