use Rattle.join_exec.specs.Walking.{left}
use Rattle.join_exec.proofs.Passing.{no_first, held_first}
use Rattle.join_exec.proofs.left_entries.put_value.Goals as goal

pub unreachable-requires : goal.unreachable-requires
unreachable-requires g c = no_first c.args.id c.args.moment (left c.args.cursor.now)
    (left c.pass_by.new.cursor) c.pass_by.new.cursor.unread c.pass_by.new.cursor.head
    c.requires.there.0 c.in_default.is c.pass_by.ensures.first c.pass_by.ensures.left
    c.requires.there.1

pub returns-clause-value : goal.returns-clause-value
returns-clause-value g c = (
  c.in_ok-copy.field-0,
  c.in_ok-push.ensures.items,
  held_first c.args.id c.args.moment (left c.args.cursor.now) (left c.pass_by.new.cursor)
      c.pass_by.new.cursor.unread c.pass_by.new.cursor.head c.in-Some.entry c.requires.there.0
      c.in_ok-copy.field-0 c.end.result c.in-Some.is c.pass_by.ensures.first
      c.pass_by.ensures.on c.pass_by.ensures.left c.pass_by.new.cursor.valid
      c.pass_by.new.cursor.borrowed c.requires.there.1 c.in_ok-copy.ensures.value
      c.in_ok-copy.ensures.borrowed c.end.ensures.end,
)
