use Rattle.std.proofs.Common.{take, drop, length, ◌-◌}
use Rattle.sessions.proofs.Fetched.{next_kept, whole_rest}
use Rattle.sessions.proofs.cursor.next_rows.Goals as goal

pub returns-clause-rows : goal.returns-clause-rows
returns-clause-rows c =
    next_kept c.args.rows.now (take (length c.args.rows.now - c.args.from)
    (drop c.args.from c.args.rows.now))
    c.args.from c.args.count c.min.result
    (whole_rest c.args.rows.now c.args.from) c.min.ensures
