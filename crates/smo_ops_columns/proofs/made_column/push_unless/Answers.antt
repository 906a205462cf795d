use Rattle.smo_ops_columns.proofs.LeftColumns.{left_out, put_after}
use Rattle.smo_ops_columns.proofs.made_column.push_unless.Goals as goal

pub returns-then-eq : goal.returns-then-eq
returns-then-eq c = left_out c.args.kept.now.items c.args.column.now c.args.name.now
    c.eq.result c.eq.ensures c.if-eq.true

pub returns : goal.returns
returns c =
    rw (c.in_ok-push.ensures.items, c.in_ok-copy.ensures)
    (put_after c.args.kept.now.items c.args.column.now c.args.name.now c.eq.result
    c.eq.ensures c.if-eq.false)
