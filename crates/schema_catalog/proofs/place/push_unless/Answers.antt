use Rattle.schema_catalog.proofs.Removing.{left_out, put_after}
use Rattle.schema_catalog.proofs.place.push_unless.Goals as goal

pub returns-then-eq : goal.returns-then-eq
returns-then-eq c = left_out c.args.copied.now.items c.args.table.now c.args.name.now c.eq.result
    (rw (← c.name.ensures.value) c.eq.ensures) c.if-eq.true

pub returns : goal.returns
returns c =
    rw (c.in_ok-push.ensures.items, c.in_ok-share.ensures)
    (put_after c.args.copied.now.items c.args.table.now c.args.name.now c.eq.result
    (rw (← c.name.ensures.value) c.eq.ensures) c.if-eq.false)
