use Rattle.std.proofs.Common.{sym}
use Rattle.smo_ops_types.specs.Operators.{evolution_of, evolutions_of}
use Rattle.store_image_reader.proofs.version.next_schema.Goals as goal

pub leads_back-requires : goal.leads_back-requires
leads_back-requires c = (c.counted_operators_are_few.ensures (evolution_of c.args.op.now)
    (evolutions_of c.args.inverse.now) (sym c.in-Ok.ensures.counts)).1

pub after-requires : goal.after-requires
after-requires c = (c.counted_operators_are_few.ensures (evolution_of c.args.op.now)
    (evolutions_of c.args.inverse.now) (sym c.in-Ok.ensures.counts)).0.0
