use Rattle.std.proofs.Common.{rules, ◌<◌, length, get_or, arith}
use Rattle.std.proofs.lemmas.Grind.{common_steps}
use Rattle.history_store_value_order.proofs.Marks.{at_place}
use Rattle.history_store_value_order.proofs.order.lend_values.Goals as goal

pub newest-requires : goal.newest-requires
newest-requires c =
    let h : c.loop-id.id-index < length c.args.live.now =
    first_of (search rules, grind (arith, common_steps)) in
    c.requires.known (get_or c.args.live.now c.loop-id.id-index 0)
    (at_place c.args.live.now c.loop-id.id-index h)
