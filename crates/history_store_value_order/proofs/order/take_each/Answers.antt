use Rattle.std.proofs.Common.{rules, ◌<◌, length, get_or, take, sym, subst, arith}
use Rattle.std.proofs.lemmas.Grind.{common_steps}
use Rattle.history_store_value_order.specs.ByValue.{IsWithout}
use Rattle.history_store_value_order.proofs.Marks.{more_without, taken_more, at_place, not_yet}
use Rattle.history_store_value_order.proofs.order.take_each.Goals as goal

pub take_id-requires-clause-known : goal.take_id-requires-clause-known
take_id-requires-clause-known c = λ q i. c.requires.known q (c.loop-id.invariant.without.only q i).0

pub take_id-requires-clause-there : goal.take_id-requires-clause-there
take_id-requires-clause-there c =
    let w = c.loop-id.invariant in
    let h : c.loop-id.id-index < length c.args.ids.now =
    first_of (search rules, grind (arith, common_steps)) in
    w.without.all (get_or c.args.ids.now c.loop-id.id-index 0)
    (c.requires.there (get_or c.args.ids.now c.loop-id.id-index 0)
    (at_place c.args.ids.now c.loop-id.id-index h))
    (not_yet c.args.ids.now c.loop-id.id-index h c.requires.distinct)

pub loop-id-preserved : goal.loop-id-preserved
loop-id-preserved c =
    let w = c.loop-id.invariant in
    let h : c.loop-id.id-index < length c.args.ids.now =
    first_of (search rules, grind (arith, common_steps)) in
    record {
      without = subst (λ ids. IsWithout c.args.column.now.cells ids c.args.index.now.ids
          c.take_id.new.index.ids) (sym (taken_more c.args.ids.now c.loop-id.id-index h))
          (more_without c.args.column.now.cells (take c.loop-id.id-index c.args.ids.now)
          c.args.index.now.ids c.loop-id.index.ids c.take_id.new.index.ids
          (get_or c.args.ids.now c.loop-id.id-index 0) w.without c.take_id.ensures.without);
      room = omega (arith, w.room, c.take_id.ensures.room);
    }
