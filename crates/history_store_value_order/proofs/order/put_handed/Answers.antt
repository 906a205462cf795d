use Rattle.std.proofs.Common.{rules, ◌<◌, ◌≤◌, [], ◌∷◌, length, get_or, take, sym, subst, arith}
use Rattle.std.proofs.Common.{inl, inr}
use Rattle.std.proofs.lemmas.Grind.{common_steps}
use Rattle.relations_spec.specs.Sets.{In}
use Rattle.history_store_value_order.specs.ByValue.{ids_handed, IsWith}
use Rattle.history_store_value_order.proofs.Marks.{more_with, taken_more, taken_in, all_taken}
use Rattle.history_store_value_order.proofs.Marks.{at_place, not_yet}
use Rattle.history_store_value_order.proofs.Marks.{length-handed}
use Rattle.history_store_value_order.proofs.order.put_handed.Goals as goal

pub put_id-requires-clause-known : goal.put_id-requires-clause-known
put_id-requires-clause-known c = λ q i.
    elim (c.loop-at.invariant.with_them.only q i) [
      | inl j ↦ c.requires.known q j
      | inr j ↦ c.requires.new q (taken_in q (ids_handed c.args.lost.now c.args.next c.args.count)
          c.loop-at.at j)
    ]

pub put_id-requires-clause-new : goal.put_id-requires-clause-new
put_id-requires-clause-new c =
    let ids = ids_handed c.args.lost.now c.args.next c.args.count in
    let b : c.loop-at.at < c.args.count = first_of (search rules, grind (arith, common_steps)) in
    let n = length-handed c.args.lost.now c.args.next c.args.count in
    let h : c.loop-at.at < length ids = omega (arith, b, n) in
    subst (λ n. n < c.args.column.now.ids) (sym (c.handed_at.ensures c.args.count b))
    (c.requires.new (get_or ids c.loop-at.at 0) (at_place ids c.loop-at.at h))

pub put_id-requires-clause-fresh : goal.put_id-requires-clause-fresh
put_id-requires-clause-fresh c = λ i.
    let ids = ids_handed c.args.lost.now c.args.next c.args.count in
    let b : c.loop-at.at < c.args.count = first_of (search rules, grind (arith, common_steps)) in
    let n = length-handed c.args.lost.now c.args.next c.args.count in
    let h : c.loop-at.at < length ids = omega (arith, b, n) in
    let i' = subst (λ n. In n c.loop-at.index.ids) (c.handed_at.ensures c.args.count b) i in
    elim (c.loop-at.invariant.with_them.only (get_or ids c.loop-at.at 0) i') [
      | inl j ↦ c.requires.fresh (get_or ids c.loop-at.at 0) (at_place ids c.loop-at.at h) j
      | inr j ↦ not_yet ids c.loop-at.at h c.requires.distinct j
    ]

pub loop-at-preserved : goal.loop-at-preserved
loop-at-preserved c =
    let w = c.loop-at.invariant in
    let ids = ids_handed c.args.lost.now c.args.next c.args.count in
    let b : c.loop-at.at < c.args.count = first_of (search rules, grind (arith, common_steps)) in
    let n = length-handed c.args.lost.now c.args.next c.args.count in
    let h : c.loop-at.at < length ids = omega (arith, b, n) in
    record {
      with_them = subst (λ xs. IsWith c.args.column.now.cells xs c.args.index.now.ids
          c.put_id.new.index.ids) (sym (taken_more ids c.loop-at.at h))
          (more_with c.args.column.now.cells (take c.loop-at.at ids) c.args.index.now.ids
          c.loop-at.index.ids c.put_id.new.index.ids (get_or ids c.loop-at.at 0) w.with_them
          (subst (λ n. IsWith c.args.column.now.cells (n ∷ []) c.loop-at.index.ids
          c.put_id.new.index.ids) (c.handed_at.ensures c.args.count b)
          c.put_id.ensures.with_it));
      room = omega (arith, w.room, c.put_id.ensures.room);
    }

pub returns : goal.returns
returns c =
    let w = c.loop-at.invariant in
    let ids = ids_handed c.args.lost.now c.args.next c.args.count in
    let b : c.args.count ≤ c.loop-at.at = first_of (search rules, grind (arith, common_steps)) in
    let n = length-handed c.args.lost.now c.args.next c.args.count in
    subst (λ xs. IsWith c.args.column.now.cells xs c.args.index.now.ids c.loop-at.index.ids)
    (all_taken ids c.loop-at.at (omega (arith, b, n))) w.with_them
