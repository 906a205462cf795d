use Rattle.std.proofs.Common.{◌≡◌, ◌+◌, ◌-◌, ◌<◌, ◌≤◌, ℕ, List, length, drop, arith, sym, ap, ◌∙◌}
use Rattle.std.proofs.Common.{subst}
use Rattle.history_store_row_order.specs.Indexes.{with_each}
use Rattle.history_store_row_order.proofs.Places.{place_along}
use Rattle.history_store_row_order.proofs.index_splice.put_each.Goals as goal

pub insert-requires-clause-within : goal.insert-requires-clause-within
insert-requires-clause-within c =
    let w = c.put.invariant in
    let t : 0 < c.put.k = c.put-test.true in
    let k = c.put.k - 1 in
    let i : k + 1 ≡ c.put.k = omega (arith, t) in
    let p = place_along c.args.to.now c.args.live.now.ids k c.place_and_id-at.result
    (let l = w.within in omega (arith, i, l)) c.place_and_id-at.ensures c.requires.placed in
    subst (λ (ids : List ℕ). c.place_and_id-at.result.0 ≤ length ids)
    (sym (w.ids ∙ ap (λ n. with_each (drop n c.args.to.now) c.args.live.now.ids) (sym i))) p
