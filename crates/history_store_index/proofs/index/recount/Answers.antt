use Rattle.std.proofs.Common.{arith, ◌≡◌, ◌+◌, ◌-◌, ◌<◌, ◌≤◌, [], ap, ◌∙◌, get_or, length}
use Rattle.std.specs.List.{concat}
use Rattle.history_store_index.specs.Blocks.{before}
use Rattle.history_store_index.proofs.Blocking.{before_some, counted_next, counted_more, any_block}
use Rattle.history_store_index.proofs.Blocking.{any_id}
use Rattle.history_store_index.proofs.index.recount.Goals as goal

pub overflow_add-index : goal.overflow_add-index
overflow_add-index c =
    let w = c.loop-k.invariant in
    let t : c.loop-k.k < length c.args.blocks.now = c.loop-k-test.true in
    let a : c.args.from ≤ c.loop-k.k = c.loop-k.auto.k in
    let b : 0 < c.args.from = c.requires.some in
    let h : c.loop-k.k - 1 < length c.args.blocks.now = omega arith in
    let e : c.index.result.now ≡ before (c.loop-k.k - 1) c.args.blocks.now = c.index.ensures
    ∙ any_id c.loop-k.starts.items (c.loop-k.k - 1) _ 0 (omega (arith, w.long))
    ∙ w.counted (c.loop-k.k - 1) (omega arith) h in
    let f : c.len.result ≡ length (get_or c.args.blocks.now (c.loop-k.k - 1) []) = c.len.ensures.len
    ∙ ap length (c.index-blocks-k.is ∙ any_block c.args.blocks.now (c.loop-k.k - 1) _ [] h) in
    let n = counted_next c.args.blocks.now c.loop-k.k (omega arith) (omega arith) in
    let s : before c.loop-k.k c.args.blocks.now ≤ length (concat c.args.blocks.now) =
    before_some c.args.blocks.now c.loop-k.k in
    let r = c.requires.few in
    omega (arith, e, f, n, s, r)

pub loop-k-preserved : goal.loop-k-preserved
loop-k-preserved c =
    let w = c.loop-k.invariant in
    let t : c.loop-k.k < length c.args.blocks.now = c.loop-k-test.true in
    let a : c.args.from ≤ c.loop-k.k = c.loop-k.auto.k in
    let b : 0 < c.args.from = c.requires.some in
    let h : c.loop-k.k - 1 < length c.args.blocks.now = omega arith in
    let l : length c.loop-k.starts.items ≡ length c.args.blocks.now = omega (arith, w.long) in
    let e : c.index.result.now ≡ before (c.loop-k.k - 1) c.args.blocks.now = c.index.ensures
    ∙ any_id c.loop-k.starts.items (c.loop-k.k - 1) _ 0 (omega (arith, w.long))
    ∙ w.counted (c.loop-k.k - 1) (omega arith) h in
    let f : c.len.result ≡ length (get_or c.args.blocks.now (c.loop-k.k - 1) []) = c.len.ensures.len
    ∙ ap length (c.index-blocks-k.is ∙ any_block c.args.blocks.now (c.loop-k.k - 1) _ [] h) in
    let n = counted_next c.args.blocks.now c.loop-k.k (omega arith) (omega arith) in
    let v : c.index.result.now + c.len.result ≡ before c.loop-k.k c.args.blocks.now =
    omega (arith, e, f, n) in
    record {
      long = w.long;
      counted = counted_more c.loop-k.starts.items c.args.blocks.now c.loop-k.k
          (c.index.result.now + c.len.result) l t v w.counted;
      capacity = w.capacity;
    }
