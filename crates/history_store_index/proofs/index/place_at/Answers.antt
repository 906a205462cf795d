use Rattle.std.proofs.Common.{◌≡◌, suc, ◌+◌, ◌<◌, ◌≤◌, length, get_or, arith, subst}
use Rattle.history_store_index.specs.Blocks.{before}
use Rattle.history_store_index.proofs.Blocking.{is_inside, is_within}
use Rattle.history_store_index.proofs.index.place_at.Goals as goal

pub returns : goal.returns
returns c =
    let b = c.block_at-block.result in
    let blocks = c.args.blocks.now in
    let starts = c.args.starts.now in
    let w = c.requires.counted in
    let o : length starts ≡ length blocks = w.long in
    let s : b < length starts = c.block_at-block.ensures.within in
    let h : b < length blocks = omega (arith, o, s) in
    let e : get_or starts b 0 ≡ before b blocks = w.each b h in
    let f : get_or starts b 0 ≤ c.args.at = c.block_at-block.ensures.from in
    let g : before b blocks ≤ c.args.at = omega (arith, e, f) in
    let n = λ (m : suc b < length blocks). (
    let q : c.args.at < get_or starts (b + 1) 0 =
    c.block_at-block.ensures.next (omega (arith, m, o)) in
    let i : b + 1 ≡ suc b = omega arith in
    let r : get_or starts (suc b) 0 ≡ before (suc b) blocks = w.each (suc b) m in
    subst (λ x. c.args.at < x) r (subst (λ x. c.args.at < get_or starts x 0) i q)) in
    let i = is_inside blocks b c.args.at h g c.requires.within n in
    record {
      block = h;
      place = omega (arith, e, f);
      inside = omega (arith, e, f, i);
      within = λ l. (let j = is_within blocks b c.args.at h g l n in omega (arith, e, f, j));
    }
