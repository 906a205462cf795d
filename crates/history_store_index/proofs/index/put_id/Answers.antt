use Rattle.std.proofs.Common.{◌≤◌, ◌-◌, ◌+◌, ◌*◌, length, sym, ap, subst, arith, vec_len}
use Rattle.std.proofs.Common.{vec_capacity}
use Rattle.history_store_index.proofs.Blocking.{was_is, put_plain, put_split, few_more, count_set}
use Rattle.history_store_index.proofs.Blocking.{count_split, last_empty, prefix_empty, filled_one}
use Rattle.history_store_index.proofs.Blocking.{filled_split, one_more_put, one_more_split}
use Rattle.history_store_index.proofs.Blocking.{same_blocks}
use Rattle.history_store_index.proofs.Blocking.{one_block_less}
use Rattle.history_store_index.specs.Blocks.{half_size}
use Rattle.std.proofs.lemmas.Grind.{common_steps}
use Rattle.history_store_index.proofs.index.put_id.Goals as goal

pub insert-requires-clause-within : goal.insert-requires-clause-within
insert-requires-clause-within c =
    let p = rw c.deref.ensures.value at c.place_at-block.ensures in
    subst (λ b. c.place_at-block.result.1 ≤ length b)
    (sym (was_is c.args.blocks.now.items c.place_at-block.result.0 c.index_mut.result.now
    p.block c.index_mut.ensures.value)) p.inside

pub recount-requires-clause-counted : goal.recount-requires-clause-counted
recount-requires-clause-counted c = rw c.deref-then-len-lt-BLOCK_SIZE.ensures.value
    (count_set c.args.starts.now.items c.args.blocks.now.items c.place_at-block.result.0
    c.insert.new.self c.requires.counted)

pub recount-requires-clause-few : goal.recount-requires-clause-few
recount-requires-clause-few c =
    let p = rw c.deref.ensures.value at c.place_at-block.ensures in
    rw c.deref-then-len-lt-BLOCK_SIZE.ensures.value (few_more _ _ c.args.at c.args.id _
    (put_plain c.args.blocks.now.items c.place_at-block.result.0 c.place_at-block.result.1 c.args.at
    c.args.id c.index_mut.result.now c.insert.new.self p.block p.place p.inside
    c.index_mut.ensures.value c.insert.ensures)
    c.requires.within c.requires.few)

pub returns-then-len-lt-BLOCK_SIZE-clause-ids : goal.returns-then-len-lt-BLOCK_SIZE-clause-ids
returns-then-len-lt-BLOCK_SIZE-clause-ids c =
    let p = rw c.deref.ensures.value at c.place_at-block.ensures in
    put_plain c.args.blocks.now.items c.place_at-block.result.0 c.place_at-block.result.1 c.args.at
    c.args.id c.index_mut.result.now c.insert.new.self p.block p.place p.inside
    c.index_mut.ensures.value c.insert.ensures

pub insert_split-upper-requires-clause-spare : goal.insert_split-upper-requires-clause-spare
insert_split-upper-requires-clause-spare c = last_empty c.args.spare.now.items
    c.take_last.new.self.items c.take_last.result c.requires.empty c.take_last.ensures.items

pub insert_split-upper-requires-clause-within : goal.insert_split-upper-requires-clause-within
insert_split-upper-requires-clause-within c =
    let p = rw c.deref.ensures.value at c.place_at-block.ensures in
    subst (λ b. c.place_at-block.result.1 ≤ length b)
    (sym (was_is c.args.blocks.now.items c.place_at-block.result.0 c.index_mut-2.result.now
    p.block c.index_mut-2.ensures.value)) p.inside

pub recount-requires-2-clause-counted : goal.recount-requires-2-clause-counted
recount-requires-2-clause-counted c =
    let p = rw c.deref.ensures.value at c.place_at-block.ensures in
    rw (c.deref-3.ensures.value, c.insert_reserved.ensures.items, c.insert_reserved-2.ensures.items)
    (count_split c.args.starts.now.items c.args.blocks.now.items c.place_at-block.result.0
    c.insert_split-upper.new.self c.insert_split-upper.result c.requires.counted p.block)

pub recount-requires-2-clause-few : goal.recount-requires-2-clause-few
recount-requires-2-clause-few c =
    let p = rw c.deref.ensures.value at c.place_at-block.ensures in
    rw (c.deref-3.ensures.value, c.insert_reserved.ensures.items)
    (few_more _ _ c.args.at c.args.id _
    (put_split c.args.blocks.now.items c.place_at-block.result.0 c.place_at-block.result.1 c.args.at
    c.args.id c.index_mut-2.result.now c.insert_split-upper.new.self c.insert_split-upper.result
    p.block p.place p.inside c.index_mut-2.ensures.value c.insert_split-upper.ensures.whole)
    c.requires.within c.requires.few)

pub returns-clause-ids : goal.returns-clause-ids
returns-clause-ids c =
    let p = rw c.deref.ensures.value at c.place_at-block.ensures in
    rw c.insert_reserved.ensures.items
    (put_split c.args.blocks.now.items c.place_at-block.result.0 c.place_at-block.result.1 c.args.at
    c.args.id c.index_mut-2.result.now c.insert_split-upper.new.self c.insert_split-upper.result
    p.block p.place p.inside c.index_mut-2.ensures.value c.insert_split-upper.ensures.whole)

pub returns-clause-empty : goal.returns-clause-empty
returns-clause-empty c = prefix_empty c.args.spare.now.items c.take_last.new.self.items
    c.take_last.result c.requires.empty c.take_last.ensures.items

pub returns-then-len-lt-BLOCK_SIZE-clause-left : goal.returns-then-len-lt-BLOCK_SIZE-clause-left
returns-then-len-lt-BLOCK_SIZE-clause-left c =
    let p = rw c.deref.ensures.value at c.place_at-block.ensures in
    let w = was_is c.args.blocks.now.items c.place_at-block.result.0 c.index_mut.result.now p.block
    c.index_mut.ensures.value in
    let i : c.place_at-block.result.1 ≤ length c.index_mut.result.now =
    subst (λ b. c.place_at-block.result.1 ≤ length b) (sym w) p.inside in
    let f = filled_one c.args.blocks.now.items c.place_at-block.result.0 c.place_at-block.result.1
    c.args.id c.index_mut.result.now c.insert.new.self p.block i c.index_mut.ensures.value
    c.insert.ensures in
    let n : vec_capacity c.args.starts.now - vec_len c.args.starts.now ≤ vec_capacity
    c.recount.new.starts - vec_len c.recount.new.starts = grind (arith, common_steps) in
    one_more_put c.args.blocks.now.items _ _ _ f
    (same_blocks _ (vec_capacity c.args.blocks.now - vec_len c.args.blocks.now) _ _ _ _
    (omega arith) (omega arith) n)

pub returns-clause-left : goal.returns-clause-left
returns-clause-left c =
    let p = rw c.deref.ensures.value at c.place_at-block.ensures in
    let w = was_is c.args.blocks.now.items c.place_at-block.result.0 c.index_mut-2.result.now
    p.block c.index_mut-2.ensures.value in
    let i : c.place_at-block.result.1 ≤ length c.index_mut-2.result.now =
    subst (λ b. c.place_at-block.result.1 ≤ length b) (sym w) p.inside in
    let u : 2 * half_size ≤ length c.index_mut-2.result.now =
    (let q = was_is c.args.blocks.now.items c.place_at-block.result.0 c.index.result.now p.block
    c.index.ensures in omega (
      arith,
      ap length q,
      ap length w,
      c.len.ensures.len,
      c.if-len-lt-BLOCK_SIZE.false,
    )) in
    let f = filled_split c.args.blocks.now.items c.place_at-block.result.0 c.place_at-block.result.1
    c.args.id c.index_mut-2.result.now c.insert_split-upper.new.self c.insert_split-upper.result
    p.block i c.index_mut-2.ensures.value c.insert_split-upper.ensures.whole u
    c.insert_split-upper.ensures.lower c.insert_split-upper.ensures.upper in
    let s : vec_len c.args.spare.now ≤ vec_len c.take_last.new.self + 1 =
    grind (arith, common_steps) in
    let b : vec_capacity c.args.blocks.now - vec_len c.args.blocks.now ≤ vec_capacity
    c.insert_reserved.new.items - vec_len c.insert_reserved.new.items + 1 =
    grind (arith, common_steps) in
    let n : vec_capacity c.args.starts.now - vec_len c.args.starts.now ≤ vec_capacity
    c.recount-2.new.starts - vec_len c.recount-2.new.starts + 1 = grind (arith, common_steps) in
    rw c.insert_reserved.ensures.items (one_more_split c.args.blocks.now.items _ _ _ f
    (one_block_less _ _ _ _ _ _ s b n))
