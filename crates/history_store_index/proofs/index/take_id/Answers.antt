use Rattle.std.proofs.Common.{◌<◌, length, sym, subst}
use Rattle.history_store_index.proofs.Blocking.{was_is, take_plain, take_empty, few_less, count_set}
use Rattle.history_store_index.proofs.Blocking.{count_drop, id_in, filled_remove, filled_less}
use Rattle.std.proofs.Math.Nat.{le_trans}
use Rattle.history_store_index.proofs.index.take_id.Goals as goal

pub remove-id-requires : goal.remove-id-requires
remove-id-requires c =
    let p = rw c.deref.ensures.value at c.place_at-block.ensures in
    subst (λ b. c.place_at-block.result.1 < length b)
    (sym (was_is c.args.blocks.now.items c.place_at-block.result.0 c.index_mut.result.now
    p.block c.index_mut.ensures.value)) (p.within c.requires.within)

pub recount-requires-clause-counted : goal.recount-requires-clause-counted
recount-requires-clause-counted c =
    let p = rw c.deref.ensures.value at c.place_at-block.ensures in
    rw (c.deref-then-is_needless.ensures.value, c.remove.ensures.items)
    (count_drop c.args.starts.now.items c.take_last.new.self.items c.take_last.result
    c.args.blocks.now.items c.place_at-block.result.0 c.remove-id.new.self c.requires.counted
    p.block c.take_last.ensures.items)

pub recount-requires-clause-few : goal.recount-requires-clause-few
recount-requires-clause-few c =
    let p = rw c.deref.ensures.value at c.place_at-block.ensures in
    let z = (rw c.deref-3.ensures.value at c.is_needless.ensures c.if-is_needless.true).0 in
    rw (c.deref-then-is_needless.ensures.value, c.remove.ensures.items) (few_less _ _ c.args.at _
    (take_empty c.args.blocks.now.items c.place_at-block.result.0 c.place_at-block.result.1
    c.args.at c.index_mut.result.now c.remove-id.new.self p.block p.place
    (p.within c.requires.within) c.index_mut.ensures.value c.remove-id.ensures.ids z)
    c.requires.within c.requires.few)

pub returns-then-is_needless-clause-id : goal.returns-then-is_needless-clause-id
returns-then-is_needless-clause-id c =
    let p = rw c.deref.ensures.value at c.place_at-block.ensures in
    id_in c.args.blocks.now.items c.place_at-block.result.0 c.place_at-block.result.1 c.args.at
    c.remove-id.result c.index_mut.result.now p.block p.place (p.within c.requires.within)
    c.index_mut.ensures.value c.remove-id.ensures.id

pub returns-then-is_needless-clause-ids : goal.returns-then-is_needless-clause-ids
returns-then-is_needless-clause-ids c =
    let p = rw c.deref.ensures.value at c.place_at-block.ensures in
    let z = (rw c.deref-3.ensures.value at c.is_needless.ensures c.if-is_needless.true).0 in
    rw c.remove.ensures.items (take_empty c.args.blocks.now.items c.place_at-block.result.0
    c.place_at-block.result.1 c.args.at c.index_mut.result.now c.remove-id.new.self p.block
    p.place (p.within c.requires.within) c.index_mut.ensures.value c.remove-id.ensures.ids z)

pub recount-requires-2-clause-counted : goal.recount-requires-2-clause-counted
recount-requires-2-clause-counted c = rw c.deref-4.ensures.value
    (count_set c.args.starts.now.items c.args.blocks.now.items c.place_at-block.result.0
    c.remove-id.new.self c.requires.counted)

pub recount-requires-2-clause-few : goal.recount-requires-2-clause-few
recount-requires-2-clause-few c =
    let p = rw c.deref.ensures.value at c.place_at-block.ensures in
    rw c.deref-4.ensures.value (few_less _ _ c.args.at _
    (take_plain c.args.blocks.now.items c.place_at-block.result.0 c.place_at-block.result.1
    c.args.at c.index_mut.result.now c.remove-id.new.self p.block p.place
    (p.within c.requires.within) c.index_mut.ensures.value c.remove-id.ensures.ids)
    c.requires.within c.requires.few)

pub returns-clause-id : goal.returns-clause-id
returns-clause-id c =
    let p = rw c.deref.ensures.value at c.place_at-block.ensures in
    id_in c.args.blocks.now.items c.place_at-block.result.0 c.place_at-block.result.1 c.args.at
    c.remove-id.result c.index_mut.result.now p.block p.place (p.within c.requires.within)
    c.index_mut.ensures.value c.remove-id.ensures.id

pub returns-clause-ids : goal.returns-clause-ids
returns-clause-ids c =
    let p = rw c.deref.ensures.value at c.place_at-block.ensures in
    take_plain c.args.blocks.now.items c.place_at-block.result.0 c.place_at-block.result.1 c.args.at
    c.index_mut.result.now c.remove-id.new.self p.block p.place (p.within c.requires.within)
    c.index_mut.ensures.value c.remove-id.ensures.ids

pub returns-then-is_needless-clause-filled : goal.returns-then-is_needless-clause-filled
returns-then-is_needless-clause-filled c =
    let p = rw c.deref.ensures.value at c.place_at-block.ensures in
    let w = was_is c.args.blocks.now.items c.place_at-block.result.0 c.index_mut.result.now p.block
    c.index_mut.ensures.value in
    let i : c.place_at-block.result.1 < length c.index_mut.result.now =
    subst (λ b. c.place_at-block.result.1 < length b) (sym w) (p.within c.requires.within) in
    let f = filled_less c.args.blocks.now.items c.place_at-block.result.0 c.place_at-block.result.1
    c.index_mut.result.now c.remove-id.new.self p.block i c.index_mut.ensures.value
    c.remove-id.ensures.ids in
    rw c.remove.ensures.items (le_trans (filled_remove _ c.place_at-block.result.0) f)

pub returns-clause-filled : goal.returns-clause-filled
returns-clause-filled c =
    let p = rw c.deref.ensures.value at c.place_at-block.ensures in
    let w = was_is c.args.blocks.now.items c.place_at-block.result.0 c.index_mut.result.now p.block
    c.index_mut.ensures.value in
    let i : c.place_at-block.result.1 < length c.index_mut.result.now =
    subst (λ b. c.place_at-block.result.1 < length b) (sym w) (p.within c.requires.within) in
    filled_less c.args.blocks.now.items c.place_at-block.result.0 c.place_at-block.result.1
    c.index_mut.result.now c.remove-id.new.self p.block i c.index_mut.ensures.value
    c.remove-id.ensures.ids
