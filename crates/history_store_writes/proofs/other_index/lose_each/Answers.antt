use Rattle.std.proofs.Common.{◌≡◌, sym, ◌∙◌, get_or, ◌<◌, length, arith, vec_len}
use Rattle.std.proofs.lemmas.Grind.{common_steps}
use Rattle.history_store_row_order.specs.Logs.{cells_of}
use Rattle.history_store_writes.specs.ValueIndexes.{indexed_columns}
use Rattle.history_store_writes.proofs.Others.{lost_indexed, same_columns, few_after}
use Rattle.history_store_writes.proofs.other_index.lose_each.Goals as goal

pub returns-clause-indexed : goal.returns-clause-indexed
returns-clause-indexed c = λ live a k d b.
    let h : k < length c.args.others.now.items = grind (arith, common_steps) in
    let h' : k < vec_len c.args.others.now = grind (arith, common_steps) in
    let l = c.lose_all.ensures.each k d h' in
    lost_indexed (cells_of c.args.columns.now) live c.args.lost.now
    (get_or c.args.others.now.items k d) (get_or c.lose_all.new.others.items k d) (a k d h)
    l.column l.without

pub returns-clause-columns : goal.returns-clause-columns
returns-clause-columns c =
    let n : length c.lose_all.new.others.items ≡ length c.args.others.now.items =
    grind (arith, common_steps) in
    let same = same_columns c.args.others.now.items c.lose_all.new.others.items n
    (λ k d h. (let b : k < vec_len c.args.others.now = grind (arith, common_steps) in
    (c.lose_all.ensures.each k d b).column)) in
    same ∙ sym (few_after c.args.rows (length c.args.lost.now) c.args.gained
    (indexed_columns c.args.others.now.items) (rw c.few_of-few.ensures at c.if-lost-few.false)
    (rw c.few_of-few.ensures at c.if-gained-few.false))
