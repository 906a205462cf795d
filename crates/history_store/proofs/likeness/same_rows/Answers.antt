use Rattle.std.proofs.Common.{◌<◌, ℕ, length, get_or, sym, ap, ◌∙◌, arith}
use Rattle.history_store_row_order.specs.Logs.{cells_of}
use Rattle.history_store_row_order.specs.Rows.{row_now}
use Rattle.history_store_value_order.proofs.Places.{in_get}
use Rattle.history_store.proofs.SameRows.{row_beside}
use Rattle.history_store.proofs.likeness.same_rows.Goals as goal

pub same_row-requires-clause-known : goal.same_row-requires-clause-known
same_row-requires-clause-known c = λ k d h.
    let below : c.loop-at.at < length c.args.index.now.ids = omega arith in
    rw c.id_near-id.ensures (c.requires.known (get_or c.args.index.now.ids c.loop-at.at 0)
    (in_get c.args.index.now.ids c.loop-at.at 0 below) k d h)

pub same_row-requires-clause-others : goal.same_row-requires-clause-others
same_row-requires-clause-others c = λ k d h.
    let below : c.loop-at.at < length c.args.other_index.now.ids = omega arith in
    rw c.id_near-other.ensures (c.requires.others (get_or c.args.other_index.now.ids c.loop-at.at 0)
    (in_get c.args.other_index.now.ids c.loop-at.at 0 below) k d h)

pub loop-at-preserved : goal.loop-at-preserved
loop-at-preserved c =
    let below : c.loop-at.at < length c.args.index.now.ids = omega arith in
    let beside : c.loop-at.at < length c.args.other_index.now.ids = omega arith in
    row_beside c.args.index.now.ids c.args.other_index.now.ids c.loop-at.at
    (cells_of c.args.columns.now) (cells_of c.args.others.now) below beside c.loop-at.invariant
    (ap (λ (n : ℕ). row_now n (cells_of c.args.columns.now)) (sym c.id_near-id.ensures)
    ∙ c.same_row.ensures c.if-not-same_row.false
    ∙ ap (λ (n : ℕ). row_now n (cells_of c.args.others.now)) c.id_near-other.ensures)
