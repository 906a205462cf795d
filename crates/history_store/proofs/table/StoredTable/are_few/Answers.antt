use Rattle.std.proofs.Common.{length, ap, sym, ◌∙◌}
use Rattle.std.specs.Prelude.{nat_le}
use Rattle.history_store_row_order.specs.Logs.{cells_of, few_of}
use Rattle.history_store_row_order.proofs.Cutting.{length-rows_of}
use Rattle.history_store_change_spec.proofs.Showing.{relation_now}
use Rattle.history_store.proofs.table.StoredTable.are_few.Goals as goal

pub returns : goal.returns
returns c = λ m l h.
    let a = c.self.inside in
    let b = rw (← c.self.view_is) at h in
    let e = relation_now a.columns.items a.keys.items (cells_of a.logs.items) a.live.ids _ m
    c.self.invariant.kept b l in
    let rows = c.len.ensures ∙ sym (ap length e
    ∙ length-rows_of a.live.ids (cells_of a.logs.items)) in
    rw (← c.self.view_is) (ap (λ n. nat_le c.args.rows n) (c.few_of.ensures ∙ ap few_of rows))
