use Rattle.std.proofs.Common.{rules, ◌≡◌, length, sym, ◌∙◌, vec_len}
use Rattle.history_store_row_order.specs.Logs.{cells_of}
use Rattle.history_store_row_order.proofs.Cells.{length-cells_of}
use Rattle.history_store_change_spec.proofs.Showing.{count_entries}
use Rattle.history_store.proofs.table.StoredTable.width.Goals as goal

pub returns-clause-columns : goal.returns-clause-columns
returns-clause-columns c =
    let a = c.self.inside in
    let n : vec_len a.logs ≡ length a.logs.items = search rules in
    rw (← c.self.view_is) (c.len.ensures ∙ n ∙ sym (length-cells_of a.logs.items)
    ∙ c.self.invariant.kept.width)

pub returns-clause-cells : goal.returns-clause-cells
returns-clause-cells c =
    let a = c.self.inside in
    let n : vec_len a.logs ≡ length a.logs.items = search rules in
    rw (← c.self.view_is) (c.len.ensures ∙ n ∙ sym (length-cells_of a.logs.items)
    ∙ sym (count_entries a.keys.items (cells_of a.logs.items)))
