use Rattle.std.proofs.Common.{sym, ap, ◌∙◌, length}
use Rattle.history_store_row_order.proofs.Cutting.{length-part}
use Rattle.history_store_row_order.specs.Logs.{cells_of}
use Rattle.history_store_row_order.proofs.cut.BorrowedRows.len.Goals as goal

pub returns : goal.returns
returns c =
    let a = c.self.inside in
    sym (ap length (sym c.self.view_is) ∙ length-part a.index.now.ids a.start a.end
    (cells_of a.columns.now) c.self.invariant.order c.self.invariant.within)
