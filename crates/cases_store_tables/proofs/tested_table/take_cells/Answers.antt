use Rattle.history_store.specs.Scans.{seen_cell}
use Rattle.history_store.specs.Restoring.{cell_of}
use Rattle.cases_store_tables.proofs.ScannedLaws.{taken_more, cells_valid}
use Rattle.cases_store_tables.proofs.tested_table.take_cells.Goals as goal

pub entries-preserved : goal.entries-preserved
entries-preserved g c = record {
  taken = taken_more cell_of c.entries.cells.items c.given_cell.result (seen_cell c.in-Some.entry)
      c.push.new.self.items c.next_cell.new.self c.entries.scan _
      c.in_ok-push.ensures.items c.in-Some.ensures.entries c.given_cell.ensures
      c.entries.invariant.taken;
  valid = cells_valid c.entries.cells.items c.push.new.self.items c.given_cell.result
      (seen_cell c.in-Some.entry) c.in_ok-push.ensures.items c.given_cell.ensures
      c.in-Some.ensures.valid c.entries.invariant.valid;
}
