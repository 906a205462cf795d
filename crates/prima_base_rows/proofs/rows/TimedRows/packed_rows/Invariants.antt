use Rattle.std.proofs.Common.{◌≡◌, map, take}
use Rattle.prima_base.specs.Timed.{entries_of}
use Rattle.prima_base_rows.specs.Rows.{borrowed_of}
use Rattle.prima_base_rows.proofs.rows.TimedRows.packed_rows.Given as goal

abbrev pub invariant-loop-index : goal.invariant-loop-index
invariant-loop-index l = record {
  rows : entries_of l.rows.items ≡ entries_of (take l.index l.self.items);
  borrowed : map borrowed_of l.rows.items ≡ map borrowed_of (take l.index l.self.items);
}
