use Rattle.std.proofs.Common.{◌≡◌, List, drop, length}
use Rattle.history_store.specs.Store.{Cell, named}
use Rattle.history_store.proofs.table_heading.column_place.Given as goal

abbrev pub invariant-loop-k : goal.invariant-loop-k
invariant-loop-k l = (cells : List (List Cell)) → length cells ≡ length l.columns
    → named l.name l.columns cells ≡ named l.name (drop l.k l.columns) (drop l.k cells)
