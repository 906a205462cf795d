use Rattle.std.proofs.Common.{◌≡◌, length, take, []}
use Rattle.std.specs.Prelude.{All}
use Rattle.history_store_writes.specs.Logs.{kinds_of, types_of}
use Rattle.history_store_writes.proofs.row_change.empty_columns.Given as goal

abbrev pub invariant-loop-kind : goal.invariant-loop-kind
invariant-loop-kind l = record {
  counted : length l.empty.items ≡ l.kind-index;
  kinds : kinds_of l.empty.items ≡ types_of (take l.kind-index l.columns);
  cells : All (λ c. c.cells ≡ []) l.empty.items;
  ids : All (λ c. c.ids ≡ 0) l.empty.items;
}
