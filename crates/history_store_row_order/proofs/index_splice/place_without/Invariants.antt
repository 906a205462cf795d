use Rattle.std.proofs.Common.{◌≡◌, drop}
use Rattle.history_store_row_order.specs.Indexes.{place_without}
use Rattle.history_store_row_order.proofs.index_splice.place_without.Given as goal

abbrev pub invariant-loop-at : goal.invariant-loop-at
invariant-loop-at l = place_without (drop l.at-index l.from) l.place ≡ place_without l.from l.free
