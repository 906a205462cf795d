use Rattle.std.proofs.Common.{◌≡◌, take}
use Rattle.cases_store_tables.proofs.row_comparison.are_equal.Given as goal

abbrev pub invariant-loop-place : goal.invariant-loop-place
invariant-loop-place l = take l.place l.ids ≡ take l.place l.others
