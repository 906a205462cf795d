use Rattle.std.proofs.Common.{◌≡◌, ◌++◌, take}
use Rattle.smo_maps.proofs.merge_table.append.Given as goal

abbrev pub invariant-loop-row : goal.invariant-loop-row
invariant-loop-row l = l.made.items ≡ l.fn.made.items ++ take l.row-index l.rows
