use Rattle.std.proofs.Common.{◌≡◌, take}
use Rattle.std.specs.List.{filter_map}
use Rattle.coalesce.specs.Cutting.{cut_row}
use Rattle.coalesce.proofs.row_cut.are_inside.Given as goal

abbrev pub invariant-loop-index : goal.invariant-loop-index
invariant-loop-index l =
    filter_map (cut_row l.slice) (take l.index l.rows.items) ≡ take l.index l.rows.items
