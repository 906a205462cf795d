use Rattle.std.proofs.Common.{◌≡◌, ◌++◌, map}
use Rattle.std.specs.Vec.Iter.{into_iter_items}
use Rattle.store_image_rows.specs.Stretches.{row_stretches}
use Rattle.store_image_rows.specs.Showing.{stretch_at, as_row}
use Rattle.store_image_rows.proofs.order.rows_of.Given as goal

abbrev pub invariant-loop-stretch : goal.invariant-loop-stretch
invariant-loop-stretch l = map (stretch_at as_row) l.showing.items
    ++ row_stretches (into_iter_items l.stretch-iterator) ≡ row_stretches l.fn.stretches.items
