use Rattle.std.proofs.Common.{◌≡◌, ◌++◌, drop}
use Rattle.store_image_rows.specs.Showing.{ids_on}
use Rattle.store_image_rows.proofs.order.ids_on.Given as goal

abbrev pub invariant-loop-one : goal.invariant-loop-one
invariant-loop-one g l = l.ids.items ++ ids_on (drop l.one-index l.showing) ≡ ids_on l.showing
