use Rattle.std.proofs.Common.{◌≡◌, ◌-◌, drop}
use Rattle.store_image_rows.specs.Showing.{none_clash}
use Rattle.store_image_rows.proofs.order.none_clash.Given as goal

abbrev pub invariant-loop-i : goal.invariant-loop-i
invariant-loop-i g l = none_clash g.T.Ord.cmp l.showing
    ≡ none_clash g.T.Ord.cmp (drop (l.i - 1) l.showing)
