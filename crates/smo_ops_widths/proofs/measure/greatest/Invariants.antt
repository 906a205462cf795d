use Rattle.std.proofs.Common.{◌≡◌, ◌≤◌, ◌-◌, drop, min, max}
use Rattle.std.specs.FinMap.{entries, len}
use Rattle.smo_ops_widths.specs.Widths.{Widths, greatest}
use Rattle.smo_ops_widths.specs.Shown.{Show}
use Rattle.smo_ops_widths.specs.AtHand.{all_widths}
use Rattle.smo_ops_widths.proofs.measure.greatest.Given as goal

abbrev pub invariant-loop-place : goal.invariant-loop-place
invariant-loop-place l = record {
  most : (shown : Widths) → Show (all_widths l.widths) shown
      → min (greatest (entries l.schema) shown) 18446744073709551615
      ≡ min (max l.most (greatest (drop l.place (entries l.schema)) shown)) 18446744073709551615;
  fit : l.most ≤ 18446744073709551615;
  within : l.place ≤ len l.schema;
}

abbrev pub decreases-loop-place : goal.decreases-loop-place
decreases-loop-place l = len l.schema - l.place
