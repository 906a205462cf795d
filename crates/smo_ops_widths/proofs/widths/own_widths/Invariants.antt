use Rattle.std.proofs.Common.{◌≤◌, ◌-◌, ℕ, List, drop}
use Rattle.std.specs.Prelude.{None}
use Rattle.std.specs.FinMap.{entries, len}
use Rattle.smo_ops_spec.specs.Preconditions.{among}
use Rattle.smo_ops_spec.specs.Checks.{pair_names}
use Rattle.smo_ops_widths.specs.Counted.{MayBeAlike}
use Rattle.smo_ops_widths.specs.Shown.{seen}
use Rattle.smo_ops_widths.proofs.ShownLaws.{own_or}
use Rattle.smo_ops_widths.proofs.widths.own_widths.Given as goal

abbrev pub invariant-loop-place : goal.invariant-loop-place
invariant-loop-place l = record {
  own : (n : List ℕ) → MayBeAlike
      (own_or (among n (pair_names (drop l.place (entries l.schema)))) (seen l.widths.entries n))
      (own_or (among n (pair_names (entries l.schema))) None);
  within : l.place ≤ len l.schema;
}

abbrev pub decreases-loop-place : goal.decreases-loop-place
decreases-loop-place l = len l.schema - l.place
