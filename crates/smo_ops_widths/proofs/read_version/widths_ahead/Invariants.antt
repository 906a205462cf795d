use Rattle.std.proofs.Common.{◌≤◌, ◌-◌}
use Rattle.smo_ops_types.specs.Commands.{versions_of}
use Rattle.smo_ops_widths.specs.Widths.{widths_of}
use Rattle.smo_ops_widths.specs.Shown.{Show}
use Rattle.smo_ops_widths.specs.AtHand.{all_widths}
use Rattle.smo_ops_widths.proofs.read_version.widths_ahead.Given as goal

abbrev pub invariant-loop-k : goal.invariant-loop-k
invariant-loop-k l = record {
  low : l.stored ≤ l.k;
  high : l.k ≤ l.asked;
  shown : Show (all_widths l.widths) (widths_of (versions_of l.versions) l.stored l.k);
}

abbrev pub decreases-loop-k : goal.decreases-loop-k
decreases-loop-k l = l.asked - l.k
