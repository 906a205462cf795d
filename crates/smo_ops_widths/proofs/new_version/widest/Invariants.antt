use Rattle.std.proofs.Common.{◌≡◌, ◌≤◌, ◌+◌, ℕ, length, min, max}
use Rattle.std.specs.BTreeSet.{contains}
use Rattle.prima_base.specs.Order.{bytes_cmp}
use Rattle.smo_ops_types.specs.Operators.{evolution_of, evolutions_of}
use Rattle.smo_ops_types.specs.Commands.{versions_of}
use Rattle.smo_ops_spec.specs.Evolutions.{schema_after_each}
use Rattle.smo_ops_spec.specs.Past.{no_tables, newest_from}
use Rattle.smo_ops_widths.specs.Widths.{widths_of, widest_with, with_version, greatest_of}
use Rattle.smo_ops_widths.specs.Creating.{NameAll}
use Rattle.smo_ops_widths.specs.Dead.{AreDead}
use Rattle.smo_ops_widths.specs.Shown.{Show}
use Rattle.smo_ops_widths.specs.AtHand.{all_widths}
use Rattle.smo_ops_widths.proofs.new_version.widest.Given as goal

abbrev pub invariant-loop-k : goal.invariant-loop-k
invariant-loop-k l = record {
  within : l.k ≤ length l.versions.list.items;
  next : l.next ≡ schema_after_each (newest_from no_tables (versions_of l.versions))
      (evolution_of l.op);
  shown : (stamp : ℕ) → Show (all_widths l.widths) (widths_of (with_version
      (versions_of l.versions) stamp (evolution_of l.op) (evolutions_of l.inverse))
      (length l.versions.list.items + 1) l.k);
  named : (stamp : ℕ) → NameAll (contains bytes_cmp l.names) (with_version
      (versions_of l.versions) stamp (evolution_of l.op) (evolutions_of l.inverse)) l.k;
  dead : (stamp : ℕ) → AreDead (contains bytes_cmp l.dead) (with_version
      (versions_of l.versions) stamp (evolution_of l.op) (evolutions_of l.inverse)) l.k
      (length l.versions.list.items + 1);
  last : (stamp : ℕ) → min (greatest_of (with_version (versions_of l.versions) stamp
      (evolution_of l.op) (evolutions_of l.inverse)) (length l.versions.list.items)
      (length l.versions.list.items + 1)) 18446744073709551615 ≤ l.most;
  most : (stamp : ℕ) → min (widest_with (with_version (versions_of l.versions) stamp
      (evolution_of l.op) (evolutions_of l.inverse)) (length l.versions.list.items + 1)
      (length l.versions.list.items + 1)) 18446744073709551615
      ≡ min (max l.most (widest_with (with_version (versions_of l.versions) stamp
      (evolution_of l.op) (evolutions_of l.inverse)) (length l.versions.list.items + 1) l.k))
      18446744073709551615;
}

abbrev pub decreases-loop-k : goal.decreases-loop-k
decreases-loop-k l = l.k
