use Rattle.std.proofs.Common.{◌≤◌, ◌-◌}
use Rattle.std.specs.Prelude.{vec_len, vec_capacity}
use Rattle.smo_ops_types.specs.Changes.{changes_of}
use Rattle.version_groups_tables.specs.Places.{at_places}
use Rattle.version_groups_tables.specs.Room.{AreSameTables}
use Rattle.version_groups_tables.proofs.TablesInTurn.{ReadyTo}
use Rattle.version_groups_tables.proofs.changed_table.prepare_tables.Given as goal

abbrev pub invariant-loop-i : goal.invariant-loop-i
invariant-loop-i l = record {
  turn : ReadyTo l.stamp (changes_of l.changes) (at_places l.initial.tables.items l.places)
      (at_places l.tables.items l.places) l.prepared.items l.gained l.lost l.i;
  same : AreSameTables l.initial.tables.items l.tables.items;
  room : vec_capacity l.initial.tables - vec_len l.initial.tables ≤ vec_capacity l.tables - vec_len
      l.tables;
}
