use Rattle.std.proofs.Common.{◌≡◌, ◌≤◌, ℕ, length, drop, get_or}
use Rattle.std.specs.Vec.Iter.{into_iter_items}
use Rattle.relations_spec.specs.Sets.{In}
use Rattle.version_groups_tables.specs.declared.made_table.MadeTable.{MadeTable}
use Rattle.version_groups_tables.specs.Becoming.{AreMadeBy}
use Rattle.version_groups_tables.specs.Places.{at_places}
use Rattle.version_groups_tables.proofs.TablesInTurn.{MadeTo}
use Rattle.version_groups_tables.proofs.changed_table.install_tables.Given as goal

abbrev pub invariant-loop-change : goal.invariant-loop-change
invariant-loop-change l = record {
  left : into_iter_items l.change-iterator ≡ drop l.i l.fn.prepared.items;
  within : l.i ≤ length l.fn.prepared.items;
  made : MadeTo (at_places l.initial.tables.items l.places) (at_places l.tables.items l.places)
      l.fn.prepared.items l.i;
  each : AreMadeBy l.fn.prepared.items l.initial.tables.items l.tables.items;
  others : (p : ℕ) → (d : MadeTable) → (In p l.places → ⊥)
      → get_or l.tables.items p d ≡ get_or l.initial.tables.items p d;
}
