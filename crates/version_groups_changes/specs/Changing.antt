-- The changes of one table, and what is prepared of them.
use Rattle.std.specs.Prelude.{◌≡◌, ℕ, ◌≤◌, List, [], ◌∷◌, length, map, None, ⊤}
use Rattle.std.specs.Borrow.{Bor}
use Rattle.prima_base.specs.Columns.{Column}
use Rattle.history_store.specs.Store.{Store, relation_at}
use Rattle.history_store.specs.Change.{PreparedChange, IsPrepared, rows_along, rows_after}
use Rattle.smo_ops_types.specs.Changes.{PlainChange, change_of}
use Rattle.smo_ops_types.specs.declared.change.Change.{Change}
use Rattle.smo_ops_spec.specs.First.{first_refusal}
use Rattle.smo_ops_spec.specs.Checks.{tests_after}
use Rattle.smo_ops_spec.specs.Effects.{gained_rows}
use Rattle.smo_ops_spec.specs.Inserting.{relation_after_each}
use Rattle.smo_ops_spec.specs.OneRow.{Relation}

-- those that are borrowed
abbrev pub borrowed_changes : List (Bor Change) → List PlainChange
borrowed_changes changes = map (λ (c : Bor Change). change_of c.now) changes

-- the relation that the changes make of the one that the table has at the stamp
abbrev pub changed_relation : List Column → List (Bor Change) → Store → ℕ → Relation
changed_relation columns changes store stamp = relation_after_each columns
    (borrowed_changes changes) (relation_at store stamp)

-- each is accepted over a table of these columns
abbrev pub AreAccepted : List Column → List PlainChange → Type 0
AreAccepted columns [] = ⊤
AreAccepted columns (c ∷ changes) = ((at : ℕ) × (first_refusal (tests_after columns c at) ≡ None))
    × AreAccepted columns changes

-- a change of the table that is ready, has its room, and leads to these rows from the stamp on, by
-- the rows in which they differ from the table's
pub record IsChange (store : Store) (stamp : ℕ) (rows : Relation) (change : PreparedChange) :
    Type 0 where
  pub at : change.stamp ≡ stamp
  pub fits : IsPrepared store change
  pub room : length change.gained ≤ store.spare
  pub leads : rows_after store change ≡ rows
  pub lost : rows_along change.lost stamp store.cells ≡ gained_rows rows (relation_at store stamp)
  pub gained : change.gained ≡ gained_rows (relation_at store stamp) rows
