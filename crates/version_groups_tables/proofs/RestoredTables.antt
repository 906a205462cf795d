-- The tables of a version that is restored.
use Rattle.std.proofs.Common.{◌≡◌, ◌+◌, ℕ, Bool, List, [], ◌∷◌, drop, sym, ap, subst, ◌∙◌}
use Rattle.std.specs.Prelude.{Some, slice_get}
use Rattle.std.specs.List.{filter}
use Rattle.std.specs.Option.{option_copied}
use Rattle.std.specs.FinMap.{entries}
use Rattle.std.proofs.lemmas.Option.{slice_get_within, get_or_from_slice_get}
use Rattle.prima_base.specs.Columns.{Column}
use Rattle.schema_catalog.specs.Tables.{Tables}
use Rattle.history_store.specs.Store.{Store}
use Rattle.smo_ops_types.specs.Operators.{Operator}
use Rattle.smo_ops_spec.specs.OperatorTable.{line, made_names}
use Rattle.smo_ops_spec.specs.Preconditions.{among}
use Rattle.smo_ops_spec.specs.Touching.{these_names}
use Rattle.smo_ops_spec.specs.Evolutions.{one_makes}
use Rattle.smo_ops_spec.proofs.OneMembers.{one_makes_of_one}
use Rattle.smo_ops_spec.proofs.Firsts.{drop_at}
use Rattle.smo_ops_operators.specs.declared.name.Made.{Made}
use Rattle.version_groups_tables.specs.declared.made_table.MadeTable.{MadeTable}
use Rattle.version_groups_tables.specs.Evolving.{ComeNext, IsNextTable}
use Rattle.version_groups_tables.specs.Places.{at_places, IsFound}
use Rattle.smo_ops_operators.specs.Names.{is_one_of}
use Rattle.version_groups_tables.specs.Restoring.{HaveColumns, with_made, HasColumns, IsStored}
use Rattle.version_groups_tables.specs.Beginning.{BeginInOrder}
use Rattle.version_groups_tables.specs.Stored.{stored_as}
use Rattle.version_groups_tables.proofs.NextPlaces.{still_there}
use Rattle.version_groups_tables.proofs.PlacedTables.{filter_alike, placed_alike}

abbrev pub Listed : Type 0
Listed = List ℕ × List Column

-- the first of stores that have the columns of tables
pub first_columns : (stores rest : List Store) (s : Store) (e : Listed) (more : List Listed)
    → stores ≡ s ∷ rest → HaveColumns stores (e ∷ more) → s.columns ≡ e.1
first_columns stores rest s e more q h = (subst (λ (ss : List Store). HaveColumns ss (e ∷ more)) q
    h).0

-- a table that is there goes on with its columns
pub goes_over : (stored old : List MadeTable) (places : List ℕ) (place : ℕ) (name : List ℕ)
    (columns : List Column) (t : MadeTable) → IsFound stored places name place t
    → IsStored columns (stored_as name (at_places stored places))
    → IsNextTable stored old old place name (HasColumns name columns)
goes_over stored old places place name columns t f h =
    still_there stored old places place name t (HasColumns name columns) f
    (subst (IsStored columns) f.2 h)

-- where stores have the columns of the tables that are left, they have those of the next one and of
-- the others
pub due_now : (made : Listed → Bool) (stores : List Store) (listed : List Listed) (i : ℕ)
    (e : Listed) → slice_get listed i ≡ Some e → HaveColumns stores (filter made (drop i listed))
    → HaveColumns stores (with_made (made e) e (filter made (drop (i + 1) listed)))
due_now made stores listed i e s h =
    subst (λ (es : List Listed). HaveColumns stores (filter made es))
    (drop_at listed i e (slice_get_within listed i e s)
    (sym (get_or_from_slice_get listed i e e s))) h

-- the names of the tables that an operator of one member makes
pub one_of_made : (names : Made) (before : Tables) (op : Operator)
    → made_names (line before op).made ≡ these_names (option_copied names.first)
    (option_copied names.second)
    → (name : List ℕ) → is_one_of names name ≡ one_makes before (op ∷ []) name
one_of_made names before op all name =
    sym (one_makes_of_one before op name ∙ ap (among name) all)

-- by what agrees on which are made
pub come_alike : (stored : List MadeTable) (before : List ℕ) (made other : List ℕ → Bool)
    (Is : Listed → MadeTable → Type 0) (Has : List ℕ → List Column → Store → Type 0) (next : Tables)
    (begun : List MadeTable) (places : List ℕ)
    → ((name : List ℕ) → made name ≡ other name)
    → ComeNext stored before made Is Has next begun places
    → ComeNext stored before other Is Has next begun places
come_alike stored before made other Is Has next begun places h c = record {
  begin = subst (λ (es : List Listed). BeginInOrder Is es begun)
      (filter_alike (λ (e : Listed). made e.0) (λ (e : Listed). other e.0) (entries next)
      (λ e. h e.0)) c.begin;
  placed = placed_alike stored begun before made other next places h c.placed;
  there = c.there;
  ordered = c.ordered;
  tables = c.tables;
}
