-- The atoms that are read of stored tables.
use Rattle.std.specs.Prelude.{◌≡◌, ℕ, ◌+◌, true, List, [], ◌∷◌, map, Option, Some, None, ⊤}
use Rattle.relations_spec.specs.Sets.{set_of}
use Rattle.relations_spec.specs.Spans.{Span, covers}
use Rattle.prima_base.specs.Order.{row_cmp}
use Rattle.prima_base.specs.Timed.{rows_at}
use Rattle.schema_catalog.specs.Databases.{cell}
use Rattle.history_store.specs.Store.{Store, relation_at, IsStore}
use Rattle.version_groups.specs.Groups.{Kept, table_in}
use Rattle.cond_expr.specs.declared.expr.ColRef.{ColRef}
use Rattle.cond_expr.specs.AtomColumns.{columns_at}
use Rattle.smo_ops_spec.specs.Making.{named}
use Rattle.plain_answers_spec.specs.Naming.{names_at}
use Rattle.join_exec_spec.specs.BorrowedOutputs.{AllBorrowed}
use Rattle.join_exec_engine.specs.declared.atom.Atom.{Atom}
use Rattle.join_exec.specs.Reading.{AreNames}

-- the atom has this number, and at each moment of the slice what the table has in these columns;
-- its values are borrowed
pub record IsRead (s : Store) (slice : Span) (i : ℕ) (names : List (List ℕ)) (a : Atom) :
    Type 0 where
  pub stored : IsStore s
  pub number : a.number ≡ i
  pub columns : a.columns.items ≡ columns_at i (named names s.columns)
  pub borrowed : AllBorrowed a.rows.items
  pub rows : (m : ℕ) → covers slice m ≡ true → rows_at a.rows.items m
      ≡ set_of row_cmp (map (λ row. map (cell s.columns row) names) (relation_at s m))

abbrev pub IsReadOf : Option Store → Span → ℕ → List (List ℕ) → Atom → Type 0
IsReadOf None slice i names a = ⊥
IsReadOf (Some s) slice i names a = IsRead s slice i names a

-- each of the tables of version k, the first of which is the atom with this number, in the columns
-- that are named of it
abbrev pub AreRead : Kept → ℕ → Span → List ColRef → ℕ → List (List ℕ) → List Atom → Type 0
AreRead kept k slice references i [] [] = ⊤
AreRead kept k slice references i [] (a ∷ atoms) = ⊥
AreRead kept k slice references i (n ∷ tables) [] = ⊥
AreRead kept k slice references i (n ∷ tables) (a ∷ atoms) =
    IsReadOf (table_in kept k n) slice i (names_at i references) a
    × AreRead kept k slice references (i + 1) tables atoms

-- the table is stored, and has each of these columns
abbrev pub IsReadable : Option Store → List (List ℕ) → Type 0
IsReadable None names = ⊥
IsReadable (Some s) names = AreNames s.columns names

-- so is each of the tables, with the columns that are named of it
abbrev pub AreReadable : Kept → ℕ → List ColRef → ℕ → List (List ℕ) → Type 0
AreReadable kept k references i [] = ⊤
AreReadable kept k references i (n ∷ tables) =
    IsReadable (table_in kept k n) (names_at i references)
    × AreReadable kept k references (i + 1) tables
