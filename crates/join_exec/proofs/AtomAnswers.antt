-- What is answered of the atoms that were read is what is answered of the tables.
use Rattle.std.proofs.Common.{◌≡◌, ℕ, ◌+◌, ◌<◌, true, List, [], ◌∷◌, map, refl, sym, ap, ◌∙◌, arith}
use Rattle.std.specs.Prelude.{Option, Some, None}
use Rattle.std.specs.List.{filter}
use Rattle.std.proofs.Math.Path.{fun_ext}
use Rattle.relations_spec.specs.Sets.{Ascends, set_of}
use Rattle.relations_spec.specs.Spans.{Span, covers}
use Rattle.relations_spec.proofs.SetLaws.{set_ascends, set_same}
use Rattle.prima_base.specs.Order.{row_cmp, bytes_cmp}
use Rattle.prima_base.specs.OrderLaws.{row_exact, bytes_exact}
use Rattle.prima_base.specs.declared.value.Value.{Value}
use Rattle.prima_base.specs.declared.timed_row.TimedRow.{TimedRow}
use Rattle.prima_base.specs.Columns.{Column, names_of}
use Rattle.prima_base.specs.Timed.{rows_at}
use Rattle.schema_catalog.specs.Databases.{cell}
use Rattle.cond_expr.specs.declared.expr.ColRef.{ColRef}
use Rattle.cond_expr.specs.Trees.{Tree, Test, always}
use Rattle.smo_ops_spec.specs.OneRow.{Row, Relation, meets}
use Rattle.smo_ops_spec.specs.Making.{named}
use Rattle.history_store.specs.Store.{Store, relation_at}
use Rattle.version_groups.specs.StoredTables.{rows_stored}
use Rattle.version_groups.specs.Groups.{Kept, table_in}
use Rattle.cond_expr.specs.AtomColumns.{columns_at}
use Rattle.plain_answers_spec.specs.Choosing.{answers_over}
use Rattle.plain_answers_spec.specs.Naming.{is_to, written_names, names_at, names_from}
use Rattle.plain_answers_spec.specs.Naming.{all_references}
use Rattle.plain_answers_spec.specs.Reading.{Read, read_of, read_rows, AsMany, AreEnough}
use Rattle.plain_answers_spec.specs.Reading.{whole_rows}
use Rattle.plain_answers_spec.specs.Reading.{read_columns as columns_left}
use Rattle.plain_answers_spec.proofs.NameLaws.{in_names_at}
use Rattle.plain_answers_spec.proofs.ReadLaws.{same_answers}
use Rattle.join_exec_engine.specs.declared.atom.Atom.{Atom}
use Rattle.join_exec_engine.specs.Atoms.{AtomsBorrow, atom_rows, IsNumbered, AreNumbered, HaveAtoms}
use Rattle.join_exec_spec.specs.BorrowedOutputs.{AllBorrowed, BorrowedValues}
use Rattle.join_exec_spec.proofs.BorrowedLaws.{rows_borrow}
use Rattle.join_exec.specs.Pieces.{columns_stored, stored_columns, stored_rows}
use Rattle.join_exec.specs.Atoms.{IsReadOf, AreRead, IsReadable, AreReadable}
use Rattle.join_exec.proofs.LeftNames.{names_left}

-- ---- rows of which columns are left

by_names : (f : List ℕ → Value) (columns : List Column)
    → map (λ (c : Column). f c.0) columns ≡ map f (names_of columns)
by_names f [] = refl
by_names f (c ∷ columns) = ap (λ (vs : List Value). f c.0 ∷ vs) (by_names f columns)

all_kept : (columns : List Column) (rows : Relation) → filter (meets columns always) rows ≡ rows
all_kept columns [] = refl
all_kept columns (row ∷ rows) = ap (λ (xs : Relation). row ∷ xs) (all_kept columns rows)

read_is : (ns : List (List ℕ)) (columns : List Column) (rows : Relation)
    → names_of (named ns columns) ≡ ns
    → set_of row_cmp (map (λ row. map (cell columns row) ns) rows)
    ≡ read_of (record { test = always; names = ns }) columns rows
read_is ns columns rows e = sym (
    ap (λ (rs : Relation). set_of row_cmp (map
    (λ row. map (λ (c : Column). cell columns row c.0) (named ns columns)) rs))
    (all_kept columns rows)
    ∙ ap (λ (f : Row → Row). set_of row_cmp (map f rows))
    (fun_ext (λ row. by_names (cell columns row) (named ns columns)
    ∙ ap (map (cell columns row)) e)))

-- ---- one atom

module _ (slice : Span) (i : ℕ) (ns : List (List ℕ)) (a : Atom) where
  number_of : (o : Option Store) → IsReadOf o slice i ns a → a.number ≡ i
  number_of None h = absurd h
  number_of (Some s) h = h.number

  columns_are : (o : Option Store) → IsReadOf o slice i ns a
      → a.columns.items ≡ columns_at i (named ns (columns_stored o))
  columns_are None h = absurd h
  columns_are (Some s) h = h.columns

  borrowed_of : (o : Option Store) → IsReadOf o slice i ns a → AllBorrowed a.rows.items
  borrowed_of None h = absurd h
  borrowed_of (Some s) h = h.borrowed

  rows_are : (o : Option Store) (m : ℕ) → Ascends bytes_cmp ns → IsReadOf o slice i ns a
      → IsReadable o ns → covers slice m ≡ true
      → rows_at a.rows.items m ≡ read_of (record { test = always; names = ns }) (columns_stored o)
      (rows_stored m o)
  rows_are None m up h w k = absurd h
  rows_are (Some s) m up h w k = h.rows m k ∙ read_is ns s.columns (relation_at s m)
      (names_left ns s.columns up h.stored.columns w)

-- ---- all of them

module _ (kept : Kept) (k : ℕ) (slice : Span) (rs : List ColRef) where
  abbrev Taken : ℕ → List (List ℕ) → List Atom → Type 0
  Taken i tables atoms = AreRead kept k slice rs i tables atoms

  abbrev its_reads : ℕ → List (List ℕ) → List Read
  its_reads i tables = whole_rows (names_from i tables rs)

  -- the columns that are read of each
  abbrev pub its_columns : ℕ → List (List ℕ) → List (List Column)
  its_columns i tables = columns_left (its_reads i tables) (stored_columns kept k tables)

  pub ascending : (i : ℕ) → Ascends bytes_cmp (names_at i rs)
  ascending i = set_ascends bytes_cmp bytes_exact (written_names (filter (is_to i) rs))

  pub have_atoms : (i : ℕ) (tables : List (List ℕ)) (atoms : List Atom) → Taken i tables atoms
      → HaveAtoms i (its_columns i tables) atoms
  have_atoms i [] [] h = tt
  have_atoms i [] (a ∷ atoms) h = absurd h
  have_atoms i (n ∷ tables) [] h = absurd h
  have_atoms i (n ∷ tables) (a ∷ atoms) h = (
    columns_are slice i (names_at i rs) a
        (table_in kept k n) h.0,
    have_atoms (i + 1) tables atoms h.1,
  )

  numbered_from : (i j : ℕ) (tables : List (List ℕ)) (atoms : List Atom) → j < i
      → Taken i tables atoms → IsNumbered j atoms
  numbered_from i j [] [] l h = tt
  numbered_from i j [] (a ∷ atoms) l h = absurd h
  numbered_from i j (n ∷ tables) [] l h = absurd h
  numbered_from i j (n ∷ tables) (a ∷ atoms) l h =
      let e = number_of slice i (names_at i rs) a (table_in kept k n) h.0 in
      (λ q. omega arith, numbered_from (i + 1) j tables atoms (omega arith) h.1)

  pub are_numbered : (i : ℕ) (tables : List (List ℕ)) (atoms : List Atom) → Taken i tables atoms
      → AreNumbered atoms
  are_numbered i [] [] h = tt
  are_numbered i [] (a ∷ atoms) h = absurd h
  are_numbered i (n ∷ tables) [] h = absurd h
  are_numbered i (n ∷ tables) (a ∷ atoms) h =
      let e = number_of slice i (names_at i rs) a (table_in kept k n) h.0 in (
        numbered_from (i + 1) a.number tables atoms (omega arith) h.1,
        are_numbered (i + 1) tables atoms h.1,
      )

  -- the values of any of their columns are borrowed
  pub atoms_borrow : (which : BorrowedValues) (i : ℕ) (tables : List (List ℕ)) (atoms : List Atom)
      → Taken i tables atoms → AtomsBorrow which atoms
  atoms_borrow which i [] [] h = tt
  atoms_borrow which i [] (a ∷ atoms) h = absurd h
  atoms_borrow which i (n ∷ tables) [] h = absurd h
  atoms_borrow which i (n ∷ tables) (a ∷ atoms) h = (
    rows_borrow which a.columns.items a.rows.items a.fit
        (borrowed_of slice i (names_at i rs) a (table_in kept k n) h.0),
    atoms_borrow which (i + 1) tables atoms h.1,
  )

  rows_left : (m : ℕ) → covers slice m ≡ true → (i : ℕ) (tables : List (List ℕ)) (atoms : List Atom)
      → AreRead kept k slice rs i tables atoms → AreReadable kept k rs i tables
      → atom_rows atoms m ≡ read_rows (its_reads i tables) (stored_columns kept k tables)
      (stored_rows kept k tables m)
  rows_left m c i [] [] h w = refl
  rows_left m c i [] (a ∷ atoms) h w = absurd h
  rows_left m c i (n ∷ tables) [] h w = absurd h
  rows_left m c i (n ∷ tables) (a ∷ atoms) h w =
      ap (λ (r : Relation). r ∷ atom_rows atoms m)
      (rows_are slice i (names_at i rs) a (table_in kept k n) m (ascending i) h.0 w.0 c)
      ∙ ap (λ (more : List Relation). read_of (record { test = always; names = names_at i rs })
      (columns_stored (table_in kept k n)) (rows_stored m (table_in kept k n)) ∷ more)
      (rows_left m c (i + 1) tables atoms h.1 w.1)

  as_many : (i : ℕ) (tables : List (List ℕ)) → AsMany (its_reads i tables)
      (stored_columns kept k tables)
  as_many i [] = tt
  as_many i (n ∷ tables) = as_many (i + 1) tables

  as_many_rows : (m : ℕ) (tables : List (List ℕ))
      → AsMany (stored_columns kept k tables) (stored_rows kept k tables m)
  as_many_rows m [] = tt
  as_many_rows m (n ∷ tables) = as_many_rows m tables

module _ (kept : Kept) (k : ℕ) (slice : Span) (outs : List Tree) (c : Test) where
  abbrev rs : List ColRef
  rs = all_references outs c

  enough : (i : ℕ) (tables : List (List ℕ)) → AreEnough i (its_reads kept k slice rs i tables) outs
      c
  enough i [] = tt
  enough i (n ∷ tables) = (
    record { part = λ t m. absurd m; keeps = λ x m. in_names_at i rs x m },
    enough (i + 1) tables,
  )

  pub atoms_answer : (tables : List (List ℕ)) (atoms : List Atom) (rows : List TimedRow) (m : ℕ)
      → covers slice m ≡ true → AreRead kept k slice rs 0 tables atoms
      → AreReadable kept k rs 0 tables
      → rows_at rows m ≡ set_of row_cmp (answers_over (its_columns kept k slice rs 0 tables)
      (atom_rows atoms m) outs c)
      → rows_at rows m ≡ set_of row_cmp (answers_over (stored_columns kept k tables)
      (stored_rows kept k tables m) outs c)
  atoms_answer tables atoms rows m inside h w e =
      let reads = its_reads kept k slice rs 0 tables in
      let columns = stored_columns kept k tables in
      let relations = stored_rows kept k tables m in
      e
      ∙ ap (λ (rels : List Relation). set_of row_cmp
      (answers_over (columns_left reads columns) rels outs c))
      (rows_left kept k slice rs m inside 0 tables atoms h w)
      ∙ set_same row_cmp row_exact (answers_over (columns_left reads columns)
      (read_rows reads columns relations) outs c) (answers_over columns relations outs c)
      (same_answers outs c reads columns relations (as_many kept k slice rs 0 tables)
      (as_many_rows kept k slice rs m tables) (enough 0 tables))
