-- The changes from one database to another are accepted.
use Rattle.std.specs.Prelude.{◌≡◌, ℕ, ◌+◌, ◌*◌, ◌≤◌, ◌++◌, true, not, List, []}
use Rattle.std.specs.Prelude.{◌∷◌, cond, length, take, zero, suc, nat_le, Option, Some}
use Rattle.std.specs.Prelude.{None, is_some, is_none, ⊤}
use Rattle.std.proofs.Common.{refl, sym, ap, ◌∙◌, inl, inr, arith}
use Rattle.std.specs.List.{flat_map}
use Rattle.std.specs.Option.{unwrap_or, option_map}
use Rattle.std.specs.FinMap.{get}
use Rattle.relations_spec.specs.Sets.{In, Ascends}
use Rattle.prima_base.specs.declared.value.ColType.{ColType}
use Rattle.prima_base.specs.declared.value.ColType.TheVariants.{Int as INT, Text as TEXT}
use Rattle.prima_base.specs.declared.refusal.Refusal.TheVariants.{NoTable, NoColumn, WrongType}
use Rattle.prima_base.specs.declared.refusal.Refusal.TheVariants.{ColumnExists, ColumnMissing}
use Rattle.prima_base.specs.declared.refusal.What.TheVariants.{Nodes, Depth, Parts, Changes}
use Rattle.prima_base.specs.Limits.{max_nodes, max_depth, max_parts, max_changes, max_columns}
use Rattle.prima_base.specs.Order.{bytes_cmp}
use Rattle.prima_base.specs.Columns.{Column, names_of, AreColumns, IsRow}
use Rattle.schema_catalog.specs.Places.{NamedColumns}
use Rattle.schema_catalog.specs.Tables.{Tables, columns_of}
use Rattle.cond_expr.specs.Trees.{Test}
use Rattle.cond_expr.specs.Kinds.{value_kind, same_type, same_kind}
use Rattle.cond_expr.specs.Faults.{test_references, tests_references, first_unknown, test_untyped}
use Rattle.cond_expr.specs.Faults.{tests_untyped, if_so, first_of}
use Rattle.cond_expr.specs.Sizes.{test_nodes, tests_nodes, test_depth, tests_depth, test_longest}
use Rattle.cond_expr.specs.Sizes.{tests_longest}
use Rattle.smo_ops_types.specs.Changes.{PlainChange}
use Rattle.smo_ops_types.specs.Commands.{changing}
use Rattle.smo_ops_spec.specs.First.{unless, where_so, first_refusal}
use Rattle.smo_ops_spec.specs.OneRow.{Row, own_kinds}
use Rattle.smo_ops_spec.specs.Preconditions.{among, type_in, first_not_among}
use Rattle.smo_ops_spec.specs.Checks.{Fault, table_fault, pair_names, names_after, missing_fault}
use Rattle.smo_ops_spec.specs.Checks.{cell_faults, test_fault, reference_fault, change_tests}
use Rattle.smo_ops_spec.specs.Checks.{changes_tests, change_nodes, tests_after, name_faults}
use Rattle.smo_ops_spec.specs.Counts.{at_most, test_counts, change_counts}
use Rattle.smo_ops_spec.specs.Counts.{first_excess}
use Rattle.smo_ops_spec.proofs.Firsts.{first_after}
use Rattle.smo_ops_spec.proofs.NameLaws.{in_among, own_type, type_of}
use Rattle.smo_ops_spec.proofs.TypeLaws.{own_atom}
use Rattle.version_export_past_spec.proofs.NewNames.{is_new, are_new_after}
use Rattle.version_export_past_spec.specs.Rows.{Cell, row_cells, has_cell, have_cells, is_row_of}
use Rattle.version_export_past_spec.specs.Rows.{ending}
use Rattle.version_export_past_spec.specs.Rows.{beginning}

-- ---- the cells of a row are of its columns' types

abbrev pub AllTyped : List Column → List Cell → Type 0
AllTyped columns [] = ⊤
AllTyped columns (c ∷ cells) = (type_in columns c.0 ≡ Some (value_kind c.1))
    × AllTyped columns cells

typed_in : (all columns : List Column) (row : Row)
    → ((d : Column) → In d columns → type_in all d.0 ≡ Some d.1) → IsRow columns row
    → AllTyped all (row_cells columns row)
typed_in all [] row h r = tt
typed_in all (c ∷ columns) [] h r = absurd r
typed_in all (c ∷ columns) (v ∷ row) h r = (
  h c (inl refl) ∙ ap (λ (k : ColType). Some k) (sym (type_of v c.1 r.0)),
  typed_in all columns row (λ d m. h d (inr m)) r.1,
)

pub typed_cells : (columns : List Column) (row : Row) → AreColumns columns → IsRow columns row
    → AllTyped columns (row_cells columns row)
typed_cells columns row a r = typed_in columns columns row (λ d m. own_type columns d a m) r

pub cell_names : (columns : List Column) (row : Row) → IsRow columns row
    → pair_names (row_cells columns row) ≡ names_of columns
cell_names [] row r = refl
cell_names (c ∷ columns) [] r = absurd r
cell_names (c ∷ columns) (v ∷ row) r = ap (λ ns. c.0 ∷ ns) (cell_names columns row r.1)

pub cells_count : (columns : List Column) (row : Row) → IsRow columns row
    → length (row_cells columns row) ≡ length columns
cells_count [] row r = refl
cells_count (c ∷ columns) [] r = absurd r
cells_count (c ∷ columns) (v ∷ row) r = ap suc (cells_count columns row r.1)

-- ---- the condition of a row

one_type : (k : ColType) → same_type k k ≡ true
one_type INT = refl
one_type TEXT = refl

module _ (columns : List Column) where
  known : (cells : List Cell) → AllTyped columns cells
      → first_unknown (own_kinds columns) (tests_references (have_cells cells)) ≡ None
  known [] h = refl
  known (c ∷ cells) h =
      ap (λ o. cond (is_none o) (Some c.0)
      (first_unknown (own_kinds columns) (tests_references (have_cells cells))))
      (own_atom columns 0 c.0 refl ∙ h.0)
      ∙ known cells h.1

  row_known : (cells : List Cell) → AllTyped columns cells
      → first_unknown (own_kinds columns) (test_references (is_row_of cells)) ≡ None
  row_known [] h = refl
  row_known (c ∷ []) h = known (c ∷ []) h
  row_known (c ∷ d ∷ cells) h = known (c ∷ d ∷ cells) h

  one_typed : (at : ℕ) (c : Cell) → type_in columns c.0 ≡ Some (value_kind c.1)
      → test_untyped (own_kinds columns) at (has_cell c) ≡ []
  one_typed at c h =
      ap (λ o. if_so (is_none o) (at + 1)
      ++ ([] ++ if_so (not (same_kind o (Some (value_kind c.1)))) at))
      (own_atom columns 0 c.0 refl ∙ h)
      ∙ ap (λ b. if_so (not b) at) (one_type (value_kind c.1))

  all_typed : (at : ℕ) (cells : List Cell) → AllTyped columns cells
      → tests_untyped (own_kinds columns) at (have_cells cells) ≡ []
  all_typed at [] h = refl
  all_typed at (c ∷ cells) h =
      ap (λ xs. xs ++ tests_untyped (own_kinds columns) (at + 3) (have_cells cells))
      (one_typed at c h.0)
      ∙ all_typed (at + 3) cells h.1

  row_typed : (cells : List Cell) → AllTyped columns cells
      → test_untyped (own_kinds columns) 0 (is_row_of cells) ≡ []
  row_typed [] h = refl
  row_typed (c ∷ []) h = one_typed 0 c h.0
  row_typed (c ∷ d ∷ cells) h = all_typed 1 (c ∷ d ∷ cells) h

  -- ---- the names and values of an INSERT

  names_fine : (t : List ℕ) (before names : List (List ℕ))
      → ((n : List ℕ) → In n names → among n (names_of columns) ≡ true)
      → ((n : List ℕ) → In n names → ¬ In n before) → Ascends bytes_cmp names
      → first_refusal (names_after t columns before names) ≡ None
  names_fine t before [] k h a = refl
  names_fine t before (n ∷ names) k h a =
      ap (λ b. first_refusal (where_so b (ColumnExists t n)
      ∷ unless (among n (names_of columns)) (NoColumn n)
      ∷ names_after t columns (before ++ n ∷ []) names)) (is_new n before names h a)
      ∙ ap (λ b. first_refusal (unless b (NoColumn n)
      ∷ names_after t columns (before ++ n ∷ []) names)) (k n (inl refl))
      ∙ names_fine t (before ++ n ∷ []) names (λ m i. k m (inr i))
      (are_new_after n before names h a) a.1

  values_fine : (at : ℕ) (cells : List Cell) → AllTyped columns cells
      → first_refusal (cell_faults columns at cells) ≡ None
  values_fine at [] h = refl
  values_fine at (c ∷ cells) h =
      ap (λ o. first_refusal (unless (same_kind o (Some (value_kind c.1))) (WrongType at)
      ∷ cell_faults columns (at + 1) cells)) h.0
      ∙ ap (λ b. first_refusal (unless b (WrongType at) ∷ cell_faults columns (at + 1) cells))
      (one_type (value_kind c.1))
      ∙ values_fine (at + 1) cells h.1

  pub ending_fine : (at : ℕ) (cells : List Cell) → AllTyped columns cells
      → first_refusal (reference_fault columns (test_references (is_row_of cells))
      ∷ test_fault columns at (is_row_of cells) ∷ []) ≡ None
  ending_fine at cells h =
      ap (λ o. first_refusal (option_map NoColumn o ∷ test_fault columns at (is_row_of cells) ∷ []))
      (row_known cells h)
      ∙ ap (λ xs. first_refusal (option_map (λ place. WrongType (at + place)) (first_of xs) ∷ []))
      (row_typed cells h)

none_left : (names others : List (List ℕ)) → ((n : List ℕ) → In n names → In n others)
    → first_not_among others names ≡ None
none_left [] others h = refl
none_left (n ∷ names) others h =
    ap (λ b. cond (not b) (Some n) (first_not_among others names)) (in_among n others
    (h n (inl refl)))
    ∙ none_left names others (λ m i. h m (inr i))

pub beginning_fine : (t : List ℕ) (columns : List Column) (row : Row) (at : ℕ) → AreColumns columns
    → IsRow columns row
    → first_refusal (name_faults t columns (pair_names (row_cells columns row))
    ++ missing_fault t columns (pair_names (row_cells columns row))
    ∷ cell_faults columns at (row_cells columns row)) ≡ None
beginning_fine t columns row at a r =
    ap (λ ns. first_refusal (name_faults t columns ns ++ missing_fault t columns ns
    ∷ cell_faults columns at (row_cells columns row))) (cell_names columns row r)
    ∙ first_after (name_faults t columns (names_of columns))
    (missing_fault t columns (names_of columns) ∷ cell_faults columns at (row_cells columns row))
    (names_fine columns t [] (names_of columns) (λ n i. in_among n (names_of columns) i)
    (λ n i j. j) a)
    ∙ ap (λ o. first_refusal (option_map (ColumnMissing t) o
    ∷ cell_faults columns at (row_cells columns row)))
    (none_left (names_of columns) (names_of columns) (λ n i. i))
    ∙ values_fine columns at (row_cells columns row) (typed_cells columns row a r)

-- ---- a change of a table that is there

module _ (tables : Tables) (t : NamedColumns) (there : get tables t.0 ≡ Some t.1)
    (are : AreColumns t.1) where
  at_table : (tests : List Column → List Fault) → first_refusal (tests t.1) ≡ None
      → first_refusal (table_fault tables t.0 ∷ tests (columns_of tables t.0)) ≡ None
  at_table tests h =
      ap (λ (o : Option (List Column)).
      first_refusal (unless (is_some o) (NoTable t.0) ∷ tests (unwrap_or o []))) there ∙ h

  pub ending_accepted : (row : Row) (at : ℕ) → IsRow t.1 row
      → first_refusal (change_tests tables (ending t row) at) ≡ None
  ending_accepted row at r = at_table (λ cs. tests_after cs (ending t row) at)
      (ending_fine t.1 at (row_cells t.1 row) (typed_cells t.1 row are r))

  pub beginning_accepted : (row : Row) (at : ℕ) → IsRow t.1 row
      → first_refusal (change_tests tables (beginning t row) at) ≡ None
  beginning_accepted row at r = at_table (λ cs. tests_after cs (beginning t row) at)
      (beginning_fine t.0 t.1 row at are r)

-- ---- counts

nodes_are : (cells : List Cell) → tests_nodes (have_cells cells) ≡ 3 * length cells
nodes_are [] = refl
nodes_are (c ∷ cells) = let h = nodes_are cells in omega (arith, h)

depth_is : (cells : List Cell) → tests_depth (have_cells cells) ≤ 2
depth_is [] = omega arith
depth_is (c ∷ cells) = let h = depth_is cells in omega (arith, h)

longest_is : (cells : List Cell) → tests_longest (have_cells cells) ≡ 0
longest_is [] = refl
longest_is (c ∷ cells) = let h = longest_is cells in omega (arith, h)

row_nodes : (cells : List Cell) → test_nodes (is_row_of cells) ≤ 3 * length cells + 1
row_nodes [] = omega arith
row_nodes (c ∷ []) = omega arith
row_nodes (c ∷ d ∷ cells) = let h = nodes_are (c ∷ d ∷ cells) in omega (arith, h)

pub row_depth : (cells : List Cell) → test_depth (is_row_of cells) ≤ 3
row_depth [] = omega arith
row_depth (c ∷ []) = omega arith
row_depth (c ∷ d ∷ cells) = let h = depth_is (c ∷ d ∷ cells) in omega (arith, h)

row_longest : (cells : List Cell) → test_longest (is_row_of cells) ≡ 0
row_longest [] = refl
row_longest (c ∷ []) = refl
row_longest (c ∷ d ∷ cells) = longest_is (c ∷ d ∷ cells)

fits : (m n : ℕ) → m ≤ n → nat_le m n ≡ true
fits m n l = grind (arith, l)

pub row_counted : (cells : List Cell) → length cells ≤ max_columns
    → first_refusal (test_counts (is_row_of cells)) ≡ None
row_counted cells few =
    let c : Test = is_row_of cells in
    let n = row_nodes cells in
    let d = row_depth cells in
    let l = row_longest cells in
    ap (λ b. first_refusal (unless b (Nodes, max_nodes) ∷ at_most Depth max_depth (test_depth c)
    ∷ at_most Parts max_parts (test_longest c) ∷ []))
    (fits (test_nodes c) max_nodes (omega (arith, n, few)))
    ∙ ap (λ b. first_refusal (unless b (Depth, max_depth)
    ∷ at_most Parts max_parts (test_longest c) ∷ []))
    (fits (test_depth c) max_depth (omega (arith, d)))
    ∙ ap (λ b. first_refusal (unless b (Parts, max_parts) ∷ []))
    (fits (test_longest c) max_parts (omega (arith, l)))

-- ---- all changes of a command

abbrev pub AllCounted : List PlainChange → Type 0
AllCounted [] = ⊤
AllCounted (c ∷ changes) = (first_refusal (change_counts c) ≡ None) × AllCounted changes

counted_taken : (n : ℕ) (changes : List PlainChange) → AllCounted changes
    → first_refusal (flat_map change_counts (take n changes)) ≡ None
counted_taken zero changes h = refl
counted_taken (suc n) [] h = refl
counted_taken (suc n) (c ∷ changes) h =
    first_after (change_counts c) (flat_map change_counts (take n changes)) h.0
    ∙ counted_taken n changes h.1

pub all_counted : (changes : List PlainChange) → AllCounted changes → length changes ≤ max_changes
    → first_excess (changing changes) ≡ None
all_counted changes h few =
    first_after (flat_map change_counts (take max_changes changes))
    (at_most Changes max_changes (length changes) ∷ []) (counted_taken max_changes changes h)
    ∙ ap (λ b. first_refusal (unless b (Changes, max_changes) ∷ []))
    (fits (length changes) max_changes few)

abbrev pub AllFine : Tables → List PlainChange → Type 0
AllFine tables changes = (c : PlainChange) → In c changes → (at : ℕ)
    → first_refusal (change_tests tables c at) ≡ None

pub all_accepted : (tables : Tables) (changes : List PlainChange) (at : ℕ) → AllFine tables changes
    → first_refusal (changes_tests tables changes at) ≡ None
all_accepted tables [] at h = refl
all_accepted tables (c ∷ changes) at h =
    first_after (change_tests tables c at) (changes_tests tables changes (at + change_nodes c))
    (h c (inl refl) at)
    ∙ all_accepted tables changes (at + change_nodes c) (λ d m. h d (inr m))
