-- What is wrong with a change: the first of its tests, in the one order, that is not met. A place
-- counts nodes: of an INSERT each value is one, and a tree has its nodes in pre-order.
use Rattle.std.specs.Prelude.{◌≤◌, ℕ, ◌+◌, List, [], ◌∷◌, ◌++◌, length, Option, Some, ⊤}
use Rattle.std.specs.List.{flat_map}
use Rattle.std.specs.Option.{option_map}
use Rattle.std.specs.FinMap.{contains_key}
use Rattle.prima_base.specs.declared.value.Value.{Value}
use Rattle.prima_base.specs.declared.refusal.Refusal.{Refusal}
use Rattle.prima_base.specs.declared.refusal.Refusal.TheVariants.{NoTable, NoColumn, WrongType}
use Rattle.prima_base.specs.declared.refusal.Refusal.TheVariants.{ColumnExists, ColumnMissing}
use Rattle.prima_base.specs.Columns.{Column, names_of}
use Rattle.prima_base.specs.Limits.{max_nodes}
use Rattle.schema_catalog.specs.Tables.{Tables}
use Rattle.cond_expr.specs.declared.expr.ColRef.{ColRef}
use Rattle.cond_expr.specs.Trees.{Tree, Test}
use Rattle.cond_expr.specs.Sizes.{nodes_of, test_nodes}
use Rattle.cond_expr.specs.Kinds.{kind_of, same_kind, value_kind}
use Rattle.cond_expr.specs.Faults.{references, test_references, first_unknown, untyped}
use Rattle.cond_expr.specs.Faults.{test_untyped, first_of}
use Rattle.smo_ops_types.specs.Changes.{PlainChange, insertion, deletion, update, table_of}
use Rattle.smo_ops_spec.specs.First.{unless, where_so, first_refusal}
use Rattle.smo_ops_spec.specs.OneRow.{own_kinds}
use Rattle.smo_ops_spec.specs.Effects.{columns_of}
use Rattle.smo_ops_spec.specs.Preconditions.{among, type_in, first_not_among}

abbrev pub Fault : Type 0
Fault = Option Refusal

-- the names of what is given or set
abbrev pub pair_names : {X : Type 0} → List (List ℕ × X) → List (List ℕ)
pair_names [] = []
pair_names (p ∷ pairs) = p.0 ∷ pair_names pairs

-- the table is there
abbrev pub table_fault : Tables → List ℕ → Fault
table_fault tables t = unless (contains_key tables t) (NoTable t)

-- of each name: whether it stood before, where these stand in prefix, and whether it is unknown
abbrev pub names_after : List ℕ → List Column → List (List ℕ) → List (List ℕ) → List Fault
names_after t columns before [] = []
names_after t columns before (n ∷ names) =
    where_so (among n before) (ColumnExists t n) ∷ unless (among n (names_of columns)) (NoColumn n)
    ∷ names_after t columns (before ++ n ∷ []) names

abbrev pub name_faults : List ℕ → List Column → List (List ℕ) → List Fault
name_faults t columns names = names_after t columns [] names

-- the first column, in name order, that is not named
abbrev pub missing_fault : List ℕ → List Column → List (List ℕ) → Fault
missing_fault t columns names = option_map (ColumnMissing t)
    (first_not_among names (names_of columns))

-- the first of these references that is to no column of the table
abbrev pub reference_fault : List Column → List ColRef → Fault
reference_fault columns rs = option_map NoColumn (first_unknown (own_kinds columns) rs)

abbrev pub set_references : List (List ℕ × Tree) → List ColRef
set_references sets = flat_map (λ (s : List ℕ × Tree). references s.1) sets

-- each value is of its column's type; the first one is node `at`
abbrev pub cell_faults : List Column → ℕ → List (List ℕ × Value) → List Fault
cell_faults columns at [] = []
cell_faults columns at (c ∷ cells) =
    unless (same_kind (type_in columns c.0) (Some (value_kind c.1))) (WrongType at)
    ∷ cell_faults columns (at + 1) cells

-- the nodes of a tree whose root is node `at`
abbrev pub tree_fault : List Column → ℕ → Tree → Fault
tree_fault columns at t = option_map (λ place. WrongType (at + place))
    (first_of (untyped (own_kinds columns) 0 t))

abbrev pub test_fault : List Column → ℕ → Test → Fault
test_fault columns at c = option_map (λ place. WrongType (at + place))
    (first_of (test_untyped (own_kinds columns) 0 c))

-- an expression is typed, and of its column's type; its root is node `at`
abbrev pub set_tests : List Column → ℕ → List ℕ × Tree → List Fault
set_tests columns at s = tree_fault columns at s.1
    ∷ unless (same_kind (type_in columns s.0) (kind_of (own_kinds columns) s.1)) (WrongType at) ∷ []

-- each before the next; the first one begins at node `at`
abbrev pub set_faults : List Column → ℕ → List (List ℕ × Tree) → List Fault
set_faults columns at [] = []
set_faults columns at (s ∷ sets) = set_tests columns at s
    ++ set_faults columns (at + nodes_of s.1) sets

abbrev pub sets_nodes : List (List ℕ × Tree) → ℕ
sets_nodes [] = 0
sets_nodes (s ∷ sets) = nodes_of s.1 + sets_nodes sets

-- the nodes of a change
abbrev pub change_nodes : PlainChange → ℕ
change_nodes (insertion t cells) = length cells
change_nodes (deletion t c) = test_nodes c
change_nodes (update t sets c) = sets_nodes sets + test_nodes c

-- no tree of the change has more nodes than a tree may have
abbrev pub AreSmall : List (List ℕ × Tree) → Type 0
AreSmall [] = ⊤
AreSmall (s ∷ sets) = (nodes_of s.1 ≤ max_nodes) × AreSmall sets

abbrev pub IsSmall : PlainChange → Type 0
IsSmall (insertion t cells) = ⊤
IsSmall (deletion t c) = test_nodes c ≤ max_nodes
IsSmall (update t sets c) = AreSmall sets × (test_nodes c ≤ max_nodes)

abbrev pub AllSmall : List PlainChange → Type 0
AllSmall [] = ⊤
AllSmall (c ∷ changes) = IsSmall c × AllSmall changes

-- the tests of a change whose first node is node `at` of the statement
abbrev pub tests_after : List Column → PlainChange → ℕ → List Fault
tests_after columns (insertion t cells) at = name_faults t columns (pair_names cells)
    ++ missing_fault t columns (pair_names cells) ∷ cell_faults columns at cells
tests_after columns (deletion t c) at = reference_fault columns (test_references c)
    ∷ test_fault columns at c ∷ []
tests_after columns (update t sets c) at =
    name_faults t columns (pair_names sets) ++ reference_fault columns
    (set_references sets ++ test_references c)
    ∷ (set_faults columns at sets ++ test_fault columns (at + sets_nodes sets) c ∷ [])

abbrev pub change_tests : Tables → PlainChange → ℕ → List Fault
change_tests tables change at = table_fault tables (table_of change)
    ∷ tests_after (columns_of tables (table_of change)) change at

-- the refusal of a change
abbrev pub change_fault : Tables → PlainChange → ℕ → Fault
change_fault tables change at = first_refusal (change_tests tables change at)

-- the changes of a command: each whole before the next, and all over the same tables
abbrev pub changes_tests : Tables → List PlainChange → ℕ → List Fault
changes_tests tables [] at = []
changes_tests tables (c ∷ changes) at = change_tests tables c at
    ++ changes_tests tables changes (at + change_nodes c)

-- the refusal of the changes of a command
abbrev pub changes_fault : Tables → List PlainChange → Fault
changes_fault tables changes = first_refusal (changes_tests tables changes 0)
