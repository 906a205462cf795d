-- What is after an operator: the first precondition that fails, or the next schema; and its
-- database.
use Rattle.std.specs.Prelude.{◌≡◌, ◌<◌, ◌≤◌, ◌^◌, ℕ, List, [], ◌∷◌, Option, Result, ⊤}
use Rattle.std.specs.FinMap.{insert, remove, len}
use Rattle.prima_base.specs.declared.refusal.OpRefusal.{OpRefusal}
use Rattle.schema_catalog.specs.Tables.{Tables, IsSchema}
use Rattle.schema_catalog.specs.Databases.{Database}
use Rattle.cond_expr.specs.Sizes.{nodes_of, test_nodes}
use Rattle.prima_base.specs.declared.fault.CallFault.{CallFault}
use Rattle.prima_base.specs.Faults.{IsTestedAs}
use Rattle.prima_base.specs.Limits.{max_tables}
use Rattle.smo_ops_types.specs.Operators.{Operator, nop, create_table, drop_table, rename_table}
use Rattle.smo_ops_types.specs.Operators.{copy_table, merge_table, partition_table, decompose_table}
use Rattle.smo_ops_types.specs.Operators.{join_table, add_column, drop_column, rename_column}
use Rattle.smo_ops_spec.specs.First.{first_refusal}
use Rattle.smo_ops_spec.specs.Preconditions.{AreNarrow}
use Rattle.smo_ops_spec.specs.OperatorTable.{Made, line, tables_after}

-- the first precondition that fails
abbrev pub op_fault : Tables → Operator → Option OpRefusal
op_fault tables op = first_refusal (line tables op).preconditions

-- the next schema
abbrev pub schema_after : Tables → Operator → Tables
schema_after tables op = tables_after tables (line tables op).made (line tables op).consumed

abbrev pub lose_all : List (List ℕ) → Database → Database
lose_all [] db = db
lose_all (n ∷ consumed) db = lose_all consumed (remove db n)

-- each made table as it is over the database before
abbrev pub make_all : List Made → Database → Database → Database
make_all [] before db = db
make_all (m ∷ made) before db = make_all made before (insert db m.name (m.entry before))

-- the database over the next schema
abbrev pub migrate : Tables → Operator → Database → Database
migrate tables op db = make_all (line tables op).made db (lose_all (line tables op).consumed db)

-- what `after` answers
abbrev pub IsAfter : Tables → Operator → Result Tables (CallFault OpRefusal) → Type 0
IsAfter tables op answer =
    IsTestedAs (λ next. next ≡ schema_after tables op) (op_fault tables op) answer

-- a valid schema: each table's columns stand in the order of their names, each once, and the limits
-- are kept
pub record IsValid (tables : Tables) : Type 0 where
  pub schema : IsSchema tables
  pub narrow : AreNarrow tables
  pub few : len tables ≤ max_tables

-- the operator's tree, where it has one, has so few nodes that the number of each fits a refusal
abbrev pub HasFewNodes : Operator → Type 0
HasFewNodes nop = ⊤
HasFewNodes (create_table r cs) = ⊤
HasFewNodes (drop_table r) = ⊤
HasFewNodes (rename_table r t) = ⊤
HasFewNodes (copy_table r t) = ⊤
HasFewNodes (merge_table r s t) = ⊤
HasFewNodes (partition_table r s c t) = test_nodes c < 2 ^ 32
HasFewNodes (decompose_table r s xs t ys) = ⊤
HasFewNodes (join_table r s t c) = test_nodes c < 2 ^ 32
HasFewNodes (add_column c e r) = nodes_of e < 2 ^ 32
HasFewNodes (drop_column c r) = ⊤
HasFewNodes (rename_column b r c) = ⊤

abbrev pub HaveFewNodes : List Operator → Type 0
HaveFewNodes [] = ⊤
HaveFewNodes (op ∷ ops) = HasFewNodes op × HaveFewNodes ops

abbrev pub AllHaveFewNodes : List (List Operator) → Type 0
AllHaveFewNodes [] = ⊤
AllHaveFewNodes (op ∷ ops) = HaveFewNodes op × AllHaveFewNodes ops
