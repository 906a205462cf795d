-- Databases and pasts whose values are all valid, and commands whose constants are.
use Rattle.std.specs.Prelude.{ℕ, List, [], ◌∷◌, Option, Some, None, ⊤}
use Rattle.std.specs.FinMap.{get}
use Rattle.relations_spec.specs.Sets.{In}
use Rattle.prima_base.specs.declared.value.Value.{Value}
use Rattle.prima_base.specs.Columns.{IsValid}
use Rattle.schema_catalog.specs.Tables.{Tables}
use Rattle.schema_catalog.specs.Databases.{DatabaseEntry, Rows, Lost, Database, IsDatabase}
use Rattle.cond_expr.specs.Trees.{Tree}
use Rattle.cond_expr.specs.Constants.{HasValid}
use Rattle.smo_ops_types.specs.Operators.{Operator, nop, create_table, drop_table, rename_table}
use Rattle.smo_ops_types.specs.Operators.{copy_table, merge_table, partition_table, decompose_table}
use Rattle.smo_ops_types.specs.Operators.{join_table, add_column, drop_column, rename_column}
use Rattle.smo_ops_types.specs.Changes.{PlainChange, insertion, deletion, update}
use Rattle.smo_ops_types.specs.Commands.{PlainBody, changing, evolving, PlainCommand, PlainVersion}
use Rattle.smo_ops_spec.specs.OneRow.{Row, Relation}
use Rattle.smo_ops_spec.specs.Past.{Past, database_at}

-- ---- databases

abbrev pub AreValues : Row → Type 0
AreValues row = (v : Value) → In v row → IsValid v

abbrev pub HoldValues : Relation → Type 0
HoldValues rows = (row : Row) → In row rows → AreValues row

abbrev pub EntryHolds : Option DatabaseEntry → Type 0
EntryHolds None = ⊤
EntryHolds (Some (Rows rows)) = HoldValues rows
EntryHolds (Some (Lost k i)) = ⊤

abbrev pub HoldsValues : Database → Type 0
HoldsValues db = (n : List ℕ) → EntryHolds (get db n)

-- every database of the tables: it has just them, none is lost, and each value is valid and of its
-- column's type
pub record IsValidDatabase (tables : Tables) (db : Database) : Type 0 where
  pub database : IsDatabase tables db
  pub values : HoldsValues db

-- a past whose database holds valid values at each moment
abbrev pub EachHolds : Past → Type 0
EachHolds past = (moment : ℕ) → HoldsValues (database_at past moment)

-- ---- commands: the constants that can come into a row

abbrev pub OperatorHolds : Operator → Type 0
OperatorHolds nop = ⊤
OperatorHolds (create_table r cs) = ⊤
OperatorHolds (drop_table r) = ⊤
OperatorHolds (rename_table r t) = ⊤
OperatorHolds (copy_table r t) = ⊤
OperatorHolds (merge_table r s t) = ⊤
OperatorHolds (partition_table r s c t) = ⊤
OperatorHolds (decompose_table r s xs t ys) = ⊤
OperatorHolds (join_table r s t c) = ⊤
OperatorHolds (add_column c e r) = HasValid e
OperatorHolds (drop_column c r) = ⊤
OperatorHolds (rename_column b r c) = ⊤

abbrev pub OperatorsHold : List Operator → Type 0
OperatorsHold [] = ⊤
OperatorsHold (op ∷ ops) = OperatorHolds op × OperatorsHold ops

abbrev pub AllOperatorsHold : List (List Operator) → Type 0
AllOperatorsHold [] = ⊤
AllOperatorsHold (op ∷ ops) = OperatorsHold op × AllOperatorsHold ops

abbrev pub CellsHold : List (List ℕ × Value) → Type 0
CellsHold [] = ⊤
CellsHold (c ∷ cells) = IsValid c.1 × CellsHold cells

abbrev pub SetsHold : List (List ℕ × Tree) → Type 0
SetsHold [] = ⊤
SetsHold (s ∷ sets) = HasValid s.1 × SetsHold sets

abbrev pub ChangeHolds : PlainChange → Type 0
ChangeHolds (insertion t cells) = CellsHold cells
ChangeHolds (deletion t c) = ⊤
ChangeHolds (update t sets c) = SetsHold sets

abbrev pub ChangesHold : List PlainChange → Type 0
ChangesHold [] = ⊤
ChangesHold (c ∷ changes) = ChangeHolds c × ChangesHold changes

abbrev pub BodyHolds : PlainBody → Type 0
BodyHolds (changing changes) = ChangesHold changes
BodyHolds (evolving op inverse) = OperatorsHold op × AllOperatorsHold inverse

abbrev pub CommandsHold : List PlainCommand → Type 0
CommandsHold [] = ⊤
CommandsHold (c ∷ commands) = BodyHolds c.body × CommandsHold commands

-- ---- pasts

-- the constants of each version's operator, and of its inverse, are valid
abbrev pub VersionsHold : List PlainVersion → Type 0
VersionsHold [] = ⊤
VersionsHold (v ∷ versions) = (OperatorsHold v.op × AllOperatorsHold v.inverse)
    × VersionsHold versions

-- a past that holds valid values: in its database at each moment, and in what leads from version to
-- version and back
pub record PastHolds (past : Past) : Type 0 where
  pub databases : EachHolds past
  pub versions : VersionsHold past.versions
