-- Operators that create a table, and those that name one: from a version that creates none, or one
-- that no later operator names, the tables of a later version need not be read.
use Rattle.std.specs.Prelude.{◌≡◌, ◌≤◌, ℕ, Bool, true, false, List, [], ◌∷◌, Some, slice_get, ⊤}
use Rattle.schema_catalog.specs.Tables.{Tables}
use Rattle.smo_ops_types.specs.Operators.{Operator, nop, create_table, drop_table, rename_table}
use Rattle.smo_ops_types.specs.Operators.{copy_table, merge_table, partition_table, decompose_table}
use Rattle.smo_ops_types.specs.Operators.{join_table, add_column, drop_column, rename_column}
use Rattle.smo_ops_types.specs.Commands.{PlainVersion}
use Rattle.smo_ops_spec.specs.Preconditions.{among}
use Rattle.smo_ops_spec.specs.Touching.{makes, consumes, made_of}

-- the operator creates a table, one of these
abbrev pub creates_one : (List ℕ → Bool) → Operator → Bool
creates_one these nop = false
creates_one these (create_table r cs) = these r
creates_one these (drop_table r) = false
creates_one these (rename_table r t) = false
creates_one these (copy_table r t) = false
creates_one these (merge_table r s t) = false
creates_one these (partition_table r s c t) = false
creates_one these (decompose_table r s xs t ys) = false
creates_one these (join_table r s t c) = false
creates_one these (add_column c e r) = false
creates_one these (drop_column c r) = false
creates_one these (rename_column b r c) = false

abbrev pub creates : Operator → Bool
creates op = creates_one (λ n. true) op

-- the operator neither makes nor consumes the table, and makes nothing of it
pub record LeavesOut (op : Operator) (n : List ℕ) : Type 0 where
  pub makes : (tables : Tables) → makes tables op n ≡ false
  pub consumes : (tables : Tables) → consumes tables op n ≡ false
  pub reads : among n (made_of op) ≡ false

-- and so does each of several
abbrev pub AllLeaveOut : List Operator → List ℕ → Type 0
AllLeaveOut [] n = ⊤
AllLeaveOut (op ∷ ops) n = LeavesOut op n × AllLeaveOut ops n

-- the operators behind version k leave the table out
abbrev pub LeaveOut : List PlainVersion → ℕ → List ℕ → Type 0
LeaveOut versions k n = (j : ℕ) → k ≤ j → (v : PlainVersion) → slice_get versions j ≡ Some v
    → AllLeaveOut v.op n

-- they do so with each name that is not one of these
abbrev pub NameAll : (List ℕ → Bool) → List PlainVersion → ℕ → Type 0
NameAll these versions k = (n : List ℕ) → these n ≡ false → LeaveOut versions k n
