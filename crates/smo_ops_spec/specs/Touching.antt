-- The tables that an operator makes and consumes, by their names.
use Rattle.std.specs.Prelude.{ℕ, List, [], ◌∷◌, Bool, Option, Some, None}
use Rattle.schema_catalog.specs.Tables.{Tables}
use Rattle.smo_ops_types.specs.Operators.{Operator, nop, create_table, drop_table, rename_table}
use Rattle.smo_ops_types.specs.Operators.{copy_table, merge_table, partition_table, decompose_table}
use Rattle.smo_ops_types.specs.Operators.{join_table, add_column, drop_column, rename_column}
use Rattle.smo_ops_spec.specs.Preconditions.{among}
use Rattle.smo_ops_spec.specs.OperatorTable.{line, made_names}

-- the operator makes the table of this name
abbrev pub makes : Tables → Operator → List ℕ → Bool
makes tables op n = among n (made_names (line tables op).made)

-- the operator consumes it
abbrev pub consumes : Tables → Operator → List ℕ → Bool
consumes tables op n = among n (line tables op).consumed

-- at most two names, in their order
abbrev pub these_names : Option (List ℕ) → Option (List ℕ) → List (List ℕ)
these_names None second = []
these_names (Some a) None = a ∷ []
these_names (Some a) (Some b) = a ∷ b ∷ []

-- the tables of whose rows the operator makes what it makes, in the order in which it names them.
-- DROP TABLE names one, and makes nothing of it
abbrev pub made_of : Operator → List (List ℕ)
made_of nop = []
made_of (create_table r cs) = []
made_of (drop_table r) = []
made_of (rename_table r t) = r ∷ []
made_of (copy_table r t) = r ∷ []
made_of (merge_table r s t) = r ∷ s ∷ []
made_of (partition_table r s c t) = r ∷ []
made_of (decompose_table r s xs t ys) = r ∷ []
made_of (join_table r s t c) = r ∷ s ∷ []
made_of (add_column c e r) = r ∷ []
made_of (drop_column c r) = r ∷ []
made_of (rename_column b r c) = r ∷ []
