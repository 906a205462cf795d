-- Whether the operators of an inverse lead back: one after the other they are to be accepted, from
-- the schema after the operator on, and the schema after the last is to be the one before the
-- operator.
use Rattle.std.specs.Prelude.{◌≡◌, ◌≤◌, ℕ, ◌+◌, List, [], ◌∷◌, ◌++◌, Bool, true, false, not, Option}
use Rattle.std.specs.Prelude.{Some, None, Result, Ok, Err, ⊤}
use Rattle.std.specs.List.{find}
use Rattle.std.specs.Option.{option_map}
use Rattle.std.specs.FinMap.{get, keys}
use Rattle.relations_spec.specs.Sets.{set_of}
use Rattle.prima_base.specs.declared.refusal.OpRefusal.{OpRefusal}
use Rattle.prima_base.specs.declared.refusal.Refusal.TheVariants.{InverseMisses, InverseOp}
use Rattle.prima_base.specs.Order.{bytes_cmp}
use Rattle.prima_base.specs.Columns.{Column}
use Rattle.schema_catalog.specs.Tables.{Tables}
use Rattle.schema_catalog.specs.Differences.{IsFirstDifference}
use Rattle.smo_ops_types.specs.declared.op.InverseFault.{InverseFault}
use Rattle.smo_ops_types.specs.declared.op.InverseFault.TheVariants.{Op, Misses, NoMemory}
use Rattle.smo_ops_types.specs.Operators.{Operator}
use Rattle.smo_ops_spec.specs.First.{first_refusal}
use Rattle.smo_ops_spec.specs.Preconditions.{same_columns}
use Rattle.smo_ops_spec.specs.Evolutions.{schema_after_each, evolution_fault}
use Rattle.smo_ops_spec.specs.Checks.{Fault}

-- the same columns, or none on both sides
abbrev pub same_table : Option (List Column) → Option (List Column) → Bool
same_table None None = true
same_table None (Some ds) = false
same_table (Some cs) None = false
same_table (Some cs) (Some ds) = same_columns cs ds

-- the first name, in name order, under which the two differ
abbrev pub first_difference : Tables → Tables → Option (List ℕ)
first_difference a b = find (λ n. not (same_table (get a n) (get b n)))
    (set_of bytes_cmp (keys a ++ keys b))

-- the operators of an inverse one after the other, from `now` on, the first one number `i`; they
-- are to lead back to `before`
abbrev pub way_back : Tables → Tables → ℕ → List (List Operator) → List Fault
way_back before now i [] = option_map InverseMisses (first_difference before now) ∷ []
way_back before now i (op ∷ inverse) = option_map (InverseOp i) (evolution_fault now op)
    ∷ way_back before (schema_after_each now op) (i + 1) inverse

-- without operators no inverse is named
abbrev pub inverse_tests : Tables → List Operator → List (List Operator) → List Fault
inverse_tests before op [] = []
inverse_tests before op (x ∷ inverse) = way_back before (schema_after_each before op) 1
    (x ∷ inverse)

abbrev pub inverse_fault : Tables → List Operator → List (List Operator) → Fault
inverse_fault before op inverse = first_refusal (inverse_tests before op inverse)

-- what `check_inverse` answers
abbrev pub IsInverse : Fault → Result (Unit {0}) InverseFault → Type 0
IsInverse fault (Ok u) = fault ≡ None
IsInverse fault (Err (Op i refusal)) = fault ≡ Some (InverseOp i refusal)
IsInverse fault (Err (Misses name)) = fault ≡ Some (InverseMisses name)
IsInverse fault (Err NoMemory) = ⊤

-- the number of the operator that is refused is from 1 to how many there are
abbrev pub IsNumbered : ℕ → Result (Unit {0}) InverseFault → Type 0
IsNumbered count (Ok u) = ⊤
IsNumbered count (Err (Op i refusal)) = (1 ≤ i) × (i ≤ count)
IsNumbered count (Err (Misses name)) = ⊤
IsNumbered count (Err NoMemory) = ⊤

-- what is answered of operators one after the other: the last schema, where none is refused
abbrev pub IsInTurn : Tables → List (List Operator) → Result Tables InverseFault → Type 0
IsInTurn now ops (Ok last) = (goal : Tables) → first_refusal (way_back goal now 1 ops)
    ≡ option_map InverseMisses (first_difference goal last)
IsInTurn now ops (Err fault) = (goal : Tables)
    → IsInverse (first_refusal (way_back goal now 1 ops)) (Err fault)

-- the schema after the operators of an inverse
abbrev pub schema_after_all : Tables → List (List Operator) → Tables
schema_after_all now [] = now
schema_after_all now (op ∷ ops) = schema_after_all (schema_after_each now op) ops

-- each of them is accepted on the schema that stands then
abbrev pub AllAcceptedInTurn : Tables → List (List Operator) → Type 0
AllAcceptedInTurn now [] = ⊤
AllAcceptedInTurn now (op ∷ ops) = (evolution_fault now op ≡ None)
    × AllAcceptedInTurn (schema_after_each now op) ops

-- the operator after those `before` it is the first that is refused
pub record IsFirstRefused (now : Tables) (before : List (List Operator)) (op : List Operator)
    (refusal : OpRefusal) : Type 0 where
  pub accepted : AllAcceptedInTurn now before
  pub refused : evolution_fault (schema_after_all now before) op ≡ Some refusal

-- all are accepted, and do not lead back to `goal`: the name is the first under which the two
-- schemas differ
pub record IsMissed (goal now : Tables) (ops : List (List Operator)) (name : List ℕ) : Type 0 where
  pub accepted : AllAcceptedInTurn now ops
  pub differs : IsFirstDifference (get goal) (get (schema_after_all now ops)) name
