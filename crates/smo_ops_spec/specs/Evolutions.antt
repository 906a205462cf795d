-- What is after the members of an operator, one after the other.
use Rattle.std.specs.Prelude.{◌≡◌, ◌<◌, ◌^◌, ℕ, ◌+◌, List, [], ◌∷◌, ◌++◌, Bool, false, ◌||◌}
use Rattle.std.specs.Prelude.{Option, None, Result, ⊤}
use Rattle.std.specs.Option.{option_map, option_or}
use Rattle.prima_base.specs.declared.refusal.OpRefusal.{OpRefusal}
use Rattle.prima_base.specs.declared.refusal.OpRefusal.TheVariants.{WrongType}
use Rattle.prima_base.specs.declared.fault.CallFault.{CallFault}
use Rattle.prima_base.specs.Faults.{IsTestedAs}
use Rattle.schema_catalog.specs.Tables.{Tables}
use Rattle.schema_catalog.specs.Databases.{Database}
use Rattle.cond_expr.specs.Sizes.{nodes_of, test_nodes}
use Rattle.smo_ops_types.specs.Operators.{Operator, partition_table, join_table}
use Rattle.smo_ops_types.specs.Operators.{add_column}
use Rattle.smo_ops_spec.specs.Touching.{makes, consumes}
use Rattle.smo_ops_spec.specs.After.{op_fault, schema_after, migrate}

-- the schema after operators, one after the other
abbrev pub schema_after_each : Tables → List Operator → Tables
schema_after_each now [] = now
schema_after_each now (op ∷ ops) = schema_after_each (schema_after now op) ops

-- and the database over it
abbrev pub carried_each : Tables → List Operator → Database → Database
carried_each now [] db = db
carried_each now (op ∷ ops) db = carried_each (schema_after now op) ops (migrate now op db)

-- each operator is accepted on the schema that stands then
abbrev pub AllOperatorsAccepted : Tables → List Operator → Type 0
AllOperatorsAccepted now [] = ⊤
AllOperatorsAccepted now (op ∷ ops) = (op_fault now op ≡ None)
    × AllOperatorsAccepted (schema_after now op) ops

-- ---- the first member that is refused, with the nodes counted through all of them

abbrev pub operator_nodes : Operator → ℕ
operator_nodes (partition_table r s c t) = test_nodes c
operator_nodes (join_table r s t c) = test_nodes c
operator_nodes (add_column c e r) = nodes_of e
operator_nodes op = 0

-- a refusal of a member whose first node is node `at`
abbrev pub counted_from : ℕ → OpRefusal → OpRefusal
counted_from at (WrongType place) = WrongType (at + place)
counted_from at refusal = refusal

abbrev pub members_fault : Tables → ℕ → List Operator → Option OpRefusal
members_fault now at [] = None
members_fault now at (op ∷ ops) = option_or (option_map (counted_from at) (op_fault now op))
    (members_fault (schema_after now op) (at + operator_nodes op) ops)

abbrev pub evolution_fault : Tables → List Operator → Option OpRefusal
evolution_fault now ops = members_fault now 0 ops

-- what is answered of operators one after the other
abbrev pub IsAfterEach : Tables → List Operator → Result Tables (CallFault OpRefusal) → Type 0
IsAfterEach tables ops answer =
    IsTestedAs (λ next. next ≡ schema_after_each tables ops) (evolution_fault tables ops) answer

-- ---- several of these, one after the other

abbrev pub members_of_all : List (List Operator) → List Operator
members_of_all [] = []
members_of_all (evolution ∷ evolutions) = evolution ++ members_of_all evolutions

-- ---- the tables that members make and consume

abbrev pub one_makes : Tables → List Operator → List ℕ → Bool
one_makes now [] n = false
one_makes now (op ∷ ops) n = makes now op n || one_makes (schema_after now op) ops n

abbrev pub one_consumes : Tables → List Operator → List ℕ → Bool
one_consumes now [] n = false
one_consumes now (op ∷ ops) n = consumes now op n || one_consumes (schema_after now op) ops n

-- the nodes of all members
abbrev pub members_nodes : List Operator → ℕ
members_nodes [] = 0
members_nodes (op ∷ ops) = operator_nodes op + members_nodes ops

-- the number of each node fits a refusal
abbrev pub HaveFewInAll : List (List Operator) → Type 0
HaveFewInAll [] = ⊤
HaveFewInAll (op ∷ ops) = (members_nodes op < 2 ^ 32) × HaveFewInAll ops
