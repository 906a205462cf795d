-- A list of one operator: what is refused, made, consumed and counted of it is what is of its one
-- member; and lists of one, one after the other, are as their members.
use Rattle.std.proofs.Common.{◌≡◌, ℕ, Bool, true, false, List, [], ◌∷◌, ◌++◌, map, refl, sym}
use Rattle.std.proofs.Common.{ap, ◌∙◌, arith}
use Rattle.std.specs.Prelude.{◌||◌, Option, Some, None}
use Rattle.std.specs.Option.{option_map, option_or}
use Rattle.prima_base.specs.declared.refusal.OpRefusal.{OpRefusal}
use Rattle.prima_base.specs.declared.refusal.OpRefusal.TheVariants.{Exists, NoTable, ColumnExists}
use Rattle.prima_base.specs.declared.refusal.OpRefusal.TheVariants.{NoColumn, ColumnsDiffer}
use Rattle.prima_base.specs.declared.refusal.OpRefusal.TheVariants.{BadCover, LastColumn, SameTable}
use Rattle.prima_base.specs.declared.refusal.OpRefusal.TheVariants.{WrongType, TooMany}
use Rattle.schema_catalog.specs.Tables.{Tables}
use Rattle.smo_ops_types.specs.Operators.{Operator}
use Rattle.smo_ops_spec.specs.After.{op_fault, schema_after, HaveFewNodes, AllHaveFewNodes}
use Rattle.smo_ops_spec.specs.Touching.{makes, consumes}
use Rattle.smo_ops_spec.specs.Evolutions.{schema_after_each, AllOperatorsAccepted, counted_from}
use Rattle.smo_ops_spec.specs.Evolutions.{evolution_fault, members_of_all, one_makes, one_consumes}
use Rattle.smo_ops_spec.specs.Inverses.{schema_after_all, AllAcceptedInTurn}
use Rattle.smo_ops_spec.specs.Counts.{Excess, operator_counts, evolution_counts}
use Rattle.smo_ops_spec.specs.ValidValues.{OperatorsHold, AllOperatorsHold}

-- ---- one operator

counted_from_nought : (r : OpRefusal) → counted_from 0 r ≡ r
counted_from_nought (Exists t) = refl
counted_from_nought (NoTable t) = refl
counted_from_nought (ColumnExists t c) = refl
counted_from_nought (NoColumn t c) = refl
counted_from_nought (ColumnsDiffer r s) = refl
counted_from_nought (BadCover t) = refl
counted_from_nought (LastColumn t) = refl
counted_from_nought (SameTable t) = refl
counted_from_nought (WrongType p) = ap WrongType (omega arith)
counted_from_nought (TooMany w l) = refl

alone : (o : Option OpRefusal) → option_or (option_map (counted_from 0) o) None ≡ o
alone None = refl
alone (Some r) = ap Some (counted_from_nought r)

pub one_member_fault : (now : Tables) (op : Operator)
    → evolution_fault now (op ∷ []) ≡ op_fault now op
one_member_fault now op = alone (op_fault now op)

or_false : (b : Bool) → (b || false) ≡ b
or_false true = refl
or_false false = refl

pub one_makes_of_one : (now : Tables) (op : Operator) (n : List ℕ)
    → one_makes now (op ∷ []) n ≡ makes now op n
one_makes_of_one now op n = or_false (makes now op n)

pub one_consumes_of_one : (now : Tables) (op : Operator) (n : List ℕ)
    → one_consumes now (op ∷ []) n ≡ consumes now op n
one_consumes_of_one now op n = or_false (consumes now op n)

with_none : (counts : List Excess) → (counts ++ []) ≡ counts
with_none [] = refl
with_none (c ∷ counts) = ap (◌∷◌ c) (with_none counts)

pub counts_of_one : (op : Operator) → evolution_counts (op ∷ []) ≡ operator_counts op
counts_of_one op = with_none (operator_counts op)

-- ---- operators one after the other, each a list of one

pub members_of_ones : (ops : List Operator) → members_of_all (map (λ o. o ∷ []) ops) ≡ ops
members_of_ones [] = refl
members_of_ones (op ∷ ops) = ap (◌∷◌ op) (members_of_ones ops)

pub schema_after_ones : (now : Tables) (ops : List Operator)
    → schema_after_all now (map (λ o. o ∷ []) ops) ≡ schema_after_each now ops
schema_after_ones now [] = refl
schema_after_ones now (op ∷ ops) = schema_after_ones (schema_after now op) ops

pub accepted_ones : (now : Tables) (ops : List Operator)
    → AllAcceptedInTurn now (map (λ o. o ∷ []) ops) → AllOperatorsAccepted now ops
accepted_ones now [] a = tt
accepted_ones now (op ∷ ops) a = (
  sym (one_member_fault now op) ∙ a.0,
  accepted_ones (schema_after now op) ops a.1,
)

pub few_nodes_of_ones : (ops : List Operator) → AllHaveFewNodes (map (λ o. o ∷ []) ops)
    → HaveFewNodes ops
few_nodes_of_ones [] h = tt
few_nodes_of_ones (op ∷ ops) h = (h.0.0, few_nodes_of_ones ops h.1)

pub ones_have_few_nodes : (ops : List Operator) → HaveFewNodes ops
    → AllHaveFewNodes (map (λ o. o ∷ []) ops)
ones_have_few_nodes [] h = tt
ones_have_few_nodes (op ∷ ops) h = ((h.0, tt), ones_have_few_nodes ops h.1)

pub held_of_ones : (ops : List Operator) → AllOperatorsHold (map (λ o. o ∷ []) ops)
    → OperatorsHold ops
held_of_ones [] h = tt
held_of_ones (op ∷ ops) h = (h.0.0, held_of_ones ops h.1)

pub ones_hold : (ops : List Operator) → OperatorsHold ops
    → AllOperatorsHold (map (λ o. o ∷ []) ops)
ones_hold [] h = tt
ones_hold (op ∷ ops) h = ((h.0, tt), ones_hold ops h.1)
