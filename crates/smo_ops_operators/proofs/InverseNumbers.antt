-- The numbers of an inverse's operators.
use Rattle.std.proofs.Common.{◌≡◌, ◌≤◌, ◌<◌, ◌+◌, ℕ, suc, Result, Ok, Err, List, [], ◌∷◌, length}
use Rattle.std.proofs.Common.{arith}
use Rattle.std.specs.Prelude.{Option, Some, None}
use Rattle.std.specs.Option.{option_map}
use Rattle.std.proofs.lemmas.List.{length-map}
use Rattle.prima_base.specs.declared.refusal.OpRefusal.{OpRefusal}
use Rattle.prima_base.specs.declared.refusal.Refusal.TheVariants.{InverseMisses, InverseOp}
use Rattle.schema_catalog.specs.Tables.{Tables}
use Rattle.smo_ops_types.specs.declared.op.Op.{Op}
use Rattle.smo_ops_types.specs.declared.op.InverseFault.{InverseFault}
use Rattle.smo_ops_types.specs.declared.op.InverseFault.TheVariants.{Op as Refused, Misses}
use Rattle.smo_ops_types.specs.declared.op.InverseFault.TheVariants.{NoMemory}
use Rattle.smo_ops_types.specs.Operators.{Operator, operator_of, operators_of, evolutions_of}
use Rattle.smo_ops_spec.specs.First.{first_refusal}
use Rattle.smo_ops_spec.specs.Evolutions.{schema_after_each, evolution_fault}
use Rattle.smo_ops_spec.specs.Inverses.{first_difference, way_back, IsInverse, IsNumbered}

-- the number of an operator that is refused
numbered_from : (goal now : Tables) (i : ℕ) (ops : List (List Operator)) (k : ℕ) (r : OpRefusal)
    → first_refusal (way_back goal now i ops) ≡ Some (InverseOp k r)
    → (i ≤ k) × (k < i + length ops)
numbered_from goal now i [] k r e = step (first_difference goal now) e
  where
    step : (d : Option (List ℕ)) → first_refusal (option_map InverseMisses d ∷ [])
        ≡ Some (InverseOp k r) → (i ≤ k) × (k < i + 0)
    step None h = absurd (cc)
    step (Some n) h = absurd (cc)
numbered_from goal now i (op ∷ ops) k r e = step
    (numbered_from goal (schema_after_each now op) (i + 1) ops k r) (evolution_fault now op) e
  where
    step : (first_refusal (way_back goal (schema_after_each now op) (i + 1) ops) ≡ Some (InverseOp k r)
        → (i + 1 ≤ k) × (k < (i + 1) + length ops)) → (f : Option OpRefusal)
        → first_refusal (option_map (InverseOp i) f
        ∷ way_back goal (schema_after_each now op) (i + 1) ops) ≡ Some (InverseOp k r) → (i ≤ k)
        × (k < i + suc (length ops))
    step more None h = (let m = more h in (omega arith, omega arith))
    step more (Some q) h = (let same : i ≡ k = cc in (omega arith, omega arith))

pub numbered : (goal now : Tables) (ops : List Op) (answer : Result (Unit {0}) InverseFault)
    → IsInverse (first_refusal (way_back goal now 1 (evolutions_of ops))) answer
    → IsNumbered (length ops) answer
numbered goal now ops (Ok u) h = tt
numbered goal now ops (Err (Refused i r)) h =
    let n = numbered_from goal now 1 (evolutions_of ops) i r h in
    let l = length-map ops operator_of in
    let m = length-map (operators_of ops) (λ (o : Operator). o ∷ []) in
    (omega arith, omega arith)
numbered goal now ops (Err (Misses n)) h = tt
numbered goal now ops (Err NoMemory) h = tt
