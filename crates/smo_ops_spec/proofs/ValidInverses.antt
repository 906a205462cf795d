-- An inverse that is not refused: each of its operators is accepted on the schema that stands then,
-- and the last schema is the one before.
use Rattle.std.proofs.Common.{◌≡◌, ◌+◌, ℕ, List, [], ◌∷◌, sym}
use Rattle.std.specs.Prelude.{None}
use Rattle.std.specs.Option.{option_map}
use Rattle.prima_base.specs.declared.refusal.Refusal.TheVariants.{InverseMisses, InverseOp}
use Rattle.schema_catalog.specs.Tables.{Tables}
use Rattle.smo_ops_types.specs.Operators.{Operator}
use Rattle.smo_ops_spec.specs.First.{first_refusal}
use Rattle.smo_ops_spec.specs.Evolutions.{schema_after_each, evolution_fault}
use Rattle.smo_ops_spec.specs.Inverses.{first_difference, way_back, inverse_fault, schema_after_all}
use Rattle.smo_ops_spec.specs.Inverses.{AllAcceptedInTurn}
use Rattle.smo_ops_spec.proofs.Firsts.{none_of_first, none_mapped}
use Rattle.smo_ops_spec.proofs.InverseLaws.{differs_nowhere}

leads_back : (before now : Tables) (i : ℕ) (ops : List (List Operator))
    → first_refusal (way_back before now i ops) ≡ None
    → AllAcceptedInTurn now ops × (schema_after_all now ops ≡ before)
leads_back before now i [] e = (
  tt,
  sym (differs_nowhere before now (none_mapped InverseMisses (first_difference before now)
      (none_of_first (option_map InverseMisses (first_difference before now)) [] e).0)),
)
leads_back before now i (op ∷ ops) e =
    let h = none_of_first (option_map (InverseOp i) (evolution_fault now op))
    (way_back before (schema_after_each now op) (i + 1) ops) e in
    let r = leads_back before (schema_after_each now op) (i + 1) ops h.1 in
    ((none_mapped (InverseOp i) (evolution_fault now op) h.0, r.0), r.1)

pub accepted_leads_back : (before : Tables) (op x : List Operator) (inverse : List (List Operator))
    → inverse_fault before op (x ∷ inverse) ≡ None
    → AllAcceptedInTurn (schema_after_each before op) (x ∷ inverse)
    × (schema_after_all (schema_after_each before op) (x ∷ inverse) ≡ before)
accepted_leads_back before op x inverse e = leads_back before (schema_after_each before op) 1
    (x ∷ inverse) e
