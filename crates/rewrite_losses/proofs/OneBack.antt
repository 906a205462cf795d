-- Back over one operator by its derived inverse.
use Rattle.std.proofs.Common.{◌≡◌, ◌≤◌, ℕ, List, [], ◌∷◌, length, refl, sym, ap, subst, ◌∙◌}
use Rattle.std.proofs.Common.{arith}
use Rattle.std.specs.Prelude.{Option, Some, None}
use Rattle.std.proofs.lemmas.Option.{same_Some}
use Rattle.schema_catalog.specs.Tables.{Tables}
use Rattle.smo_ops_types.specs.declared.op.Op.{Op}
use Rattle.smo_ops_types.specs.Operators.{Operator, operators_of, evolutions_of}
use Rattle.smo_ops_spec.specs.Losses.{Loss}
use Rattle.smo_ops_spec.specs.After.{op_fault, schema_after, IsValid}
use Rattle.smo_ops_spec.specs.WaysBack.{WayBack, by_inverse, by_filling, no_way, way_back_over}
use Rattle.smo_ops_spec.specs.WaysBack.{derived}
use Rattle.smo_ops_spec.proofs.OneMembers.{members_of_ones}
use Rattle.smo_ops_versions_spec.specs.TableColumns.{HaveColumns}
use Rattle.smo_ops_spec.specs.WaysBack.{operator_of_way, WayLeadsBack}
use Rattle.smo_ops_versions_spec.specs.Ways.{step_by, step_back, back_over}
use Rattle.smo_ops_versions_spec.specs.Steps.{carrying_each, taken}
use Rattle.smo_ops_versions_spec.specs.ColumnLosses.{Losses}
use Rattle.smo_ops_versions_spec.specs.LostNames.{losses_over, losses_stepped}
use Rattle.smo_ops_versions_spec.proofs.WayLeads.{each_leads_back}
use Rattle.rewrite_losses.specs.TableLosses.{IsByInverse}

-- what is so of the inverse
pub record IsInverseOf (before : Tables) (op back : Operator) : Type 0 where
  pub accepted : op_fault (schema_after before op) back ≡ None
  pub leads : schema_after (schema_after before op) back ≡ before
  pub losses : (loss : Loss) (losses : Losses) → losses_stepped (step_back loss before op) losses
      ≡ losses_over (schema_after before op) back losses

module _ (before : Tables) (op : Operator) where
  of_way : (way : WayBack) → IsByInverse way → WayLeadsBack before op way → (back : Operator)
      → Some back ≡ operator_of_way way
      → ((loss : Loss) (losses : Losses) → losses_stepped (step_back loss before op) losses
      ≡ losses_stepped (step_by loss before op way) losses) → IsInverseOf before op back
  of_way (by_inverse d) i l back e h =
      subst (IsInverseOf before op) (sym (same_Some back d e))
      (record { accepted = l.accepted; leads = l.leads; losses = h })
  of_way (by_filling f) i l back e h = absurd i
  of_way no_way i l back e h = absurd i

  pub inverse_of : (back : Operator) → IsValid before → HaveColumns before
      → op_fault before op ≡ None → IsByInverse (way_back_over before op)
      → Some back ≡ derived before op → IsInverseOf before op back
  inverse_of back h s e i d = of_way (way_back_over before op) i (each_leads_back before op h s e)
      back d
      (λ loss losses. refl)

  no_inverse : (way : WayBack) → IsByInverse way
      → ◌≡◌ {A = Option Operator} None (operator_of_way way)
      → ⊥
  no_inverse (by_inverse d) i e = (cc)
  no_inverse (by_filling f) i e = i
  no_inverse no_way i e = i

  pub some_inverse : IsByInverse (way_back_over before op)
      → ◌≡◌ {A = Option Operator} None (derived before op) → ⊥
  some_inverse i e = no_inverse (way_back_over before op) i e

-- over the operators of an inverse, each of them one member
pub back_named : (k : ℕ) (before : Tables) (op : List Operator) (after : Tables) (ops : List Op)
    (l : Losses) → 1 ≤ length ops
    → taken losses_stepped (carrying_each after (operators_of ops)) l
    ≡ taken losses_stepped (back_over k before op after (evolutions_of ops)) l
back_named k before op after [] l h = absurd (omega (arith, h))
back_named k before op after (x ∷ ops) l h =
    ap (λ (members : List Operator). taken losses_stepped (carrying_each after members) l)
    (sym (members_of_ones (operators_of (x ∷ ops))))

-- what is lost over it is what is lost back over the operator
pub told : (before : Tables) (op : Operator) (after : Tables) (back : Operator) (loss : Loss)
    (losses new : Losses) → after ≡ schema_after before op → IsInverseOf before op back
    → new ≡ losses_over after back losses → new ≡ losses_stepped (step_back loss before op) losses
told before op after back loss losses new e i h = h
    ∙ ap (λ (t : Tables). losses_over t back losses) e ∙ sym (i.losses loss losses)
