-- The way along versions leads from the tables of its first version to those of its last one, by
-- lawful steps.
use Rattle.std.proofs.Common.{◌≡◌, ◌+◌, ◌-◌, ℕ, zero, suc, Bool, true, false, List, [], ◌∷◌, refl}
use Rattle.std.proofs.Common.{sym, subst, ◌∙◌, arith}
use Rattle.std.specs.Prelude.{nat_le, if◌then◌else◌, Option, Some, None, slice_get}
use Rattle.prima_base.specs.declared.value.ColType.{ColType}
use Rattle.prima_base.specs.declared.value.ColType.TheVariants.{Int as INT, Text as TEXT}
use Rattle.schema_catalog.specs.Tables.{Tables}
use Rattle.cond_expr.specs.Kinds.{value_kind}
use Rattle.smo_ops_types.specs.Operators.{Operator, nop, create_table, drop_table, rename_table}
use Rattle.smo_ops_types.specs.Operators.{copy_table, merge_table, partition_table, decompose_table}
use Rattle.smo_ops_types.specs.Operators.{join_table, add_column, drop_column, rename_column}
use Rattle.smo_ops_types.specs.Commands.{PlainVersion}
use Rattle.smo_ops_spec.specs.After.{op_fault, schema_after, IsValid}
use Rattle.smo_ops_spec.specs.Inverses.{inverse_fault, schema_after_all, AllAcceptedInTurn}
use Rattle.smo_ops_spec.specs.Evolutions.{schema_after_each, AllOperatorsAccepted, members_of_all}
use Rattle.std.specs.FinMap.{get}
use Rattle.smo_ops_spec.specs.Effects.{columns_of}
use Rattle.smo_ops_spec.specs.Losses.{Loss}
use Rattle.smo_ops_spec.specs.WaysBack.{WayBack, by_inverse, by_filling, no_way, way_back_over}
use Rattle.smo_ops_spec.specs.WaysBack.{blank, WayLeadsBack}
use Rattle.smo_ops_spec.specs.Past.{no_tables, tables_from}
use Rattle.smo_ops_spec.specs.ValidPast.{AreVersions}
use Rattle.smo_ops_spec.proofs.NextSchemas.{next_is_valid, all_preconditions, is_table}
use Rattle.smo_ops_spec.proofs.MetPreconditions.{add_met}
use Rattle.smo_ops_spec.proofs.WholeTables.{found}
use Rattle.smo_ops_spec.proofs.PastSteps.{beginning_is_past}
use Rattle.smo_ops_spec.proofs.VersionsInTurn.{valid_from}
use Rattle.smo_ops_spec.proofs.ValidInverses.{accepted_leads_back}
use Rattle.smo_ops_spec.proofs.MemberLaws.{all_accepted, each_is_valid, schema_after_both}
use Rattle.smo_ops_spec.proofs.MemberLaws.{accepted_both}
use Rattle.smo_ops_versions_spec.specs.TableColumns.{HaveColumns}
use Rattle.smo_ops_versions_spec.specs.Steps.{carrying_each, Lead}
use Rattle.smo_ops_versions_spec.specs.Ways.{step_by, step_back, back_over_members, back_over}
use Rattle.smo_ops_versions_spec.specs.Ways.{over_version, back_over_version, to_next, from_next}
use Rattle.smo_ops_versions_spec.specs.Ways.{forward, backward, way}
use Rattle.smo_ops_versions_spec.proofs.StepLaws.{lead_both}
use Rattle.smo_ops_versions_spec.proofs.SomeColumns.{no_tables_have, columns_from, next_has_columns}
use Rattle.smo_ops_versions_spec.proofs.RoundTrips.{back_accepted, back_schema, copy_back_accepted}
use Rattle.smo_ops_versions_spec.proofs.RoundTrips.{copy_back_schema, merge_accepted, merge_schema}
use Rattle.smo_ops_versions_spec.proofs.WaysBackLaws.{create_back_accepted, create_back_schema}
use Rattle.smo_ops_versions_spec.proofs.WaysBackLaws.{add_back_accepted, add_back_schema}
use Rattle.smo_ops_versions_spec.proofs.WaysBackLaws.{fill_accepted}
use Rattle.smo_ops_versions_spec.proofs.WaysBackLaws.{fill_schema, rename_column_accepted}
use Rattle.smo_ops_versions_spec.proofs.WaysBackLaws.{rename_column_schema}
use Rattle.smo_ops_versions_spec.proofs.VersionSteps.{leads, stands}

pub carrying_leads : (tables : Tables) (ops : List Operator) → IsValid tables
    → AllOperatorsAccepted tables ops
    → Lead tables (carrying_each tables ops) (schema_after_each tables ops)
carrying_leads tables [] good a = refl
carrying_leads tables (op ∷ ops) good a = (
  record { valid = good; accepted = a.0 },
  refl,
  carrying_leads (schema_after tables op) ops
      (next_is_valid tables op good a.0) a.1,
)

-- ---- back over one operator

pub each_leads_back : (before : Tables) (op : Operator) → IsValid before → HaveColumns before
    → op_fault before op ≡ None → WayLeadsBack before op (way_back_over before op)
each_leads_back before nop good have a = record { accepted = refl; leads = refl }
each_leads_back before (create_table r cs) good have a = record {
  accepted = create_back_accepted before r cs a;
  leads = create_back_schema before r cs a;
}
each_leads_back before (drop_table r) good have a = tt
each_leads_back before (rename_table r t) good have a = record {
  accepted = back_accepted before r t a;
  leads = back_schema before r t a;
}
each_leads_back before (copy_table r t) good have a = record {
  accepted = copy_back_accepted before r t a;
  leads = copy_back_schema before r t a;
}
each_leads_back before (merge_table r s t) good have a = tt
each_leads_back before (partition_table r s c t) good have a = record {
  accepted = merge_accepted before r s t c a;
  leads = merge_schema before r s t c a;
}
each_leads_back before (decompose_table r s xs t ys) good have a = tt
each_leads_back before (join_table r s t c) good have a = tt
each_leads_back before (add_column c e r) good have a = record {
  accepted = add_back_accepted before c e r a (have r (columns_of before r)
      (sym (found (get before r)
      (is_table before r (add_met e (all_preconditions before (add_column c e r) a)).there))));
  leads = add_back_schema before c e r a;
}
each_leads_back before (drop_column c r) good have a = λ v k. record {
  accepted = fill_accepted before c r a v k good;
  leads = fill_schema before c r a v k good.schema;
}
each_leads_back before (rename_column b r c) good have a = record {
  accepted = rename_column_accepted before b r c a good;
  leads = rename_column_schema before b r c a good;
}

pub blank_kind : (k : ColType) → value_kind (blank k) ≡ k
blank_kind INT = refl
blank_kind TEXT = refl

pub step_leads : (loss : Loss) (before : Tables) (op : Operator) → IsValid before
    → HaveColumns before → op_fault before op ≡ None
    → Lead (schema_after before op) (step_back loss before op ∷ []) before
step_leads loss before op good have a =
    by_way (way_back_over before op) (each_leads_back before op good have a)
  where
    next : IsValid (schema_after before op)
    next = next_is_valid before op good a

    by_way : (way : WayBack) → WayLeadsBack before op way
        → Lead (schema_after before op) (step_by loss before op way ∷ []) before
    by_way (by_inverse d) h = (record { valid = next; accepted = h.accepted }, refl, h.leads)
    by_way (by_filling f) h =
        let filled = h (blank f.kind) (blank_kind f.kind) in
        (record { valid = next; accepted = filled.accepted }, refl, filled.leads)
    by_way no_way h = (record { valid = good; accepted = a }, refl, refl)

-- back over members, from the last to the first
members_lead : (k i : ℕ) (before : Tables) (ops : List Operator) → IsValid before
    → HaveColumns before → AllOperatorsAccepted before ops
    → Lead (schema_after_each before ops) (back_over_members k i before ops) before
members_lead k i before [] good have a = refl
members_lead k i before (op ∷ ops) good have a =
    lead_both (schema_after_each (schema_after before op) ops) (schema_after before op) before
    (back_over_members k (i + 1) (schema_after before op) ops) (step_back (k, i) before op ∷ [])
    (members_lead k (i + 1) (schema_after before op) ops (next_is_valid before op good a.0)
    (next_has_columns before op good.schema have a.0) a.1)
    (step_leads (k, i) before op good have a.0)

-- the members of the operators of an inverse
accepted_members : (now : Tables) (ops : List (List Operator)) → AllAcceptedInTurn now ops
    → AllOperatorsAccepted now (members_of_all ops)
    × (schema_after_each now (members_of_all ops) ≡ schema_after_all now ops)
accepted_members now [] a = (tt, refl)
accepted_members now (op ∷ ops) a =
    let r = accepted_members (schema_after_each now op) ops a.1 in (
      accepted_both now op (members_of_all ops) (all_accepted now op a.0) r.0,
      schema_after_both now op (members_of_all ops) ∙ r.1,
    )

back_leads_over : (k : ℕ) (before : Tables) (op : List Operator) (inverse : List (List Operator))
    → IsValid before → HaveColumns before → AllOperatorsAccepted before op
    → inverse_fault before op inverse ≡ None
    → Lead (schema_after_each before op) (back_over k before op (schema_after_each before op)
    inverse) before
back_leads_over k before op [] good have a i = members_lead k 1 before op good have a
back_leads_over k before op (x ∷ inverse) good have a i =
    let r = accepted_leads_back before op x inverse i in
    let m = accepted_members (schema_after_each before op) (x ∷ inverse) r.0 in
    subst (λ t. Lead (schema_after_each before op) (carrying_each (schema_after_each before op)
    (members_of_all (x ∷ inverse))) t) (m.1 ∙ r.1)
    (carrying_leads (schema_after_each before op) (members_of_all (x ∷ inverse))
    (each_is_valid before op good a) m.0)

module _ (versions : List PlainVersion) (are : AreVersions None no_tables versions) where
  abbrev at : ℕ → Tables
  at k = tables_from no_tables versions k

  pub valid_at : (k : ℕ) → IsValid (tables_from no_tables versions k)
  valid_at k = valid_from None no_tables versions k beginning_is_past.tables are

  pub columns_at : (k : ℕ) → HaveColumns (tables_from no_tables versions k)
  columns_at k = columns_from None no_tables versions k beginning_is_past.tables no_tables_have are

  pub next_leads : (k : ℕ) → Lead (tables_from no_tables versions k) (to_next versions k)
      (tables_from no_tables versions (k + 1))
  next_leads k = step (slice_get versions k) refl
    where
      step : (o : Option PlainVersion) → slice_get versions k ≡ o
          → Lead (at k) (over_version (at k) o) (at (k + 1))
      step None e = sym (stands no_tables versions k e)
      step (Some v) e =
          let s = leads None no_tables versions k v are e in
          subst (λ t. Lead (at k) (carrying_each (at k) v.op) t) (sym (s.next ∙ s.tables))
          (carrying_leads (at k) v.op (valid_at k) (all_accepted (at k) v.op s.accepted))

  pub back_leads : (k : ℕ) → Lead (tables_from no_tables versions (k + 1)) (from_next versions k)
      (tables_from no_tables versions k)
  back_leads k = step (slice_get versions k) refl
    where
      step : (o : Option PlainVersion) → slice_get versions k ≡ o
          → Lead (at (k + 1)) (back_over_version (k + 1) (at k) o) (at k)
      step None e = stands no_tables versions k e
      step (Some v) e =
          let s = leads None no_tables versions k v are e in
          subst (λ t. Lead t (back_over (k + 1) (at k) v.op v.tables v.inverse) (at k))
          (sym (s.next ∙ s.tables))
          (subst (λ t. Lead (schema_after_each (at k) v.op) (back_over (k + 1) (at k) v.op t v.inverse)
          (at k)) (sym s.tables)
          (back_leads_over (k + 1) (at k) v.op v.inverse (valid_at k) (columns_at k)
          (all_accepted (at k) v.op s.accepted) s.inverse))

  forward_leads : (v n : ℕ) → Lead (at v) (forward (to_next versions) v n) (at (v + n))
  forward_leads v zero = (let here : v ≡ v + 0 = omega arith in
      subst (λ (k : ℕ). at v ≡ at k) here refl)
  forward_leads v (suc n) =
      let further : v + n + 1 ≡ v + suc n = omega arith in
      subst (λ (k : ℕ). Lead (at v) (forward (to_next versions) v (suc n)) (at k)) further
      (lead_both (at v) (at (v + n)) (at (v + n + 1)) (forward (to_next versions) v n)
      (to_next versions (v + n)) (forward_leads v n) (next_leads (v + n)))

  backward_leads : (q n : ℕ) → Lead (at (q + n)) (backward (from_next versions) q n) (at q)
  backward_leads q zero = (let here : q ≡ q + 0 = omega arith in
      subst (λ (k : ℕ). at k ≡ at q) here refl)
  backward_leads q (suc n) =
      let further : q + 1 + n ≡ q + suc n = omega arith in
      subst (λ (k : ℕ). Lead (at k) (backward (from_next versions) q (suc n)) (at q)) further
      (lead_both (at (q + 1 + n)) (at (q + 1)) (at q) (backward (from_next versions) (q + 1) n)
      (from_next versions q) (backward_leads (q + 1) n) (back_leads q))

  pub way_leads : (v q : ℕ) → Lead (tables_from no_tables versions v) (way versions v q)
      (tables_from no_tables versions q)
  way_leads v q = step (nat_le v q) refl
    where
      ahead : nat_le v q ≡ true → v + (q - v) ≡ q
      ahead e = grind (arith, e)

      after_it : nat_le v q ≡ false → q + (v - q) ≡ v
      after_it e = grind (arith, e)

      step : (b : Bool) → nat_le v q ≡ b → Lead (at v) (if b then forward (to_next versions) v
          (q - v) else backward (from_next versions) q (v - q)) (at q)
      step true e = subst (λ (k : ℕ). Lead (at v) (forward (to_next versions) v (q - v)) (at k))
          (ahead e) (forward_leads v (q - v))
      step false e = subst (λ (k : ℕ). Lead (at k) (backward (from_next versions) q (v - q)) (at q))
          (after_it e) (backward_leads q (v - q))
