-- The ways of versions with one more.
use Rattle.std.proofs.Common.{◌≡◌, ◌+◌, ◌-◌, ◌<◌, ◌≤◌, ℕ, zero, suc, List, [], ◌∷◌, ◌++◌, map}
use Rattle.std.proofs.Common.{length}
use Rattle.std.proofs.Common.{get_or, refl, sym, ap, subst, ◌∙◌, arith}
use Rattle.std.specs.Prelude.{Some, None, slice_get}
use Rattle.schema_catalog.specs.Tables.{Tables}
use Rattle.smo_ops_types.specs.declared.version.Version.{Version}
use Rattle.smo_ops_types.specs.Operators.{Operator, operator_of, operators_of}
use Rattle.smo_ops_types.specs.Operators.{evolution_of, evolutions_of}
use Rattle.smo_ops_types.specs.Commands.{PlainVersion, version_of}
use Rattle.smo_ops_spec.specs.After.{HaveFewNodes}
use Rattle.smo_ops_spec.specs.Evolutions.{schema_after_each, AllOperatorsAccepted}
use Rattle.smo_ops_spec.specs.Inverses.{inverse_fault, AllAcceptedInTurn}
use Rattle.smo_ops_spec.specs.Past.{no_tables, tables_from, newest_from}
use Rattle.smo_ops_spec.specs.ValidPast.{AreVersions}
use Rattle.smo_ops_spec.proofs.CountedOperators.{counted_inverse}
use Rattle.smo_ops_spec.proofs.PastMoments.{newest_tables_from, tables_added}
use Rattle.smo_ops_spec.proofs.ValidInverses.{accepted_leads_back}
use Rattle.smo_ops_spec.proofs.OneMembers.{accepted_ones, few_nodes_of_ones}
use Rattle.smo_ops_operators.proofs.VersionPlaces.{version_at_place}
use Rattle.smo_ops_versions_spec.specs.Steps.{Step, carrying_each, taken}
use Rattle.smo_ops_versions_spec.specs.Ways.{back_over, over_version, back_over_version, to_next}
use Rattle.smo_ops_widths.specs.Widths.{widths_over, widths_stepped, widths_of}
use Rattle.smo_ops_widths.specs.Widths.{own_widths, with_version}
use Rattle.smo_ops_versions_spec.proofs.VersionSteps.{Leads, leads}
use Rattle.smo_ops_versions_spec.proofs.WaySteps.{taken_stays, taken_forward, taken_backward}

-- ---- the versions before the last one

prefix_tables : (before : Tables) (vs more : List PlainVersion) (k : ℕ) → k ≤ length vs
    → tables_from before (vs ++ more) k ≡ tables_from before vs k
prefix_tables before [] [] zero l = refl
prefix_tables before [] (w ∷ more) zero l = refl
prefix_tables before [] more (suc k) l = absurd (omega (arith, l))
prefix_tables before (v ∷ vs) more zero l = refl
prefix_tables before (v ∷ vs) more (suc k) l = prefix_tables v.tables vs more k (omega (arith, l))

prefix_version : (vs more : List PlainVersion) (k : ℕ) → k < length vs
    → slice_get (vs ++ more) k ≡ slice_get vs k
prefix_version [] more k l = absurd (omega (arith, l))
prefix_version (v ∷ vs) more zero l = refl
prefix_version (v ∷ vs) more (suc k) l = prefix_version vs more k (omega (arith, l))

last_version : (vs : List PlainVersion) (v : PlainVersion)
    → slice_get (vs ++ v ∷ []) (length vs) ≡ Some v
last_version [] v = refl
last_version (w ∷ vs) v = last_version vs v

mapped : (vs : List Version) → length (map version_of vs) ≡ length vs
mapped [] = refl
mapped (v ∷ vs) = ap suc (mapped vs)

-- ---- forward

pub on_step : (vs : List Version) (k : ℕ) (v : Version) (before : Tables) (stored : ℕ)
    → k < length vs → v ≡ get_or vs k v → before ≡ tables_from no_tables (map version_of vs) k
    → stored ≤ k
    → widths_over before (operator_of v.op) (widths_of (map version_of vs) stored k)
    ≡ widths_of (map version_of vs) stored (k + 1)
on_step vs k v before stored l e b low =
    ap (λ (t : Tables). widths_over t (operator_of v.op) (widths_of (map version_of vs) stored k)) b
    ∙ sym (ap (λ o. taken widths_stepped (over_version
    (tables_from no_tables (map version_of vs) k) o) (widths_of (map version_of vs) stored k))
    (version_at_place vs k v l e))
    ∙ sym (taken_forward (map version_of vs) widths_stepped stored k
    (own_widths (tables_from no_tables (map version_of vs) stored)) low)

-- ---- back

pub back_step : (vs : List Version) (k : ℕ) (v : Version) (before : Tables) (stored : ℕ)
    → k < length vs → v ≡ get_or vs k v → before ≡ tables_from no_tables (map version_of vs) k
    → k < stored
    → taken widths_stepped (back_over (k + 1) before (evolution_of v.op) v.schema
    (evolutions_of v.inverse.items)) (widths_of (map version_of vs) stored (k + 1))
    ≡ widths_of (map version_of vs) stored k
back_step vs k v before stored l e b low =
    ap (λ (t : Tables). taken widths_stepped (back_over (k + 1) t (evolution_of v.op) v.schema
    (evolutions_of v.inverse.items)) (widths_of (map version_of vs) stored (k + 1))) b
    ∙ sym (ap (λ o. taken widths_stepped (back_over_version (k + 1)
    (tables_from no_tables (map version_of vs) k) o)
    (widths_of (map version_of vs) stored (k + 1))) (version_at_place vs k v l e))
    ∙ sym (taken_backward (map version_of vs) widths_stepped stored k
    (own_widths (tables_from no_tables (map version_of vs) stored)) low)

-- ---- with one more

module _ (vs : List Version) (stamp : ℕ) (op : List Operator)
    (inverse : List (List Operator)) where
  abbrev plain : List PlainVersion
  plain = map version_of vs

  abbrev newest : Tables
  newest = newest_from no_tables (map version_of vs)

  abbrev pub new : PlainVersion
  new = record {
    stamp = stamp;
    op = op;
    inverse = inverse;
    tables =
        schema_after_each (newest_from no_tables (map version_of vs)) op;
  }

  abbrev all : List PlainVersion
  all = with_version (map version_of vs) stamp op inverse

  count : length (map version_of vs) ≡ length vs
  count = mapped vs

  pub all_count : length (with_version (map version_of vs) stamp op inverse) ≡ length vs + 1
  all_count = longer (map version_of vs) ∙ ap (λ (n : ℕ). n + 1) count
    where
      longer : (ps : List PlainVersion) → length (ps ++ new ∷ []) ≡ length ps + 1
      longer [] = refl
      longer (p ∷ ps) = (let more = longer ps in omega (arith, more))

  pub tables_before : (k : ℕ) → k ≤ length vs
      → tables_from no_tables (with_version (map version_of vs) stamp op inverse) k
      ≡ tables_from no_tables (map version_of vs) k
  tables_before k l = prefix_tables no_tables plain (new ∷ []) k (omega (arith, l, count))

  pub newest_here : tables_from no_tables (with_version (map version_of vs) stamp op inverse)
      (length vs) ≡ newest_from no_tables (map version_of vs)
  newest_here = tables_before (length vs) (omega arith)
      ∙ ap (tables_from no_tables plain) (sym count) ∙ newest_tables_from no_tables plain

  pub tables_last : tables_from no_tables (with_version (map version_of vs) stamp op inverse)
      (length vs + 1) ≡ schema_after_each (newest_from no_tables (map version_of vs)) op
  tables_last = (let further : length vs + 1 ≡ suc (length plain) = omega (arith, count) in
      ap (tables_from no_tables all) further ∙ tables_added no_tables plain new)

  pub new_here : slice_get (with_version (map version_of vs) stamp op inverse) (length vs)
      ≡ Some new
  new_here = ap (slice_get all) (sym count) ∙ last_version plain new

  pub version_here : (k : ℕ) (v : Version) → k < length vs → v ≡ get_or vs k v
      → slice_get (with_version (map version_of vs) stamp op inverse) k ≡ Some (version_of v)
  version_here k v l e = prefix_version plain (new ∷ []) k (omega (arith, l, count))
      ∙ version_at_place vs k v l e

  -- forward

  same_next : (k : ℕ) → k < length vs → to_next all k ≡ to_next plain k
  same_next k l = ap (λ (t : Tables). over_version t (slice_get all k)) (tables_before k
      (omega (arith, l)))
      ∙ ap (over_version (tables_from no_tables plain k))
      (prefix_version plain (new ∷ []) k (omega (arith, l, count)))

  same_on : (stored n : ℕ) → stored + n ≤ length vs
      → widths_of all stored (stored + n) ≡ widths_of plain stored (stored + n)
  same_on stored zero l =
      let end : stored + 0 ≡ stored = omega arith in
      ap (widths_of all stored) end
      ∙ taken_stays all widths_stepped stored (own_widths (tables_from no_tables all stored))
      ∙ ap own_widths (tables_before stored (omega (arith, l)))
      ∙ sym (taken_stays plain widths_stepped stored
      (own_widths (tables_from no_tables plain stored)))
      ∙ sym (ap (widths_of plain stored) end)
  same_on stored (suc n) l =
      let end : stored + suc n ≡ stored + n + 1 = omega arith in
      let low : stored ≤ stored + n = omega arith in
      let below : stored + n < length vs = omega (arith, l) in
      ap (widths_of all stored) end
      ∙ taken_forward all widths_stepped stored (stored + n)
      (own_widths (tables_from no_tables all stored)) low
      ∙ ap (λ (steps : List Step). taken widths_stepped steps (widths_of all stored (stored + n)))
      (same_next (stored + n) below)
      ∙ ap (taken widths_stepped (to_next plain (stored + n)))
      (same_on stored n (omega (arith, l)))
      ∙ sym (taken_forward plain widths_stepped stored (stored + n)
      (own_widths (tables_from no_tables plain stored)) low)
      ∙ sym (ap (widths_of plain stored) end)

  pub last_step : (before : Tables) (stored : ℕ) → stored ≤ length vs
      → before ≡ tables_from no_tables (map version_of vs) (length vs)
      → taken widths_stepped (carrying_each before op)
      (widths_of (map version_of vs) stored (length vs))
      ≡ widths_of (with_version (map version_of vs) stamp op inverse) stored (length vs + 1)
  last_step before stored l b =
      let end : stored + (length vs - stored) ≡ length vs = omega (arith, l) in
      let fits : stored + (length vs - stored) ≤ length vs = omega (arith, l) in
      ap (λ (t : Tables). taken widths_stepped (carrying_each t op)
      (widths_of plain stored (length vs)))
      (b ∙ sym (tables_before (length vs) (omega arith)))
      ∙ ap (taken widths_stepped (carrying_each (tables_from no_tables all (length vs)) op))
      (sym (ap (widths_of all stored) (sym end) ∙ same_on stored (length vs - stored) fits
      ∙ ap (widths_of plain stored) end))
      ∙ sym (ap (λ o. taken widths_stepped (over_version (tables_from no_tables all (length vs)) o)
      (widths_of all stored (length vs))) new_here)
      ∙ sym (taken_forward all widths_stepped stored (length vs)
      (own_widths (tables_from no_tables all stored)) l)

  -- back

  pub own_last : own_widths (schema_after_each (newest_from no_tables (map version_of vs)) op)
      ≡ widths_of (with_version (map version_of vs) stamp op inverse) (length vs + 1)
      (length vs + 1)
  own_last = ap own_widths (sym tables_last)
      ∙ sym (taken_stays all widths_stepped (length vs + 1)
      (own_widths (tables_from no_tables all (length vs + 1))))

  pub first_step_back : (next : Tables)
      → next ≡ schema_after_each (newest_from no_tables (map version_of vs)) op
      → taken widths_stepped (back_over (length vs + 1)
      (newest_from no_tables (map version_of vs)) op next inverse)
      (widths_of (with_version (map version_of vs) stamp op inverse) (length vs + 1)
      (length vs + 1))
      ≡ widths_of (with_version (map version_of vs) stamp op inverse) (length vs + 1) (length vs)
  first_step_back next n =
      let below : length vs < length vs + 1 = omega arith in
      ap (λ (t : Tables). taken widths_stepped (back_over (length vs + 1) newest op t inverse)
      (widths_of all (length vs + 1) (length vs + 1))) n
      ∙ sym (ap (λ (t : Tables). taken widths_stepped (back_over (length vs + 1) t op
      (schema_after_each newest op) inverse) (widths_of all (length vs + 1) (length vs + 1)))
      newest_here)
      ∙ sym (ap (λ o. taken widths_stepped (back_over_version (length vs + 1)
      (tables_from no_tables all (length vs)) o) (widths_of all (length vs + 1) (length vs + 1)))
      new_here)
      ∙ sym (taken_backward all widths_stepped (length vs + 1) (length vs)
      (own_widths (tables_from no_tables all (length vs + 1))) below)

  pub step_back : (k : ℕ) (v : Version) → k < length vs → v ≡ get_or vs k v
      → taken widths_stepped (back_over (k + 1)
      (tables_from no_tables (with_version (map version_of vs) stamp op inverse) k)
      (evolution_of v.op) v.schema (evolutions_of v.inverse.items))
      (widths_of (with_version (map version_of vs) stamp op inverse) (length vs + 1) (k + 1))
      ≡ widths_of (with_version (map version_of vs) stamp op inverse) (length vs + 1) k
  step_back k v l e =
      let below : k < length vs + 1 = omega (arith, l) in
      sym (ap (λ o. taken widths_stepped (back_over_version (k + 1)
      (tables_from no_tables all k) o) (widths_of all (length vs + 1) (k + 1)))
      (version_here k v l e))
      ∙ sym (taken_backward all widths_stepped (length vs + 1) k
      (own_widths (tables_from no_tables all (length vs + 1))) below)

-- the tables of the newest version
pub newest_at : (vs : List Version) → tables_from no_tables (map version_of vs) (length vs)
    ≡ newest_from no_tables (map version_of vs)
newest_at vs = ap (tables_from no_tables (map version_of vs)) (sym (mapped vs))
    ∙ newest_tables_from no_tables (map version_of vs)

-- ---- the inverses of versions

pub accepted_back : (before after : Tables) (op : List Operator) (inverse : List (List Operator))
    → after ≡ schema_after_each before op → inverse_fault before op inverse ≡ None
    → AllAcceptedInTurn after inverse
accepted_back before after op [] a i = tt
accepted_back before after op (x ∷ inverse) a i =
    subst (λ (t : Tables). AllAcceptedInTurn t (x ∷ inverse)) (sym a)
    (accepted_leads_back before op x inverse i).0

module _ (vs : List Version) (are : AreVersions None no_tables (map version_of vs)) (k : ℕ)
    (v : Version) (l : k < length vs) (e : v ≡ get_or vs k v) where
  pub version_leads : Leads (tables_from no_tables (map version_of vs) k)
      (tables_from no_tables (map version_of vs) (k + 1)) (version_of v)
  version_leads = leads None no_tables (map version_of vs) k (version_of v) are
      (version_at_place vs k v l e)

  pub version_few : HaveFewNodes (operators_of v.inverse.items)
  version_few = few_nodes_of_ones (operators_of v.inverse.items)
      (counted_inverse (evolution_of v.op) (evolutions_of v.inverse.items) version_leads.counted)

  pub version_accepted : AllOperatorsAccepted v.schema (operators_of v.inverse.items)
  version_accepted = accepted_ones v.schema (operators_of v.inverse.items)
      (accepted_back (tables_from no_tables (map version_of vs) k) v.schema (evolution_of v.op)
      (evolutions_of v.inverse.items) version_leads.tables version_leads.inverse)
