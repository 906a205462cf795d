-- What stands on the two sides of a version of the code.
use Rattle.std.proofs.Common.{◌≡◌, ◌+◌, ◌<◌, ℕ, List, [], ◌∷◌, map, length, get_or, sym, ap, subst}
use Rattle.std.proofs.Common.{◌∙◌}
use Rattle.std.specs.Prelude.{Some, None, slice_get}
use Rattle.schema_catalog.specs.Tables.{Tables}
use Rattle.smo_ops_types.specs.declared.version.Version.{Version}
use Rattle.smo_ops_types.specs.Operators.{Operator, operator_of, operators_of, evolution_of}
use Rattle.smo_ops_types.specs.Operators.{evolutions_of}
use Rattle.smo_ops_types.specs.Commands.{version_of}
use Rattle.smo_ops_spec.specs.After.{op_fault, schema_after, IsValid, HaveFewNodes}
use Rattle.smo_ops_spec.specs.Evolutions.{AllOperatorsAccepted}
use Rattle.smo_ops_spec.specs.Inverses.{inverse_fault, AllAcceptedInTurn}
use Rattle.smo_ops_spec.specs.Past.{no_tables, tables_from}
use Rattle.smo_ops_spec.specs.ValidPast.{AreVersions}
use Rattle.smo_ops_spec.proofs.CountedOperators.{counted_inverse}
use Rattle.smo_ops_spec.proofs.ValidInverses.{accepted_leads_back}
use Rattle.smo_ops_spec.proofs.OneMembers.{one_member_fault, accepted_ones, few_nodes_of_ones}
use Rattle.smo_ops_versions_spec.specs.TableColumns.{HaveColumns}
use Rattle.smo_ops_versions_spec.specs.Steps.{taken}
use Rattle.smo_ops_versions_spec.specs.Ways.{back_over, back_over_version, from_next}
use Rattle.smo_ops_versions_spec.specs.ColumnLosses.{Losses}
use Rattle.smo_ops_versions_spec.specs.LostNames.{losses_stepped}
use Rattle.smo_ops_versions_spec.proofs.VersionSteps.{Leads, leads}
use Rattle.smo_ops_versions_spec.proofs.WayLeads.{valid_at, columns_at}
use Rattle.smo_ops_operators.proofs.VersionPlaces.{version_at_place}

module _ (vs : List Version) (are : AreVersions None no_tables (map version_of vs)) (k : ℕ)
    (v : Version) (l : k < length vs) (e : v ≡ get_or vs k v) where
  abbrev at : ℕ → Tables
  at j = tables_from no_tables (map version_of vs) j

  pub here : slice_get (map version_of vs) k ≡ Some (version_of v)
  here = version_at_place vs k v l e

  pub sides : Leads (tables_from no_tables (map version_of vs) k)
      (tables_from no_tables (map version_of vs) (k + 1)) (version_of v)
  sides = leads None no_tables (map version_of vs) k (version_of v) are
      (version_at_place vs k v l e)

  -- before its operator

  pub step_valid : (before : Tables) → before ≡ at k → IsValid before
  step_valid before b = subst IsValid (sym b) (valid_at (map version_of vs) are k)

  pub step_columns : (before : Tables) → before ≡ at k → HaveColumns before
  step_columns before b = subst HaveColumns (sym b) (columns_at (map version_of vs) are k)

  pub step_accepted : (before : Tables) → before ≡ at k → op_fault before (operator_of v.op) ≡ None
  step_accepted before b = subst (λ (t : Tables). op_fault t (operator_of v.op) ≡ None) (sym b)
      (sym (one_member_fault (at k) (operator_of v.op)) ∙ sides.accepted)

  -- behind it

  pub step_next : (before : Tables) → before ≡ at k
      → v.schema ≡ schema_after before (operator_of v.op)
  step_next before b = sides.tables ∙ ap (λ (t : Tables). schema_after t (operator_of v.op)) (sym b)

  pub back_few : HaveFewNodes (operators_of v.inverse.items)
  back_few = few_nodes_of_ones (operators_of v.inverse.items)
      (counted_inverse (evolution_of v.op) (evolutions_of v.inverse.items) sides.counted)

  pub back_accepted : AllOperatorsAccepted v.schema (operators_of v.inverse.items)
  back_accepted = accepted_ones v.schema (operators_of v.inverse.items)
      (step (evolutions_of v.inverse.items) sides.inverse)
    where
      step : (ops : List (List Operator)) → inverse_fault (at k) (evolution_of v.op) ops ≡ None
          → AllAcceptedInTurn v.schema ops
      step [] i = tt
      step (x ∷ inverse) i = subst (λ (t : Tables). AllAcceptedInTurn t (x ∷ inverse))
          (sym sides.tables) (accepted_leads_back (at k) (evolution_of v.op) x inverse i).0

  -- what is lost back over it is what is lost over the steps from the next version
  pub back_step : (before : Tables) (losses new : Losses) → before ≡ at k
      → new ≡ taken losses_stepped (back_over (k + 1) before (evolution_of v.op) v.schema
      (evolutions_of v.inverse.items)) losses
      → new ≡ taken losses_stepped (from_next (map version_of vs) k) losses
  back_step before losses new b is =
      is ∙ ap (λ (t : Tables). taken losses_stepped (back_over (k + 1) t (evolution_of v.op) v.schema
      (evolutions_of v.inverse.items)) losses) b
      ∙ sym (ap (λ o. taken losses_stepped (back_over_version (k + 1) (at k) o) losses) here)
