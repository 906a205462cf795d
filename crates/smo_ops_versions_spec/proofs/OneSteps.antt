-- What one step of a way is: over the version's operator, and back over its inverse, or over what is
-- derived from the operator, or over the operator itself where it has no way back.
use Rattle.std.proofs.Common.{◌≡◌, ◌+◌, ℕ, Bool, true, false, List, [], ◌∷◌, refl, sym, ap, ◌∙◌}
use Rattle.std.specs.Prelude.{cond, ◌||◌, Option, Some, None, slice_get}
use Rattle.std.specs.FinMap.{get, insert, get-insert}
use Rattle.std.specs.Cmp.Lexicographic.{nat_list_cmp_total}
use Rattle.schema_catalog.specs.Tables.{Tables}
use Rattle.schema_catalog.specs.Databases.{DatabaseEntry, Lost, Database}
use Rattle.smo_ops_types.specs.Operators.{Operator}
use Rattle.smo_ops_types.specs.Commands.{PlainVersion}
use Rattle.smo_ops_spec.specs.OneRow.{same}
use Rattle.smo_ops_spec.specs.Preconditions.{among}
use Rattle.smo_ops_spec.specs.OperatorTable.{line, made_names}
use Rattle.smo_ops_spec.specs.Touching.{makes, consumes}
use Rattle.smo_ops_spec.specs.After.{schema_after, migrate, lose_all}
use Rattle.smo_ops_spec.specs.Evolutions.{carried_each, members_of_all}
use Rattle.smo_ops_spec.specs.Losses.{Loss}
use Rattle.smo_ops_spec.specs.Past.{no_tables, tables_from}
use Rattle.smo_ops_spec.proofs.TouchedTables.{lost_others}
use Rattle.smo_ops_spec.specs.WaysBack.{FilledColumn, WayBack, by_inverse, by_filling, no_way}
use Rattle.smo_ops_spec.specs.WaysBack.{way_back_over}
use Rattle.smo_ops_versions_spec.specs.Steps.{Step, carrying, filling, undoing, carrying_each}
use Rattle.smo_ops_versions_spec.specs.Steps.{taken}
use Rattle.smo_ops_versions_spec.specs.Ways.{step_by, step_back, back_over_members, back_over}
use Rattle.smo_ops_versions_spec.specs.Ways.{over_version, back_over_version, to_next, from_next}
use Rattle.smo_ops_versions_spec.specs.Migration.{stepped, lost_by, undone}
use Rattle.smo_ops_versions_spec.proofs.StepLaws.{taken_both}

module _ (versions : List PlainVersion) (k : ℕ) (v : PlainVersion)
    (is : slice_get versions k ≡ Some v) where
  abbrev before : Tables
  before = tables_from no_tables versions k

  pub over_is : to_next versions k ≡ carrying_each (tables_from no_tables versions k) v.op
  over_is = ap (λ (o : Option PlainVersion). over_version before o) is

  back_is : from_next versions k ≡ back_over (k + 1) before v.op v.tables v.inverse
  back_is = ap (λ (o : Option PlainVersion). back_over_version (k + 1) before o) is

  pub named_is : (i : List Operator) (rest : List (List Operator)) → v.inverse ≡ i ∷ rest
      → from_next versions k ≡ carrying_each v.tables (members_of_all v.inverse)
  named_is i rest e =
      back_is ∙ ap (λ (ops : List (List Operator)). back_over (k + 1) before v.op v.tables ops) e
      ∙ sym (ap (λ (ops : List (List Operator)). carrying_each v.tables (members_of_all ops)) e)

  pub unnamed_is : v.inverse ≡ []
      → from_next versions k ≡ back_over_members (k + 1) 1 (tables_from no_tables versions k) v.op
  unnamed_is e = back_is ∙ ap (λ (ops : List (List Operator)).
      back_over (k + 1) before v.op v.tables ops) e

-- over operators, first to last
pub carried_over_each : (tables : Tables) (ops : List Operator) (db : Database)
    → taken stepped (carrying_each tables ops) db ≡ carried_each tables ops db
carried_over_each tables [] db = refl
carried_over_each tables (op ∷ ops) db = carried_over_each (schema_after tables op) ops
    (migrate tables op db)

-- and back over them, the last first
pub back_over_first : {X : Type 0} (by : Step → X → X) (k i : ℕ) (before : Tables) (op : Operator)
    (ops : List Operator) (x : X) → taken by (back_over_members k i before (op ∷ ops)) x
    ≡ by (step_back (k, i) before op)
    (taken by (back_over_members k (i + 1) (schema_after before op) ops) x)
back_over_first by k i before op ops x = taken_both by
    (back_over_members k (i + 1) (schema_after before op) ops) (step_back (k, i) before op ∷ []) x

-- ---- back over one operator

module _ (loss : Loss) (before : Tables) (op : Operator) where
  pub derived_is : (inverse : Operator) → way_back_over before op ≡ by_inverse inverse
      → step_back loss before op ≡ carrying (schema_after before op) inverse
  derived_is inverse n = ap (λ (w : WayBack). step_by loss before op w) n

  pub filled_is : (f : FilledColumn) → way_back_over before op ≡ by_filling f
      → step_back loss before op ≡ filling loss (schema_after before op) f
  filled_is f n = ap (λ (w : WayBack). step_by loss before op w) n

  pub no_way_is : way_back_over before op ≡ no_way
      → step_back loss before op ≡ undoing loss before op
  no_way_is n = ap (λ (w : WayBack). step_by loss before op w) n

-- ---- back over an operator with no inverse, table by table

lost_at : (loss : Loss) (names : List (List ℕ)) (db : Database) (n : List ℕ)
    → get (lost_by loss names db) n ≡ cond (among n names) (Some (Lost loss.0 loss.1)) (get db n)
lost_at loss [] db n = refl
lost_at loss (r ∷ names) db n =
    lost_at loss names (insert db r (Lost loss.0 loss.1)) n
    ∙ ap (λ (o : Option DatabaseEntry). cond (among n names) (Some (Lost loss.0 loss.1)) o)
    (get-insert nat_list_cmp_total db r (Lost loss.0 loss.1) n)
    ∙ step (same n r) (among n names) (get db n)
  where
    step : (a b : Bool) (o : Option DatabaseEntry)
        → cond b (Some (Lost loss.0 loss.1)) (cond a (Some (Lost loss.0 loss.1)) o)
        ≡ cond (a || b) (Some (Lost loss.0 loss.1)) o
    step true true o = refl
    step true false o = refl
    step false b o = refl

module _ (loss : Loss) (before : Tables) (op : Operator) (db : Database) (n : List ℕ) where
  undone_at : get (undone loss before op db) n
      ≡ cond (consumes before op n) (Some (Lost loss.0 loss.1))
      (cond (makes before op n) None (get db n))
  undone_at =
      lost_at loss (line before op).consumed (lose_all (made_names (line before op).made) db) n
      ∙ ap (λ (o : Option DatabaseEntry). cond (consumes before op n) (Some (Lost loss.0 loss.1)) o)
      (lost_others (made_names (line before op).made) db n)

  pub consumed_lost : consumes before op n ≡ true
      → get (undone loss before op db) n ≡ Some (Lost loss.0 loss.1)
  consumed_lost e = undone_at ∙ ap (λ b. cond b (Some (Lost loss.0 loss.1))
      (cond (makes before op n) None (get db n))) e

  pub made_gone : makes before op n ≡ true → consumes before op n ≡ false
      → get (undone loss before op db) n ≡ None
  made_gone m e =
      undone_at ∙ ap (λ b. cond b (Some (Lost loss.0 loss.1))
      (cond (makes before op n) None (get db n))) e
      ∙ ap (λ (b : Bool). cond b None (get db n)) m

  pub others_stay : makes before op n ≡ false → consumes before op n ≡ false
      → get (undone loss before op db) n ≡ get db n
  others_stay m e =
      undone_at ∙ ap (λ b. cond b (Some (Lost loss.0 loss.1))
      (cond (makes before op n) None (get db n))) e
      ∙ ap (λ (b : Bool). cond b None (get db n)) m
