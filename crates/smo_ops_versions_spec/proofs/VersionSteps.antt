-- What stands on the two sides of each version of a past.
use Rattle.std.proofs.Common.{◌≡◌, ◌+◌, ℕ, zero, suc, List, [], ◌∷◌, refl, ap, subst, ◌∙◌, arith}
use Rattle.std.specs.Prelude.{Option, Some, None, slice_get}
use Rattle.schema_catalog.specs.Tables.{Tables}
use Rattle.smo_ops_types.specs.Commands.{evolving, PlainVersion}
use Rattle.smo_ops_spec.specs.Counts.{first_excess}
use Rattle.smo_ops_spec.specs.Evolutions.{schema_after_each, evolution_fault}
use Rattle.smo_ops_spec.specs.Inverses.{inverse_fault}
use Rattle.smo_ops_spec.specs.Past.{tables_from}
use Rattle.smo_ops_spec.specs.ValidPast.{AreVersions}

-- the version that comes after the tables `before`, and leads to `next`
pub record Leads (before after : Tables) (v : PlainVersion) : Type 0 where
  pub counted : first_excess (evolving v.op v.inverse) ≡ None
  pub accepted : evolution_fault before v.op ≡ None
  pub inverse : inverse_fault before v.op v.inverse ≡ None
  pub tables : v.tables ≡ schema_after_each before v.op
  pub next : after ≡ v.tables

pub leads : (last : Option ℕ) (before : Tables) (versions : List PlainVersion) (k : ℕ)
    (v : PlainVersion) → AreVersions last before versions → slice_get versions k ≡ Some v
    → Leads (tables_from before versions k) (tables_from before versions (k + 1)) v
leads last before [] k v are e = absurd (cc)
leads last before (w ∷ versions) zero v are e =
    let same : w ≡ v = cc in
    subst (Leads before (tables_from before (w ∷ versions) (0 + 1))) same (record {
      counted = are.0.counted;
      accepted = are.0.accepted;
      inverse = are.0.inverse;
      tables = are.0.tables;
      next = first_next versions;
    })
  where
    first_next : (vs : List PlainVersion) → tables_from before (w ∷ vs) (0 + 1) ≡ w.tables
    first_next [] = refl
    first_next (x ∷ vs) = refl
leads last before (w ∷ versions) (suc k) v are e =
    subst (λ n. Leads (tables_from w.tables versions k) (tables_from before (w ∷ versions) n) v)
    further (leads (Some w.stamp) w.tables versions k v are.1 e)
  where
    further : suc (k + 1) ≡ suc k + 1
    further = omega arith

-- after the last version nothing changes
pub stands : (before : Tables) (versions : List PlainVersion) (k : ℕ) → slice_get versions k ≡ None
    → tables_from before versions (k + 1) ≡ tables_from before versions k
stands before [] k e = refl
stands before (w ∷ versions) zero e = absurd (cc)
stands before (w ∷ versions) (suc k) e = ap (tables_from before (w ∷ versions)) further
    ∙ stands w.tables versions k e
  where
    further : suc k + 1 ≡ suc (k + 1)
    further = omega arith
