-- Each version has the tables of the lifelines that cover it.
use Rattle.std.proofs.Common.{◌≡◌, ◌≤◌, ◌+◌, ℕ, zero, suc, List, [], ◌∷◌, length, subst, arith}
use Rattle.std.specs.Prelude.{Option, Some, None}
use Rattle.std.specs.FinMap.{get-empty}
use Rattle.prima_base.specs.Order.{bytes_cmp}
use Rattle.prima_base.specs.Columns.{Column}
use Rattle.schema_catalog.specs.Tables.{Tables}
use Rattle.smo_ops_types.specs.Commands.{PlainVersion}
use Rattle.smo_ops_spec.specs.ValidPast.{AreVersions}
use Rattle.smo_ops_spec.specs.Past.{no_tables, tables_from}
use Rattle.smo_ops_spec.proofs.MemberLaws.{all_accepted}
use Rattle.smo_ops_versions_spec.specs.Lifelines.{Lifeline, lifelines_after, lifelines_from}
use Rattle.smo_ops_versions_spec.specs.Lifelines.{lifelines_of}
use Rattle.smo_ops_versions_spec.specs.Lifelines.{HaveTables}
use Rattle.smo_ops_versions_spec.proofs.LifelinesAfter.{HaveBegun, tables_still, tables_next}
use Rattle.smo_ops_versions_spec.proofs.LifelinesAfter.{begun_next}

-- later operators change nothing in it
still_covered : (tables : Tables) (j : ℕ) (before : Tables) (k : ℕ) (lines : List Lifeline)
    (versions : List PlainVersion) → j ≤ k → HaveTables j tables lines
    → HaveTables j tables (lifelines_from before k lines versions)
still_covered tables j before k lines [] l h = h
still_covered tables j before k lines (v ∷ versions) l h =
    still_covered tables j v.tables (k + 1) (lifelines_after before k lines v) versions
    (omega (arith, l)) (tables_still before k lines v j l tables h)

all_covered : (last : Option ℕ) (before : Tables) (k : ℕ) (lines : List Lifeline)
    (versions : List PlainVersion) → AreVersions last before versions → HaveTables k before lines
    → HaveBegun k lines → (i j : ℕ) → i ≤ length versions → j ≡ k + i
    → HaveTables j (tables_from before versions i) (lifelines_from before k lines versions)
all_covered last before k lines [] are h b zero j l e =
    (let q : k ≡ j = omega (arith, e) in subst (λ x. HaveTables x before lines) q h)
all_covered last before k lines [] are h b (suc i) j l e = absurd (omega (arith, l))
all_covered last before k lines (v ∷ versions) are h b zero j l e =
    let q : k ≡ j = omega (arith, e) in
    subst (λ x. HaveTables x before (lifelines_from before k lines (v ∷ versions))) q
    (still_covered before k before k lines (v ∷ versions) (omega arith) h)
all_covered last before k lines (v ∷ versions) are h b (suc i) j l e =
    all_covered (Some v.stamp) v.tables (k + 1) (lifelines_after before k lines v) versions are.1
    (tables_next before k lines v (all_accepted before v.op are.0.accepted) are.0.tables h b)
    (begun_next before k lines v (all_accepted before v.op are.0.accepted) are.0.tables h b) i j
    (omega (arith, l)) (omega (arith, e))

pub each_covered : (versions : List PlainVersion) (k : ℕ) → AreVersions None no_tables versions
    → k ≤ length versions → HaveTables k (tables_from no_tables versions k) (lifelines_of versions)
each_covered versions k are l =
    all_covered None no_tables 0 [] versions are
    (record {
      has = λ x m. absurd m;
      each = λ name columns e.
          absurd (let none = get-empty {X = List Column} bytes_cmp name in cc);
      once = tt;
    })
    (record { begun = λ x m. absurd m; ended = λ x m. absurd m }) k k l (omega arith)
