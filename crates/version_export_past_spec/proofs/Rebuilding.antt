-- The commands at the moments at which what is shown changes are accepted one after the other, and
-- rebuild it.
use Rattle.std.specs.Prelude.{◌≡◌, ◌≤◌, ◌<◌, ◌-◌, ◌++◌, ℕ, List, [], ◌∷◌, nat_lt, Option, Some}
use Rattle.std.specs.Prelude.{None, length, true}
use Rattle.std.proofs.Common.{refl, sym, ap, subst, ◌∙◌, inl, inr, arith}
use Rattle.std.proofs.lemmas.Bool.Decides.{nat_tests}
use Rattle.std.specs.FinMap.{entries}
use Rattle.prima_base.specs.declared.refusal.Refusal.TheVariants.{StampNotLater}
use Rattle.prima_base.specs.Limits.{max_changes}
use Rattle.schema_catalog.specs.Places.{NamedColumns}
use Rattle.schema_catalog.specs.Tables.{Tables, IsSchema}
use Rattle.schema_catalog.specs.Databases.{Database, IsDatabase}
use Rattle.smo_ops_types.specs.Changes.{PlainChange}
use Rattle.smo_ops_types.specs.Commands.{PlainBody, changing, PlainCommand}
use Rattle.smo_ops_spec.specs.First.{unless, first_refusal}
use Rattle.smo_ops_spec.specs.Preconditions.{AreNarrow}
use Rattle.smo_ops_spec.specs.Effects.{after_each}
use Rattle.smo_ops_spec.specs.Checks.{changes_tests}
use Rattle.smo_ops_spec.specs.Counts.{first_excess}
use Rattle.smo_ops_spec.specs.Past.{Past, no_database, newest_tables, newest_database, database_at}
use Rattle.smo_ops_spec.specs.Past.{past_with}
use Rattle.smo_ops_spec.specs.ValidPast.{IsPast, last_or_nought}
use Rattle.smo_ops_spec.specs.Accepts.{stamp_fault, command_fault, count_fault}
use Rattle.smo_ops_spec.specs.Accepts.{body_tests}
use Rattle.smo_ops_spec.proofs.DatabaseLaws.{changes_keep}
use Rattle.smo_ops_spec.proofs.PastLaws.{newest_holds, up_to_later}
use Rattle.smo_ops_spec.proofs.PastMoments.{before_or_not}
use Rattle.smo_ops_spec.proofs.PastSteps.{before_command, from_command, stays_valid}
use Rattle.version_export_past_spec.specs.Rows.{changes_between}
use Rattle.version_export_past_spec.specs.Commands.{a_command, if_any, row_commands}
use Rattle.version_export_past_spec.specs.Rebuilt.{IsSteady, AllFew, IsRebuilt}
use Rattle.version_export_past_spec.proofs.ManyTables.{all_rebuilt}
use Rattle.version_export_past_spec.proofs.Changing.{between_accepted, between_counted}

later : (last : Option ℕ) (low stamp : ℕ) → last_or_nought last ≤ low → low < stamp
    → stamp_fault last stamp ≡ None
later None low stamp l k = refl
later (Some last) low stamp l k = ap (λ b. unless b (StampNotLater stamp last))
    (let less : nat_lt last stamp ≡ true = grind (arith, nat_tests, l, k) in less)

module _ (tables : Tables) (schema : IsSchema tables) (narrow : AreNarrow tables)
    (shown : ℕ → Database) (each : (m : ℕ) → IsDatabase tables (shown m)) where
  abbrev es : List NamedColumns
  es = entries tables

  abbrev between : ℕ → List PlainChange
  between s = changes_between es (shown (s - 1)) (shown s)

  accepted_at : (s : ℕ) → first_refusal (changes_tests tables (between s) 0) ≡ None
  accepted_at s = between_accepted tables schema narrow (shown (s - 1)) (shown s) (each (s - 1))
      (each s)

  leads : (s : ℕ) → after_each tables (between s) (shown (s - 1)) ≡ shown s
  leads s = all_rebuilt tables schema (shown (s - 1)) (shown s) (each (s - 1)) (each s)
      (changes_keep tables (shown (s - 1)) (between s) 0 schema (each (s - 1)) (accepted_at s))

  abbrev Again : ℕ → List ℕ → Type 0
  Again s moments = (p : Past) → IsPast p → newest_tables p ≡ tables → last_or_nought p.last ≤ s
      → ((m : ℕ) → s ≤ m → database_at p m ≡ shown s) → IsSteady shown s moments
      → AllFew (row_commands es shown moments)
      → IsRebuilt p (row_commands es shown moments) s shown

  pub rebuilds : (moments : List ℕ) (low : ℕ) (past : Past) → IsPast past
      → newest_tables past ≡ tables → last_or_nought past.last ≤ low
      → ((m : ℕ) → low ≤ m → database_at past m ≡ shown low) → IsSteady shown low moments
      → AllFew (row_commands es shown moments)
      → IsRebuilt past (row_commands es shown moments) low shown
  rebuilds [] low past h t l has steady few = record {
    accepted = tt;
    valid = h;
    versions = refl;
    before = λ m b. refl;
    after = λ m b. has m b ∙ sym (steady m b);
  }
  rebuilds (s ∷ moments) low past h t l has steady few =
      step (λ p a b c d e f. rebuilds moments s p a b c d e f) (between s) refl few
    where
      above : low < s
      above = steady.0

      was : shown (s - 1) ≡ shown low
      was = steady.1 (s - 1) (omega (arith, above)) (omega (arith, above))

      newest : newest_database past ≡ shown (s - 1)
      newest = sym (newest_holds no_database past.states low
          (up_to_later (last_or_nought past.last) low past.states l h.ended))
          ∙ has low (omega arith) ∙ sym was

      -- the moments up to s
      join : (commands : List PlainCommand) → IsRebuilt past commands s shown
          → IsRebuilt past commands low shown
      join commands r = record {
        accepted = r.accepted;
        valid = r.valid;
        versions = r.versions;
        before = λ m b. r.before m (omega (arith, b, above));
        after = λ m b. elim (before_or_not m s) [
          | inl k ↦ r.before m k ∙ has m b ∙ sym (steady.1 m b k)
          | inr k ↦ r.after m k
        ];
      }

      step : Again s moments → (changes : List PlainChange) → between s ≡ changes
          → AllFew (if_any s changes ++ row_commands es shown moments)
          → IsRebuilt past (if_any s changes ++ row_commands es shown moments) low shown
      step again [] e f =
          let same : shown low ≡ shown s = sym was
          ∙ ap (λ cs. after_each tables cs (shown (s - 1))) (sym e) ∙ leads s in
          join (row_commands es shown moments)
          (again past h t (omega (arith, l, above))
          (λ m b. has m (omega (arith, b, above)) ∙ same) steady.2 f)
      step again (c ∷ changes) e f = join (a_command s body ∷ row_commands es shown moments) whole
        where
          body : PlainBody
          body = changing (c ∷ changes)

          fits : stamp_fault past.last s ≡ None
          fits = later past.last low s l above

          few_here : first_excess body ≡ None
          few_here = subst (λ cs. first_excess (changing cs) ≡ None) e
              (between_counted tables schema narrow (shown (s - 1)) (shown s) (each (s - 1))
              (each s) (subst (λ cs. length cs ≤ max_changes) (sym e) f.0))

          tests : first_refusal (body_tests past body) ≡ None
          tests = ap (λ ts. first_refusal (changes_tests ts (c ∷ changes) 0)) t
              ∙ ap (λ cs. first_refusal (changes_tests tables cs 0)) (sym e) ∙ accepted_at s

          accepted : command_fault past (a_command s body) ≡ None
          accepted =
              ap (λ x. first_refusal (count_fault x ∷ stamp_fault past.last s
              ∷ body_tests past body)) few_here
              ∙ ap (λ x. first_refusal (x ∷ body_tests past body)) fits ∙ tests

          next : Past
          next = past_with past (a_command s body)

          becomes : after_each (newest_tables past) (c ∷ changes) (newest_database past) ≡ shown s
          becomes =
              ap (λ ts. after_each ts (c ∷ changes) (newest_database past)) t
              ∙ ap (λ cs. after_each tables cs (newest_database past)) (sym e)
              ∙ ap (λ db. after_each tables (between s) db) newest ∙ leads s

          more : IsRebuilt next (row_commands es shown moments) s shown
          more = again next (stays_valid past s body h fits few_here tests) t
              (omega arith)
              (λ m b. from_command past s body h (omega (arith, l, above)) tests m b ∙ becomes)
              steady.2 f.1

          whole : IsRebuilt past (a_command s body ∷ row_commands es shown moments) s shown
          whole = record {
            accepted = (accepted, more.accepted);
            valid = more.valid;
            versions = more.versions;
            before = λ m b. more.before m b ∙ before_command past s body m b;
            after = more.after;
          }
