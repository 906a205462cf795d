-- The exported commands are a history, and its past answers each query on version 1 as the original
-- does on the exported version.
use Rattle.std.specs.Prelude.{◌≡◌, ◌≤◌, ◌<◌, ℕ, List, ◌∷◌, None, length}
use Rattle.std.proofs.Common.{refl, sym, ap, subst, ◌∙◌, inl, inr, arith}
use Rattle.std.specs.FinMap.{get}
use Rattle.relations_spec.specs.Spans.{forever}
use Rattle.smo_ops_types.specs.Commands.{PlainBody, PlainCommand, PlainVersion}
use Rattle.smo_ops_spec.specs.Past.{Past, beginning, tables_of, version_at, database_at}
use Rattle.smo_ops_spec.specs.Past.{past_with}
use Rattle.smo_ops_spec.specs.History.{past_of, past_after, IsHistory}
use Rattle.smo_ops_spec.specs.ValidPast.{IsPast, last_or_nought}
use Rattle.smo_ops_spec.specs.Accepts.{command_fault}
use Rattle.smo_ops_spec.proofs.PastMoments.{all_begun, before_or_not}
use Rattle.smo_ops_spec.proofs.PastSteps.{beginning_is_past}
use Rattle.smo_ops_versions_spec.specs.LostTables.{lost_tables}
use Rattle.smo_ops_versions_spec.specs.Migration.{migrated}
use Rattle.version_export_past_spec.specs.Commands.{a_command}
use Rattle.version_export_past_spec.specs.Rebuilt.{AllFew}
use Rattle.version_export_past_spec.specs.Blank.{IsBlank, IsCreated}
use Rattle.version_export_past_spec.specs.Showing.{first_stamp, NoneLost}
use Rattle.version_export_past_spec.specs.SamePast.{ShowsTheSame}
use Rattle.version_export_past_spec.proofs.EarlyMoments.{history_is_past, early}
use Rattle.version_export_past_spec.proofs.WholePast.{shows_the_same}
use Rattle.version_export.specs.Exported.{rows_exported, NoTableLost}
use Rattle.version_export.specs.Rebuilding.{AnswersAlike, Rebuilds}
use Rattle.version_export.proofs.Answers.{same_answer}
use Rattle.version_export.proofs.Losses.{none_lost_at, lasting, accepted_there}

-- from the last stamp on all is as then
later_version : (past : Past) (a b : ℕ) → IsPast past → last_or_nought past.last ≤ a
    → last_or_nought past.last ≤ b → version_at past a ≡ version_at past b
later_version past a b h l k =
    ap length (all_begun (last_or_nought past.last) a past.versions h.versions l)
    ∙ sym (ap length (all_begun (last_or_nought past.last) b past.versions h.versions k))

-- no table is lost at any moment, though queries ask of those before the end of time alone
pub lost_never : (past : Past) (version : ℕ) → IsPast past → NoTableLost past version
    → last_or_nought past.last < forever → (m : ℕ) → NoneLost past version m
lost_never past version h none l m = elim (before_or_not m forever) [
  | inl b ↦ none_lost_at past version m none b
  | inr b ↦ (λ t i.
      ap (λ k. get (lost_tables past.versions k version) t.0)
      (later_version past m (last_or_nought past.last) h (omega (arith, l, b)) (omega arith))
      ∙ none_lost_at past version (last_or_nought past.last) none l t i)
]

-- a past that shows the same answers alike
pub answers_alike : (past : Past) (version : ℕ) (created : Past) (rows : List PlainCommand)
    → IsPast past → 1 ≤ length created.versions → ShowsTheSame created rows past version
    → AnswersAlike past version (past_after created rows)
answers_alike past version created rows h one s query v to accepted =
    let other : Past = past_after created rows in
    let tables : tables_of past query.version ≡ tables_of other 1 =
    ap (tables_of past) v ∙ sym s.tables in
    let lasts = lasting past query accepted in (
      accepted_there past query accepted other tables
          (subst (λ (vs : List PlainVersion). 1 ≤ length vs) (sym s.versions) one) s.kept,
      same_answer past other query 1 tables
          (λ m a b. ap (λ k. migrated past m k) v
          ∙ sym (s.shows m)) h.states h.begun s.valid.states
          s.valid.begun lasts to,
    )

module _ (history : List PlainCommand) (are : IsHistory history) (version : ℕ)
    (none : NoTableLost (past_of history) version)
    (ends : last_or_nought (past_of history).last < forever)
    (few : AllFew (rows_exported (past_of history) version)) where
  abbrev past : Past
  past = past_of history

  is_past : IsPast past
  is_past = history_is_past beginning history beginning_is_past are

  blank : (m : ℕ) → m ≤ first_stamp past → IsBlank (database_at past m)
  blank m l = early history beginning beginning_is_past refl are m l

  shows : (created : Past) → IsCreated (tables_of past version) (first_stamp past) created
      → ShowsTheSame created (rows_exported past version) past version
  shows created c = shows_the_same past version is_past blank
      (lost_never past version is_past none ends) created c few

  -- the tables are created by one command
  pub rebuilds : (creating : PlainBody)
      → command_fault beginning (a_command (first_stamp past) creating) ≡ None
      → IsCreated (tables_of past version) (first_stamp past)
      (past_with beginning (a_command (first_stamp past) creating))
      → Rebuilds (a_command (first_stamp past) creating ∷ rows_exported past version) past version
  rebuilds creating accepted c =
      let s = shows (past_with beginning (a_command (first_stamp past) creating)) c in
      record {
        history = (accepted, s.accepted);
        answers = answers_alike past version
            (past_with beginning (a_command (first_stamp past) creating))
            (rows_exported past version) is_past
            (subst (λ (vs : List PlainVersion). 1 ≤ length vs) (sym c.versions) (omega arith)) s;
      }
