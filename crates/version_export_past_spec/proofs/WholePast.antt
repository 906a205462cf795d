-- The rows of a version's tables, put into a past with just these tables, make one that shows at
-- each moment what the version shows.
use Rattle.std.specs.Prelude.{◌≡◌, ◌≤◌, ◌<◌, ℕ, List, [], ◌∷◌, cond, length, None}
use Rattle.std.proofs.Common.{sym, ap, subst, ◌∙◌, inl, inr, arith}
use Rattle.std.specs.FinMap.{get}
use Rattle.schema_catalog.specs.Tables.{Tables}
use Rattle.schema_catalog.specs.Databases.{Database, IsDatabase}
use Rattle.smo_ops_types.specs.Commands.{PlainCommand, PlainVersion}
use Rattle.smo_ops_spec.specs.Past.{Past, no_tables, tables_of, tables_from, newest_from, begun_at}
use Rattle.smo_ops_spec.specs.Past.{version_at, database_at, newest_tables}
use Rattle.smo_ops_spec.specs.History.{past_after}
use Rattle.smo_ops_spec.specs.ValidPast.{IsPast}
use Rattle.smo_ops_spec.proofs.PastLaws.{at_least}
use Rattle.smo_ops_spec.proofs.PastMoments.{before_or_not, few_begun}
use Rattle.smo_ops_versions_spec.specs.Steps.{Step, taken}
use Rattle.smo_ops_versions_spec.specs.Migration.{stepped, migrated, migrated_from}
use Rattle.smo_ops_versions_spec.specs.LostTables.{lost_tables}
use Rattle.smo_ops_versions_spec.specs.ColumnLosses.{NothingLost}
use Rattle.smo_ops_versions_spec.specs.LostNames.{lost_names}
use Rattle.smo_ops_versions_spec.proofs.LossCauses.{no_table_forward, no_column_forward}
use Rattle.smo_ops_versions_spec.proofs.MappedTables.{none_forward}
use Rattle.smo_ops_versions_spec.proofs.WaySteps.{stays}
use Rattle.smo_ops_versions_spec.proofs.WayLeads.{valid_at}
use Rattle.version_export_past_spec.specs.Commands.{row_commands}
use Rattle.version_export_past_spec.specs.Rebuilt.{AllFew, IsRebuilt}
use Rattle.version_export_past_spec.specs.Blank.{IsBlank, IsCreated}
use Rattle.version_export_past_spec.specs.Showing.{first_stamp, shown_by, tables_in, later_moments}
use Rattle.version_export_past_spec.specs.Showing.{NoneLost}
use Rattle.version_export_past_spec.specs.SamePast.{ShowsTheSame}
use Rattle.version_export_past_spec.proofs.Rebuilding.{rebuilds}
use Rattle.version_export_past_spec.proofs.BlankDatabases.{blank_migrated, one_blank_database}
use Rattle.version_export_past_spec.proofs.ShownDatabases.{shows_database, is_steady}

-- ---- over one version nothing is lost

one_in_force : (past : Past) (m : ℕ) → length past.versions ≤ 1 → version_at past m ≤ 1
one_in_force past m few = (let c = few_begun m past.versions in omega (arith, c, few))

none_lost_forward : (past : Past) (m : ℕ) (n : List ℕ) → length past.versions ≤ 1
    → get (lost_tables past.versions (version_at past m) 1) n ≡ None
none_lost_forward past m n few = none_forward past.versions (version_at past m) 1 n
    (one_in_force past m few)

nothing_lost_forward : (past : Past) (m : ℕ) → length past.versions ≤ 1
    → NothingLost (lost_names past.versions (version_at past m) 1)
nothing_lost_forward past m few = λ n. (
  no_table_forward past.versions (version_at past m) 1 (one_in_force past m few) n,
  no_column_forward past.versions (version_at past m) 1 (one_in_force past m few) n,
)

-- ---- a past of one version

module _ (past : Past) (v : PlainVersion) (is : past.versions ≡ v ∷ []) where
  pub version_from : (m : ℕ) → v.stamp ≤ m → version_at past m ≡ 1
  version_from m l = ap (λ (vs : List PlainVersion). length (begun_at m vs)) is
      ∙ ap (λ b. length (cond b (v ∷ []) [])) (at_least v.stamp m l)

  pub tables_of_one : tables_of past 1 ≡ v.tables
  tables_of_one = ap (λ (vs : List PlainVersion). tables_from no_tables vs 1) is

  pub newest_of_one : newest_tables past ≡ v.tables
  newest_of_one = ap (newest_from no_tables) is

  pub one_of_one : length past.versions ≤ 1
  one_of_one = subst (λ (vs : List PlainVersion). length vs ≤ 1) (sym is) (omega arith)

-- ---- the whole

module _ (past : Past) (version : ℕ) (h : IsPast past)
    (early : (m : ℕ) → m ≤ first_stamp past → IsBlank (database_at past m))
    (none : (m : ℕ) → NoneLost past version m) (created : Past)
    (c : IsCreated (tables_of past version) (first_stamp past) created) where
  abbrev first : ℕ
  first = first_stamp past

  abbrev tables : Tables
  tables = tables_of past version

  abbrev shown : ℕ → Database
  shown = shown_by past version

  abbrev rows : List PlainCommand
  rows = row_commands (tables_in past version) shown (later_moments first past.states)

  shows : (m : ℕ) → IsDatabase tables (shown m)
  shows m = shows_database past version m h (none m)

  blank_early : (m : ℕ) → m ≤ first → IsBlank (shown m)
  blank_early m l = blank_migrated past.versions (version_at past m) version (database_at past m)
      (early m l)

  created_database : (m : ℕ) → first ≤ m → IsDatabase tables (database_at created m)
  created_database m l = subst (λ (t : Tables). IsDatabase t (database_at created m))
      (ap (tables_of created) (version_from created c.version c.versions m
      (let b = c.begins in omega (arith, b, l)))
      ∙ tables_of_one created c.version c.versions ∙ c.has) (c.valid.each m)

  begins_blank : (m : ℕ) → first ≤ m → database_at created m ≡ shown first
  begins_blank m l = one_blank_database tables (database_at created m) (shown first)
      (created_database m l) (shows first) (c.blank m) (blank_early first (omega arith))

  module _ (few : AllFew rows) where
    made : IsRebuilt created rows first shown
    made =
        let valid = valid_at past.versions h.evolved version in
        rebuilds tables valid.schema valid.narrow shown shows (later_moments first past.states)
        first created c.valid (newest_of_one created c.version c.versions ∙ c.has) c.last
        begins_blank (is_steady past version first h) few

    abbrev next : Past
    next = past_after created rows

    next_versions : next.versions ≡ c.version ∷ []
    next_versions = made.versions ∙ c.versions

    next_tables : tables_of next 1 ≡ tables
    next_tables = tables_of_one next c.version next_versions ∙ c.has

    next_none : (m : ℕ) (n : List ℕ)
        → get (lost_tables next.versions (version_at next m) 1) n ≡ None
    next_none m n = none_lost_forward next m n (one_of_one next c.version next_versions)

    next_nothing : (m : ℕ) → NothingLost (lost_names next.versions (version_at next m) 1)
    next_nothing m = nothing_lost_forward next m (one_of_one next c.version next_versions)

    next_database : (m : ℕ) → IsDatabase tables (migrated next m 1)
    next_database m = subst (λ (t : Tables). IsDatabase t (migrated next m 1)) next_tables
        (shows_database next 1 m made.valid (λ t i. next_none m t.0))

    next_blank : (m : ℕ) → m < first → IsBlank (migrated next m 1)
    next_blank m l = blank_migrated next.versions (version_at next m) 1 (database_at next m)
        (subst IsBlank (sym (made.before m l)) (c.blank m))

    same : (m : ℕ) → migrated next m 1 ≡ shown m
    same m = elim (before_or_not m first) [
      | inl l ↦ one_blank_database tables (migrated next m 1) (shown m) (next_database m) (shows m)
          (next_blank m l) (blank_early m (omega (arith, l)))
      | inr l ↦ ap (λ k. migrated_from next.versions k 1 (database_at next m))
          (version_from next c.version next_versions m (let b = c.begins in omega (arith, b, l)))
          ∙ ap (λ (steps : List Step). taken stepped steps (database_at next m))
          (stays next.versions 1)
          ∙ made.after m l
    ]

    pub shows_the_same : ShowsTheSame created rows past version
    shows_the_same = record {
      accepted = made.accepted;
      valid = made.valid;
      versions = made.versions;
      tables = next_tables;
      shows = same;
      kept = next_nothing;
    }
