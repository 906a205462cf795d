-- In the past of a history no row is there up to the stamp of version 1.
use Rattle.std.specs.Prelude.{◌≡◌, ◌≤◌, ◌<◌, ◌++◌, ℕ, List, [], ◌∷◌, Option, Some, None}
use Rattle.std.specs.Prelude.{slice_get}
use Rattle.std.proofs.Common.{refl, sym, ap, subst, ◌∙◌, inl, inr, arith}
use Rattle.std.specs.FinMap.{get, get-empty}
use Rattle.prima_base.specs.Order.{bytes_cmp}
use Rattle.prima_base.specs.Columns.{Column}
use Rattle.schema_catalog.specs.Tables.{Tables}
use Rattle.schema_catalog.specs.Databases.{DatabaseEntry, Database, IsEntry, IsDatabase}
use Rattle.smo_ops_types.specs.Commands.{PlainBody, changing, evolving, PlainCommand, PlainVersion}
use Rattle.smo_ops_spec.specs.First.{first_refusal}
use Rattle.smo_ops_spec.specs.Effects.{rows_under}
use Rattle.smo_ops_spec.specs.Counts.{first_excess}
use Rattle.smo_ops_spec.specs.InForce.{stamp_of}
use Rattle.smo_ops_spec.specs.Past.{Past, no_tables, no_database, tables_of, newest_tables}
use Rattle.smo_ops_spec.specs.Past.{newest_database, version_at, database_at, past_with}
use Rattle.smo_ops_spec.specs.Past.{next_version}
use Rattle.smo_ops_spec.specs.History.{past_after, AllAccepted}
use Rattle.smo_ops_spec.specs.ValidPast.{IsPast, last_or_nought}
use Rattle.smo_ops_spec.specs.Accepts.{stamp_fault, command_fault, count_fault, body_tests}
use Rattle.smo_ops_spec.proofs.Firsts.{none_of_first, none_mapped}
use Rattle.smo_ops_spec.proofs.PastLaws.{newest_holds}
use Rattle.smo_ops_spec.proofs.PastMoments.{before_or_not, is_later}
use Rattle.smo_ops_spec.proofs.PastSteps.{before_command, from_command, stays_valid}
use Rattle.version_export_past_spec.specs.Blank.{IsBlank}
use Rattle.version_export_past_spec.proofs.BlankDatabases.{blank_carried_each}

-- ---- what an accepted command is tested for

pub record IsAccepted (past : Past) (c : PlainCommand) : Type 0 where
  pub counted : first_excess c.body ≡ None
  pub later : stamp_fault past.last c.stamp ≡ None
  pub tests : first_refusal (body_tests past c.body) ≡ None

pub accepted_so : (past : Past) (c : PlainCommand) → command_fault past c ≡ None
    → IsAccepted past c
accepted_so past c e =
    let a = none_of_first (count_fault (first_excess c.body))
    (stamp_fault past.last c.stamp ∷ body_tests past c.body) e in
    let b = none_of_first (stamp_fault past.last c.stamp) (body_tests past c.body) a.1 in
    record { counted = none_mapped _ (first_excess c.body) a.0; later = b.0; tests = b.1 }

pub next_is_past : (past : Past) (c : PlainCommand) → IsPast past → IsAccepted past c
    → IsPast (past_with past c)
next_is_past past c h a = stays_valid past c.stamp c.body h a.later a.counted a.tests

pub history_is_past : (past : Past) (commands : List PlainCommand) → IsPast past
    → AllAccepted past commands → IsPast (past_after past commands)
history_is_past past [] h a = h
history_is_past past (c ∷ commands) h a = history_is_past (past_with past c) commands
    (next_is_past past c h (accepted_so past c a.0)) a.1

later_than : (last : Option ℕ) (l stamp : ℕ) → last ≡ Some l → stamp_fault last stamp ≡ None
    → l < stamp
later_than None l stamp e h = absurd (cc)
later_than (Some k) l stamp e h = (let less = is_later (Some k) stamp h in
    let same : k ≡ l = cc in omega (arith, less, same))

not_before : (last : Option ℕ) (stamp : ℕ) → stamp_fault last stamp ≡ None
    → last_or_nought last ≤ stamp
not_before None stamp h = omega arith
not_before (Some k) stamp h = (let less = is_later (Some k) stamp h in omega (arith, less))

last_is : (past : Past) (stamp : ℕ) (body : PlainBody)
    → (past_with past (record { stamp = stamp; body = body })).last ≡ Some stamp
last_is past stamp (changing changes) = refl
last_is past stamp (evolving op inverse) = refl

-- later commands leave what was up to the last one
stays : (commands : List PlainCommand) (past : Past) (l m : ℕ) → past.last ≡ Some l
    → AllAccepted past commands → m ≤ l
    → database_at (past_after past commands) m ≡ database_at past m
stays [] past l m e a b = refl
stays (c ∷ commands) past l m e a b =
    let more = later_than past.last l c.stamp e (accepted_so past c a.0).later in
    stays commands (past_with past c) c.stamp m (last_is past c.stamp c.body) a.1
    (omega (arith, more, b))
    ∙ before_command past c.stamp c.body m (omega (arith, more, b))

-- and the first version
first_with : (past : Past) (stamp : ℕ) (body : PlainBody) (v : PlainVersion)
    → slice_get past.versions 0 ≡ Some v
    → slice_get (past_with past (record { stamp = stamp; body = body })).versions 0 ≡ Some v
first_with past stamp (changing changes) v e = e
first_with past stamp (evolving op inverse) v e = step past.versions e
  where
    step : (vs : List PlainVersion) → slice_get vs 0 ≡ Some v
        → slice_get (vs ++ next_version stamp op inverse past ∷ []) 0 ≡ Some v
    step [] q = absurd (cc)
    step (w ∷ vs) q = q

pub first_stays : (commands : List PlainCommand) (past : Past) (v : PlainVersion)
    → slice_get past.versions 0 ≡ Some v
    → slice_get (past_after past commands).versions 0 ≡ Some v
first_stays [] past v e = e
first_stays (c ∷ commands) past v e = first_stays commands (past_with past c) v
    (first_with past c.stamp c.body v e)

-- ---- while there is no version there is no table

none_there : (x : Option DatabaseEntry) → IsEntry None x → rows_under x ≡ []
none_there None i = refl
none_there (Some e) i = absurd i

no_table : (db : Database) → IsDatabase no_tables db → IsBlank db
no_table db h n = none_there (get db n)
    (subst (λ (o : Option (List Column)). IsEntry o (get db n)) (get-empty bytes_cmp n) (h n))

pub blank_without : (past : Past) → IsPast past → past.versions ≡ [] → (m : ℕ)
    → IsBlank (database_at past m)
blank_without past h e m = no_table (database_at past m)
    (subst (λ (t : Tables). IsDatabase t (database_at past m)) tables (h.each m))
  where
    use_versions : (vs : List PlainVersion) → vs ≡ [] → (k : ℕ)
        → tables_of (record past { versions = vs }) k ≡ no_tables
    use_versions [] q k = refl
    use_versions (v ∷ vs) q k = absurd (cc)

    tables : tables_of past (version_at past m) ≡ no_tables
    tables = use_versions past.versions e (version_at past m)

pub blank_newest : (past : Past) → IsPast past → past.versions ≡ []
    → IsBlank (newest_database past)
blank_newest past h e = subst IsBlank
    (newest_holds no_database past.states (last_or_nought past.last) h.ended)
    (blank_without past h e (last_or_nought past.last))

-- ---- and version 1 makes no rows of none

abbrev with_one : Past → ℕ → PlainBody → Past
with_one past stamp body = past_with past (record { stamp = stamp; body = body })

early_with : (past : Past) (stamp : ℕ) (body : PlainBody) (commands : List PlainCommand)
    → IsPast past → past.versions ≡ [] → IsAccepted past (record { stamp = stamp; body = body })
    → AllAccepted (with_one past stamp body) commands → (m : ℕ)
    → m ≤ stamp_of (slice_get (past_after (with_one past stamp body) commands).versions 0)
    → (IsPast (with_one past stamp body) → (with_one past stamp body).versions ≡ []
    → IsBlank (database_at (past_after (with_one past stamp body) commands) m))
    → IsBlank (database_at (past_after (with_one past stamp body) commands) m)
early_with past stamp (changing changes) commands h e ok a m l again =
    again (next_is_past past (record { stamp = stamp; body = changing changes }) h ok) e
early_with past stamp (evolving op inverse) commands h e ok a m l again =
    subst IsBlank (sym (stays commands next stamp m refl a upto)) (elim (before_or_not m stamp) [
      | inl b ↦ subst IsBlank (sym (before_command past stamp (evolving op inverse) m b))
          (blank_without past h e m)
      | inr b ↦ subst IsBlank (sym (from_command past stamp (evolving op inverse) h
          (not_before past.last stamp ok.later) ok.tests m b))
          (blank_carried_each (newest_tables past) op (newest_database past)
          (blank_newest past h e))
    ])
  where
    next : Past
    next = with_one past stamp (evolving op inverse)

    v : PlainVersion
    v = next_version stamp op inverse past

    first : slice_get next.versions 0 ≡ Some v
    first = ap (λ (vs : List PlainVersion). slice_get (vs ++ v ∷ []) 0) e

    upto : m ≤ stamp
    upto = subst (λ (o : Option PlainVersion). m ≤ stamp_of o) (first_stays commands next v first) l

pub early : (commands : List PlainCommand) (past : Past) → IsPast past → past.versions ≡ []
    → AllAccepted past commands → (m : ℕ)
    → m ≤ stamp_of (slice_get (past_after past commands).versions 0)
    → IsBlank (database_at (past_after past commands) m)
early [] past h e a m l = blank_without past h e m
early (c ∷ commands) past h e a m l = early_with past c.stamp c.body commands h e
    (accepted_so past c a.0) a.1 m l
    (λ k f. early commands (past_with past c) k f a.1 m l)
