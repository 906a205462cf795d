-- The past of a history has at each moment what the commands up to it make.
use Rattle.std.proofs.Common.{◌≡◌, ◌≤◌, ◌<◌, ◌+◌, ℕ, Bool, true, false, List, [], ◌∷◌, ◌++◌, length}
use Rattle.std.proofs.Common.{refl, sym, ap, subst, ◌∙◌, arith, append_assoc, length-append}
use Rattle.std.proofs.lemmas.List.{append-nil}
use Rattle.std.specs.Prelude.{◌==◌, nat_le, cond, None, if◌then◌else◌}
use Rattle.schema_catalog.specs.Tables.{Tables}
use Rattle.schema_catalog.specs.Databases.{Database}
use Rattle.smo_ops_types.specs.Commands.{PlainBody, changing, evolving, PlainCommand, PlainVersion}
use Rattle.smo_ops_spec.specs.First.{first_refusal}
use Rattle.smo_ops_spec.specs.Effects.{after_each, gained, lost}
use Rattle.smo_ops_spec.specs.Evolutions.{schema_after_each, carried_each}
use Rattle.smo_ops_spec.specs.Past.{Past, no_tables, no_database, tables_from, tables_of}
use Rattle.smo_ops_spec.specs.Past.{newest_from, newest_tables, version_at, database_at}
use Rattle.smo_ops_spec.specs.Past.{latest_from}
use Rattle.smo_ops_spec.specs.Past.{newest_database, from_stamp, next_version, past_with}
use Rattle.smo_ops_spec.specs.ValidPast.{last_or_nought, IsPast}
use Rattle.smo_ops_spec.specs.Accepts.{body_tests}
use Rattle.smo_ops_spec.specs.History.{past_after, AllAccepted, VersionState, version_state}
use Rattle.smo_ops_spec.specs.History.{stands_after, stands_after_all, up_to, HasState}
use Rattle.smo_ops_spec.proofs.DatabaseLaws.{changes_keep}
use Rattle.smo_ops_spec.proofs.SameDatabases.{same_database}
use Rattle.smo_ops_spec.proofs.PastLaws.{not_at, up_to_later, newest_holds, latest_is, newest_added}
use Rattle.smo_ops_spec.proofs.PastMoments.{not_begun, all_begun}
use Rattle.smo_ops_spec.proofs.PastSteps.{counts_accepted, stamp_accepted, later_stamp}
use Rattle.smo_ops_spec.proofs.PastSteps.{body_accepted, no_sum, stays_valid, before_command}

is_at_most : (m n : ℕ) → nat_le m n ≡ true → m ≤ n
is_at_most m n e = grind (arith, e)

is_above : (m n : ℕ) → nat_le m n ≡ false → n < m
is_above m n e = grind (arith, e)

-- what stands after all commands of a past
abbrev pub newest : Past → VersionState
newest past = version_state (length past.versions) (newest_tables past) (newest_database past)

last_is : (past : Past) (stamp : ℕ) (body : PlainBody)
    → last_or_nought (past_with past (record { stamp = stamp; body = body })).last ≡ stamp
last_is past stamp (changing changes) = refl
last_is past stamp (evolving op inverse) = refl

-- the newest state with one command more
newest_with : (past : Past) (stamp : ℕ) (body : PlainBody) → IsPast past
    → first_refusal (body_tests past body) ≡ None
    → newest (past_with past (record { stamp = stamp; body = body }))
    ≡ stands_after (newest past) body
newest_with past stamp (changing changes) h e =
    ap (version_state (length past.versions) (newest_tables past))
    (step (gained (newest_database past) new + lost (newest_database past) new == 0) refl)
  where
    new : Database
    new = after_each (newest_tables past) changes (newest_database past)

    step : (b : Bool) → (gained (newest_database past) new + lost (newest_database past) new == 0)
        ≡ b
        → latest_from no_database (if b then past.states else from_stamp stamp new past.states)
        ≡ new
    step true q =
        let zero = no_sum (gained (newest_database past) new) (lost (newest_database past) new) q in
        same_database (newest_tables past) (newest_database past) new h.database
        (changes_keep (newest_tables past) (newest_database past) changes 0 h.tables.schema
        h.database e) zero.0 zero.1
    step false q = latest_is stamp new no_database past.states
newest_with past stamp (evolving op inverse) h e =
    let v : PlainVersion = next_version stamp op inverse past in
    let one_more : length (past.versions ++ v ∷ []) ≡ length past.versions + 1 =
    length-append past.versions (v ∷ []) in
    let tables : newest_from no_tables (past.versions ++ v ∷ [])
    ≡ schema_after_each (newest_tables past) op = newest_added no_tables past.versions v in
    let database : latest_from no_database (from_stamp stamp
    (carried_each (newest_tables past) op (newest_database past)) past.states)
    ≡ carried_each (newest_tables past) op (newest_database past)
    = latest_is stamp (carried_each (newest_tables past) op (newest_database past)) no_database
    past.states in
    λ i. version_state (one_more i) (tables i) (database i)

-- commands of later stamps
abbrev pub AllLater : ℕ → List PlainCommand → Type 0
AllLater m [] = Unit {0}
AllLater m (c ∷ commands) = (m < c.stamp) × AllLater m commands

all_later : (past : Past) (commands : List PlainCommand) (m : ℕ) → AllAccepted past commands
    → m < last_or_nought past.last → AllLater m commands
all_later past [] m a l = tt
all_later past (c ∷ commands) m a l =
    let above : last_or_nought past.last ≤ c.stamp = later_stamp past c a.0 in
    let next = last_is past c.stamp c.body in
    (omega arith, all_later (past_with past c) commands m a.1 (omega arith))

later_too : (past : Past) (c : PlainCommand) (commands : List PlainCommand) (m : ℕ)
    → AllAccepted past (c ∷ commands) → m < c.stamp → AllLater m (c ∷ commands)
later_too past c commands m a l = (
  l,
  all_later (past_with past c) commands m a.1
      (let next = last_is past c.stamp c.body in omega arith),
)

none_up_to : (m : ℕ) (commands : List PlainCommand) → AllLater m commands → up_to m commands ≡ []
none_up_to m [] l = refl
none_up_to m (c ∷ commands) l = ap (λ b. cond b (c ∷ up_to m commands) (up_to m commands))
    (not_at m c.stamp l.0) ∙ none_up_to m commands l.1

-- later commands leave what was before them
version_before : (past : Past) (stamp : ℕ) (body : PlainBody) (m : ℕ) → m < stamp
    → version_at (past_with past (record { stamp = stamp; body = body })) m ≡ version_at past m
version_before past stamp (changing changes) m l = refl
version_before past stamp (evolving op inverse) m l =
    ap length (not_begun m past.versions (next_version stamp op inverse past) l)

same_version : (past : Past) (commands : List PlainCommand) (m : ℕ) → AllLater m commands
    → version_at (past_after past commands) m ≡ version_at past m
same_version past [] m l = refl
same_version past (c ∷ commands) m l = same_version (past_with past c) commands m l.1
    ∙ version_before past c.stamp c.body m l.0

same_database_at : (past : Past) (commands : List PlainCommand) (m : ℕ) → AllLater m commands
    → database_at (past_after past commands) m ≡ database_at past m
same_database_at past [] m l = refl
same_database_at past (c ∷ commands) m l = same_database_at (past_with past c) commands m l.1
    ∙ before_command past c.stamp c.body m l.0

-- the tables of a version stay
newest_tables_from : (before : Tables) (versions more : List PlainVersion)
    → tables_from before (versions ++ more) (length versions) ≡ newest_from before versions
newest_tables_from before [] [] = refl
newest_tables_from before [] (v ∷ more) = refl
newest_tables_from before (w ∷ versions) more = newest_tables_from w.tables versions more

abbrev pub more_versions : (past : Past) (stamp : ℕ) (body : PlainBody) → List PlainVersion
more_versions past stamp (changing changes) = []
more_versions past stamp (evolving op inverse) = next_version stamp op inverse past ∷ []

versions_with : (past : Past) (stamp : ℕ) (body : PlainBody)
    → (past_with past (record { stamp = stamp; body = body })).versions ≡ past.versions
    ++ more_versions past stamp body
versions_with past stamp (changing changes) = sym (append-nil past.versions)
versions_with past stamp (evolving op inverse) = refl

abbrev pub later_versions : Past → List PlainCommand → List PlainVersion
later_versions past [] = []
later_versions past (c ∷ commands) = more_versions past c.stamp c.body
    ++ later_versions (past_with past c) commands

versions_after : (past : Past) (commands : List PlainCommand)
    → (past_after past commands).versions ≡ past.versions ++ later_versions past commands
versions_after past [] = sym (append-nil past.versions)
versions_after past (c ∷ commands) =
    versions_after (past_with past c) commands
    ∙ ap (λ (vs : List PlainVersion). vs ++ later_versions (past_with past c) commands)
    (versions_with past c.stamp c.body)
    ∙ append_assoc past.versions (more_versions past c.stamp c.body)
    (later_versions (past_with past c) commands)

same_tables : (past : Past) (commands : List PlainCommand)
    → tables_of (past_after past commands) (length past.versions) ≡ newest_tables past
same_tables past commands =
    ap (λ (vs : List PlainVersion). tables_from no_tables vs (length past.versions))
    (versions_after past commands)
    ∙ newest_tables_from no_tables past.versions (later_versions past commands)

-- where all further commands are later
still_newest : (past : Past) (commands : List PlainCommand) (m : ℕ) → IsPast past
    → AllLater m commands → last_or_nought past.last ≤ m
    → HasState (past_after past commands) m (newest past)
still_newest past commands m h later l = record {
  version = same_version past commands m later
      ∙ ap length (all_begun (last_or_nought past.last) m past.versions h.versions l);
  tables = same_tables past commands;
  database = same_database_at past commands m later
      ∙ newest_holds no_database past.states m
      (up_to_later (last_or_nought past.last) m past.states l h.ended);
  valid = h.database;
}

pub has_state : (past : Past) (commands : List PlainCommand) (m : ℕ) → IsPast past
    → AllAccepted past commands → last_or_nought past.last ≤ m
    → HasState (past_after past commands) m (stands_after_all (newest past) (up_to m commands))
has_state past [] m h a l = still_newest past [] m h tt l
has_state past (c ∷ commands) m h a l =
    let next : IsPast (past_with past c) = stays_valid past c.stamp c.body h
    (stamp_accepted past c a.0) (counts_accepted past c a.0) (body_accepted past c a.0) in
    step (nat_le c.stamp m) refl (has_state (past_with past c) commands m next a.1)
  where
    reached : nat_le c.stamp m ≡ true → last_or_nought (past_with past c).last ≤ m
    reached q = (let same = last_is past c.stamp c.body in let low = is_at_most c.stamp m q in
        omega arith)

    step : (b : Bool) → nat_le c.stamp m ≡ b
        → (last_or_nought (past_with past c).last ≤ m
        → HasState (past_after (past_with past c) commands) m
        (stands_after_all (newest (past_with past c)) (up_to m commands)))
        → HasState (past_after past (c ∷ commands)) m
        (stands_after_all (newest past) (cond b (c ∷ up_to m commands) (up_to m commands)))
    step true q more =
        subst (λ (s : VersionState). HasState (past_after (past_with past c) commands) m
        (stands_after_all s (up_to m commands)))
        (newest_with past c.stamp c.body h (body_accepted past c a.0)) (more (reached q))
    step false q more =
        let later = later_too past c commands m a (is_above c.stamp m q) in
        subst (λ (cs : List PlainCommand). HasState (past_after past (c ∷ commands)) m
        (stands_after_all (newest past) cs))
        (sym (none_up_to m commands later.1)) (still_newest past (c ∷ commands) m h later l)

-- each command counts
pub counted : (past : Past) (commands : List PlainCommand)
    → (past_after past commands).commands ≡ past.commands + length commands
counted past [] = omega arith
counted past (c ∷ commands) =
    let rest = counted (past_with past c) commands in
    let one = one_more past c.stamp c.body in
    omega arith
  where
    one_more : (past : Past) (stamp : ℕ) (body : PlainBody)
        → (past_with past (record { stamp = stamp; body = body })).commands ≡ past.commands + 1
    one_more past stamp (changing changes) = refl
    one_more past stamp (evolving op inverse) = refl
