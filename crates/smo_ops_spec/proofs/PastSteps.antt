-- Pasts that accepted commands make, and what one command more does.
use Rattle.std.proofs.Common.{◌≡◌, ◌≤◌, ◌<◌, ◌+◌, ℕ, suc, Bool, true, false, List, [], ◌∷◌, ◌++◌}
use Rattle.std.proofs.Common.{length, refl, sym, ap, subst, ◌∙◌, inl, inr, arith, length-append}
use Rattle.std.specs.Prelude.{◌==◌, nat_lt, nat_le, Option, Some, None, if◌then◌else◌}
use Rattle.std.specs.Option.{option_map}
use Rattle.std.proofs.lemmas.Bool.Decides.{nat_tests}
use Rattle.std.specs.FinMap.{get, empty, get-empty, len-empty}
use Rattle.prima_base.specs.declared.refusal.What.TheVariants.{Versions}
use Rattle.prima_base.specs.declared.refusal.Refusal.TheVariants.{StampNotLater, TooMany}
use Rattle.prima_base.specs.Order.{bytes_cmp}
use Rattle.prima_base.specs.Columns.{Column}
use Rattle.prima_base.specs.Limits.{max_versions}
use Rattle.schema_catalog.specs.Tables.{Tables}
use Rattle.schema_catalog.specs.Databases.{DatabaseEntry, Database, IsEntry, IsDatabase}
use Rattle.smo_ops_types.specs.Operators.{Operator}
use Rattle.smo_ops_types.specs.Changes.{PlainChange}
use Rattle.smo_ops_types.specs.Commands.{PlainBody, changing, evolving, PlainCommand, PlainVersion}
use Rattle.smo_ops_spec.specs.First.{unless, first_refusal}
use Rattle.smo_ops_spec.specs.Effects.{after_each, gained, lost}
use Rattle.smo_ops_spec.specs.After.{IsValid}
use Rattle.smo_ops_spec.specs.Evolutions.{schema_after_each, carried_each, evolution_fault}
use Rattle.smo_ops_spec.specs.Past.{State, Past, no_tables, no_database, beginning, tables_of}
use Rattle.smo_ops_spec.specs.Past.{version_at, newest_from, newest_tables, database_from}
use Rattle.smo_ops_spec.specs.Past.{database_at, latest_from, newest_database, from_stamp}
use Rattle.smo_ops_spec.specs.Past.{next_version, past_with, next_database}
use Rattle.smo_ops_spec.specs.ValidPast.{AreStates, AllUpTo, AreDistinct, EachStarts}
use Rattle.smo_ops_spec.specs.ValidPast.{last_or_nought}
use Rattle.smo_ops_spec.specs.ValidPast.{IsPast}
use Rattle.smo_ops_spec.specs.Counts.{first_excess}
use Rattle.smo_ops_spec.specs.Inverses.{inverse_tests, inverse_fault}
use Rattle.smo_ops_spec.specs.Accepts.{operator_refusal, count_fault, stamp_fault}
use Rattle.smo_ops_spec.specs.Accepts.{body_tests, command_fault}
use Rattle.smo_ops_spec.proofs.Firsts.{none_of_first, none_mapped, met}
use Rattle.smo_ops_spec.proofs.DatabaseLaws.{changes_keep}
use Rattle.smo_ops_spec.proofs.MemberLaws.{all_accepted, each_is_valid, each_database}
use Rattle.smo_ops_spec.proofs.CountingLaws.{self_gains_nothing}
use Rattle.smo_ops_spec.proofs.SameDatabases.{same_database}
use Rattle.smo_ops_spec.proofs.PastLaws.{earlier_states, later_states, newest_holds, latest_is}
use Rattle.smo_ops_spec.proofs.PastLaws.{still_states, ends_at, up_to_later, newest_added}
use Rattle.smo_ops_spec.proofs.PastLaws.{in_force_later, in_force_added}
use Rattle.smo_ops_spec.proofs.VersionsInTurn.{versions_with}
use Rattle.smo_ops_spec.proofs.PastMoments.{not_begun, all_begun, few_begun, all_with_one}
use Rattle.smo_ops_spec.proofs.PastMoments.{tables_still, tables_added, newest_tables_from}
use Rattle.smo_ops_spec.proofs.PastMoments.{before_or_not}
use Rattle.smo_ops_spec.proofs.DistinctStates.{same_states, distinct_still, begins_last}
use Rattle.smo_ops_spec.proofs.DistinctStates.{still_distinct, each_still_starts, each_starts_with}

no_table : (n : List ℕ) → ◌≡◌ {A = Option (List Column)} (get (empty {R = bytes_cmp}) n) None
no_table n = get-empty bytes_cmp n

no_entry : (n : List ℕ) → ◌≡◌ {A = Option DatabaseEntry} (get (empty {R = bytes_cmp}) n) None
no_entry n = get-empty bytes_cmp n

pub beginning_is_past : IsPast beginning
beginning_is_past = record {
  tables = record {
    schema = λ n columns e. absurd (let h = no_table n in cc);
    narrow = λ n columns e. absurd (let h = no_table n in cc);
    few = (let h = len-empty bytes_cmp (List Column) in omega arith);
  };
  database = λ n. rw (no_table n, no_entry n) tt;
  each = λ m n. elim (nat_le 0 m) as (λ b. IsEntry (get no_tables n)
      (get (if b then no_database else no_database) n)) [
        | true ↦ rw (no_table n, no_entry n) tt
        | false ↦ rw (no_table n, no_entry n) tt
      ];
  versions = tt;
  evolved = tt;
  without = λ e. refl;
  distinct = tt;
  few = omega arith;
  begun = tt;
  states = (refl, tt);
  ended = (omega arith, tt);
}

-- what is accepted
stamp_is_later : (last : Option ℕ) (stamp : ℕ) → stamp_fault last stamp ≡ None
    → last_or_nought last ≤ stamp
stamp_is_later None stamp e = omega arith
stamp_is_later (Some last) stamp e = (let h =
    met (nat_lt last stamp) (StampNotLater stamp last) e in grind (arith, h))

module _ (past : Past) (command : PlainCommand) (accepted : command_fault past command ≡ None) where
  parts : (stamp_fault past.last command.stamp ≡ None)
      × (first_refusal (body_tests past command.body) ≡ None)
  parts = none_of_first (stamp_fault past.last command.stamp) (body_tests past command.body)
      (none_of_first (count_fault (first_excess command.body))
      (stamp_fault past.last command.stamp ∷ body_tests past command.body) accepted).1

  pub counts_accepted : first_excess command.body ≡ None
  counts_accepted = none_mapped (λ e. TooMany e.0 e.1) (first_excess command.body)
      (none_of_first (count_fault (first_excess command.body))
      (stamp_fault past.last command.stamp ∷ body_tests past command.body) accepted).0

  pub stamp_accepted : stamp_fault past.last command.stamp ≡ None
  stamp_accepted = parts.0

  pub later_stamp : last_or_nought past.last ≤ command.stamp
  later_stamp = stamp_is_later past.last command.stamp parts.0

  pub body_accepted : first_refusal (body_tests past command.body) ≡ None
  body_accepted = parts.1

inverse_accepted : (past : Past) (op : List Operator) (inverse : List (List Operator))
    → first_refusal (body_tests past (evolving op inverse)) ≡ None
    → inverse_fault (newest_tables past) op inverse ≡ None
inverse_accepted past op inverse e =
    let rest = none_of_first (unless (nat_lt (length past.versions) max_versions)
    (TooMany Versions max_versions))
    (option_map operator_refusal (evolution_fault (newest_tables past) op)
    ∷ inverse_tests (newest_tables past) op inverse) e in
    (none_of_first (option_map operator_refusal (evolution_fault (newest_tables past) op))
    (inverse_tests (newest_tables past) op inverse) rest.1).1

operator_accepted : (past : Past) (op : List Operator) (inverse : List (List Operator))
    → first_refusal (body_tests past (evolving op inverse)) ≡ None
    → evolution_fault (newest_tables past) op ≡ None
operator_accepted past op inverse e =
    let rest = none_of_first (unless (nat_lt (length past.versions) max_versions)
    (TooMany Versions max_versions))
    (option_map operator_refusal (evolution_fault (newest_tables past) op)
    ∷ inverse_tests (newest_tables past) op inverse) e in
    none_mapped operator_refusal (evolution_fault (newest_tables past) op)
    (none_of_first (option_map operator_refusal (evolution_fault (newest_tables past) op))
    (inverse_tests (newest_tables past) op inverse) rest.1).0

-- where a version is accepted there is room for it
one_more_version : (past : Past) (op : List Operator) (inverse : List (List Operator)) (version : PlainVersion)
    → first_refusal (body_tests past (evolving op inverse)) ≡ None
    → length (past.versions ++ version ∷ []) ≤ max_versions
one_more_version past op inverse version e =
    let h = met (nat_lt (length past.versions) max_versions) (TooMany Versions max_versions)
    (none_of_first (unless (nat_lt (length past.versions) max_versions)
    (TooMany Versions max_versions)) (option_map operator_refusal
    (evolution_fault (newest_tables past) op) ∷ inverse_tests (newest_tables past) op inverse) e).0 in
    let more = length-append past.versions (version ∷ []) in
    let few : length past.versions < max_versions = grind (arith, nat_tests, h) in
    omega (arith, few, more)

-- the states stay, or the new database holds from the stamp on
if_states : (b : Bool) (stamp : ℕ) (new : Database) (states : List State) → AreStates states
    → AreStates (if b then states else from_stamp stamp new states)
if_states true stamp new states a = a
if_states false stamp new states a = still_states stamp new states a

if_ended : (b : Bool) (stamp : ℕ) (new : Database) (states : List State) → AllUpTo stamp states
    → AllUpTo stamp (if b then states else from_stamp stamp new states)
if_ended true stamp new states a = a
if_ended false stamp new states a = ends_at stamp new states

if_database : (tables : Tables) (b : Bool) (stamp : ℕ) (new : Database) (states : List State)
    → IsDatabase tables (latest_from no_database states) → IsDatabase tables new
    → IsDatabase tables (latest_from no_database
    (if b then states else from_stamp stamp new states))
if_database tables true stamp new states o n = o
if_database tables false stamp new states o n =
    subst (IsDatabase tables) (sym (latest_is stamp new no_database states)) n

if_distinct : (versions : List PlainVersion) (b : Bool) (stamp : ℕ) (new : Database)
    (states : List State) → AreDistinct versions states
    → (b ≡ false → AreDistinct versions (from_stamp stamp new states))
    → AreDistinct versions (if b then states else from_stamp stamp new states)
if_distinct versions true stamp new states o n = o
if_distinct versions false stamp new states o n = n refl

if_begun : (versions : List PlainVersion) (b : Bool) (stamp : ℕ) (new : Database)
    (states : List State) → EachStarts states versions
    → EachStarts (from_stamp stamp new states) versions
    → EachStarts (if b then states else from_stamp stamp new states) versions
if_begun versions true stamp new states o n = o
if_begun versions false stamp new states o n = n

-- rows that are gained or lost make another database
changed_is_other : (old new : Database) → (gained old new + lost old new == 0) ≡ false → new ≡ old
    → ⊥
changed_is_other old new e q =
    let g : gained old new ≡ 0 = ap (gained old) q ∙ self_gains_nothing old in
    let l : lost old new ≡ 0 = ap (lost old) q ∙ self_gains_nothing old in
    grind (arith, e)

-- earlier moments
pub before_command : (past : Past) (stamp : ℕ) (body : PlainBody) (m : ℕ) → m < stamp
    → database_at (past_with past (record { stamp = stamp; body = body })) m ≡ database_at past m
before_command past stamp (changing changes) m l =
    let new : Database = after_each (newest_tables past) changes (newest_database past) in
    elim (gained (newest_database past) new + lost (newest_database past) new == 0)
    as (λ b. database_from no_database (if b then past.states else from_stamp stamp new past.states)
    m ≡ database_from no_database past.states m) [
      | true ↦ refl
      | false ↦ earlier_states stamp new no_database past.states m l
    ]
before_command past stamp (evolving op inverse) m l =
    earlier_states stamp (carried_each (newest_tables past) op (newest_database past)) no_database
    past.states m l

-- moments from the stamp on
pub no_sum : (a b : ℕ) → (a + b == 0) ≡ true → (a ≡ 0) × (b ≡ 0)
no_sum a b e = (let h : a + b ≡ 0 = grind (arith, e) in (omega arith, omega arith))

pub from_command : (past : Past) (stamp : ℕ) (body : PlainBody) → IsPast past
    → last_or_nought past.last ≤ stamp → first_refusal (body_tests past body) ≡ None
    → (m : ℕ) → stamp ≤ m → database_at (past_with past (record { stamp = stamp; body = body })) m
    ≡ next_database body past
from_command past stamp (changing changes) h l e m w =
    step (gained (newest_database past) new + lost (newest_database past) new == 0) refl
  where
    new : Database
    new = after_each (newest_tables past) changes (newest_database past)

    step : (b : Bool) → (gained (newest_database past) new + lost (newest_database past) new == 0)
        ≡ b
        → database_from no_database (if b then past.states else from_stamp stamp new past.states) m
        ≡ new
    step true q =
        let zero = no_sum (gained (newest_database past) new) (lost (newest_database past) new) q in
        newest_holds no_database past.states m
        (up_to_later (last_or_nought past.last) m past.states (omega arith) h.ended)
        ∙ same_database (newest_tables past) (newest_database past) new h.database
        (changes_keep (newest_tables past) (newest_database past) changes 0 h.tables.schema
        h.database e) zero.0 zero.1
    step false q = later_states stamp new no_database past.states m w
from_command past stamp (evolving op inverse) h l e m w =
    later_states stamp (carried_each (newest_tables past) op (newest_database past)) no_database
    past.states m w

-- at each moment the database is one of the version then in force
still_each : (past : Past) (stamp : ℕ) (changes : List PlainChange) → IsPast past
    → last_or_nought past.last ≤ stamp → first_refusal (body_tests past (changing changes)) ≡ None
    → (m : ℕ) → IsDatabase (tables_of past (version_at past m))
    (database_at (past_with past (record { stamp = stamp; body = changing changes })) m)
still_each past stamp changes h l e m = elim (before_or_not m stamp) [
  | inl b ↦ subst (IsDatabase (tables_of past (version_at past m)))
      (sym (before_command past stamp (changing changes) m b)) (h.each m)
  | inr b ↦ (
      let all : version_at past m ≡ length past.versions =
      ap length (all_begun (last_or_nought past.last) m past.versions h.versions
      (omega arith)) in
      let newest : tables_of past (version_at past m) ≡ newest_tables past = ap (tables_of past) all
      ∙ newest_tables_from no_tables past.versions in
      subst (λ (t : Tables). IsDatabase t (database_at
      (past_with past (record { stamp = stamp; body = changing changes })) m)) (sym newest)
      (subst (IsDatabase (newest_tables past))
      (sym (from_command past stamp (changing changes) h l e m b))
      (changes_keep (newest_tables past) (newest_database past) changes 0 h.tables.schema h.database
      e)))
]

each_evolved : (past : Past) (stamp : ℕ) (op : List Operator) (inverse : List (List Operator)) → IsPast past
    → last_or_nought past.last ≤ stamp
    → first_refusal (body_tests past (evolving op inverse)) ≡ None → (m : ℕ)
    → IsDatabase (tables_of (past_with past (record { stamp = stamp; body = evolving op inverse }))
    (version_at (past_with past (record { stamp = stamp; body = evolving op inverse })) m))
    (database_at (past_with past (record { stamp = stamp; body = evolving op inverse })) m)
each_evolved past stamp op inverse h l e m = elim (before_or_not m stamp) [
  | inl b ↦ (
      let version : version_at next m ≡ version_at past m =
      ap length (not_begun m past.versions new b) in
      let few : version_at past m ≤ length past.versions = few_begun m past.versions in
      let tables : tables_of next (version_at next m) ≡ tables_of past (version_at past m) =
      ap (tables_of next) version ∙ tables_still no_tables past.versions new (version_at past m)
      few in
      subst (λ (t : Tables). IsDatabase t (database_at next m)) (sym tables)
      (subst (IsDatabase (tables_of past (version_at past m)))
      (sym (before_command past stamp (evolving op inverse) m b)) (h.each m)))
  | inr b ↦ (
      let low : last_or_nought past.last ≤ m = omega arith in
      let all : version_at next m ≡ length past.versions + 1 =
      all_with_one (last_or_nought past.last) m past.versions new h.versions low b in
      let one : length past.versions + 1 ≡ suc (length past.versions) = omega arith in
      let tables : tables_of next (version_at next m) ≡ schema_after_each (newest_tables past) op =
      ap (tables_of next) (all ∙ one) ∙ tables_added no_tables past.versions new in
      subst (λ (t : Tables). IsDatabase t (database_at next m)) (sym tables)
      (subst (IsDatabase (schema_after_each (newest_tables past) op))
      (sym (from_command past stamp (evolving op inverse) h l e m b))
      (each_database (newest_tables past) op (newest_database past) h.tables
      (all_accepted (newest_tables past) op (operator_accepted past op inverse e)) h.database)))
]
  where
    new : PlainVersion
    new = next_version stamp op inverse past

    next : Past
    next = past_with past (record { stamp = stamp; body = evolving op inverse })

pub stays_valid : (past : Past) (stamp : ℕ) (body : PlainBody) → IsPast past
    → stamp_fault past.last stamp ≡ None → first_excess body ≡ None
    → first_refusal (body_tests past body) ≡ None
    → IsPast (past_with past (record { stamp = stamp; body = body }))
stays_valid past stamp (changing changes) h f c e =
    let l : last_or_nought past.last ≤ stamp = stamp_is_later past.last stamp f in
    let new : Database = after_each (newest_tables past) changes (newest_database past) in
    let same : Bool = gained (newest_database past) new + lost (newest_database past) new == 0 in
    record {
      tables = h.tables;
      database = if_database (newest_tables past) same stamp new past.states h.database
          (changes_keep (newest_tables past) (newest_database past) changes 0 h.tables.schema
          h.database e);
      each = still_each past stamp changes h l e;
      versions = in_force_later (last_or_nought past.last) stamp past.versions l h.versions;
      evolved = h.evolved;
      few = h.few;
      without = λ q. absurd (cc);
      states = if_states same stamp new past.states h.states;
      distinct = if_distinct past.versions same stamp new past.states h.distinct
          (λ q. still_distinct past.last stamp new past.states h.states h.ended f past.versions
          h.distinct (inl (changed_is_other (newest_database past) new q)));
      begun = if_begun past.versions same stamp new past.states h.begun
          (each_still_starts past.last stamp new past.states h.states h.ended f past.versions
          h.begun);
      ended = if_ended same stamp new past.states
          (up_to_later (last_or_nought past.last) stamp past.states l h.ended);
    }
stays_valid past stamp (evolving op inverse) h f c e =
    let l : last_or_nought past.last ≤ stamp = stamp_is_later past.last stamp f in
    let accepted : evolution_fault (newest_tables past) op ≡ None = operator_accepted past op inverse e in
    let new : Database = carried_each (newest_tables past) op (newest_database past) in
    let version : PlainVersion = next_version stamp op inverse past in
    let tables : newest_from no_tables (past.versions ++ next_version stamp op inverse past ∷ [])
    ≡ schema_after_each (newest_tables past) op =
    newest_added no_tables past.versions (next_version stamp op inverse past) in
    record {
      tables = subst IsValid (sym tables) (each_is_valid (newest_tables past) op h.tables (all_accepted (newest_tables past) op accepted));
      database = subst (λ (t : Tables). IsDatabase t
          (latest_from no_database (from_stamp stamp new past.states))) (sym tables)
          (subst (IsDatabase (schema_after_each (newest_tables past) op))
          (sym (latest_is stamp new no_database past.states))
          (each_database (newest_tables past) op (newest_database past) h.tables
          (all_accepted (newest_tables past) op accepted) h.database));
      each = each_evolved past stamp op inverse h l e;
      versions = in_force_added stamp past.versions (next_version stamp op inverse past)
          (in_force_later (last_or_nought past.last) stamp past.versions l h.versions)
          (omega arith);
      evolved = versions_with no_tables past.versions past.last version h.without h.versions
          h.evolved f c accepted (inverse_accepted past op inverse e) refl;
      few = one_more_version past op inverse version e;
      without = λ q. absurd (cc);
      states = still_states stamp new past.states h.states;
      distinct = still_distinct past.last stamp new past.states h.states h.ended f
          (past.versions ++ version ∷ []) (distinct_still past.versions version past.states
          h.distinct)
          (inr (begins_last past.versions version));
      begun = each_starts_with past.last stamp new past.states h.states h.ended f past.versions
          version refl h.begun;
      ended = ends_at stamp new past.states;
    }

-- pasts that agree at each moment
pub agreeing_states : (p q : Past) → IsPast p → IsPast q → p.versions ≡ q.versions
    → ((m : ℕ) → database_at p m ≡ database_at q m) → p.states ≡ q.states
agreeing_states p q h k v e =
    same_states p.versions p.states q.states h.states k.states h.distinct
    (subst (λ (vs : List PlainVersion). AreDistinct vs q.states) (sym v) k.distinct)
    h.begun (subst (λ (vs : List PlainVersion). EachStarts q.states vs) (sym v) k.begun) e
