-- Groups that are restored, with one version more.
use Rattle.std.proofs.Common.{◌≡◌, ◌≤◌, ◌<◌, ◌+◌, ℕ, Bool, true, false, List, [], ◌∷◌, ◌++◌, map}
use Rattle.std.proofs.Common.{length, get_or, refl, sym, ap, subst, ◌∙◌, arith, length-append, inl}
use Rattle.std.proofs.Common.{inr}
use Rattle.std.specs.Prelude.{Option, Some, None}
use Rattle.std.specs.FinMap.{get}
use Rattle.std.proofs.lemmas.List.{length-map, map-append}
use Rattle.prima_base.specs.Columns.{Column}
use Rattle.schema_catalog.specs.Tables.{Tables}
use Rattle.history_store.specs.Store.{Store}
use Rattle.smo_ops_types.specs.declared.version.Version.{Version}
use Rattle.smo_ops_types.specs.Commands.{PlainVersion, version_of}
use Rattle.smo_ops_types.specs.Operators.{Operator, evolution_of}
use Rattle.smo_ops_spec.specs.Evolutions.{evolution_fault, schema_after_each}
use Rattle.smo_ops_spec.specs.Past.{no_tables, tables_from, newest_from}
use Rattle.smo_ops_spec.specs.Evolutions.{one_makes, one_consumes}
use Rattle.smo_ops_spec.proofs.PastMoments.{newest_tables_from, tables_still, tables_added}
use Rattle.smo_ops_spec.proofs.PastMoments.{before_or_not}
use Rattle.smo_ops_spec.proofs.MemberLaws.{all_accepted, each_table_stays, each_table_gone}
use Rattle.version_groups_tables.specs.declared.made_table.MadeTable.{MadeTable}
use Rattle.version_groups_tables.specs.Evolving.{ComeNext}
use Rattle.version_groups_tables.specs.Stored.{HasEntry, stored_as}
use Rattle.version_groups_tables.specs.Ending.{table_after, AreLiving}
use Rattle.version_groups_tables.specs.Places.{at_places}
use Rattle.version_groups_tables.specs.Restoring.{stores_of, BeginsOver, HasColumns, IsStored}
use Rattle.version_groups_tables.specs.Restoring.{OthersAre}
use Rattle.version_groups_tables.specs.Beginning.{ArePlaced}
use Rattle.version_groups_tables.proofs.LifelinesAfter.{entry_some, entry_none, living_after}
use Rattle.version_groups_tables.proofs.RestoredTables.{Listed}
use Rattle.version_groups.specs.Covering.{line_of}
use Rattle.version_groups.specs.Groups.{Kept, versions_in, newest_places, table_in}
use Rattle.version_groups.specs.Installing.{HasVersion, ComeWith}
use Rattle.version_groups.specs.Lifelines.{line_begun, made_tables}
use Rattle.version_groups.specs.Restoring.{AreRestored}
use Rattle.version_groups.proofs.Covered.{line_is, lines_begin, newest_living}

-- ---- tables whose lifelines may have ended

module _ (consumed : List ℕ → Bool) (k : ℕ) where
  abbrev ended : MadeTable → MadeTable
  ended = table_after consumed k

  -- what is stored is as it was
  stores_still : (tables : List MadeTable) → stores_of (map ended tables) ≡ stores_of tables
  stores_still [] = refl
  stores_still (t ∷ tables) = ap (λ (ss : List Store). t.store ∷ ss) (stores_still tables)

  stores_after : (tables begun : List MadeTable)
      → stores_of (map ended tables ++ begun) ≡ stores_of tables ++ stores_of begun
  stores_after tables begun = map-append (λ (t : MadeTable). t.store) (map ended tables) begun
      ∙ ap (λ (ss : List Store). ss ++ stores_of begun) (stores_still tables)

-- ---- tables that begin

pub begins_line : (k : ℕ) (m : Listed) (t : MadeTable) → BeginsOver k m t
    → line_of t ≡ line_begun k m
begins_line k m t h = line_is k m t h.name h.first h.last h.columns

-- ---- one version more

-- of groups with the same versions and tables at the same places, and other room, with one version
-- more
pub version_again : (kept new : Kept) (v : Version) (begun : List MadeTable) (own : List ℕ)
    (versions : List Version) (stored : List MadeTable) (places : List (List ℕ))
    (spare beginnings : ℕ)
    → versions ≡ kept.versions → stored ≡ kept.stored → places ≡ kept.places
    → HasVersion (record {
      versions = versions;
      stored = stored;
      places = places;
      spare = spare;
      beginnings = beginnings;
    }) new v begun own → HasVersion kept new v begun own
version_again kept new v begun own versions stored places spare beginnings is tables at h =
    let same : HasVersion (record {
      versions = kept.versions;
      stored = kept.stored;
      places =
          kept.places;
      spare = spare;
      beginnings = beginnings;
    }) new v begun own =
    subst (λ (x : List (List ℕ)). HasVersion (record {
      versions = kept.versions;
      stored = kept.stored;
      places = x;
      spare = spare;
      beginnings =
          beginnings;
    }) new v begun own) at
    (subst (λ (x : List MadeTable). HasVersion
    (record {
      versions = kept.versions;
      stored = x;
      places = places;
      spare = spare;
      beginnings =
          beginnings;
    }) new v begun own) tables
    (subst (λ (x : List Version). HasVersion (record
    { versions = x; stored = stored; places = places; spare = spare; beginnings = beginnings })
    new v begun own) is h)) in
    record {
      versions = same.versions;
      newest = same.newest;
      stored = same.stored;
      tables =
          same.tables;
      own = same.own;
      lifelines = same.lifelines;
    }

-- and so what comes with it
pub come_again : (kept new : Kept) (v : Version) (begun : List MadeTable) (own : List ℕ)
    → kept.versions ≡ new.versions → kept.stored ≡ new.stored → ComeWith kept v begun own
    → ComeWith new v begun own
come_again kept new v begun own versions stored h = record {
  lines = subst (λ (vs : List Version). map line_of begun
      ≡ map (line_begun (length vs + 1)) (made_tables (newest_from no_tables (map version_of vs))
      (evolution_of v.op) v.schema)) versions h.lines;
  living = subst (λ (vs : List Version). AreLiving
      (map (table_after (one_consumes (newest_from no_tables (map version_of vs))
      (evolution_of v.op))
      (length vs)) new.stored ++ begun) own) versions
      (subst (λ (ts : List MadeTable). AreLiving
      (map (table_after (one_consumes (newest_from no_tables (versions_in kept))
      (evolution_of v.op))
      (length kept.versions)) ts ++ begun) own) stored h.living);
}

module _ (kept : Kept) (h : AreRestored kept) (op : List Operator) where
  abbrev before : Tables
  before = newest_from no_tables (versions_in kept)

  abbrev n : ℕ
  n = length kept.versions

  number : length (versions_in kept) ≡ n
  number = length-map kept.versions version_of

  -- what is stored of the newest version's tables
  newest_entry : (name : List ℕ) → HasEntry (HasColumns name) (get before name)
      (table_in kept n name)
  newest_entry name =
      subst (λ (t : Tables). HasEntry (HasColumns name) (get t name) (table_in kept n name))
      (ap (tables_from no_tables (versions_in kept)) (sym number)
      ∙ newest_tables_from no_tables (versions_in kept)) (h.tables n name (omega arith))

  -- a table of the next version that is not made is stored, with its columns
  pub others_stored : (after : Tables) → after ≡ schema_after_each before op
      → (is_made : List ℕ → Bool)
      → ((name : List ℕ) → is_made name ≡ one_makes before op name)
      → OthersAre after is_made (λ name. table_in kept n name)
  others_stored after is is_made alike name columns there unmade =
      step (one_consumes before op name) refl
    where
      made_not : one_makes before op name ≡ false
      made_not = sym (alike name) ∙ unmade

      here : get (schema_after_each before op) name ≡ Some columns
      here = ap (λ (t : Tables). get t name) (sym is) ∙ there

      of_entry : (s : Option Store) → HasEntry (HasColumns name) (Some columns) s
          → IsStored columns s
      of_entry None e = absurd e
      of_entry (Some store) e = e

      step : (b : Bool) → one_consumes before op name ≡ b → IsStored columns (table_in kept n name)
      step true q = absurd (let gone = each_table_gone before op name made_not q in cc)
      step false q =
          of_entry (table_in kept n name)
          (subst (λ (o : Option (List Column)). HasEntry (HasColumns name) o (table_in kept n name))
          (sym (each_table_stays before op name made_not q) ∙ here) (newest_entry name))

  -- the tables that begin with it come with it
  pub comes_over : (v : Version) (begun : List MadeTable) (places : List ℕ) → evolution_of v.op ≡ op
      → evolution_fault before op ≡ None → v.schema ≡ schema_after_each before op
      → ComeNext kept.stored (newest_places kept) (one_makes before op) (BeginsOver (n + 1))
      HasColumns
      v.schema begun places → ComeWith kept v begun places
  comes_over v begun places is accepted schema next = record {
    lines =
        lines_begin (BeginsOver (n + 1)) (n + 1) (begins_line (n + 1))
        (made_tables before op v.schema) begun next.begin
        ∙ ap (λ o. map (line_begun (n + 1)) (made_tables before o v.schema)) (sym is);
    living =
        subst (λ o. AreLiving (map (table_after (one_consumes before o) n) kept.stored ++ begun)
        places)
        (sym is)
        (living_after kept.stored begun (newest_places kept) places before op n
        (all_accepted before op accepted)
        (newest_living kept h.lifelines)
        (λ name s e. entry_some (HasColumns name) (get before name) (table_in kept n name) s e
        (newest_entry name)) (λ j t l. (fresh j t l).last)
        (subst (λ (t : Tables). ArePlaced kept.stored begun (newest_places kept)
        (one_makes before op) t
        places) schema next.placed) gone);
  }
    where
      gone : (name : List ℕ) → get (schema_after_each before op) name ≡ None
          → stored_as name (at_places (kept.stored ++ begun) places) ≡ None
      gone name e =
          entry_none (HasColumns name) (stored_as name (at_places (kept.stored ++ begun) places))
          (subst (λ (o : Option (List Column)).
          HasEntry (HasColumns name) o (stored_as name
          (at_places (kept.stored ++ begun) places)))
          (ap (λ (t : Tables). get t name) schema ∙ e) (next.tables name))

      fresh : (j : ℕ) (t : MadeTable) → j < length begun
          → BeginsOver (n + 1) (get_or (made_tables before op v.schema) j ([], []))
          (get_or begun j t)
      fresh j t l = next.begin.each j ([], []) t
          (let as_many = next.begin.count in omega (arith, l, as_many))

-- groups with the version are restored
module _ (kept new : Kept) (h : AreRestored kept) (v : Version) (begun : List MadeTable)
    (places : List ℕ) (has : HasVersion kept new v begun places) where
  abbrev op : List Operator
  op = evolution_of v.op

  abbrev old : Tables
  old = newest_from no_tables (versions_in kept)

  abbrev m : ℕ
  m = length kept.versions

  pub stores_with : stores_of new.stored ≡ stores_of kept.stored ++ stores_of begun
  stores_with = ap stores_of (has.stored old) ∙ stores_after (one_consumes old op) m kept.stored
      begun

  module _ (next : ComeNext kept.stored (newest_places kept) (one_makes old op) (BeginsOver (m + 1))
      HasColumns v.schema begun places) where
    versions : versions_in new ≡ versions_in kept ++ version_of v ∷ []
    versions = ap (map version_of) has.versions ∙ map-append version_of kept.versions (v ∷ [])

    more : length new.versions ≡ m + 1
    more = ap length has.versions ∙ length-append kept.versions (v ∷ [])

    added : tables_from no_tables (versions_in kept ++ version_of v ∷ []) (m + 1) ≡ v.schema
    added =
        subst (λ j. tables_from no_tables (versions_in kept ++ version_of v ∷ []) j ≡ v.schema)
        (let e = number kept h op in omega (arith, e))
        (tables_added no_tables (versions_in kept) (version_of v))

    tables_all : (k : ℕ) (name : List ℕ) → k ≤ m + 1
        → HasEntry (HasColumns name) (get (tables_from no_tables
        (versions_in kept ++ version_of v ∷ []) k) name) (table_in new k name)
    tables_all k name l = elim (before_or_not m k) [
      | inl q ↦
          let here : k ≡ m + 1 = omega (arith, l, q) in
          subst (λ j. HasEntry (HasColumns name)
          (get (tables_from no_tables (versions_in kept ++ version_of v ∷ []) j) name)
          (table_in new j name)) (sym here)
          (subst (λ (t : Tables). HasEntry (HasColumns name) (get t name)
          (table_in new (m + 1) name)) (sym added)
          (subst (λ (o : Option Store). HasEntry (HasColumns name) (get v.schema name) o)
          (sym (has.own name)) (next.tables name)))
      | inr q ↦
          subst (λ (t : Tables). HasEntry (HasColumns name) (get t name) (table_in new k name))
          (sym (tables_still no_tables (versions_in kept) (version_of v) k
          (let e = number kept h op in omega (arith, q, e))))
          (subst (λ (o : Option Store). HasEntry (HasColumns name)
          (get (tables_from no_tables (versions_in kept) k) name) o) (sym (has.tables k name q))
          (h.tables k name q))
    ]

    pub restored_with : AreRestored new
    restored_with = record {
      lifelines = has.lifelines;
      tables = λ k name l.
          subst (λ (vs : List PlainVersion). HasEntry (HasColumns name)
          (get (tables_from no_tables vs k) name) (table_in new k name)) (sym versions)
          (tables_all k name (subst (λ j. k ≤ j) more l));
    }
