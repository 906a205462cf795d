-- What an operator does to the sizes of a past, and to the lifelines of the stored tables.
use Rattle.std.proofs.Common.{◌≡◌, ◌<◌, ◌+◌, ◌-◌, ℕ, suc, zero, Bool, true, false, if◌then◌else◌}
use Rattle.std.proofs.Common.{List, [], ◌∷◌, ◌++◌, map, length, get_or, refl, sym, ap, subst, ◌∙◌}
use Rattle.std.proofs.Common.{arith, inl, inr, is_some}
use Rattle.std.specs.Prelude.{Option, Some, None, nat_lt}
use Rattle.std.specs.Option.{option_map}
use Rattle.std.specs.List.{filter}
use Rattle.std.specs.FinMap.{get, entries}
use Rattle.std.proofs.lemmas.List.{length-map, length-append, get_or-map, get_or_append_left}
use Rattle.std.proofs.Math.Seq.{get_or-append_right}
use Rattle.relations_spec.specs.Sets.{In}
use Rattle.relations_spec.proofs.SetLaws.{from_filter}
use Rattle.prima_base.specs.declared.refusal.Refusal.TheVariants.{TooMany as OverLimit}
use Rattle.prima_base.specs.declared.refusal.What.TheVariants.{Versions}
use Rattle.prima_base.specs.Columns.{Column, IsRelation}
use Rattle.prima_base.specs.Limits.{max_versions}
use Rattle.schema_catalog.specs.Tables.{Tables}
use Rattle.schema_catalog.specs.Databases.{Database, DatabaseEntry, Rows, Lost, IsEntry, IsDatabase}
use Rattle.history_store.specs.Store.{Store, AllBefore}
use Rattle.smo_ops_types.specs.Commands.{evolving, PlainVersion, version_of}
use Rattle.smo_ops_types.specs.declared.version.Version.{Version}
use Rattle.smo_ops_types.specs.Operators.{Operator, evolution_of}
use Rattle.smo_ops_spec.specs.Accepts.{command_fault, operator_refusal}
use Rattle.smo_ops_spec.specs.Evolutions.{evolution_fault, schema_after_each}
use Rattle.smo_ops_spec.specs.Effects.{rows_under}
use Rattle.smo_ops_spec.specs.OneRow.{Relation}
use Rattle.smo_ops_spec.specs.First.{unless}
use Rattle.smo_ops_spec.specs.Inverses.{inverse_tests}
use Rattle.smo_ops_spec.specs.Past.{Past, no_tables, newest_from, tables_of, newest_tables}
use Rattle.smo_ops_spec.specs.Past.{newest_database, next_version, next_database, past_with}
use Rattle.smo_ops_spec.specs.Sizes.{Size, if_living, ended_with, size_after, size_begun}
use Rattle.smo_ops_spec.specs.Sizes.{sizes_evolved}
use Rattle.smo_ops_spec.specs.Evolutions.{one_makes, one_consumes}
use Rattle.smo_ops_spec.proofs.MemberLaws.{all_accepted, each_database}
use Rattle.smo_ops_spec.proofs.Firsts.{none_of_first, none_mapped}
use Rattle.smo_ops_spec.proofs.PastMoments.{newest_tables_from, is_later, still_later}
use Rattle.smo_ops_spec.proofs.PastMoments.{before_or_not}
use Rattle.smo_ops_spec.proofs.PastSteps.{body_accepted, stamp_accepted}
use Rattle.version_groups_tables.specs.declared.made_table.MadeTable.{MadeTable}
use Rattle.version_groups_tables.specs.Becoming.{Begins}
use Rattle.version_groups_tables.specs.Stored.{stored_as}
use Rattle.version_groups_tables.specs.Ending.{table_after, AreLiving}
use Rattle.version_groups_tables.specs.Places.{at_places}
use Rattle.version_groups_tables.specs.Beginning.{BeginsWith, BeginInOrder, ArePlaced}
use Rattle.version_groups_tables.specs.Evolving.{BeginsEntry}
use Rattle.version_groups_tables.proofs.LifelinesAfter.{entry_none, living_after}
use Rattle.version_groups_tables.proofs.PlacedTables.{listed_in}
use Rattle.version_groups.specs.Covering.{line_of}
use Rattle.version_groups.specs.Groups.{Kept, versions_in, newest_places, table_in}
use Rattle.version_groups.specs.Lifelines.{last_after, line_begun, made_tables}
use Rattle.version_groups.specs.Installing.{HasVersion, ComeWith}
use Rattle.version_groups.specs.Representation.{AreUpTo, RepresentsEntry, Represents}
use Rattle.version_groups.specs.Sizes.{HasSize, HaveSizes}
use Rattle.version_groups.specs.Steps.{a_command, IsNextVersion}
use Rattle.version_groups.proofs.Covered.{newest_living, line_is, lines_begin}
use Rattle.version_groups.proofs.RowsWritten.{rows_wide, written_first}

-- ---- sizes of tables that stand after one another

-- neither is longer
no_size : (s : Size) (sizes : List Size) → HaveSizes (s ∷ sizes) [] → ⊥
no_size s sizes h = (let e = h.count in omega (arith, e))

no_table : (t : MadeTable) (tables : List MadeTable) → HaveSizes [] (t ∷ tables) → ⊥
no_table t tables h = (let e = h.count in omega (arith, e))

-- the first, and the others
rest_have : (s : Size) (sizes : List Size) (t : MadeTable) (tables : List MadeTable)
    → HaveSizes (s ∷ sizes) (t ∷ tables) → HaveSizes sizes tables
rest_have s sizes t tables h = record {
  count = (let e = h.count in omega (arith, e));
  each =
      λ k d e l. h.each (suc k) d e (omega (arith, l));
}

one_has : (s : Size) (sizes : List Size) (t : MadeTable) (tables : List MadeTable) → HasSize s t
    → HaveSizes sizes tables → HaveSizes (s ∷ sizes) (t ∷ tables)
one_has s sizes t tables one h = record { count = ap suc h.count; each = λ k d e l. there k d e l }
  where
    there : (k : ℕ) (d : Size) (e : MadeTable) → k < length (s ∷ sizes)
        → HasSize (get_or (s ∷ sizes) k d) (get_or (t ∷ tables) k e)
    there zero d e l = one
    there (suc k) d e l = h.each k d e (omega (arith, l))

have_joined : (sizes more : List Size) (tables others : List MadeTable) → HaveSizes sizes tables
    → HaveSizes more others → HaveSizes (sizes ++ more) (tables ++ others)
have_joined [] more [] others h k = k
have_joined [] more (t ∷ tables) others h k = absurd (no_table t tables h)
have_joined (s ∷ sizes) more [] others h k = absurd (no_size s sizes h)
have_joined (s ∷ sizes) more (t ∷ tables) others h k =
    one_has s (sizes ++ more) t (tables ++ others) (h.each 0 s t (omega arith))
    (have_joined sizes more tables others (rest_have s sizes t tables h) k)

-- ---- the lifelines of consumed tables end

module _ (before : Tables) (op : List Operator) (k : ℕ) where
  module _ (s : Size) (t : MadeTable) (h : HasSize s t) where
    -- only the last version is another
    with_last : (o p : Option ℕ) → p ≡ o → HasSize
        (record { table = s.table; first = s.first; last = o; keys = s.keys; columns = s.columns })
        (record { name = t.name; first = t.first; last = p; store = t.store })
    with_last o p e = record {
      name = h.name;
      first = h.first;
      last = e;
      keys = h.keys;
      columns =
          h.columns;
    }

    ends_by : (o p : Option ℕ) → p ≡ o → s.last ≡ o → (b : Bool)
        → HasSize (if_living o (if b then ended_with k s else s) s)
        (record { name = t.name; first = t.first; last = last_after b k p; store = t.store })
    ends_by None None e i true = with_last (Some k) (Some k) refl
    ends_by None None e i false = with_last s.last None (sym i)
    ends_by None (Some m) e i b = absurd (cc)
    ends_by (Some m) None e i b = absurd (cc)
    ends_by (Some m) (Some n) e i b = with_last s.last (Some n) (e ∙ sym i)

    ends : HasSize (size_after before op k s) (table_after (one_consumes before op) k t)
    ends =
        subst (λ b. HasSize (size_after before op k s)
        (record {
          name = t.name;
          first = t.first;
          last = last_after b k t.last;
          store =
              t.store;
        })) (sym (ap (one_consumes before op) h.name))
        (ends_by s.last t.last h.last refl (one_consumes before op s.table))

  -- each of them
  have_after : (sizes : List Size) (tables : List MadeTable) → HaveSizes sizes tables
      → HaveSizes (map (size_after before op k) sizes)
      (map (table_after (one_consumes before op) k) tables)
  have_after [] [] h = record { count = refl; each = λ j d e l. absurd (omega (arith, l)) }
  have_after [] (t ∷ tables) h = absurd (no_table t tables h)
  have_after (s ∷ sizes) [] h = absurd (no_size s sizes h)
  have_after (s ∷ sizes) (t ∷ tables) h =
      one_has (size_after before op k s) (map (size_after before op k) sizes)
      (table_after (one_consumes before op) k t) (map (table_after (one_consumes before op) k)
      tables)
      (ends s t (h.each 0 s t (omega arith)))
      (have_after sizes tables (rest_have s sizes t tables h))

-- ---- those of the made ones begin

module _ (database : Database) (version stamp : ℕ) where
  begins : (made : List ℕ × List Column) (t : MadeTable)
      → BeginsWith version stamp (λ name. rows_under (get database name)) made t
      → IsRelation made.1 (rows_under (get database made.0))
      → HasSize (size_begun version database made) t
  begins made t h r = record {
    name = h.name;
    first = h.first;
    last = h.last;
    keys = h.keys;
    columns = written_first (rows_under (get database made.0)) made.1 t.store.cells
        (rows_wide made.1 (rows_under (get database made.0)) r.fitting) h.count h.written;
  }

  -- each of them, in their order
  have_begun : (made : List (List ℕ × List Column)) (begun : List MadeTable)
      → BeginInOrder (BeginsWith version stamp (λ name. rows_under (get database name))) made begun
      → ((m : List ℕ × List Column) → In m made → IsRelation m.1 (rows_under (get database m.0)))
      → HaveSizes (map (size_begun version database) made) begun
  have_begun [] [] h r = record { count = refl; each = λ j d e l. absurd (omega (arith, l)) }
  have_begun [] (t ∷ begun) h r = absurd (let e = h.count in omega (arith, e))
  have_begun (m ∷ made) [] h r = absurd (let e = h.count in omega (arith, e))
  have_begun (m ∷ made) (t ∷ begun) h r =
      one_has (size_begun version database m) (map (size_begun version database) made) t begun
      (begins m t (h.each 0 m t (omega arith)) (r m (inl refl)))
      (have_begun made begun (record {
        count = (let e = h.count in omega (arith, e));
        each =
            λ k d e l. h.each (suc k) d e (omega (arith, l));
      }) (λ n i. r n (inr i)))

-- ---- after an operator

-- a database has a relation of the columns of each table
relation_in : (columns : List Column) (o : Option DatabaseEntry) → IsEntry (Some columns) o
    → IsRelation columns (rows_under o)
relation_in columns None h = absurd h
relation_in columns (Some (Rows rows)) h = h
relation_in columns (Some (Lost k i)) h = absurd h

module _ (kept : Kept) (past : Past) (op : List Operator) (stamp : ℕ) (database : Database)
    (represents : Represents kept past) (accepted : evolution_fault (newest_tables past) op ≡ None)
    (number : length kept.versions ≡ length past.versions)
    (whole : IsDatabase (schema_after_each (newest_tables past) op) database)
    (begun : List MadeTable)
    (places : List ℕ)
    (begin : BeginInOrder (BeginsWith (length kept.versions + 1) stamp
    (λ name. rows_under (get database name)))
    (filter (λ (e : List ℕ × List Column). one_makes (newest_tables past) op e.0)
    (entries (schema_after_each (newest_tables past) op))) begun)
    (placed : ArePlaced kept.stored begun (newest_places kept) (one_makes (newest_tables past) op)
    (schema_after_each (newest_tables past) op) places)
    (entry : (name : List ℕ) → BeginsEntry stamp (rows_under (get database name))
    (get (schema_after_each (newest_tables past) op) name)
    (stored_as name (at_places (kept.stored ++ begun) places))) where
  abbrev before : Tables
  before = newest_tables past

  abbrev after : Tables
  after = schema_after_each before op

  abbrev n : ℕ
  n = length kept.versions

  abbrev ended : List MadeTable
  ended = map (table_after (one_consumes before op) n) kept.stored

  sizes_after : HaveSizes (sizes_evolved before op after database (length past.versions) past.sizes)
      (ended ++ begun)
  sizes_after =
      subst (λ k. HaveSizes (sizes_evolved before op after database k past.sizes) (ended ++ begun))
      number
      (have_joined (map (size_after before op n) past.sizes)
      (map (size_begun (n + 1) database) (filter
      (λ (e : List ℕ × List Column). one_makes before op e.0) (entries after))) ended begun
      (have_after before op n past.sizes kept.stored represents.sizes)
      (have_begun database (n + 1) stamp (filter
      (λ (e : List ℕ × List Column). one_makes before op e.0) (entries after)) begun begin own))
    where
      own : (m : List ℕ × List Column) → In m
          (filter (λ (e : List ℕ × List Column). one_makes before op e.0) (entries after))
          → IsRelation m.1 (rows_under (get database m.0))
      own m i =
          let there = listed_in after m (from_filter
          (λ (e : List ℕ × List Column). one_makes before op e.0) m (entries after) i).0 in
          relation_in m.1 (get database m.0) (subst
          (λ (o : Option (List Column)). IsEntry o (get database m.0)) there (whole m.0))

  -- a table that is stored under a name is one of the schema
  known : (name : List ℕ) (s : Store) → stored_as name (at_places kept.stored (newest_places kept))
      ≡ Some s → is_some (get before name) ≡ true
  known name s e =
      subst (λ (o : Tables). is_some (get o name) ≡ true)
      (newest_tables_from no_tables past.versions)
      (something (get (tables_of past (length past.versions)) name)
      (table_in kept (length past.versions) name) s
      (ap (λ k. table_in kept k name) (sym number) ∙ e)
      (represents.tables (length past.versions) name (omega arith)))
    where
      something : (o : Option (List Column)) (s : Option Store) (x : Store) → s ≡ Some x
          → RepresentsEntry past (length past.versions) name o s → is_some o ≡ true
      something None None x e h = absurd (cc)
      something None (Some y) x e h = absurd h
      something (Some columns) s x e h = refl

  gone : (name : List ℕ) → get after name ≡ None
      → stored_as name (at_places (kept.stored ++ begun) places) ≡ None
  gone name e =
      entry_none (λ columns store. Begins columns stamp (rows_under (get database name)) store)
      (stored_as name (at_places (kept.stored ++ begun) places))
      (subst (λ (o : Option (List Column)). BeginsEntry stamp (rows_under (get database name)) o
      (stored_as name (at_places (kept.stored ++ begun) places))) e (entry name))

  still_living : AreLiving (ended ++ begun) places
  still_living =
      living_after kept.stored begun (newest_places kept) places before op n
      (all_accepted before op accepted)
      (newest_living kept represents.lifelines) known
      (λ j t l. (begin.each j ([], []) t (let as_many = begin.count in
      omega (arith, l, as_many))).last) placed gone

-- an operator whose command is accepted is accepted
pub operator_accepted : (past : Past) (stamp : ℕ) (op : List Operator)
    (inverse : List (List Operator))
    → command_fault past (a_command stamp (evolving op inverse)) ≡ None
    → evolution_fault (newest_tables past) op ≡ None
operator_accepted past stamp op inverse accepted =
    let rest = none_of_first (unless (nat_lt (length past.versions) max_versions)
    (OverLimit Versions max_versions))
    (option_map operator_refusal (evolution_fault (newest_tables past) op)
    ∷ inverse_tests (newest_tables past) op inverse)
    (body_accepted past (a_command stamp (evolving op inverse)) accepted) in
    none_mapped operator_refusal (evolution_fault (newest_tables past) op)
    (none_of_first (option_map operator_refusal (evolution_fault (newest_tables past) op))
    (inverse_tests (newest_tables past) op inverse) rest.1).0

-- a table that begins with its columns and rows is stored over a lifeline that begins
begins_line : (version stamp : ℕ) (rows : List ℕ → Relation) (m : List ℕ × List Column)
    (t : MadeTable) → BeginsWith version stamp rows m t → line_of t ≡ line_begun version m
begins_line version stamp rows m t h = line_is version m t h.name h.first h.last h.columns

-- a version that is ready, with the tables that begin with it
module _ (kept : Kept) (past : Past) (stamp : ℕ) (op : List Operator)
    (inverse : List (List Operator))
    (represents : Represents kept past) (number : length kept.versions ≡ length past.versions)
    (accepted : command_fault past (a_command stamp (evolving op inverse)) ≡ None) (made : Version)
    (begun : List MadeTable) (places : List ℕ)
    (ready : IsNextVersion kept (newest_tables past) (next_version stamp op inverse past)
    (next_database (evolving op inverse) past) (version_of made) begun places) where
  op_accepted : evolution_fault (newest_tables past) op ≡ None
  op_accepted = operator_accepted past stamp op inverse accepted

  -- the carried database is of the next schema
  whole : IsDatabase (schema_after_each (newest_tables past) op)
      (next_database (evolving op inverse) past)
  whole = each_database (newest_tables past) op
      (newest_database past) represents.valid.tables
      (all_accepted (newest_tables past) op op_accepted) represents.valid.database

  abbrev its : List Operator
  its = evolution_of made.op

  same_op : its ≡ op
  same_op = ap (λ (v : PlainVersion). v.op) ready.version

  same_before : newest_from no_tables (versions_in kept) ≡ newest_tables past
  same_before = ap (newest_from no_tables) represents.versions

  pub comes_with : ComeWith kept made begun places
  comes_with = record {
    lines =
        lines_begin (BeginsWith (length kept.versions + 1) stamp
        (λ name. rows_under (get (next_database (evolving op inverse) past) name)))
        (length kept.versions + 1) (begins_line (length kept.versions + 1) stamp
        (λ name. rows_under (get (next_database (evolving op inverse) past) name)))
        (made_tables (newest_tables past) op (schema_after_each (newest_tables past) op)) begun
        ready.begin
        ∙ sym (ap (λ (t : Tables). map (line_begun (length kept.versions + 1))
        (made_tables t its made.schema)) same_before
        ∙ ap (λ o. map (line_begun (length kept.versions + 1))
        (made_tables (newest_tables past) o made.schema)) same_op
        ∙ ap (λ (t : Tables). map (line_begun (length kept.versions + 1))
        (made_tables (newest_tables past) op t))
        (ap (λ (v : PlainVersion). v.tables) ready.version));
    living =
        subst (λ (t : Tables). AreLiving (map (table_after (one_consumes t its)
        (length kept.versions))
        kept.stored ++ begun) places) (sym same_before)
        (subst (λ o. AreLiving (map (table_after (one_consumes (newest_tables past) o)
        (length kept.versions)) kept.stored ++ begun) places) (sym same_op)
        (still_living kept past op stamp (next_database (evolving op inverse) past) represents
        op_accepted number whole begun places ready.begin ready.placed ready.tables));
  }

  -- groups with the version have the sizes of the past with the operator
  module _ (new : Kept) (has : HasVersion kept new made begun places) where
    -- the tables, some of whose lifelines have ended, and those that begin
    stored : new.stored ≡ map (table_after (one_consumes (newest_tables past) op)
        (length kept.versions)) kept.stored ++ begun
    stored =
        has.stored (newest_tables past)
        ∙ ap (λ o. map (table_after (one_consumes (newest_tables past) o) (length kept.versions))
        kept.stored ++ begun) same_op

    -- the sizes are those after the operator
    sizes_after_it : HaveSizes (past_with past (a_command stamp (evolving op inverse))).sizes
        new.stored
    sizes_after_it =
        subst (HaveSizes (past_with past (a_command stamp (evolving op inverse))).sizes)
        (sym stored)
        (sizes_after kept past op stamp
        (next_database (evolving op inverse) past) represents op_accepted
        number whole begun places ready.begin ready.placed ready.tables)

    -- and no stamp in its tables is later than the operator's
    stamps_after_it : AreUpTo (Some stamp) new.stored
    stamps_after_it = subst (AreUpTo (Some stamp)) (sym stored) up_to
      where
        consumed : List ℕ → Bool
        consumed = one_consumes (newest_tables past) op

        ended : List MadeTable
        ended = map (table_after consumed (length kept.versions)) kept.stored

        as_long : length ended ≡ length kept.stored
        as_long = length-map kept.stored (table_after consumed (length kept.versions))

        up_to : AreUpTo (Some stamp) (ended ++ begun)
        up_to p t m l later = elim (before_or_not p (length kept.stored)) [
          | inl b ↦
              let is : get_or (ended ++ begun) p t
              ≡ table_after consumed (length kept.versions) (get_or kept.stored p t) =
              get_or_append_left ended begun t p (omega (arith, b, as_long))
              ∙ get_or-map (table_after consumed (length kept.versions)) kept.stored p t t b in
              subst (λ (x : MadeTable). AllBefore x.store m) (sym is)
              (represents.stamps p t m b (still_later past.last stamp m
              (is_later past.last stamp (stamp_accepted past
              (a_command stamp (evolving op inverse)) accepted)) (omega (arith, later))))
          | inr b ↦
              let is : get_or (ended ++ begun) p t ≡ get_or begun (p - length ended) t =
              get_or-append_right ended begun p t (omega (arith, b, as_long)) in
              let all = length-append ended begun in
              let as_many = ready.begin.count in
              subst (λ (x : MadeTable). AllBefore x.store m) (sym is)
              ((ready.begin.each (p - length ended) ([], []) t
              (omega (arith, l, b, all, as_long, as_many))).later m later)
        ]

pub sizes_begin : (kept new : Kept) (past : Past) (stamp : ℕ) (op : List Operator)
    (inverse : List (List Operator)) (represents : Represents kept past)
    → length kept.versions ≡ length past.versions
    → command_fault past (a_command stamp (evolving op inverse)) ≡ None
    → (made : Version) (begun : List MadeTable) (places : List ℕ)
    → HasVersion kept new made begun places
    → IsNextVersion kept (newest_tables past) (next_version stamp op inverse past)
    (next_database (evolving op inverse) past) (version_of made) begun places
    → HaveSizes (past_with past (a_command stamp (evolving op inverse))).sizes new.stored
sizes_begin kept new past stamp op inverse represents number accepted made begun places has ready =
    sizes_after_it kept past stamp op inverse represents number accepted made begun places ready new
    has

pub stamps_begin : (kept new : Kept) (past : Past) (stamp : ℕ) (op : List Operator)
    (inverse : List (List Operator)) (represents : Represents kept past)
    → length kept.versions ≡ length past.versions
    → command_fault past (a_command stamp (evolving op inverse)) ≡ None
    → (made : Version) (begun : List MadeTable) (places : List ℕ)
    → HasVersion kept new made begun places
    → IsNextVersion kept (newest_tables past) (next_version stamp op inverse past)
    (next_database (evolving op inverse) past) (version_of made) begun places
    → AreUpTo (Some stamp) new.stored
stamps_begin kept new past stamp op inverse represents number accepted made begun places has ready =
    stamps_after_it kept past stamp op inverse represents number accepted made begun places ready
    new has
