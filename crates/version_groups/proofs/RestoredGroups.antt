-- Groups that are restored from nothing, version by version.
use Rattle.std.proofs.Common.{◌≡◌, ◌+◌, ℕ, Bool, List, [], ◌∷◌, ◌++◌, map, length, refl, sym, ap}
use Rattle.std.proofs.Common.{subst, ◌∙◌, arith, append_assoc, append-nil}
use Rattle.std.specs.Prelude.{Option, Some, None}
use Rattle.std.specs.FinMap.{get, get-empty}
use Rattle.std.proofs.lemmas.List.{map-append}
use Rattle.prima_base.specs.Columns.{Column}
use Rattle.prima_base.specs.Order.{bytes_cmp}
use Rattle.schema_catalog.specs.Tables.{Tables}
use Rattle.history_store.specs.Store.{Store}
use Rattle.smo_ops_types.specs.declared.version.Version.{Version}
use Rattle.smo_ops_types.specs.Commands.{PlainVersion, version_of}
use Rattle.smo_ops_types.specs.Operators.{evolution_of}
use Rattle.smo_ops_spec.specs.After.{IsValid}
use Rattle.smo_ops_spec.specs.ValidPast.{AreVersions}
use Rattle.smo_ops_spec.specs.Past.{beginning, no_tables, tables_from, newest_from}
use Rattle.smo_ops_spec.specs.Evolutions.{one_consumes}
use Rattle.smo_ops_spec.proofs.MemberLaws.{all_accepted, each_is_valid}
use Rattle.smo_ops_spec.proofs.PastLaws.{newest_added}
use Rattle.version_groups_tables.specs.declared.made_table.MadeTable.{MadeTable}
use Rattle.version_groups_tables.specs.Stored.{HasEntry}
use Rattle.version_groups_tables.specs.Restoring.{stores_of, HasColumns, HaveColumns}
use Rattle.version_groups_tables.proofs.RestoredTables.{Listed}
use Rattle.version_groups.specs.Covering.{line_of}
use Rattle.version_groups.specs.Groups.{Kept, versions_in, table_in}
use Rattle.version_groups.specs.Lifelines.{Lifeline, line_after, line_begun, made_tables}
use Rattle.version_groups.specs.Lifelines.{lifelines_after, lifelines_from, lifelines_of}
use Rattle.version_groups.specs.Lifelines.{lifeline_columns}
use Rattle.version_groups.specs.Restoring.{store_columns, AreRestored}
use Rattle.version_groups.specs.Representation.{RepresentsEntry, Represents}

-- ---- nothing was accepted

nothing_mapped : (versions : List Version) → map version_of versions ≡ [] → versions ≡ []
nothing_mapped [] e = refl
nothing_mapped (v ∷ versions) e = absurd (cc)

no_tables_more : (tables : List MadeTable) → length tables ≡ 0 → tables ≡ []
no_tables_more [] e = refl
no_tables_more (t ∷ tables) e = absurd (omega (arith, e))

module _ (kept : Kept) (h : Represents kept beginning) where
  pub no_versions : kept.versions ≡ []
  no_versions = nothing_mapped kept.versions h.versions

  pub nothing_stored : kept.stored ≡ []
  nothing_stored = no_tables_more kept.stored h.sizes.count

  no_entry : (Is : List Column → Store → Type 0) (k : ℕ) (name : List ℕ) (o : Option (List Column))
      (s : Option Store) → o ≡ None → RepresentsEntry beginning k name o s → HasEntry Is o s
  no_entry Is k name None None e s = tt
  no_entry Is k name None (Some store) e s = s
  no_entry Is k name (Some columns) s e r = absurd (cc)

  pub nothing_restored : AreRestored kept
  nothing_restored = record {
    lifelines = h.lifelines;
    tables = λ k name l.
        subst (λ (vs : List PlainVersion). HasEntry (HasColumns name)
        (get (tables_from no_tables vs k) name) (table_in kept k name)) (sym h.versions)
        (no_entry (HasColumns name) k name (get no_tables name) (table_in kept k name)
        (get-empty bytes_cmp name)
        (h.tables k name (let none = ap length no_versions in omega (arith, l, none))));
  }

-- ---- one version more

pub one_more_version : (old new : List Version) (v : Version) → new ≡ old ++ v ∷ []
    → map version_of new ≡ map version_of old ++ version_of v ∷ []
one_more_version old new v e = ap (map version_of) e ∙ map-append version_of old (v ∷ [])

pub newest_is_last : (old new : List Version) (v : Version) → new ≡ old ++ v ∷ []
    → newest_from no_tables (map version_of new) ≡ v.schema
newest_is_last old new v e = ap (newest_from no_tables) (one_more_version old new v e)
    ∙ newest_added no_tables (map version_of old) (version_of v)

-- versions that are left, after one that is accepted
module _ (last : Option ℕ) (before : Tables) (v : Version) (rest left : List Version)
    (is : left ≡ v ∷ rest) (are : AreVersions last before (map version_of left))
    (valid : IsValid before) where
  both : AreVersions last before (version_of v ∷ map version_of rest)
  both = subst (λ (vs : List Version). AreVersions last before (map version_of vs)) is are

  pub next_valid : IsValid v.schema
  next_valid = subst IsValid (sym both.0.tables)
      (each_is_valid before (evolution_of v.op) valid
      (all_accepted before (evolution_of v.op) both.0.accepted))

  pub rest_accepted : AreVersions (Some v.stamp) v.schema (map version_of rest)
  rest_accepted = both.1

-- where none is left there are all
pub none_left : (versions left all : List Version) → length left ≡ 0 → versions ++ left ≡ all
    → versions ≡ all
none_left versions [] all l e = sym (append-nil versions) ∙ e
none_left versions (v ∷ left) all l e = absurd (omega (arith, l))

-- ---- the columns of the tables that are made

abbrev columns_made : List Listed → List (List Column)
columns_made made = map (λ (e : Listed). e.1) made

-- those of all that versions make, after the one with the tables `before`
abbrev pub columns_begun : Tables → List PlainVersion → List (List Column)
columns_begun before [] = []
columns_begun before (v ∷ versions) = columns_made (made_tables before v.op v.tables)
    ++ columns_begun v.tables versions

begun_apart : (before : Tables) (versions more : List PlainVersion)
    → columns_begun before (versions ++ more) ≡ columns_begun before versions
    ++ columns_begun (newest_from before versions) more
begun_apart before [] more = refl
begun_apart before (v ∷ versions) more =
    ap (λ cs. columns_made (made_tables before v.op v.tables) ++ cs)
    (begun_apart v.tables versions more)
    ∙ sym (append_assoc (columns_made (made_tables before v.op v.tables))
    (columns_begun v.tables versions) (columns_begun (newest_from v.tables versions) more))

columns_still : (consumed : List ℕ → Bool) (k : ℕ) (lines : List Lifeline)
    → lifeline_columns (map (line_after consumed k) lines) ≡ lifeline_columns lines
columns_still consumed k [] = refl
columns_still consumed k (l ∷ lines) = ap (λ cs. l.columns ∷ cs) (columns_still consumed k lines)

columns_begin : (k : ℕ) (made : List Listed) → lifeline_columns (map (line_begun k) made)
    ≡ columns_made made
columns_begin k [] = refl
columns_begin k (e ∷ made) = ap (λ cs. e.1 ∷ cs) (columns_begin k made)

columns_after : (before : Tables) (k : ℕ) (lines : List Lifeline) (v : PlainVersion)
    → lifeline_columns (lifelines_after before k lines v) ≡ lifeline_columns lines
    ++ columns_made (made_tables before v.op v.tables)
columns_after before k lines v =
    map-append (λ (l : Lifeline). l.columns) (map (line_after (one_consumes before v.op) k) lines)
    (map (line_begun (k + 1)) (made_tables before v.op v.tables))
    ∙ ap (λ cs. cs ++ lifeline_columns (map (line_begun (k + 1))
    (made_tables before v.op v.tables)))
    (columns_still (one_consumes before v.op) k lines)
    ∙ ap (λ cs. lifeline_columns lines ++ cs)
    (columns_begin (k + 1) (made_tables before v.op v.tables))

columns_from : (before : Tables) (k : ℕ) (lines : List Lifeline) (versions : List PlainVersion)
    → lifeline_columns (lifelines_from before k lines versions) ≡ lifeline_columns lines
    ++ columns_begun before versions
columns_from before k lines [] = sym (append-nil (lifeline_columns lines))
columns_from before k lines (v ∷ versions) =
    columns_from v.tables (k + 1) (lifelines_after before k lines v) versions
    ∙ ap (λ cs. cs ++ columns_begun v.tables versions) (columns_after before k lines v)
    ∙ append_assoc (lifeline_columns lines) (columns_made (made_tables before v.op v.tables))
    (columns_begun v.tables versions)

-- of versions in two parts
pub columns_apart : (versions more : List PlainVersion)
    → lifeline_columns (lifelines_of (versions ++ more)) ≡ lifeline_columns (lifelines_of versions)
    ++ columns_begun (newest_from no_tables versions) more
columns_apart versions more =
    columns_from no_tables 0 [] (versions ++ more)
    ∙ begun_apart no_tables versions more
    ∙ ap (λ cs. cs ++ columns_begun (newest_from no_tables versions) more)
    (sym (columns_from no_tables 0 [] versions))

-- ---- the stores that are left

columns_stored : (tables : List MadeTable) → store_columns (stores_of tables)
    ≡ lifeline_columns (map line_of tables)
columns_stored [] = refl
columns_stored (t ∷ tables) = ap (λ cs. t.store.columns ∷ cs) (columns_stored tables)

rest_is : {A : Type 0} (xs ys zs : List A) → xs ++ ys ≡ xs ++ zs → ys ≡ zs
rest_is {A} [] ys zs e = e
rest_is {A} (x ∷ xs) ys zs e = rest_is xs ys zs (cc)

pub columns_left : (kept : Kept) → AreRestored kept
    → (rest all : List Store) (left : List PlainVersion) → stores_of kept.stored ++ rest ≡ all
    → store_columns all ≡ lifeline_columns (lifelines_of (versions_in kept ++ left))
    → store_columns rest ≡ columns_begun (newest_from no_tables (versions_in kept)) left
columns_left kept h rest all left is e =
    rest_is (lifeline_columns (lifelines_of (versions_in kept))) (store_columns rest)
    (columns_begun (newest_from no_tables (versions_in kept)) left)
    (ap (λ cs. cs ++ store_columns rest) (sym
    (columns_stored kept.stored ∙ ap lifeline_columns h.lifelines.lines))
    ∙ sym (map-append (λ (s : Store). s.columns) (stores_of kept.stored) rest)
    ∙ ap store_columns is ∙ e ∙ columns_apart (versions_in kept) left)

-- the first of them have the columns of the tables that the next version makes
first_have : (stores : List Store) (made : List Listed) (more : List (List Column))
    → store_columns stores ≡ columns_made made ++ more → HaveColumns stores made
first_have stores [] more e = tt
first_have [] (m ∷ made) more e = absurd (cc)
first_have (s ∷ stores) (m ∷ made) more e =
    let one : s.columns ≡ m.1 = cc in
    (one, first_have stores made more (cc))

pub next_due : (kept : Kept) → AreRestored kept
    → (rest all : List Store) (v : PlainVersion) (left : List PlainVersion)
    → stores_of kept.stored ++ rest ≡ all
    → store_columns all ≡ lifeline_columns (lifelines_of (versions_in kept ++ v ∷ left))
    → HaveColumns rest (made_tables (newest_from no_tables (versions_in kept)) v.op v.tables)
next_due kept h rest all v left is e =
    first_have rest (made_tables (newest_from no_tables (versions_in kept)) v.op v.tables)
    (columns_begun v.tables left) (columns_left kept h rest all (v ∷ left) is e)

-- and after the last version none is left
no_columns : (stores : List Store) → store_columns stores ≡ [] → stores ≡ []
no_columns [] e = refl
no_columns (s ∷ stores) e = absurd (cc)

pub all_taken : (kept : Kept) → AreRestored kept → (rest all : List Store)
    → stores_of kept.stored ++ rest ≡ all → store_columns all
    ≡ lifeline_columns (lifelines_of (versions_in kept)) → stores_of kept.stored ≡ all
all_taken kept h rest all is e =
    sym (append-nil (stores_of kept.stored))
    ∙ ap (λ (ss : List Store). stores_of kept.stored ++ ss)
    (sym (no_columns rest (columns_left kept h rest all [] is
    (e ∙ ap (λ vs. lifeline_columns (lifelines_of vs)) (sym (append-nil (versions_in kept)))))))
    ∙ is
