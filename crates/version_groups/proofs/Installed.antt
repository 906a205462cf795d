-- Groups that represent a past represent the past with the command, once it is applied.
use Rattle.std.proofs.Common.{◌≡◌, ◌≤◌, ◌<◌, ◌+◌, ℕ, suc, List, [], ◌∷◌, ◌++◌, length, get_or, sym}
use Rattle.std.proofs.Common.{ap, subst, ◌∙◌, arith, length-append, inl, inr}
use Rattle.std.specs.Prelude.{Option, Some, None, ◌⊎◌}
use Rattle.std.specs.FinMap.{get}
use Rattle.relations_spec.specs.Sets.{In}
use Rattle.relations_spec.specs.Spans.{forever}
use Rattle.prima_base.specs.Columns.{Column}
use Rattle.schema_catalog.specs.Tables.{Tables}
use Rattle.schema_catalog.specs.Databases.{Database}
use Rattle.history_store.specs.Store.{Store, relation_at}
use Rattle.history_store.specs.Change.{PreparedChange, rows_after}
use Rattle.smo_ops_spec.specs.Accepts.{command_fault}
use Rattle.smo_ops_types.specs.Changes.{PlainChange}
use Rattle.smo_ops_types.specs.Commands.{PlainBody, changing, evolving, PlainVersion}
use Rattle.smo_ops_types.specs.Operators.{Operator}
use Rattle.smo_ops_spec.specs.OneRow.{Relation}
use Rattle.smo_ops_spec.specs.Effects.{rows_under}
use Rattle.smo_ops_spec.specs.ValidPast.{last_or_nought, IsLater, IsPast}
use Rattle.smo_ops_spec.specs.ValidValues.{BodyHolds, PastHolds}
use Rattle.smo_ops_spec.specs.Past.{Past, no_tables, no_database, tables_of, tables_from}
use Rattle.smo_ops_spec.specs.Past.{newest_tables, version_at, database_at, newest_database}
use Rattle.smo_ops_spec.specs.Past.{next_version, next_database, past_with}
use Rattle.smo_ops_spec.proofs.PastLaws.{newest_holds, up_to_later}
use Rattle.smo_ops_spec.proofs.ValueLaws.{past_stays}
use Rattle.smo_ops_spec.proofs.PastSteps.{counts_accepted, stamp_accepted, later_stamp}
use Rattle.smo_ops_spec.proofs.PastSteps.{body_accepted, stays_valid, before_command, from_command}
use Rattle.version_groups_tables.specs.declared.made_table.MadeTable.{MadeTable}
use Rattle.version_groups_tables.specs.Stored.{stored_as}
use Rattle.version_groups_tables.specs.Becoming.{Becomes, Begins, Leads, IsMade, IsAmong, IsMadeBy}
use Rattle.version_groups_tables.specs.Becoming.{AreMadeBy}
use Rattle.version_groups_tables.specs.Places.{at_places}
use Rattle.version_groups_tables.specs.Evolving.{BeginsEntry}
use Rattle.version_groups_tables.proofs.Places.{something_at}
use Rattle.version_groups.specs.Groups.{Kept, versions_in, group_of, table_in}
use Rattle.version_groups.specs.Covering.{AreOfLifelines}
use Rattle.version_groups.specs.Sizes.{HaveSizes}
use Rattle.version_groups.specs.Representation.{AreUpTo, IsInForce, RepresentsTable}
use Rattle.version_groups.specs.Representation.{RepresentsEntry, Represents}
use Rattle.smo_ops_spec.proofs.PastMoments.{not_begun, all_begun, few_begun, all_with_one}
use Rattle.smo_ops_spec.proofs.PastMoments.{tables_still, tables_added, is_later, still_later}
use Rattle.smo_ops_spec.proofs.PastMoments.{before_or_not}
use Rattle.version_groups.specs.Steps.{a_command, AreChanges, IsNextVersion}
use Rattle.version_groups.proofs.Pairs.{Paired, paired}
use Rattle.version_groups.proofs.OwnMoments.{own_version, own_moment, own_within}

-- what is stored under a name, before and after
abbrev pub Follows : (List Column → Store → Store → Type 0) → Option Store → Option Store → Type 0
Follows T None None = Unit {0}
Follows T None (Some new) = ⊥
Follows T (Some old) None = ⊥
Follows T (Some old) (Some new) = (columns : List Column) → T columns old new

pub entry_follows : (past next : Past) (k : ℕ) (name : List ℕ) (o : Option (List Column))
    (old new : Option Store)
    → Follows (λ columns s t. RepresentsTable past k name columns s
    → RepresentsTable next k name columns t)
    old new → RepresentsEntry past k name o old → RepresentsEntry next k name o new
entry_follows past next k name None None None f h = tt
entry_follows past next k name None None (Some new) f h = absurd f
entry_follows past next k name None (Some old) new f h = absurd h
entry_follows past next k name (Some columns) None new f h = absurd h
entry_follows past next k name (Some columns) (Some old) None f h = absurd f
entry_follows past next k name (Some columns) (Some old) (Some new) f h = f columns h

entry_still : (past next : Past) (k : ℕ) (name : List ℕ) (o : Option (List Column))
    (s : Option Store)
    → ((columns : List Column) (store : Store) → RepresentsTable past k name columns store
    → RepresentsTable next k name columns store) → RepresentsEntry past k name o s
    → RepresentsEntry next k name o s
entry_still past next k name None None f h = tt
entry_still past next k name None (Some store) f h = absurd h
entry_still past next k name (Some columns) None f h = absurd h
entry_still past next k name (Some columns) (Some store) f h = f columns store h

entry_begins : (next : Past) (k stamp : ℕ) (name : List ℕ) (rows : Relation)
    (o : Option (List Column)) (s : Option Store)
    → ((columns : List Column) (store : Store) → Begins columns stamp rows store
    → RepresentsTable next k name columns store) → BeginsEntry stamp rows o s
    → RepresentsEntry next k name o s
entry_begins next k stamp name rows None None f h = tt
entry_begins next k stamp name rows None (Some store) f h = absurd h
entry_begins next k stamp name rows (Some columns) None f h = absurd h
entry_begins next k stamp name rows (Some columns) (Some store) f h = f columns store h

-- version k is the newest, or an earlier one
newest_or_not : (k n : ℕ) → k ≤ n → (k ≡ n) ⊎ (k < n)
newest_or_not k n l = elim (before_or_not k n) [ inl h ↦ inr h | inr h ↦ inl (omega (arith, l, h)) ]

module _ (kept : Kept) (past : Past) (stamp : ℕ) (body : PlainBody)
    (represents : Represents kept past)
    (valid : stamp < forever) (accepted : command_fault past (a_command stamp body) ≡ None) where
  abbrev next : Past
  next = past_with past (a_command stamp body)

  later : IsLater past.last stamp
  later = is_later past.last stamp (stamp_accepted past (a_command stamp body) accepted)

  not_before : last_or_nought past.last ≤ stamp
  not_before = later_stamp past (a_command stamp body) accepted

  pub next_is_valid : IsPast next
  next_is_valid = stays_valid past stamp body represents.valid
      (stamp_accepted past (a_command stamp body) accepted)
      (counts_accepted past (a_command stamp body) accepted)
      (body_accepted past (a_command stamp body) accepted)

  pub next_holds : BodyHolds body → PastHolds next
  next_holds hold = past_stays past
      (a_command stamp body) represents.valid accepted hold represents.values

  pub all_later : (m : ℕ) → stamp < m → IsLater past.last m
  all_later m l = still_later past.last stamp m later (omega (arith, l))

  -- from the stamp on all versions of the past are in force, and the database is its newest one
  pub newest_then : (m : ℕ) → stamp ≤ m → version_at past m ≡ length past.versions
  newest_then m l = ap length (all_begun (last_or_nought past.last) m past.versions
      represents.valid.versions (omega (arith, l, not_before)))

  -- so the stamp is a moment of the newest version
  pub newest_own : IsInForce past.versions (length past.versions) stamp
  newest_own = own_moment past represents.valid (length past.versions) stamp valid
      (newest_then stamp (omega arith))

  pub newest_is : (m : ℕ) → stamp ≤ m → database_at past m ≡ newest_database past
  newest_is m l = newest_holds no_database past.states m
      (up_to_later (last_or_nought past.last) m past.states (omega (arith, l, not_before))
      represents.valid.ended)

  pub as_before : (m : ℕ) → m < stamp → database_at next m ≡ database_at past m
  as_before m l = before_command past stamp body m l

  pub from_then : (m : ℕ) → stamp ≤ m → database_at next m ≡ next_database body past
  from_then m l = from_command past stamp body represents.valid not_before
      (body_accepted past (a_command stamp body) accepted) m l

-- ---- changes

pub made_name : (t : MadeTable) (p : Option PreparedChange) (u : MadeTable) → IsMade t p u
    → u.name ≡ t.name
made_name t None u e = ap (λ (x : MadeTable). x.name) e
made_name t (Some p) u e = e.name

-- each of the changes is made at the stamp
found_change : (prepared : List (Option PreparedChange)) (p : Option PreparedChange) → In p prepared
    → (i : ℕ) × (i < length prepared) × (get_or prepared i None ≡ p)
found_change [] p m = absurd m
found_change (q ∷ prepared) p (inl e) = (0, omega arith, e)
found_change (q ∷ prepared) p (inr m) = (let h = found_change prepared p m in let l = h.1 in
    (suc h.0, omega (arith, l), h.2))

pub prepared_at : (stamp : ℕ) (next : Database) (tables : List MadeTable)
    (prepared : List (Option PreparedChange)) → AreChanges stamp next tables prepared
    → (change : PreparedChange) → In (Some change) prepared → change.stamp ≡ stamp
prepared_at stamp next tables prepared h change m =
    let f = found_change prepared (Some change) m in
    let l = f.1 in
    let count = h.count in
    let within : f.0 < length tables = omega (arith, l, count) in
    let t = something_at tables f.0 within in
    let leads : Leads (get_or tables f.0 t).store stamp
    (rows_under (get next (get_or tables f.0 t).name)) (Some change) =
    subst (λ (o : Option PreparedChange). Leads (get_or tables f.0 t).store stamp
    (rows_under (get next (get_or tables f.0 t).name)) o) f.2 (h.each f.0 t within) in
    leads.at

module _ (kept : Kept) (past : Past) (stamp : ℕ) (changes : List PlainChange)
    (represents : Represents kept past) (valid : stamp < forever)
    (accepted : command_fault past (a_command stamp (changing changes)) ≡ None) where
  abbrev after : Past
  after = past_with past (a_command stamp (changing changes))

  abbrev changed_rows : List ℕ → Relation
  changed_rows name = rows_under (get (next_database (changing changes) past) name)

  -- from the stamp on an earlier version is not in force
  pub ended : (k : ℕ) → k < length past.versions → (m : ℕ) → IsInForce past.versions k m → stamp ≤ m
      → ⊥
  ended k l m own b =
      let e = own_version past represents.valid k m (omega (arith, l)) own in
      let n = newest_then kept past stamp (changing changes) represents valid accepted m b in
      omega (arith, l, e, n)

  -- a table of an earlier version, of which a change is made or none
  abbrev IsAtStamp : List (Option PreparedChange) → Type 0
  IsAtStamp prepared = (change : PreparedChange) → In (Some change) prepared → change.stamp ≡ stamp

  earlier_table : (prepared : List (Option PreparedChange)) → IsAtStamp prepared
      → (k : ℕ) (name : List ℕ)
      → k < length past.versions → (t u : MadeTable) → IsMadeBy prepared t u
      → (columns : List Column)
      → RepresentsTable past k name columns t.store → RepresentsTable after k name columns u.store
  earlier_table prepared at k name l t u by columns h = step by.change by.among by.made
    where
      before : (m : ℕ) → IsInForce past.versions k m
          → (m < stamp → relation_at u.store m ≡ relation_at t.store m)
          → relation_at u.store m ≡ rows_under (get (database_at after m) name)
      before m own same = elim (before_or_not m stamp) [
        | inl b ↦ same b ∙ h.shown m own ∙ ap (λ d. rows_under (get d name))
            (sym (as_before kept past stamp (changing changes) represents valid accepted m b))
        | inr b ↦ absurd (ended k l m own b)
      ]

      step : (p : Option PreparedChange) → IsAmong p prepared → IsMade t p u
          → RepresentsTable after k name columns u.store
      step None among e =
          let is : u.store ≡ t.store = ap (λ (x : MadeTable). x.store) e in
          record {
            columns = ap (λ (x : Store). x.columns) is ∙ h.columns;
            shown = λ m own. before m own (λ b. ap (λ (x : Store). relation_at x m) is);
            stamps = λ m own b. absurd (ended k l m own (omega (arith, b)));
          }
      step (Some p) among e =
          let b : Becomes t.store u.store p.stamp (rows_after t.store p) = e.becomes in
          let same : p.stamp ≡ stamp = at p among in
          record {
            columns = b.columns ∙ h.columns;
            shown = λ m own. before m own (λ l. b.before m (omega (arith, l, same)));
            stamps = λ m own b. absurd (ended k l m own (omega (arith, b)));
          }

  -- a table of the newest version, with its change
  abbrev IsChanged : MadeTable → MadeTable → Type 0
  IsChanged t u = (p : Option PreparedChange) × Leads t.store stamp (changed_rows t.name) p
      × IsMade t p u

  keeps_name : (t u : MadeTable) → IsChanged t u → u.name ≡ t.name
  keeps_name t u h = made_name t h.0 u h.2

  changed_table : (name : List ℕ) (t u : MadeTable) → t.name ≡ name → IsChanged t u
      → (columns : List Column) → RepresentsTable past (length past.versions) name columns t.store
      → RepresentsTable after (length past.versions) name columns u.store
  changed_table name t u named c columns h = step c.0 c.1 c.2
    where
      n : ℕ
      n = length past.versions

      step : (p : Option PreparedChange) → Leads t.store stamp (changed_rows t.name) p
          → IsMade t p u → RepresentsTable after n name columns u.store
      step None leads e =
          let is : u.store ≡ t.store = ap (λ (x : MadeTable). x.store) e in
          let shown : (m : ℕ) → IsInForce past.versions n m
          → relation_at t.store m ≡ rows_under (get (database_at after m) name) = λ m own.
          elim (before_or_not m stamp) [
            | inl b ↦ h.shown m own ∙ ap (λ d. rows_under (get d name))
                (sym (as_before kept past stamp (changing changes) represents valid accepted m b))
            | inr b ↦
                h.shown m own ∙ ap (λ d. rows_under (get d name))
                (newest_is kept past stamp (changing changes) represents valid accepted m b)
                ∙ sym (ap (λ d. rows_under (get d name))
                (newest_is kept past stamp (changing changes) represents valid accepted stamp
                (omega arith)))
                ∙ sym (h.shown stamp (newest_own kept past stamp (changing changes) represents valid
                accepted))
                ∙ leads ∙ ap changed_rows named
                ∙ ap (λ d. rows_under (get d name))
                (sym (from_then kept past stamp (changing changes) represents valid accepted m b))
          ] in
          subst (λ (s : Store). RepresentsTable after n name columns s) (sym is) (record {
            columns = h.columns;
            shown = shown;
            stamps = λ m own b. h.stamps m own
                (all_later kept past stamp (changing changes) represents valid accepted m b);
          })
      step (Some p) leads e =
          let b : Becomes t.store u.store p.stamp (rows_after t.store p) = e.becomes in
          let at : p.stamp ≡ stamp = leads.at in
          record {
            columns = b.columns ∙ h.columns;
            shown = λ m own. elim (before_or_not m stamp) [
              | inl l ↦ b.before m (omega (arith, l, at)) ∙ h.shown m own
                  ∙ ap (λ d. rows_under (get d name))
                  (sym (as_before kept past stamp (changing changes) represents valid accepted m l))
              | inr l ↦ b.from m (omega (arith, l, at))
                  (own_within past represents.valid n m represents.ends own) ∙ leads.leads
                  ∙ ap changed_rows named
                  ∙ ap (λ d. rows_under (get d name))
                  (sym (from_then kept past stamp (changing changes) represents valid accepted m l))
            ];
            stamps = λ m own l. b.later m (omega (arith, l, at));
          }

  -- the changes are made
  pub represents_changed : BodyHolds (changing changes)
      → (new : Kept) (prepared : List (Option PreparedChange)) → versions_in new ≡ versions_in kept
      → ((k : ℕ) → k < length past.versions → AreMadeBy prepared (group_of kept k) (group_of new k))
      → length (group_of new (length past.versions)) ≡ length (group_of kept (length past.versions))
      → AreChanges stamp (next_database (changing changes) past)
      (group_of kept (length past.versions)) prepared
      → ((k : ℕ) (d : MadeTable) → k < length (group_of kept (length past.versions))
      → IsMade (get_or (group_of kept (length past.versions)) k d) (get_or prepared k None)
      (get_or (group_of new (length past.versions)) k d))
      → HaveSizes after.sizes new.stored → AreOfLifelines new → AreUpTo after.last new.stored
      → Represents new after
  represents_changed hold new prepared versions groups count ready made sizes lifelines stamps =
      record {
        valid = next_is_valid kept past stamp (changing changes) represents valid accepted;
        values = next_holds kept past stamp (changing changes) represents valid accepted hold;
        ends = valid;
        versions = versions ∙ represents.versions;
        tables = λ k name l. elim (newest_or_not k n l) [
          | inl e ↦ subst (λ j. RepresentsEntry after j name (get (tables_of after j) name)
              (table_in new j name)) (sym e) (newest name)
          | inr e ↦ earlier k e name (paired (IsMadeBy prepared) names name (group_of kept k)
              (group_of new k) (groups k e).count (groups k e).each)
              (represents.tables k name (omega (arith, e)))
        ];
        sizes = sizes;
        lifelines = lifelines;
        stamps = stamps;
      }
    where
      n : ℕ
      n = length past.versions

      at : IsAtStamp prepared
      at = prepared_at stamp (next_database (changing changes) past) (group_of kept n) prepared
          ready

      names : (t u : MadeTable) → IsMadeBy prepared t u → u.name ≡ t.name
      names t u h = made_name t h.change u h.made

      earlier : (k : ℕ) → k < n → (name : List ℕ)
          → Paired (IsMadeBy prepared) name (group_of kept k) (group_of new k)
          → RepresentsEntry past k name (get (tables_of past k) name)
          (stored_as name (group_of kept k))
          → RepresentsEntry after k name (get (tables_of past k) name)
          (stored_as name (group_of new k))
      earlier k l name (inl none) h =
          subst (λ (s : Option Store). RepresentsEntry after k name (get (tables_of past k) name) s)
          (sym none.1)
          (entry_follows past after k name (get (tables_of past k) name) None None tt
          (subst (λ (s : Option Store). RepresentsEntry past k name (get (tables_of past k) name) s)
          none.0 h))
      earlier k l name (inr f) h =
          subst (λ (s : Option Store). RepresentsEntry after k name (get (tables_of past k) name) s)
          (sym f.now)
          (entry_follows past after k name (get (tables_of past k) name) (Some f.before.store)
          (Some f.after.store) (earlier_table prepared at k name l f.before f.after f.related)
          (subst (λ (s : Option Store). RepresentsEntry past k name (get (tables_of past k) name) s)
          f.was h))

      each : (k : ℕ) (d : MadeTable) → k < length (group_of kept n)
          → IsChanged (get_or (group_of kept n) k d) (get_or (group_of new n) k d)
      each k d l = (get_or prepared k None, ready.each k d l, made k d l)

      entry : (name : List ℕ) → Paired IsChanged name (group_of kept n) (group_of new n)
          → RepresentsEntry past n name (get (tables_of past n) name)
          (stored_as name (group_of kept n))
          → RepresentsEntry after n name (get (tables_of past n) name)
          (stored_as name (group_of new n))
      entry name (inl none) h =
          subst (λ (s : Option Store). RepresentsEntry after n name (get (tables_of past n) name) s)
          (sym none.1)
          (entry_follows past after n name (get (tables_of past n) name) None None tt
          (subst (λ (s : Option Store). RepresentsEntry past n name (get (tables_of past n) name) s)
          none.0 h))
      entry name (inr f) h =
          subst (λ (s : Option Store). RepresentsEntry after n name (get (tables_of past n) name) s)
          (sym f.now)
          (entry_follows past after n name (get (tables_of past n) name) (Some f.before.store)
          (Some f.after.store) (changed_table name f.before f.after f.named f.related)
          (subst (λ (s : Option Store). RepresentsEntry past n name (get (tables_of past n) name) s)
          f.was h))

      newest : (name : List ℕ) → RepresentsEntry after n name (get (tables_of after n) name)
          (table_in new n name)
      newest name = entry name (paired IsChanged keeps_name name (group_of kept n) (group_of new n)
          count each) (represents.tables n name (omega arith))

-- ---- an operator

module _ (kept : Kept) (past : Past) (stamp : ℕ) (op : List Operator)
    (inverse : List (List Operator))
    (represents : Represents kept past) (valid : stamp < forever)
    (accepted : command_fault past (a_command stamp (evolving op inverse)) ≡ None) where
  abbrev evolved : Past
  evolved = past_with past (a_command stamp (evolving op inverse))

  abbrev version : PlainVersion
  version = next_version stamp op inverse past

  version_before : (m : ℕ) → m < stamp → version_at evolved m ≡ version_at past m
  version_before m l = ap length (not_begun m past.versions version l)

  version_then : (m : ℕ) → stamp ≤ m → version_at evolved m ≡ length past.versions + 1
  version_then m l =
      let low = later_stamp past (a_command stamp (evolving op inverse)) accepted in
      all_with_one (last_or_nought past.last) m past.versions version represents.valid.versions
      (omega (arith, l, low)) l

  is_past : IsPast evolved
  is_past = next_is_valid kept past stamp (evolving op inverse) represents valid accepted

  one_more : length evolved.versions ≡ length past.versions + 1
  one_more = length-append past.versions (version ∷ [])

  -- a table of an earlier version
  older_table : (k : ℕ) (name : List ℕ) → k ≤ length past.versions
      → (columns : List Column) (store : Store) → RepresentsTable past k name columns store
      → RepresentsTable evolved k name columns store
  older_table k name l columns store h = record {
    columns = h.columns;
    shown = λ m own. elim (before_or_not m stamp) [
      | inl b ↦
          h.shown m (own_moment past represents.valid k m (own_within evolved is_past k m valid own)
          (sym (version_before m b) ∙ is m own))
          ∙ ap (λ d. rows_under (get d name))
          (sym (as_before kept past stamp (evolving op inverse) represents valid accepted m b))
      | inr b ↦ absurd (ended m own b)
    ];
    stamps = λ m own b. absurd (ended m own (omega (arith, b)));
  }
    where
      is : (m : ℕ) → IsInForce evolved.versions k m → version_at evolved m ≡ k
      is m own = own_version evolved is_past k m (omega (arith, l, one_more)) own

      -- from the stamp on it is no longer in force
      ended : (m : ℕ) → IsInForce evolved.versions k m → stamp ≤ m → ⊥
      ended m own b =
          let e = is m own in
          let n = version_then m b in
          omega (arith, l, e, n)

  -- a table of the new version
  new_table : (name : List ℕ) (columns : List Column) (store : Store)
      → Begins columns stamp (rows_under (get (next_database (evolving op inverse) past) name))
      store
      → RepresentsTable evolved (length past.versions + 1) name columns store
  new_table name columns store b = record {
    columns = b.columns;
    shown = λ m own. elim (before_or_not m stamp) [
      | inl l ↦ absurd (begun m own l)
      | inr l ↦
          b.from m l (own_within evolved is_past (length past.versions + 1) m valid own)
          ∙ ap (λ d. rows_under (get d name))
          (sym (from_then kept past stamp (evolving op inverse) represents valid accepted m l))
    ];
    stamps = λ m own l. b.later m l;
  }
    where
      -- before the stamp it is not in force
      begun : (m : ℕ) → IsInForce evolved.versions (length past.versions + 1) m → m < stamp → ⊥
      begun m own l =
          let e = own_version evolved is_past (length past.versions + 1) m (omega (arith, one_more))
          own in
          let n = version_before m l in
          let few = few_begun m past.versions in
          omega (arith, e, n, few)

  -- the version is there, with its tables
  pub represents_evolved : BodyHolds (evolving op inverse)
      → (new : Kept) (made : PlainVersion) (begun : List MadeTable) (places : List ℕ)
      → IsNextVersion kept (newest_tables past) version (next_database (evolving op inverse) past)
      made begun places
      → versions_in new ≡ versions_in kept ++ made ∷ []
      → ((k : ℕ) (name : List ℕ) → k ≤ length past.versions
      → table_in new k name ≡ table_in kept k name)
      → ((name : List ℕ) → table_in new (length past.versions + 1) name
      ≡ stored_as name (at_places (kept.stored ++ begun) places))
      → HaveSizes evolved.sizes new.stored → AreOfLifelines new → AreUpTo evolved.last new.stored
      → Represents new evolved
  represents_evolved hold new made begun places is versions tables own sizes lifelines stamps =
      record {
        valid = is_past;
        values = next_holds kept past stamp (evolving op inverse) represents valid accepted hold;
        ends = valid;
        versions = versions ∙ ap (λ (vs : List PlainVersion). vs ++ made ∷ []) represents.versions
            ∙ ap (λ (v : PlainVersion). past.versions ++ v ∷ []) is.version;
        tables = λ k name l. each k name (before_or_not n k) (subst (λ j. k ≤ j) one_more l);
        sizes = sizes;
        lifelines = lifelines;
        stamps = stamps;
      }
    where
      n : ℕ
      n = length past.versions

      added : tables_of evolved (n + 1) ≡ version.tables
      added = subst (λ j. tables_from no_tables (past.versions ++ version ∷ []) j ≡ version.tables)
          (let e : suc n ≡ n + 1 = omega arith in e) (tables_added no_tables past.versions version)

      newest : (name : List ℕ) → RepresentsEntry evolved (n + 1) name
          (get (tables_of evolved (n + 1)) name) (table_in new (n + 1) name)
      newest name =
          subst (λ (t : Tables). RepresentsEntry evolved (n + 1) name (get t name)
          (table_in new (n + 1) name)) (sym added)
          (subst (λ (s : Option Store). RepresentsEntry evolved (n + 1) name
          (get version.tables name) s)
          (sym (own name))
          (entry_begins evolved (n + 1) stamp name
          (rows_under (get (next_database (evolving op inverse) past) name))
          (get version.tables name) (stored_as name (at_places (kept.stored ++ begun) places))
          (new_table name) (is.tables name)))

      each : (k : ℕ) (name : List ℕ) → (n < k) ⊎ (k ≤ n) → k ≤ n + 1
          → RepresentsEntry evolved k name (get (tables_of evolved k) name) (table_in new k name)
      each k name (inl l) m = subst (λ j. RepresentsEntry evolved j name
          (get (tables_of evolved j) name)
          (table_in new j name)) (let e : n + 1 ≡ k = omega (arith, l, m) in e) (newest name)
      each k name (inr l) m =
          subst (λ (t : Tables). RepresentsEntry evolved k name (get t name) (table_in new k name))
          (sym (tables_still no_tables past.versions version k l))
          (subst (λ (s : Option Store). RepresentsEntry evolved k name (get (tables_of past k) name)
          s)
          (sym (tables k name l))
          (entry_still past evolved k name (get (tables_of past k) name) (table_in kept k name)
          (older_table k name l) (represents.tables k name l)))
