-- What the changes of a command do to the sizes of what is stored.
use Rattle.std.proofs.Common.{◌≡◌, ◌<◌, ◌+◌, ℕ, suc, List, [], ◌∷◌, length, map, get_or, refl, sym}
use Rattle.std.proofs.Common.{ap, subst, ◌∙◌, arith, inl, inr}
use Rattle.std.specs.Prelude.{Option, Some, None}
use Rattle.std.specs.FinMap.{get}
use Rattle.std.proofs.lemmas.List.{length-map, get_or-map}
use Rattle.relations_spec.specs.Sets.{In}
use Rattle.relations_spec.specs.Spans.{forever}
use Rattle.prima_base.specs.Columns.{Column, IsRelation}
use Rattle.schema_catalog.specs.Databases.{Database, DatabaseEntry, Rows, Lost, IsEntry, IsDatabase}
use Rattle.history_store.specs.Handing.{AllWidth, written}
use Rattle.history_store.specs.Store.{relation_at, weight, AllBefore}
use Rattle.history_store.specs.Change.{PreparedChange, rows_along}
use Rattle.smo_ops_types.specs.Changes.{PlainChange}
use Rattle.smo_ops_types.specs.Commands.{changing, version_of}
use Rattle.smo_ops_spec.specs.Accepts.{command_fault}
use Rattle.smo_ops_spec.specs.Effects.{rows_under, gained_rows}
use Rattle.smo_ops_spec.specs.OneRow.{Relation}
use Rattle.smo_ops_spec.specs.Past.{Past, newest_database, newest_tables, next_database, past_with}
use Rattle.smo_ops_spec.specs.Sizes.{Size, if_living, rows_changed, living_changed, size_changed}
use Rattle.smo_ops_spec.proofs.CountingLaws.{gains_nothing}
use Rattle.smo_ops_spec.proofs.DatabaseLaws.{changes_keep}
use Rattle.smo_ops_spec.proofs.PastSteps.{body_accepted}
use Rattle.version_groups_tables.specs.declared.made_table.MadeTable.{MadeTable}
use Rattle.version_groups_tables.specs.Becoming.{Leads, IsMade, IsInstalled}
use Rattle.version_groups_tables.specs.Places.{at_places, AreWithin}
use Rattle.version_groups_tables.specs.Ending.{AreLiving}
use Rattle.version_groups_tables.specs.NewestTables.{AreStored}
use Rattle.version_groups_tables.proofs.Places.{at_count, at_get}
use Rattle.version_groups.specs.Groups.{Kept, newest_places, group_of, newest_group}
use Rattle.version_groups.specs.Installing.{HasChanges}
use Rattle.version_groups.specs.Representation.{AreUpTo, Represents}
use Rattle.version_groups.specs.Sizes.{HasSize, HaveSizes}
use Rattle.version_groups.proofs.Covered.{newest_living}
use Rattle.version_groups_tables.proofs.ChangeLaws.{along_length}
use Rattle.version_groups.specs.Steps.{a_command, AreChanges}
use Rattle.version_groups.proofs.Installed.{all_later}
use Rattle.version_groups.proofs.Newest.{Stands, stands, stands_at}
use Rattle.version_groups.proofs.RowsWritten.{rows_wide, gained_wide, written_more}

-- ---- one table

-- rows that a table stands for before and after, and their differences
module _ (now next : Database) (size : Size) (old new : MadeTable) (h : HasSize size old)
    (lives : old.last ≡ None) where
  abbrev before : Relation
  before = rows_under (get now size.table)

  abbrev after : Relation
  after = rows_under (get next size.table)

  living : size_changed now next size ≡ rows_changed (gained_rows after before)
      (gained_rows before after) size
  living = ap (λ o. if_living o (living_changed now next size) size) (sym h.last ∙ lives)

  -- where its rows stay nothing is written
  pub stays : before ≡ after → new ≡ old → HasSize (size_changed now next size) new
  stays e is =
      let none : gained_rows after before ≡ [] = ap (λ rows. gained_rows rows before) (sym e)
      ∙ gains_nothing before in
      let more : gained_rows before after ≡ [] = ap (gained_rows before) (sym e)
      ∙ gains_nothing before in
      let same : size_changed now next size ≡ rows_changed [] [] size =
      living ∙ ap (λ rows. rows_changed rows (gained_rows before after) size) none
      ∙ ap (λ rows. rows_changed [] rows size) more in
      subst (λ (t : MadeTable). HasSize (size_changed now next size) t) (sym is)
      (subst (λ (s : Size). HasSize s old) (sym same) (record {
        name = h.name;
        first = h.first;
        last = h.last;
        keys = (let k = h.keys in omega (arith, k));
        columns = h.columns;
      }))

  -- a change writes the rows in which they differ
  pub grows : (change : PreparedChange) → IsInstalled old change new
      → IsRelation old.store.columns before → IsRelation old.store.columns after
      → rows_along change.lost change.stamp old.store.cells ≡ gained_rows after before
      → change.gained ≡ gained_rows before after → HasSize (size_changed now next size) new
  grows change made was is lost gained =
      let columns : List Column = old.store.columns in
      let count : length size.columns ≡ length columns = sym h.columns.count ∙ made.wide in
      subst (λ (s : Size). HasSize s new) (sym living) (record {
        name = made.name ∙ h.name;
        first = made.first ∙ h.first;
        last = made.last ∙ h.last;
        keys =
            let long = ap length lost in
            let along = along_length change.lost change.stamp old.store.cells in
            let more = ap length gained in
            let own = made.keys in
            let had = h.keys in
            omega (arith, long, along, more, own, had);
        columns = written_more (gained_rows after before) (gained_rows before after) size.columns
            old.store.cells new.store.cells h.columns
            (subst (λ n. AllWidth n (gained_rows after before)) (sym count)
            (gained_wide (length columns) after before (rows_wide columns before was.fitting)))
            (subst (λ n. AllWidth n (gained_rows before after)) (sym count)
            (gained_wide (length columns) before after (rows_wide columns after is.fitting)))
            (made.count ∙ h.columns.count)
            (λ f k l. made.written f k (omega (arith, l, count))
            ∙ ap (λ (rows : Relation). weight f (get_or old.store.cells k []) + written f k rows
            change.gained) lost
            ∙ ap (λ (rows : Relation). weight f (get_or old.store.cells k []) + written f k
            (gained_rows after before) rows) gained);
      })

-- ---- a table that lives, among those of the newest version

relation_there : (columns : List Column) (o : Option DatabaseEntry) → IsEntry (Some columns) o
    → IsRelation columns (rows_under o)
relation_there columns None h = absurd h
relation_there columns (Some (Rows rows)) h = h
relation_there columns (Some (Lost k i)) h = absurd h

place_at : (places : List ℕ) (p : ℕ) → In p places → (i : ℕ) × (i < length places)
    × (get_or places i 0 ≡ p)
place_at [] p m = absurd m
place_at (q ∷ places) p (inl e) = (0, omega arith, e)
place_at (q ∷ places) p (inr m) = (let h = place_at places p m in let l = h.1 in
    (suc h.0, omega (arith, l), h.2))

module _ (kept new : Kept) (past : Past) (stamp : ℕ) (changes : List PlainChange)
    (represents : Represents kept past) (valid : stamp < forever)
    (accepted : command_fault past (a_command stamp (changing changes)) ≡ None)
    (prepared : List (Option PreparedChange)) (m : HasChanges kept new prepared)
    (ready : AreChanges stamp (next_database (changing changes) past) (newest_group kept)
    prepared) where
  abbrev now : Database
  now = newest_database past

  abbrev next : Database
  next = next_database (changing changes) past

  number : length kept.versions ≡ length past.versions
  number = sym (length-map kept.versions version_of) ∙ ap length represents.versions

  lives : AreLiving kept.stored (newest_places kept)
  lives = newest_living kept represents.lifelines

  pub stored : AreStored (newest_tables past) now stamp (newest_group kept)
  stored = subst (λ j. AreStored (newest_tables past) now stamp (group_of kept j)) (sym number)
      (stands kept past stamp (changing changes) represents valid accepted)

  next_is : IsDatabase (newest_tables past) next
  next_is = changes_keep (newest_tables past) now changes 0 represents.valid.tables.schema
      represents.valid.database (body_accepted past (a_command stamp (changing changes)) accepted)

  -- a table with its change
  changed : (size : Size) (old u : MadeTable) (change : Option PreparedChange) → HasSize size old
      → old.last ≡ None → Stands (newest_tables past) now stamp (newest_group kept) m.ordered stored
      old.name old.store
      → Leads old.store stamp (rows_under (get next old.name)) change → IsMade old change u
      → HasSize (size_changed now next size) u
  changed size old u None h lives s leads made =
      stays now next size old u h lives (ap (λ n. rows_under (get now n)) (sym h.name) ∙ sym s.rows
      ∙ leads ∙ ap (λ n. rows_under (get next n)) h.name) made
  changed size old u (Some change) h lives s leads made =
      let columns : get (newest_tables past) size.table ≡ Some old.store.columns =
      ap (get (newest_tables past)) (sym h.name) ∙ s.columns in
      let was : rows_under (get now size.table) ≡ relation_at old.store stamp =
      ap (λ n. rows_under (get now n)) (sym h.name) ∙ sym s.rows in
      let is : rows_under (get next old.name) ≡ rows_under (get next size.table) =
      ap (λ n. rows_under (get next n)) h.name in
      grows now next size old u h lives change made
      (relation_there old.store.columns (get now size.table)
      (subst (λ (o : Option (List Column)). IsEntry o (get now size.table)) columns
      (represents.valid.database size.table)))
      (relation_there old.store.columns (get next size.table)
      (subst (λ (o : Option (List Column)). IsEntry o (get next size.table)) columns
      (next_is size.table)))
      (ap (λ j. rows_along change.lost j old.store.cells) leads.at ∙ leads.lost
      ∙ ap (λ (rows : Relation). gained_rows rows (relation_at old.store stamp)) is
      ∙ ap (gained_rows (rows_under (get next size.table))) (sym was))
      (leads.gained ∙ ap (gained_rows (relation_at old.store stamp)) is
      ∙ ap (λ (rows : Relation). gained_rows rows (rows_under (get next size.table))) (sym was))

  -- the table at a place of the newest version, with its change
  pub record ChangedAt (p : ℕ) (t : MadeTable) : Type 0 where
    pub change : Option PreparedChange
    pub made : IsMade (get_or kept.stored p t) change (get_or new.stored p t)
    pub leads : Leads (get_or kept.stored p t).store stamp
        (rows_under (get next (get_or kept.stored p t).name)) change
    pub stands : Stands (newest_tables past) now stamp (newest_group kept) m.ordered stored
        (get_or kept.stored p t).name (get_or kept.stored p t).store

  changed_at : (p : ℕ) (t : MadeTable) → In p (newest_places kept) → ChangedAt p t
  changed_at p t member =
      let i = place_at (newest_places kept) p member in
      let n = at_count kept.stored (newest_places kept) m.there in
      let within : i.0 < length (newest_group kept) = (let l = i.1 in omega (arith, l, n)) in
      let there : AreWithin (newest_places kept) (length new.stored) =
      subst (AreWithin (newest_places kept)) (sym m.stored) m.there in
      let old : get_or (newest_group kept) i.0 t ≡ get_or kept.stored p t =
      at_get kept.stored (newest_places kept) i.0 0 t m.there i.1
      ∙ ap (λ j. get_or kept.stored j t) i.2 in
      let own : group_of new (length kept.versions) ≡ at_places new.stored (newest_places kept) =
      ap (λ (ps : List (List ℕ)). at_places new.stored (get_or ps (length kept.versions) []))
      m.places in
      let after : get_or (group_of new (length kept.versions)) i.0 t ≡ get_or new.stored p t =
      ap (λ (ts : List MadeTable). get_or ts i.0 t) own
      ∙ at_get new.stored (newest_places kept) i.0 0 t there i.1
      ∙ ap (λ j. get_or new.stored j t) i.2 in
      record {
        change = get_or prepared i.0 None;
        made = subst (λ (x : MadeTable). IsMade x (get_or prepared i.0 None)
            (get_or new.stored p t))
            old
            (subst (λ (x : MadeTable). IsMade (get_or (newest_group kept) i.0 t)
            (get_or prepared i.0 None) x) after (m.made.each i.0 t within));
        leads = subst (λ (x : MadeTable). Leads x.store stamp (rows_under (get next x.name))
            (get_or prepared i.0 None)) old (ready.each i.0 t within);
        stands = subst (λ (x : MadeTable). Stands (newest_tables past) now stamp (newest_group kept)
            m.ordered stored x.name x.store) old
            (stands_at (newest_tables past) now stamp (newest_group kept) m.ordered stored i.0 t
            within);
      }

  -- a table whose lifeline has ended stays as it is
  ended_stays : (p : ℕ) (t : MadeTable) (k : ℕ) → p < length kept.stored
      → (get_or kept.stored p t).last ≡ Some k → get_or new.stored p t ≡ get_or kept.stored p t
  ended_stays p t k l e = m.others p t (λ i. (let living = lives.living p t l i in absurd (cc)))

  -- ---- all tables

  pub sizes_follow : HaveSizes (past_with past (a_command stamp (changing changes))).sizes
      new.stored
  sizes_follow = record {
    count = m.stored ∙ represents.sizes.count ∙ sym (length-map past.sizes (size_changed now next));
    each = λ k s t l. of_each k s t (let n = length-map past.sizes (size_changed now next) in
        omega (arith, l, n));
  }
    where
      by_last : (k : ℕ) (s : Size) (t : MadeTable) → k < length past.sizes → (last : Option ℕ)
          → (get_or kept.stored k t).last ≡ last
          → HasSize (size_changed now next (get_or past.sizes k s)) (get_or new.stored k t)
      by_last k s t l None e =
          let c = changed_at k t
          (lives.among k t (let n = represents.sizes.count in omega (arith, l, n))
          e) in
          changed (get_or past.sizes k s) (get_or kept.stored k t) (get_or new.stored k t) c.change
          (represents.sizes.each k s t l) e c.stands c.leads c.made
      by_last k s t l (Some j) e =
          let h = represents.sizes.each k s t l in
          let size : Size = get_or past.sizes k s in
          let same : size_changed now next size ≡ size =
          ap (λ o. if_living o (living_changed now next size) size) (sym h.last ∙ e) in
          subst (λ (x : Size). HasSize x (get_or new.stored k t)) (sym same)
          (subst (λ (x : MadeTable). HasSize size x)
          (sym (ended_stays k t j (let n = represents.sizes.count in omega (arith, l, n)) e)) h)

      of_each : (k : ℕ) (s : Size) (t : MadeTable) → k < length past.sizes
          → HasSize (get_or (map (size_changed now next) past.sizes) k s) (get_or new.stored k t)
      of_each k s t l =
          subst (λ (x : Size). HasSize x (get_or new.stored k t))
          (sym (get_or-map (size_changed now next) past.sizes k s s l))
          (by_last k s t l (get_or kept.stored k t).last refl)

  -- no stamp in them is later than that of the changes
  pub stamps_follow : AreUpTo (Some stamp) new.stored
  stamps_follow p t n l later = by_last (get_or kept.stored p t).last refl
    where
      within : p < length kept.stored
      within = let s = m.stored in omega (arith, l, s)

      before : AllBefore (get_or kept.stored p t).store n
      before = represents.stamps p t n within
          (all_later kept past stamp (changing changes) represents valid
          accepted n later)

      stays : get_or new.stored p t ≡ get_or kept.stored p t
          → AllBefore (get_or new.stored p t).store n
      stays e = subst (λ (x : MadeTable). AllBefore x.store n) (sym e) before

      of_change : (change : Option PreparedChange)
          → Leads (get_or kept.stored p t).store stamp
          (rows_under (get next (get_or kept.stored p t).name)) change
          → IsMade (get_or kept.stored p t) change (get_or new.stored p t)
          → AllBefore (get_or new.stored p t).store n
      of_change None leads made = stays made
      of_change (Some change) leads made = made.becomes.later n
          (let e = leads.at in omega (arith, later, e))

      by_last : (last : Option ℕ) → (get_or kept.stored p t).last ≡ last
          → AllBefore (get_or new.stored p t).store n
      by_last None e = (let c = changed_at p t (lives.among p t within e) in
          of_change c.change c.leads c.made)
      by_last (Some k) e = stays (ended_stays p t k within e)
