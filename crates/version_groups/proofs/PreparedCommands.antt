-- What was prepared, of a past that is shown.
use Rattle.std.proofs.Common.{◌≡◌, ◌≤◌, ◌<◌, ◌+◌, ℕ, suc, zero, List, [], ◌∷◌, map, length, get_or}
use Rattle.std.proofs.Common.{refl, sym, ap, subst, ◌∙◌, arith, inl, inr}
use Rattle.std.specs.Prelude.{Option, Some, None, nat_lt}
use Rattle.std.specs.Option.{option_map}
use Rattle.std.specs.FinMap.{get, get-empty}
use Rattle.relations_spec.specs.Sets.{Ascends}
use Rattle.relations_spec.specs.Spans.{forever}
use Rattle.prima_base.specs.Order.{bytes_cmp}
use Rattle.prima_base.specs.Columns.{Column}
use Rattle.schema_catalog.specs.Tables.{Tables}
use Rattle.history_store.specs.Store.{Store, AllBefore}
use Rattle.history_store.specs.Change.{PreparedChange}
use Rattle.smo_ops_types.specs.declared.version.Version.{Version}
use Rattle.smo_ops_spec.specs.Accepts.{command_fault, operator_refusal}
use Rattle.smo_ops_spec.specs.Accepts.{body_tests}
use Rattle.smo_ops_spec.specs.Evolutions.{evolution_fault}
use Rattle.smo_ops_spec.specs.First.{unless, first_refusal}
use Rattle.smo_ops_spec.specs.ValidPast.{IsLater}
use Rattle.smo_ops_spec.specs.ValidValues.{BodyHolds}
use Rattle.smo_ops_spec.specs.Inverses.{inverse_tests}
use Rattle.prima_base.specs.declared.refusal.What.TheVariants.{Versions}
use Rattle.prima_base.specs.declared.refusal.Refusal.TheVariants.{TooMany as OverLimit}
use Rattle.prima_base.specs.Limits.{max_versions}
use Rattle.std.proofs.lemmas.Bool.Decides.{nat_tests}
use Rattle.smo_ops_spec.proofs.Firsts.{met, none_of_first}
use Rattle.smo_ops_types.specs.Changes.{PlainChange}
use Rattle.smo_ops_types.specs.Commands.{changing, evolving, version_of}
use Rattle.smo_ops_types.specs.Operators.{Operator}
use Rattle.smo_ops_spec.specs.Past.{Past, beginning, no_tables, newest_from, tables_of}
use Rattle.smo_ops_spec.specs.Past.{newest_tables, newest_database, next_database}
use Rattle.smo_ops_spec.specs.Sizes.{Size}
use Rattle.smo_ops_spec.proofs.PastSteps.{beginning_is_past, body_accepted}
use Rattle.smo_ops_spec.proofs.ValueLaws.{beginning_holds}
use Rattle.version_groups_tables.specs.declared.made_table.MadeTable.{MadeTable}
use Rattle.version_groups_tables.specs.Stored.{stored_as, stored_names}
use Rattle.version_groups_tables.specs.Room.{IsSameTable, AreSameTables}
use Rattle.version_groups_tables.specs.Changing.{AreChangeable, AreOfSchema, ArePrepared}
use Rattle.version_groups_tables.specs.Changing.{all_gained}
use Rattle.version_groups_tables.specs.Changing.{all_lost}
use Rattle.version_groups_tables.specs.Evolving.{IsEvolved}
use Rattle.version_groups_tables.specs.NewestTables.{AreStored}
use Rattle.version_groups_tables.specs.Places.{at_places}
use Rattle.version_groups_tables.proofs.TablesInTurn.{same_table, same_after}
use Rattle.version_groups_tables.proofs.Places.{same_at}
use Rattle.version_groups_tables.proofs.SchemaTables.{of_schema}
use Rattle.version_groups.specs.Sizes.{HasSize, AreWritten}
use Rattle.version_groups.specs.Covering.{line_of, AreCovered}
use Rattle.version_groups.specs.Lifelines.{lifelines_of}
use Rattle.version_groups.specs.Groups.{Kept, newest_places, group_of, newest_group, table_in}
use Rattle.version_groups_tables.proofs.ChangeLaws.{same_relation, same_before, same_columns}
use Rattle.version_groups.specs.Representation.{RepresentsTable, RepresentsEntry, AreUpTo}
use Rattle.version_groups.specs.Representation.{Represents}
use Rattle.version_groups.specs.Room.{IsSame}
use Rattle.version_groups.specs.Steps.{a_command, step_of, changed, evolved, AreChanges, IsStep}
use Rattle.version_groups.specs.Steps.{PlainPreparedCommand, Prepares}
use Rattle.version_groups.proofs.Applied.{as_many}
use Rattle.version_groups.proofs.Covered.{still_of_lifelines}
use Rattle.version_groups.proofs.GroupPlaces.{lines_kept}
use Rattle.version_groups.proofs.Installed.{entry_follows}
use Rattle.version_groups.proofs.Newest.{stands, changeable, are_changes, counts}
use Rattle.version_groups.proofs.Pairs.{Paired, paired}
use Rattle.version_groups.proofs.SizesEvolved.{operator_accepted}

-- ---- nothing was accepted

none_stored : (k : ℕ) (name : List ℕ) (tables : List MadeTable) (places : List (List ℕ))
    → places ≡ [] ∷ [] → stored_as name (at_places tables (get_or places k [])) ≡ None
none_stored zero name tables places e = ap (λ (ps : List (List ℕ)).
    stored_as name (at_places tables (get_or ps 0 []))) e
none_stored (suc k) name tables places e = ap
    (λ (ps : List (List ℕ)). stored_as name (at_places tables (get_or ps (suc k) []))) e

pub new_represents : (kept : Kept) → kept.versions ≡ [] → kept.places ≡ [] ∷ [] → kept.stored ≡ []
    → Represents kept beginning
new_represents kept versions places stored = record {
  valid = beginning_is_past;
  values = beginning_holds;
  ends = omega arith;
  versions = ap (map version_of) versions;
  tables = λ k name l.
      subst (λ (o : Option (List Column)). RepresentsEntry beginning k name o
      (table_in kept k name))
      (sym (get-empty bytes_cmp name))
      (subst (λ (s : Option Store). RepresentsEntry beginning k name None s)
      (sym (none_stored k name kept.stored kept.places places)) tt);
  sizes = record { count = ap length stored; each = λ k s t l. absurd (omega (arith, l)) };
  stamps = subst (λ (ts : List MadeTable). AreUpTo None ts) (sym stored)
      (λ p t m l later. absurd (omega (arith, l)));
  lifelines = record {
    lines = ap (map line_of) stored ∙ sym (ap
        (λ (vs : List Version). lifelines_of (map version_of vs)) versions);
    places = subst (λ (ts : List MadeTable). AreCovered (map line_of ts) (length kept.versions)
        kept.places) (sym stored) (record {
          begun = λ p l e. absurd (cc);
          ended = λ p l last e i. absurd (cc);
          there = λ k p l n e c. absurd (cc);
          covered = λ k p l n e i. absurd (cc);
          one = λ k p q l m n e f s c d. absurd (cc);
        });
  };
}

-- ---- what is as it was shows what it showed

still_shown : (past : Past) (k : ℕ) (name : List ℕ) (t u : MadeTable) → IsSameTable t u
    → (columns : List Column) → RepresentsTable past k name columns t.store
    → RepresentsTable past k name columns u.store
still_shown past k name t u same columns h =
    let n : ℕ = u.store.spare in
    let i : List ℕ = u.store.indexed in
    record {
      columns = same_columns t.store u.store n i same.store ∙ h.columns;
      shown = λ m own. same_relation t.store u.store n i same.store m ∙ h.shown m own;
      stamps = λ m own l. same_before t.store u.store n i same.store m (h.stamps m own l);
    }

pub same_groups : (old new : Kept) → IsSame old new → (k : ℕ)
    → AreSameTables (group_of old k) (group_of new k)
same_groups old new same k =
    subst (λ (ps : List (List ℕ)). AreSameTables (group_of old k)
    (at_places new.stored (get_or ps k []))) (sym same.places)
    (same_at old.stored new.stored (get_or old.places k []) same.stored)

same_newest : (old new : Kept) → IsSame old new → newest_places new ≡ newest_places old
same_newest old new same = ap (λ (ps : List (List ℕ)). get_or ps (length new.versions) [])
    same.places ∙ ap (λ (vs : List Version). get_or old.places (length vs) []) same.versions

pub represents_same : (old new : Kept) → IsSame old new → (past : Past) → Represents old past
    → Represents new past
represents_same old new same past represents = record {
  valid = represents.valid;
  values = represents.values;
  ends = represents.ends;
  versions = ap (map version_of) same.versions ∙ represents.versions;
  tables = λ k name l. let group = same_groups old new same k in
      entry k name (paired IsSameTable (λ t u h. h.name) name (group_of old k) (group_of new k)
      group.count group.each) (represents.tables k name l);
  sizes = record {
    count = same.stored.count ∙ represents.sizes.count;
    each = λ k s t l. size (get_or past.sizes k s) (get_or old.stored k t) (get_or new.stored k t)
        (same.stored.each k t (let n = represents.sizes.count in omega (arith, l, n)))
        (represents.sizes.each k s t l);
  };
  lifelines = still_of_lifelines old new same.versions same.places
      (lines_kept old.stored new.stored same.stored) represents.lifelines;
  stamps = λ p t m l later. stays p t m (let n = same.stored.count in omega (arith, l, n)) later;
}
  where
    stays : (p : ℕ) (t : MadeTable) (m : ℕ) → p < length old.stored → IsLater past.last m
        → AllBefore (get_or new.stored p t).store m
    stays p t m l later =
        let u = get_or new.stored p t in
        same_before (get_or old.stored p t).store u.store u.store.spare u.store.indexed
        (same.stored.each p t l).store m (represents.stamps p t m l later)

    size : (s : Size) (t u : MadeTable) → IsSameTable t u → HasSize s t → HasSize s u
    size s t u e h = record {
      name = e.name ∙ h.name;
      first = e.first ∙ h.first;
      last = e.last ∙ h.last;
      keys = ap (λ (x : Store). length x.keys) e.store ∙ h.keys;
      columns = subst (λ (x : Store). AreWritten s.columns x.cells) (sym e.store) h.columns;
    }

    entry : (k : ℕ) (name : List ℕ) → Paired IsSameTable name (group_of old k) (group_of new k)
        → RepresentsEntry past k name (get (tables_of past k) name) (table_in old k name)
        → RepresentsEntry past k name (get (tables_of past k) name) (table_in new k name)
    entry k name (inl none) h =
        subst (λ (s : Option Store). RepresentsEntry past k name (get (tables_of past k) name) s)
        (sym none.1)
        (subst (λ (s : Option Store). RepresentsEntry past k name (get (tables_of past k) name) s)
        none.0
        h)
    entry k name (inr f) h =
        subst (λ (s : Option Store). RepresentsEntry past k name (get (tables_of past k) name) s)
        (sym f.now)
        (entry_follows past past k name (get (tables_of past k) name) (Some f.before.store)
        (Some f.after.store) (still_shown past k name f.before f.after f.related)
        (subst (λ (s : Option Store). RepresentsEntry past k name (get (tables_of past k) name) s)
        f.was
        h))

pub is_same : (kept : Kept) → IsSame kept kept
is_same kept = record {
  versions = refl;
  places = refl;
  stored =
      record { count = refl; each = λ j d l. same_table (get_or kept.stored j d) };
  spare =
      omega arith;
  beginnings = omega arith;
}

-- ---- changes

module _ (kept : Kept) (past : Past) (stamp : ℕ) (changes : List PlainChange)
    (represents : Represents kept past) (valid : stamp < forever)
    (accepted : command_fault past (a_command stamp (changing changes)) ≡ None)
    (ordered : Ascends bytes_cmp (stored_names (newest_group kept))) where
  number : length kept.versions ≡ length past.versions
  number = as_many kept past represents

  in_order : Ascends bytes_cmp (stored_names (group_of kept (length past.versions)))
  in_order = subst (λ j. Ascends bytes_cmp (stored_names (group_of kept j))) number ordered

  pub of_newest_schema : AreOfSchema (newest_tables past) (newest_group kept)
  of_newest_schema =
      subst (λ j. AreOfSchema (newest_tables past) (group_of kept j)) (sym number)
      (of_schema (newest_tables past) (newest_database past) stamp
      (group_of kept (length past.versions)) in_order
      (stands kept past stamp (changing changes) represents valid accepted))

  pub changeable_now : AreChangeable stamp changes (newest_group kept)
  changeable_now =
      subst (λ j. AreChangeable stamp changes (group_of kept j)) (sym number)
      (changeable (newest_tables past) (newest_database past) stamp
      (group_of kept (length past.versions)) in_order
      (stands kept past stamp (changing changes) represents valid accepted) changes
      (body_accepted past (a_command stamp (changing changes)) accepted))

  pub changes_ready : BodyHolds (changing changes) → (new : Kept) → IsSame kept new
      → (prepared : List (Option PreparedChange))
      → ArePrepared stamp changes (newest_group new) prepared
      → (next : PlainPreparedCommand) → next.stamp ≡ stamp → step_of next.step ≡ changed prepared
      → next.gained ≡ all_gained stamp changes (newest_group kept)
      → next.lost ≡ all_lost stamp changes (newest_group kept)
      → Prepares new past (a_command stamp (changing changes)) next
  changes_ready hold new same prepared ready next own_stamp is gains loses =
      let n = length past.versions in
      let e : length new.versions ≡ length past.versions = ap length same.versions ∙ number in
      let stored = stands kept past stamp (changing changes) represents valid accepted in
      let own = body_accepted past (a_command stamp (changing changes)) accepted in
      let c = counts (newest_tables past) (newest_database past) stamp (group_of kept n) in_order
      stored represents.valid.tables.schema represents.valid.database changes own in
      let group = same_groups kept new same n in
      record {
        ready = record {
          accepted = accepted;
          valid = valid;
          constants = hold;
          step = subst (IsStep new past stamp (changing changes)) (sym is)
              (subst (λ j. AreChanges stamp (next_database (changing changes) past) (group_of new j)
              prepared) (sym e)
              (are_changes (newest_tables past) (newest_database past) stamp (group_of kept n)
              in_order stored represents.valid.database changes (group_of new n) prepared
              (subst (λ j. ArePrepared stamp changes (group_of new j) prepared) e ready) group.count
              (λ k d l. (
                (group.each k d l).name,
                same_after stamp changes (get_or (group_of kept n) k d)
                    (get_or (group_of new n) k d) (group.each k d l),
              ))));
        };
        stamp = own_stamp;
        gained = gains ∙ ap (λ j. all_gained stamp changes (group_of kept j)) number ∙ c.0;
        lost = loses ∙ ap (λ j. all_lost stamp changes (group_of kept j)) number ∙ c.1;
      }

-- ---- schemas of the groups' fields

pub schema_is : (kept : Kept) (past : Past) → Represents kept past
    → (nothing : Tables) (versions : List Version) → nothing ≡ no_tables → versions ≡ kept.versions
    → newest_from nothing (map version_of versions) ≡ newest_tables past
schema_is kept past represents nothing versions n e =
    ap (λ t. newest_from t (map version_of versions)) n
    ∙ ap (newest_from no_tables) (ap (map version_of) e ∙ represents.versions)

-- ---- an operator

module _ (kept : Kept) (past : Past) (stamp : ℕ) (op : List Operator)
    (inverse : List (List Operator))
    (represents : Represents kept past) (valid : stamp < forever)
    (accepted : command_fault past (a_command stamp (evolving op inverse)) ≡ None) where
  tests : first_refusal (body_tests past (evolving op inverse)) ≡ None
  tests = body_accepted past (a_command stamp (evolving op inverse)) accepted

  pub op_accepted : evolution_fault (newest_tables past) op ≡ None
  op_accepted = operator_accepted past stamp op inverse accepted

  pub few_versions : length past.versions < max_versions
  few_versions =
      let h = met (nat_lt (length past.versions) max_versions) (OverLimit Versions max_versions)
      (none_of_first (unless (nat_lt (length past.versions) max_versions)
      (OverLimit Versions max_versions))
      (option_map operator_refusal (evolution_fault (newest_tables past) op)
      ∷ inverse_tests (newest_tables past) op inverse) tests).0 in
      grind (arith, nat_tests, h)

  pub stored_now : AreStored (newest_tables past) (newest_database past) stamp (newest_group kept)
  stored_now = subst (λ j. AreStored (newest_tables past) (newest_database past) stamp
      (group_of kept j)) (sym (as_many kept past represents))
      (stands kept past stamp (evolving op inverse) represents valid accepted)

  pub operator_ready : BodyHolds (evolving op inverse) → (new : Kept) → IsSame kept new
      → new.stored ≡ kept.stored → 1 ≤ new.spare
      → (version : Version) (begun : List MadeTable) (places : List ℕ)
      → length begun ≤ new.beginnings → IsEvolved kept.stored (newest_places kept)
      (length kept.versions + 1) (newest_tables past) (newest_database past) stamp op inverse
      (version_of version) begun places
      → (next : PlainPreparedCommand) → next.stamp ≡ stamp
      → step_of next.step ≡ evolved (version_of version) begun places
      → next.gained ≡ 0 → next.lost ≡ 0 → Prepares new past (a_command stamp (evolving op inverse))
      next
  operator_ready hold new same stored room version begun places beginnings e next own_stamp is g l =
      let number : length kept.versions ≡ length new.versions = sym (ap length same.versions) in
      let at : newest_places kept ≡ newest_places new = sym (same_newest kept new same) in
      let h = subst (λ (ts : List MadeTable).
      IsEvolved ts (newest_places new) (length new.versions + 1) (newest_tables past)
      (newest_database past) stamp op inverse (version_of version) begun places) (sym stored)
      (subst (λ ps. IsEvolved kept.stored ps (length new.versions + 1) (newest_tables past)
      (newest_database past) stamp op inverse (version_of version) begun places) at
      (subst (λ n. IsEvolved kept.stored (newest_places kept) (n + 1) (newest_tables past)
      (newest_database past) stamp op inverse (version_of version) begun places) number e)) in
      record {
        ready = record {
          accepted = accepted;
          valid = valid;
          constants = hold;
          step = subst (IsStep new past stamp (evolving op inverse)) (sym is) (record {
            version = h.version;
            begin = h.tables.begin;
            placed = h.tables.placed;
            there = h.tables.there;
            ordered = h.tables.ordered;
            tables = h.tables.tables;
            room = room;
            beginnings = beginnings;
            fits = (let few = few_versions in let e = ap length same.versions in let n =
                as_many kept past represents in omega (arith, few, e, n));
          });
        };
        stamp = own_stamp;
        gained = g;
        lost = l;
      }
