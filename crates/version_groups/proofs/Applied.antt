-- What was prepared, applied.
use Rattle.std.proofs.Common.{◌≡◌, ◌≤◌, ◌<◌, ◌+◌, ℕ, List, [], ◌∷◌, ◌++◌, map, length, get_or, refl}
use Rattle.std.proofs.Common.{sym, ap, subst, ◌∙◌, arith, inl, inr}
use Rattle.std.specs.Prelude.{Option, Some, None, ◌^◌}
use Rattle.std.specs.FinMap.{get}
use Rattle.std.proofs.lemmas.List.{length-map, map-append}
use Rattle.relations_spec.specs.Spans.{forever}
use Rattle.relations_spec.specs.Sets.{In, Ascends}
use Rattle.prima_base.specs.Order.{bytes_cmp}
use Rattle.history_store.specs.Store.{Store, relation_at}
use Rattle.history_store.specs.Change.{PreparedChange}
use Rattle.smo_ops_types.specs.declared.version.Version.{Version}
use Rattle.smo_ops_spec.specs.Effects.{rows_under}
use Rattle.smo_ops_spec.specs.OneRow.{Relation}
use Rattle.smo_ops_spec.specs.Accepts.{command_fault}
use Rattle.smo_ops_spec.specs.ValidValues.{BodyHolds}
use Rattle.smo_ops_types.specs.Commands.{PlainBody, changing, evolving, PlainVersion, version_of}
use Rattle.smo_ops_spec.specs.Past.{Past, next_database, past_with}
use Rattle.version_groups_tables.specs.declared.made_table.MadeTable.{MadeTable}
use Rattle.version_groups_tables.specs.Stored.{stored_as, stored_names}
use Rattle.version_groups_tables.specs.Places.{at_places, AreWithin}
use Rattle.version_groups_tables.specs.Becoming.{HasRoom, Leads, IsMade, IsAmong, IsMadeBy}
use Rattle.version_groups_tables.specs.Changing.{HaveRoom}
use Rattle.version_groups.specs.Groups.{Kept, versions_in, group_of, newest_group, table_in}
use Rattle.version_groups.specs.Representation.{IsInForce, Represents}
use Rattle.version_groups.specs.Installing.{Stays, StaysEntry, HasChanges, HasVersion, ComeWith}
use Rattle.version_groups.specs.Steps.{changed, evolved, a_command, AreChanges, IsStep}
use Rattle.smo_ops_spec.proofs.PastMoments.{before_or_not}
use Rattle.version_groups.proofs.Pairs.{Paired, paired}
use Rattle.version_groups.proofs.SizesChanged.{sizes_follow, stamps_follow}
use Rattle.version_groups.proofs.SizesEvolved.{sizes_begin, stamps_begin, comes_with}
use Rattle.version_groups.proofs.Covered.{still_of_lifelines}
use Rattle.version_groups.proofs.Installed.{made_name, prepared_at, ended, represents_changed}
use Rattle.version_groups.proofs.Installed.{represents_evolved}

-- as many versions as the past has
pub as_many : (kept : Kept) (past : Past) → Represents kept past
    → length kept.versions ≡ length past.versions
as_many kept past represents = sym (length-map kept.versions version_of)
    ∙ ap length represents.versions

module _ (kept new : Kept) (past : Past) (represents : Represents kept past) where
  pub changes_made : (prepared : List (Option PreparedChange)) → HasChanges kept new prepared
      → (stamp : ℕ) (body : PlainBody) → stamp < forever
      → command_fault past (a_command stamp body) ≡ None
      → BodyHolds body → IsStep kept past stamp body (changed prepared)
      → Represents new (past_with past (a_command stamp body))
  changes_made prepared m stamp (evolving op inverse) valid accepted hold ready = absurd ready
  changes_made prepared m stamp (changing changes) valid accepted hold ready =
      let n = as_many kept past represents in
      represents_changed kept past stamp changes represents valid accepted hold new prepared
      (ap (map version_of) m.versions) (λ k l. m.groups k (omega (arith, l, n)))
      (subst (λ j. length (group_of new j) ≡ length (group_of kept j)) n m.made.count)
      (subst (λ j. AreChanges stamp (next_database (changing changes) past) (group_of kept j)
      prepared)
      n ready)
      (subst (λ j. (k : ℕ) (d : MadeTable) → k < length (group_of kept j)
      → IsMade (get_or (group_of kept j) k d) (get_or prepared k None)
      (get_or (group_of new j) k d)) n m.made.each)
      (sizes_follow kept new past stamp changes represents valid accepted prepared m ready)
      (still_of_lifelines kept new m.versions m.places m.lines represents.lifelines)
      (stamps_follow kept new past stamp changes represents valid accepted prepared m ready)

  pub version_made : (made : Version) (begun : List MadeTable) (places : List ℕ)
      → HasVersion kept new made begun places → (stamp : ℕ) (body : PlainBody) → stamp < forever
      → command_fault past (a_command stamp body) ≡ None → BodyHolds body
      → IsStep kept past stamp body (evolved (version_of made) begun places)
      → Represents new (past_with past (a_command stamp body))
  version_made made begun places m stamp (changing changes) valid accepted hold ready = absurd ready
  version_made made begun places m stamp (evolving op inverse) valid accepted hold ready =
      let n = as_many kept past represents in
      represents_evolved kept past stamp op inverse represents valid accepted hold new
      (version_of made) begun
      places ready
      (ap (map version_of) m.versions ∙ map-append version_of kept.versions (made ∷ []))
      (λ k name l. m.tables k name (omega (arith, l, n)))
      (λ name. ap (λ j. table_in new (j + 1) name) (sym n) ∙ m.own name)
      (sizes_begin kept new past stamp op inverse represents n accepted made begun places m ready)
      m.lifelines
      (stamps_begin kept new past stamp op inverse represents n accepted made begun places m ready)

  -- the tables of earlier versions stay at the moments at which these are in force
  pub changes_leave : (prepared : List (Option PreparedChange)) → HasChanges kept new prepared
      → (stamp : ℕ) (body : PlainBody) → stamp < forever
      → command_fault past (a_command stamp body) ≡ None
      → IsStep kept past stamp body (changed prepared) → (k : ℕ) → k < length kept.versions
      → (name : List ℕ) → StaysEntry (versions_in new) k (table_in kept k name)
      (table_in new k name)
  changes_leave prepared m stamp (evolving op inverse) valid accepted ready k l name = absurd ready
  changes_leave prepared m stamp (changing changes) valid accepted ready k l name =
      step (paired (IsMadeBy prepared) (λ t u h. made_name t h.change u h.made) name
      (group_of kept k)
      (group_of new k) (m.groups k l).count (m.groups k l).each)
    where
      n : length kept.versions ≡ length past.versions
      n = as_many kept past represents

      at : (change : PreparedChange) → In (Some change) prepared → change.stamp ≡ stamp
      at = prepared_at stamp (next_database (changing changes) past)
          (group_of kept (length past.versions)) prepared
          (subst (λ j. AreChanges stamp (next_database (changing changes) past) (group_of kept j)
          prepared) n ready)

      own : (t : ℕ) → IsInForce (versions_in new) k t → t < stamp
      own t f =
          let past_own : IsInForce past.versions k t =
          subst (λ (vs : List PlainVersion). IsInForce vs k t)
          (ap (map version_of) m.versions ∙ represents.versions) f in
          elim (before_or_not t stamp) [
            | inl b ↦ b
            | inr b ↦ absurd (ended kept past stamp changes represents valid accepted k
                (omega (arith, l, n)) t past_own b)
          ]

      stays : (t u : MadeTable) (p : Option PreparedChange) → IsAmong p prepared → IsMade t p u
          → Stays (versions_in new) k t.store u.store
      stays t u None among e =
          let is : u.store ≡ t.store = ap (λ (x : MadeTable). x.store) e in
          record {
            columns = ap (λ (x : Store). x.columns) is;
            relation = λ j f.
                ap (λ (x : Store). relation_at x j) is;
          }
      stays t u (Some p) among e =
          let same = at p among in
          record {
            columns = e.becomes.columns;
            relation = λ j f.
                e.becomes.before j (let b = own j f in omega (arith, b, same));
          }

      step : Paired (IsMadeBy prepared) name (group_of kept k) (group_of new k)
          → StaysEntry (versions_in new) k (stored_as name (group_of kept k))
          (stored_as name (group_of new k))
      step (inl none) =
          subst (λ (o : Option Store). StaysEntry (versions_in new) k o
          (stored_as name (group_of new k))) (sym none.0)
          (subst (λ (o : Option Store). StaysEntry (versions_in new) k None o) (sym none.1) tt)
      step (inr f) =
          subst (λ (o : Option Store). StaysEntry (versions_in new) k o
          (stored_as name (group_of new k))) (sym f.was)
          (subst (λ (o : Option Store). StaysEntry (versions_in new) k (Some f.before.store) o)
          (sym f.now) (stays f.before f.after f.related.change f.related.among f.related.made))

-- tables that are what they were stay at each moment
entry_stays : (versions : List PlainVersion) (k : ℕ) (s : Option Store) → StaysEntry versions k s s
entry_stays versions k None = tt
entry_stays versions k (Some store) = record { columns = refl; relation = λ m own. refl }

pub table_stays : (versions : List PlainVersion) (k : ℕ) (old new : Option Store) → new ≡ old
    → StaysEntry versions k old new
table_stays versions k old new e = subst (StaysEntry versions k old) (sym e)
    (entry_stays versions k old)

-- what is ready has its room
has_room : (store : Store) (stamp : ℕ) (rows : Relation) (o : Option PreparedChange)
    → Leads store stamp rows o → HasRoom store o
has_room store stamp rows None h = tt
has_room store stamp rows (Some change) h = (h.fits, h.room)

pub have_room : (kept : Kept) (past : Past) (stamp : ℕ) (body : PlainBody)
    (prepared : List (Option PreparedChange)) → IsStep kept past stamp body (changed prepared)
    → HaveRoom (newest_group kept) prepared
have_room kept past stamp (evolving op inverse) prepared h = absurd h
have_room kept past stamp (changing changes) prepared h = record {
  count = h.count;
  each = λ k d l. has_room (get_or (newest_group kept) k d).store stamp
      (rows_under (get (next_database (changing changes) past)
      (get_or (newest_group kept) k d).name)) (get_or prepared k None) (h.each k d l);
}

-- the room for a version that is ready, and the tables that come with it
pub record IsRoomFor (kept : Kept) (made : Version) (begun : List MadeTable) (places : List ℕ) :
    Type 0 where
  pub come : ComeWith kept made begun places
  pub there : AreWithin places (length kept.stored + length begun)
  pub ordered : Ascends bytes_cmp (stored_names (at_places (kept.stored ++ begun) places))
  pub room : 1 ≤ kept.spare
  pub beginnings : length begun ≤ kept.beginnings
  pub fits : length kept.versions + 1 < 2 ^ 32

pub is_room : (kept : Kept) (past : Past) → Represents kept past → (stamp : ℕ) (body : PlainBody)
    → command_fault past (a_command stamp body) ≡ None
    → (made : Version) (begun : List MadeTable) (places : List ℕ)
    → IsStep kept past stamp body (evolved (version_of made) begun places)
    → IsRoomFor kept made begun places
is_room kept past represents stamp (changing changes) accepted made begun places h = absurd h
is_room kept past represents stamp (evolving op inverse) accepted made begun places h =
    record {
      come = comes_with kept past stamp op inverse represents
          (as_many kept past represents) accepted
          made begun places h;
      there = h.there;
      ordered = h.ordered;
      room = h.room;
      beginnings =
          h.beginnings;
      fits = h.fits;
    }
