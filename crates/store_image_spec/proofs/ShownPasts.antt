-- The past that an image shows is one that accepted commands can have made, and holds valid values.
use Rattle.std.proofs.Common.{◌≡◌, ◌≤◌, ◌<◌, ℕ, Bool, true, false, cond, List, [], ◌∷◌, length}
use Rattle.std.proofs.Common.{refl, sym, ap, subst, ◌∙◌, inl, inr, arith, nat_lt}
use Rattle.std.specs.Prelude.{None}
use Rattle.std.specs.FinMap.{get}
use Rattle.std.proofs.lemmas.Bool.Decides.{nat_tests}
use Rattle.relations_spec.specs.Sets.{In}
use Rattle.relations_spec.specs.Spans.{forever}
use Rattle.schema_catalog.specs.Databases.{Database, IsDatabase}
use Rattle.schema_catalog.specs.Tables.{Tables}
use Rattle.history_store_spec.specs.Store.{relation_at}
use Rattle.smo_ops_types.specs.Commands.{PlainVersion}
use Rattle.smo_ops_spec.specs.Effects.{rows_under}
use Rattle.smo_ops_spec.specs.After.{IsValid}
use Rattle.smo_ops_spec.specs.ValidPast.{Starts, AllUpTo, EachStarts, IsPast, last_or_nought}
use Rattle.smo_ops_spec.specs.ValidValues.{HoldsValues, PastHolds}
use Rattle.smo_ops_spec.specs.Past.{Past, no_database, no_tables, tables_of, tables_from, begun_at}
use Rattle.smo_ops_spec.specs.Past.{version_at, database_from, database_at, newest_database}
use Rattle.smo_ops_spec.specs.Past.{newest_tables}
use Rattle.smo_ops_spec.proofs.PastLaws.{at_least, newest_holds, up_to_later}
use Rattle.smo_ops_spec.proofs.PastMoments.{all_begun, newest_tables_from, before_or_not}
use Rattle.smo_ops_spec.proofs.PastSteps.{beginning_is_past}
use Rattle.smo_ops_spec.proofs.VersionsInTurn.{valid_from}
use Rattle.smo_ops_versions_spec.specs.Lifelines.{Covers}
use Rattle.store_image_spec.specs.Images.{StoredLine, Image, IsImage, store_of}
use Rattle.store_image_spec.specs.ShownPast.{image_database, image_stamps, states_along, image_past}
use Rattle.store_image_spec.proofs.ShownDatabases.{image_tables, own_entry, is_database}
use Rattle.store_image_spec.proofs.ShownDatabases.{holds_values}
use Rattle.store_image_spec.proofs.QuietMoments.{version_stamp, stamp_up_to}
use Rattle.store_image_spec.proofs.ShownStates.{stamps_climb, begins_there, rise, all_up_to}
use Rattle.store_image_spec.proofs.ShownStates.{each_differs, version_starts, shows}
use Rattle.store_image_spec.proofs.EncodedValues.{versions_hold}

module _ (n : ℕ) (image : Image) (is : IsImage image) where
  abbrev past : Past
  past = image_past n image

  abbrev last : ℕ
  last = last_or_nought image.last

  abbrev first : Database
  first = image_database image 0

  -- at each moment the past has the image's database
  pub shown_at : (m : ℕ) → m < forever → database_at past m ≡ image_database image m
  shown_at m lasts =
      ap (λ b. cond b (database_from first (states_along image first (image_stamps image)) m)
      no_database) (at_least 0 m (omega arith))
      ∙ shows image is 0 first (image_stamps image) (stamps_climb image) (λ x i. inr i) refl m
      (omega arith) lasts

  up_to_last : AllUpTo last past.states
  up_to_last = (omega arith, all_up_to image last first (image_stamps image) (stamp_up_to image is))

  -- from the last stamp on nothing changes
  all_later : (m : ℕ) → last ≤ m → database_at past m ≡ image_database image last
  all_later m l =
      newest_holds no_database past.states m (up_to_later last m past.states l up_to_last)
      ∙ sym (newest_holds no_database past.states last up_to_last) ∙ shown_at last is.ends

  tables_later : (m : ℕ) → last ≤ m → tables_of past (version_at past m) ≡ image_tables image last
  tables_later m l =
      ap (λ (vs : List PlainVersion). tables_from no_tables image.versions (length vs))
      (all_begun last m image.versions is.begun l
      ∙ sym (all_begun last last image.versions is.begun (omega arith)))

  -- so of each moment there is one of the image with the same tables and database
  at_moment : (P : Tables → Database → Type 0)
      → ((m : ℕ) → P (image_tables image m) (image_database image m)) → (m : ℕ)
      → P (tables_of past (version_at past m)) (database_at past m)
  at_moment P f m = elim (before_or_not m forever) [
    | inl l ↦ subst (P (image_tables image m)) (sym (shown_at m l)) (f m)
    | inr l ↦
        let late : last ≤ m = (let e = is.ends in omega (arith, l, e)) in
        subst (λ (t : Tables). P t (database_at past m)) (sym (tables_later m late))
        (subst (P (image_tables image last)) (sym (all_later m late)) (f last))
  ]

  each_database : (m : ℕ) → IsDatabase (tables_of past (version_at past m)) (database_at past m)
  each_database = at_moment IsDatabase (is_database image is)

  newest : newest_tables past ≡ image_tables image last
  newest =
      sym (newest_tables_from no_tables image.versions)
      ∙ ap (λ (vs : List PlainVersion). tables_from no_tables image.versions (length vs))
      (sym (all_begun last last image.versions is.begun (omega arith)))

  valid_tables : IsValid (newest_tables past)
  valid_tables = subst IsValid (sym newest) (valid_from None no_tables image.versions
      (length (begun_at last image.versions)) beginning_is_past.tables is.evolved)

  newest_is_database : IsDatabase (newest_tables past) (newest_database past)
  newest_is_database =
      subst (λ (t : Tables). IsDatabase t (newest_database past)) (sym newest)
      (subst (IsDatabase (image_tables image last))
      (sym (all_later last (omega arith))
      ∙ newest_holds no_database past.states last up_to_last) (is_database image is last))

  version_begins : (v : PlainVersion) → In v image.versions → Starts v.stamp past.states
  version_begins v i = step (nat_lt 0 v.stamp) refl
    where
      step : (b : Bool) → nat_lt 0 v.stamp ≡ b → Starts v.stamp past.states
      step true e = inr (version_starts image v.stamp (begins_there image.versions v i) first
          (image_stamps image) (version_stamp image v i (grind (arith, nat_tests, e))))
      step false e = inl (grind (arith, nat_tests, e))

  each_starts : (versions : List PlainVersion)
      → ((v : PlainVersion) → In v versions → In v image.versions) → EachStarts past.states versions
  each_starts [] f = tt
  each_starts (v ∷ versions) f = (
    version_begins v (f v (inl refl)),
    each_starts versions (λ w i. f w (inr i)),
  )

  pub is_past : IsPast past
  is_past = record {
    tables = valid_tables;
    database = newest_is_database;
    each = each_database;
    versions = is.begun;
    evolved = is.evolved;
    few = is.few;
    without = is.without;
    states = (refl, rise image 0 first (image_stamps image) (stamps_climb image));
    distinct = each_differs image first (image_stamps image);
    begun = each_starts image.versions (λ v i. i);
    ended = up_to_last;
  }

  pub past_holds : PastHolds past
  past_holds = record {
    databases = at_moment (λ (t : Tables) (d : Database). HoldsValues d) (holds_values image is);
    versions = versions_hold image.versions is.named;
  }

  pub table_shown : (m : ℕ) → m < forever → (l : StoredLine) → In l image.lines
      → Covers l.line.first l.line.last (version_at past m)
      → rows_under (get (database_at past m) l.line.table) ≡ relation_at (store_of l) m
  table_shown m lasts l i c = ap (λ (d : Database). rows_under (get d l.line.table))
      (shown_at m lasts) ∙ ap rows_under (own_entry image is m l i c)
