-- What a version shows is a database of its tables where none is lost, and changes with the states
-- of the past alone.
use Rattle.std.specs.Prelude.{◌≡◌, ◌≤◌, ◌<◌, ◌⊎◌, ◌∷◌, ℕ, true, false, List, [], cond}
use Rattle.std.specs.Prelude.{nat_le, nat_lt, length, Option, Some, None, ⊤}
use Rattle.std.proofs.Common.{refl, sym, ap, subst, ◌∙◌, inl, inr, arith}
use Rattle.std.proofs.lemmas.Bool.Decides.{nat_tests}
use Rattle.std.specs.FinMap.{get, empty}
use Rattle.relations_spec.proofs.ListingLaws.{at_or_below}
use Rattle.prima_base.specs.Columns.{Column}
use Rattle.schema_catalog.specs.Databases.{DatabaseEntry, Rows, Lost, Database, IsEntry, IsDatabase}
use Rattle.smo_ops_types.specs.Commands.{PlainVersion}
use Rattle.smo_ops_spec.specs.Losses.{loss_of, IsEntryOrLost}
use Rattle.smo_ops_spec.specs.Past.{State, Past, no_database, tables_of, version_at, database_from}
use Rattle.smo_ops_spec.specs.Past.{database_at, begun_at}
use Rattle.smo_ops_spec.specs.ValidPast.{IsPast, Rise, AreStates, Starts, EachStarts}
use Rattle.smo_ops_versions_spec.specs.Ways.{way}
use Rattle.smo_ops_versions_spec.specs.Migration.{migrated_from}
use Rattle.smo_ops_versions_spec.specs.LostTables.{AreLosses, lost_tables}
use Rattle.smo_ops_versions_spec.proofs.WayDatabases.{none_is_lost, migrated_database}
use Rattle.smo_ops_versions_spec.proofs.LossesByName.{losses_are, no_losses}
use Rattle.version_export_past_spec.specs.Rebuilt.{IsSteady}
use Rattle.version_export_past_spec.specs.Showing.{shown_by, later_moments, NoneLost}
use Rattle.version_export_past_spec.proofs.ManyTables.{found_table}

-- ---- a database of the version's tables

whole_entry : (o : Option (List Column)) (x : Option DatabaseEntry) → IsEntryOrLost o x
    → ((columns : List Column) → o ≡ Some columns → loss_of x ≡ None) → IsEntry o x
whole_entry None None i n = tt
whole_entry None (Some e) i n = absurd i
whole_entry (Some columns) None i n = absurd i
whole_entry (Some columns) (Some (Rows rows)) i n = i
whole_entry (Some columns) (Some (Lost k j)) i n = absurd (let h = n columns refl in cc)

pub shows_database : (past : Past) (version m : ℕ) → IsPast past → NoneLost past version m
    → IsDatabase (tables_of past version) (shown_by past version m)
shows_database past version m h none = λ n.
    whole_entry (get (tables_of past version) n) (get (shown_by past version m) n)
    (migrated_database past.versions h.evolved (version_at past m) version (database_at past m)
    (none_is_lost (tables_of past (version_at past m)) (database_at past m) (h.each m)) n)
    (λ columns e. losses n ∙ none (n, columns)
    (found_table (tables_of past version) n columns e))
  where
    losses : AreLosses (lost_tables past.versions (version_at past m) version)
        (shown_by past version m)
    losses = losses_are (way past.versions (version_at past m) version) empty (database_at past m)
        (no_losses (tables_of past (version_at past m)) (database_at past m) (h.each m))

-- ---- between states all stays

at_most : (m n : ℕ) → m ≤ n → nat_le m n ≡ true
at_most m n l = grind (arith, l)

above : (m n : ℕ) → n < m → nat_le m n ≡ false
above m n l = grind (arith, l)

-- none of the states begins after the one moment, up to the other
abbrev pub Apart : ℕ → ℕ → List State → Type 0
Apart low m [] = ⊤
Apart low m (s ∷ states) = ((s.stamp ≤ low) ⊎ (m < s.stamp)) × Apart low m states

same_test : (t low m : ℕ) → low ≤ m → (t ≤ low) ⊎ (m < t) → nat_le t low ≡ nat_le t m
same_test t low m l (inl a) = at_most t low a ∙ sym (at_most t m (omega (arith, a, l)))
same_test t low m l (inr a) = above t low (omega (arith, a, l)) ∙ sym (above t m a)

all_after : (low m : ℕ) (states : List State) (t : ℕ) → Rise t states → m ≤ t → Apart low m states
all_after low m [] t h l = tt
all_after low m (s ∷ states) t h l = (let rise = h.0 in
    (inr (omega (arith, rise, l)), all_after low m states s.stamp h.1 (omega (arith, rise, l))))

begun : (low m t : ℕ) (states : List State) → Apart low m states → Starts t states → (t ≤ low)
    ⊎ (m < t)
begun low m t [] a h = absurd h
begun low m t (s ∷ states) a (inl e) = step a.0
  where
    step : (s.stamp ≤ low) ⊎ (m < s.stamp) → (t ≤ low) ⊎ (m < t)
    step (inl l) = inl (omega (arith, l, e))
    step (inr l) = inr (omega (arith, l, e))
begun low m t (s ∷ states) a (inr h) = begun low m t states a.1 h

same_version : (low m : ℕ) (states : List State) (versions : List PlainVersion) → low ≤ m
    → Apart low m states → EachStarts states versions
    → begun_at low versions ≡ begun_at m versions
same_version low m states [] l a h = refl
same_version low m states (v ∷ versions) l a h =
    ap (λ b. cond b (v ∷ begun_at low versions) (begun_at low versions))
    (same_test v.stamp low m l (begun low m v.stamp states a h.0))
    ∙ ap (λ vs. cond (nat_le v.stamp m) (v ∷ vs) vs) (same_version low m states versions l a h.1)

same_database : (low m : ℕ) (before : Database) (states : List State) → low ≤ m → Apart low m states
    → database_from before states low ≡ database_from before states m
same_database low m before [] l a = refl
same_database low m before (s ∷ states) l a =
    ap (λ b. cond b (database_from s.database states low) before) (same_test s.stamp low m l a.0)
    ∙ ap (λ d. cond (nat_le s.stamp m) d before) (same_database low m s.database states l a.1)

module _ (past : Past) (version : ℕ) (begins : EachStarts past.states past.versions) where
  pub stays : (low m : ℕ) → low ≤ m → Apart low m past.states
      → shown_by past version m ≡ shown_by past version low
  stays low m l a = sym (
      ap (λ n. migrated_from past.versions n version (database_at past low))
      (ap length (same_version low m past.states past.versions l a begins))
      ∙ ap (λ d. migrated_from past.versions (version_at past m) version d)
      (same_database low m no_database past.states l a))

  abbrev shown : ℕ → Database
  shown m = shown_by past version m

  test_later : (f t : ℕ) → f < t → nat_lt f t ≡ true
  test_later f t l = grind (arith, nat_tests, l)

  test_not : (f t : ℕ) → t ≤ f → nat_lt f t ≡ false
  test_not f t l = grind (arith, nat_tests, l)

  -- these states are later than t, and those before them begin up to `low`: so far all stays that
  -- these leave apart
  steady_from : (states : List State) (first t low : ℕ) → Rise t states → t ≤ low → first ≤ low
      → (low ≡ first) ⊎ (low ≡ t)
      → ((a b : ℕ) → low ≤ a → a ≤ b → Apart a b states → Apart a b past.states)
      → IsSteady shown low (later_moments first states)
  steady_from [] first t low r l f w all = λ m b. stays low m b (all low m (omega arith) b tt)
  steady_from (s ∷ states) first t low r l f w all =
      step (at_or_below first s.stamp)
      (λ k g. steady_from states first s.stamp low r.1 k f g)
      (λ k g p. steady_from states first s.stamp s.stamp r.1 (omega arith) k g p)
    where
      rise : t < s.stamp
      rise = r.0

      step : (first < s.stamp) ⊎ (s.stamp ≤ first)
          → (s.stamp ≤ low → (low ≡ first) ⊎ (low ≡ s.stamp)
          → ((a b : ℕ) → low ≤ a → a ≤ b → Apart a b states → Apart a b past.states)
          → IsSteady shown low (later_moments first states))
          → (first ≤ s.stamp → (s.stamp ≡ first) ⊎ (s.stamp ≡ s.stamp)
          → ((a b : ℕ) → s.stamp ≤ a → a ≤ b → Apart a b states → Apart a b past.states)
          → IsSteady shown s.stamp (later_moments first states))
          → IsSteady shown low (later_moments first (s ∷ states))
      step (inr early) drop keep = subst (λ b. IsSteady shown low
          (cond b (s.stamp ∷ later_moments first states) (later_moments first states)))
          (sym (test_not first s.stamp early))
          (drop (omega (arith, early, f)) (is_first w)
          (λ a b p q x. all a b p q (inl (omega (arith, early, f, p)), x)))
        where
          is_first : (low ≡ first) ⊎ (low ≡ t) → (low ≡ first) ⊎ (low ≡ s.stamp)
          is_first (inl e) = inl e
          is_first (inr e) = inl (omega (arith, e, early, rise, f))
      step (inl late) drop keep = subst (λ b. IsSteady shown low
          (cond b (s.stamp ∷ later_moments first states) (later_moments first states)))
          (sym (test_later first s.stamp late)) (
            higher w,
            between,
            keep (omega (arith, late)) (inr refl)
                (λ a b p q x. all a b (omega (arith, p, low_is w)) q (inl p, x)),
          )
        where
          low_is : (low ≡ first) ⊎ (low ≡ t) → low ≤ s.stamp
          low_is (inl e) = omega (arith, e, late)
          low_is (inr e) = omega (arith, e, rise)

          higher : (low ≡ first) ⊎ (low ≡ t) → low < s.stamp
          higher (inl e) = omega (arith, e, late)
          higher (inr e) = omega (arith, e, rise)

          between : (m : ℕ) → low ≤ m → m < s.stamp → shown m ≡ shown low
          between m a b = stays low m a (all low m (omega arith) a
              (inr b, all_after low m states s.stamp r.1 (omega (arith, b))))

pub is_steady : (past : Past) (version first : ℕ) → IsPast past
    → IsSteady (shown_by past version) first (later_moments first past.states)
is_steady past version first h = by_states past.states h.states refl
  where
    by_states : (states : List State) → AreStates states → past.states ≡ states
        → IsSteady (shown_by past version) first (later_moments first states)
    by_states [] a e = absurd a
    by_states (s ∷ states) a e =
        let nought = a.0 in
        subst (λ b. IsSteady (shown_by past version) first
        (cond b (s.stamp ∷ later_moments first states) (later_moments first states)))
        (sym (test_not past version h.begun first s.stamp (omega (arith, nought))))
        (steady_from past version h.begun states first 0 first a.1 (omega arith) (omega arith)
        (inl refl) (λ b c p q x. subst (λ (ss : List State). Apart b c ss) (sym e)
        (inl (omega (arith, nought)), x)))
