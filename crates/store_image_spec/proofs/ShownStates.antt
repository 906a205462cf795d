-- The states that an image shows: they ascend, each differs from the one before or begins with a
-- version, and they give the image's database at each moment.
use Rattle.std.proofs.Common.{◌≡◌, ◌≤◌, ◌<◌, ◌+◌, ℕ, Bool, true, false, cond, List, [], ◌∷◌, length}
use Rattle.std.proofs.Common.{refl, sym, ap, subst, ◌∙◌, inl, inr, arith, nat_lt, ◌==◌, ◌&&◌, ◌||◌}
use Rattle.std.proofs.Common.{not}
use Rattle.std.specs.Prelude.{◌⊎◌, ⊤}
use Rattle.std.specs.Ordering.{nat_cmp}
use Rattle.std.proofs.lemmas.Bool.Decides.{nat_tests}
use Rattle.relations_spec.specs.Sets.{In, Ascends}
use Rattle.relations_spec.specs.Spans.{forever}
use Rattle.relations_spec.proofs.SetLaws.{set_ascends, before_in}
use Rattle.relations_spec.proofs.ListingLaws.{less_nat}
use Rattle.schema_catalog.specs.Databases.{Database, IsDatabase}
use Rattle.schema_catalog.specs.Tables.{Tables}
use Rattle.smo_ops_types.specs.Commands.{PlainVersion}
use Rattle.smo_ops_spec.specs.Effects.{gained, lost}
use Rattle.smo_ops_spec.specs.ValidPast.{Rise, AllUpTo, Begins, Starts, EachDiffers}
use Rattle.smo_ops_spec.specs.Past.{State, a_state, no_tables, tables_from, begun_at, database_from}
use Rattle.smo_ops_spec.proofs.CountingLaws.{self_gains_nothing}
use Rattle.smo_ops_spec.proofs.PastLaws.{not_at, at_least}
use Rattle.smo_ops_spec.proofs.PastMoments.{before_or_not}
use Rattle.smo_ops_spec.proofs.PastSteps.{no_sum}
use Rattle.smo_ops_spec.proofs.SameDatabases.{same_database}
use Rattle.store_image_spec.specs.Images.{Image, IsImage}
use Rattle.store_image_spec.specs.ShownPast.{image_database, image_stamps, begins_at, states_along}
use Rattle.store_image_spec.proofs.ShownDatabases.{image_tables, is_database}
use Rattle.store_image_spec.proofs.QuietMoments.{nat_exact, from_stamps, version_stamp, Quiet}
use Rattle.store_image_spec.proofs.QuietMoments.{same_begun, same_shown}

-- ---- stamps that ascend

abbrev pub Climb : ℕ → List ℕ → Type 0
Climb low [] = ⊤
Climb low (m ∷ stamps) = (low < m) × Climb m stamps

climbs : (low : ℕ) (stamps : List ℕ) → Ascends nat_cmp stamps → ((x : ℕ) → In x stamps → low < x)
    → Climb low stamps
climbs low [] a f = tt
climbs low (m ∷ stamps) a f = (
  f m (inl refl),
  climbs m stamps a.1 (λ x i. less_nat m x (before_in nat_cmp m x stamps a.0 i)),
)

pub stamps_climb : (image : Image) → Climb 0 (image_stamps image)
stamps_climb image = climbs 0 (image_stamps image) (set_ascends nat_cmp nat_exact _)
    (λ x i. (from_stamps image x i).1)

not_below : (low : ℕ) (stamps : List ℕ) (x : ℕ) → Climb low stamps → In x stamps → low < x
not_below low [] x c i = absurd i
not_below low (m ∷ stamps) x c (inl e) = (let l = c.0 in omega (arith, l, e))
not_below low (m ∷ stamps) x c (inr i) = (let l = c.0 in let k = not_below m stamps x c.1 i in
    omega (arith, l, k))

-- ---- versions that begin

begins : (versions : List PlainVersion) (m : ℕ) → begins_at versions m ≡ true → Begins m versions
begins [] m e = absurd (cc)
begins (v ∷ versions) m e = step (v.stamp == m) refl e (begins versions m)
  where
    step : (b : Bool) → (v.stamp == m) ≡ b → (b || begins_at versions m) ≡ true
        → (begins_at versions m ≡ true → Begins m versions) → Begins m (v ∷ versions)
    step true q h more = inl (grind (arith, nat_tests, q))
    step false q h more = inr (more h)

pub begins_there : (versions : List PlainVersion) (v : PlainVersion) → In v versions
    → begins_at versions v.stamp ≡ true
begins_there [] v i = absurd i
begins_there (w ∷ versions) v (inl e) =
    let q : w.stamp ≡ v.stamp = ap (λ (x : PlainVersion). x.stamp) e in
    let now : (w.stamp == v.stamp) ≡ true = grind (arith, nat_tests, q) in
    ap (λ b. b || begins_at versions v.stamp) now
begins_there (w ∷ versions) v (inr i) = either (w.stamp == v.stamp) (begins_there versions v i)
  where
    either : (b : Bool) → begins_at versions v.stamp ≡ true
        → (b || begins_at versions v.stamp) ≡ true
    either true e = refl
    either false e = e

-- ---- the states

rise_above : (low high : ℕ) (states : List State) → low ≤ high → Rise high states → Rise low states
rise_above low high [] l r = tt
rise_above low high (s ∷ states) l r = (let k = r.0 in omega (arith, l, k), r.1)

-- before the first state the database is the one before
before_all : (d : Database) (states : List State) (low m : ℕ) → Rise low states → m ≤ low
    → database_from d states m ≡ d
before_all d [] low m r l = refl
before_all d (s ∷ states) low m r l = (let k = r.0 in
    ap (λ b. cond b (database_from s.database states m) d) (not_at m s.stamp (omega (arith, k, l))))

neither : (b c : Bool) → (not b && c) ≡ true → (b ≡ false) × (c ≡ true)
neither true c e = absurd (cc)
neither false c e = (refl, e)

one_of : (b c : Bool) → (not b && c) ≡ false → (b ≡ true) ⊎ (c ≡ false)
one_of true c e = inl refl
one_of false c e = inr e

module _ (image : Image) where
  abbrev now : ℕ → Database
  now m = image_database image m

  -- nothing happens at the stamp
  abbrev stays : Database → ℕ → Bool
  stays before m = not (begins_at image.versions m)
      && gained before (now m) + lost before (now m) == 0

  pub rise : (low : ℕ) (before : Database) (stamps : List ℕ) → Climb low stamps
      → Rise low (states_along image before stamps)
  rise low before [] c = tt
  rise low before (m ∷ stamps) c = step (stays before m) (rise m before stamps c.1)
      (rise m (now m) stamps c.1)
    where
      step : (b : Bool) → Rise m (states_along image before stamps)
          → Rise m (states_along image (now m) stamps)
          → Rise low (cond b (states_along image before stamps)
          (a_state m (now m) ∷ states_along image (now m) stamps))
      step true more other = rise_above low m (states_along image before stamps)
          (let l = c.0 in omega (arith, l)) more
      step false more other = (c.0, other)

  pub all_up_to : (last : ℕ) (before : Database) (stamps : List ℕ)
      → ((x : ℕ) → In x stamps → x ≤ last) → AllUpTo last (states_along image before stamps)
  all_up_to last before [] f = tt
  all_up_to last before (m ∷ stamps) f = step (stays before m)
      (all_up_to last before stamps (λ x i. f x (inr i)))
      (all_up_to last (now m) stamps (λ x i. f x (inr i)))
    where
      step : (b : Bool) → AllUpTo last (states_along image before stamps)
          → AllUpTo last (states_along image (now m) stamps)
          → AllUpTo last (cond b (states_along image before stamps)
          (a_state m (now m) ∷ states_along image (now m) stamps))
      step true more other = more
      step false more other = (f m (inl refl), other)

  -- a state stands only where a version begins or the database is another
  differs : (before : Database) (m : ℕ) → stays before m ≡ false → (now m ≡ before → ⊥)
      ⊎ Begins m image.versions
  differs before m e = elim (one_of (begins_at image.versions m)
      (gained before (now m) + lost before (now m) == 0) e) [
        | inl q ↦ inr (begins image.versions m q)
        | inr q ↦ inl (λ same.
            let none : (gained before (now m) + lost before (now m) == 0) ≡ true =
            ap (λ (d : Database). gained before d + gained d before == 0) same
            ∙ ap (λ n. n + n == 0) (self_gains_nothing before) in absurd (cc))
      ]

  pub each_differs : (before : Database) (stamps : List ℕ)
      → EachDiffers image.versions before (states_along image before stamps)
  each_differs before [] = tt
  each_differs before (m ∷ stamps) = step (stays before m) refl (each_differs before stamps)
      (each_differs (now m) stamps)
    where
      step : (b : Bool) → stays before m ≡ b → EachDiffers image.versions before
          (states_along image before stamps) → EachDiffers image.versions (now m)
          (states_along image (now m) stamps)
          → EachDiffers image.versions before
          (cond b (states_along image before stamps)
          (a_state m (now m) ∷ states_along image (now m) stamps))
      step true e more other = more
      step false e more other = (differs before m e, other)

  -- with each version a state begins
  pub version_starts : (m : ℕ) → begins_at image.versions m ≡ true
      → (before : Database) (stamps : List ℕ) → In m stamps
      → Starts m (states_along image before stamps)
  version_starts m q before [] i = absurd i
  version_starts m q before (x ∷ stamps) i = step (stays before x) refl i
      (version_starts m q before stamps) (version_starts m q (now x) stamps)
    where
      step : (b : Bool) → stays before x ≡ b → In m (x ∷ stamps)
          → (In m stamps → Starts m (states_along image before stamps))
          → (In m stamps → Starts m (states_along image (now x) stamps))
          → Starts m (cond b (states_along image before stamps)
          (a_state x (now x) ∷ states_along image (now x) stamps))
      step true e (inl h) more other =
          let n = (neither (begins_at image.versions x)
          (gained before (now x) + lost before (now x) == 0) e).0 in
          let k = ap (begins_at image.versions) h in
          absurd (cc)
      step true e (inr j) more other = more j
      step false e (inl h) more other = inl h
      step false e (inr j) more other = inr (other j)

  -- ---- the database of each moment

  module _ (is : IsImage image) where
    abbrev Known : ℕ → List ℕ → Type 0
    Known low stamps = (x : ℕ) → In x (image_stamps image) → (x ≤ low) ⊎ In x stamps

    -- the next stamp is quiet where no version begins there
    quiet_up_to : (low m : ℕ) (stamps : List ℕ) → Climb low (m ∷ stamps) → Known low (m ∷ stamps)
        → begins_at image.versions m ≡ false
        → (v : PlainVersion) → In v image.versions → Quiet low m v.stamp
    quiet_up_to low m stamps c known e v i = step (nat_lt 0 v.stamp) refl
      where
        after : In v.stamp (m ∷ stamps) → Quiet low m v.stamp
        after (inl q) = absurd (let b = begins_there image.versions v i in let s =
            ap (begins_at image.versions) q in cc)
        after (inr j) = inr (not_below m stamps v.stamp c.1 j)

        step : (b : Bool) → nat_lt 0 v.stamp ≡ b → Quiet low m v.stamp
        step true q = elim (known v.stamp (version_stamp image v i (grind (arith, nat_tests, q))))
            [ inl l ↦ inl l | inr j ↦ after j ]
        step false q = inl (grind (arith, nat_tests, q))

    -- where neither a row is gained nor lost, nor a version begins, the database is the same
    still_same : (low m : ℕ) (before : Database) (stamps : List ℕ) → Climb low (m ∷ stamps)
        → Known low (m ∷ stamps) → before ≡ now low → stays before m ≡ true → before ≡ now m
    still_same low m before stamps c known e q =
        let n = neither (begins_at image.versions m)
        (gained before (now m) + lost before (now m) == 0) q in
        let none = no_sum (gained before (now m)) (lost before (now m)) n.1 in
        let begun : begun_at m image.versions ≡ begun_at low image.versions =
        same_begun low m (let l = c.0 in omega (arith, l)) image.versions
        (quiet_up_to low m stamps c known n.0) in
        let tables : image_tables image m ≡ image_tables image low =
        ap (λ (vs : List PlainVersion). tables_from no_tables image.versions (length vs))
        begun in
        same_database (image_tables image m) before (now m)
        (subst (λ (t : Tables). IsDatabase t before) (sym tables)
        (subst (IsDatabase (image_tables image low)) (sym e) (is_database image is low)))
        (is_database image is m) none.0 none.1

    pub shows : (low : ℕ) (before : Database) (stamps : List ℕ) → Climb low stamps
        → Known low stamps → before ≡ now low → (m : ℕ) → low ≤ m → m < forever
        → database_from before (states_along image before stamps) m ≡ now m
    shows low before [] c known e m l lasts =
        e ∙ sym (same_shown image low m l lasts
        (λ x i. elim (known x i) [ inl k ↦ inl k | inr j ↦ absurd j ]))
    shows low before (t ∷ stamps) c known e m l lasts =
        step (stays before t) refl (before_or_not m t) (λ q. shows t before stamps c.1 more q m)
        (shows t (now t) stamps c.1 more refl m)
      where
        more : Known t stamps
        more x i = elim (known x i) [
          | inl k ↦ inl (let a = c.0 in omega (arith, k, a))
          | inr j ↦ at_or_after j
        ]
          where
            at_or_after : In x (t ∷ stamps) → (x ≤ t) ⊎ In x stamps
            at_or_after (inl q) = inl (omega (arith, q))
            at_or_after (inr j) = inr j

        -- up to the next stamp nothing changes
        earlier : m < t → before ≡ now m
        earlier f = e ∙ sym (same_shown image low m l lasts
            (λ x i. elim (known x i) [ inl k ↦ inl k | inr j ↦ inr (above j) ]))
          where
            above : {x : ℕ} → In x (t ∷ stamps) → m < x
            above (inl q) = omega (arith, f, q)
            above (inr j) = (let k = not_below t stamps _ c.1 j in omega (arith, f, k))

        step : (b : Bool) → stays before t ≡ b → (m < t) ⊎ (t ≤ m)
            → (before ≡ now t → t ≤ m → m < forever
            → database_from before (states_along image before stamps) m ≡ now m)
            → (t ≤ m → m < forever → database_from (now t) (states_along image (now t) stamps) m
            ≡ now m)
            → database_from before (cond b (states_along image before stamps)
            (a_state t (now t) ∷ states_along image (now t) stamps)) m ≡ now m
        step true q (inl f) rest other = before_all before (states_along image before stamps) t m
            (rise t before stamps c.1) (omega (arith, f)) ∙ earlier f
        step true q (inr g) rest other = rest (still_same low t before stamps c known e q) g lasts
        step false q (inl f) rest other = ap (λ b.
            cond b (database_from (now t) (states_along image (now t) stamps) m) before)
            (not_at m t f) ∙ earlier f
        step false q (inr g) rest other = ap (λ b.
            cond b (database_from (now t) (states_along image (now t) stamps) m) before)
            (at_least t m g) ∙ other g lasts
