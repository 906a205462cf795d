-- What is asked stays from state to state, so that the stages of a query have it at each moment of
-- the slice.
use Rattle.std.specs.Prelude.{◌≡◌, ◌==◌, ℕ, ◌<◌, ◌≤◌, ◌⊎◌, ◌&&◌, ◌++◌, Bool, true, false, List, []}
use Rattle.std.specs.Prelude.{◌∷◌, map, length, cond, nat_le, nat_lt, ⊤}
use Rattle.std.proofs.Common.{refl, sym, ap, subst, ◌∙◌, inl, inr, arith}
use Rattle.std.specs.List.{filter}
use Rattle.std.proofs.lemmas.Bool.Decides.{nat_tests}
use Rattle.relations_spec.specs.Spans.{Span, forever}
use Rattle.relations_spec.specs.Timeline.{Stage, relation_from, relation_at, StagesFollow}
use Rattle.relations_spec.specs.Timeline.{IsTimeline}
use Rattle.relations_spec.specs.Timeline.{listing_of}
use Rattle.relations_spec.proofs.Runs.{relation_before, relation_after, timeline_listing}
use Rattle.relations_spec.proofs.ListingLaws.{at_or_below}
use Rattle.prima_base.specs.Order.{row_cmp}
use Rattle.prima_base.specs.OrderLaws.{row_exact}
use Rattle.schema_catalog.specs.Databases.{Database}
use Rattle.smo_ops_spec.specs.OneRow.{Row, Relation}
use Rattle.smo_ops_types.specs.Commands.{PlainVersion}
use Rattle.smo_ops_spec.specs.Past.{State, Past, no_database, tables_of, version_at, database_from}
use Rattle.smo_ops_spec.specs.Past.{database_at}
use Rattle.smo_ops_spec.specs.ValidPast.{Rise, AreStates, Starts, EachStarts}
use Rattle.smo_ops_versions_spec.specs.Migration.{migrated_from}
use Rattle.temporal_lang_types.specs.Queries.{PlainQuery, slice_of, IsLasting}
use Rattle.temporal_lang_spec.specs.Atoms.{branches_with_atoms}
use Rattle.plain_answers_spec.specs.Branches.{plain}
use Rattle.temporal_lang_spec.specs.Answers.{asked_at, IsListingOf, stage_at, is_inside, beginnings}
use Rattle.temporal_lang_spec.specs.Answers.{after_slice, listing}
use Rattle.temporal_lang_spec.proofs.Slicing.{sliced}

at_most : (m n : ℕ) → m ≤ n → nat_le m n ≡ true
at_most m n l = grind (arith, l)

above : (m n : ℕ) → n < m → nat_le m n ≡ false
above m n l = grind (arith, l)

inside_is : (slice : Span) (m : ℕ) → is_inside slice m ≡ true → (slice.start < m) × (m < slice.end)
inside_is slice m e = (grind (arith, nat_tests), grind (arith, nat_tests))

outside_is : (slice : Span) (m : ℕ) → is_inside slice m ≡ false → (m ≤ slice.start)
    ⊎ (slice.end ≤ m)
outside_is slice m e = step (at_or_below slice.start m)
  where
    step : (slice.start < m) ⊎ (m ≤ slice.start) → (m ≤ slice.start) ⊎ (slice.end ≤ m)
    step (inl l) = inr (grind (arith, nat_tests))
    step (inr l) = inl l

-- none of the states begins after the one moment, up to the other
abbrev Apart : ℕ → ℕ → List State → Type 0
Apart low m [] = ⊤
Apart low m (s ∷ states) = ((s.stamp ≤ low) ⊎ (m < s.stamp)) × Apart low m states

same_test : (t low m : ℕ) → low ≤ m → (t ≤ low) ⊎ (m < t) → nat_le t low ≡ nat_le t m
same_test t low m l (inl a) = at_most t low a ∙ sym (at_most t m (omega arith))
same_test t low m l (inr a) = above t low (omega arith) ∙ sym (above t m a)

all_after : (low m : ℕ) (states : List State) (t : ℕ) → Rise t states → m < t → Apart low m states
all_after low m [] t h l = tt
all_after low m (s ∷ states) t h l = (let rise = h.0 in
    (inr (omega arith), all_after low m states s.stamp h.1 (omega arith)))

-- where a state begins, a version does
begun : (low m t : ℕ) (states : List State) → Apart low m states → Starts t states → (t ≤ low)
    ⊎ (m < t)
begun low m t [] a h = absurd h
begun low m t (s ∷ states) a (inl e) = step a.0
  where
    step : (s.stamp ≤ low) ⊎ (m < s.stamp) → (t ≤ low) ⊎ (m < t)
    step (inl l) = inl (omega arith)
    step (inr l) = inr (omega arith)
begun low m t (s ∷ states) a (inr h) = begun low m t states a.1 h

same_version : (low m : ℕ) (states : List State) (versions : List PlainVersion) → low ≤ m
    → Apart low m states → EachStarts states versions
    → filter (λ (v : PlainVersion). nat_le v.stamp low) versions
    ≡ filter (λ (v : PlainVersion). nat_le v.stamp m) versions
same_version low m states [] l a h = refl
same_version low m states (v ∷ versions) l a h =
    ap (λ b. cond b (v ∷ filter (λ (w : PlainVersion). nat_le w.stamp low) versions)
    (filter (λ (w : PlainVersion). nat_le w.stamp low) versions))
    (same_test v.stamp low m l (begun low m v.stamp states a h.0))
    ∙ ap (λ vs. cond (nat_le v.stamp m) (v ∷ vs) vs) (same_version low m states versions l a h.1)

same_database : (low m : ℕ) (before : Database) (states : List State) → low ≤ m → Apart low m states
    → database_from before states low ≡ database_from before states m
same_database low m before [] l a = refl
same_database low m before (s ∷ states) l a =
    ap (λ b. cond b (database_from s.database states low) before) (same_test s.stamp low m l a.0)
    ∙ ap (λ d. cond (nat_le s.stamp m) d before) (same_database low m s.database states l a.1)

-- so what is asked stays
stays : (past : Past) (query : PlainQuery) (low m : ℕ) → EachStarts past.states past.versions
    → low ≤ m → Apart low m past.states → asked_at past query low ≡ asked_at past query m
stays past query low m h l a =
    let tables = tables_of past query.version in
    ap (λ n. plain tables (branches_with_atoms tables query.branches)
    (migrated_from past.versions n query.version (database_at past low)))
    (ap length (same_version low m past.states past.versions l a h))
    ∙ ap (λ d. plain tables (branches_with_atoms tables query.branches)
    (migrated_from past.versions (version_at past m) query.version d))
    (same_database low m no_database past.states l a)

-- ---- the stages at each moment

module _ (past : Past) (query : PlainQuery) (slice : Span) where
  asked : ℕ → Relation
  asked m = asked_at past query m

  -- the stages of these states, and the end of the slice
  abbrev pub stages_from : List State → List (Stage Row)
  stages_from states = map (stage_at past query)
      (filter (is_inside slice) (map (λ (s : State). s.stamp) states)) ++ after_slice slice

  end_at : (before : Relation) (m : ℕ) → m < slice.end
      → relation_from before (after_slice slice) m ≡ before
  end_at before m l = step (slice.end == forever)
    where
      step : (b : Bool) → relation_from before
          (cond b [] (record { start = slice.end; items = [] } ∷ [])) m ≡ before
      step true = refl
      step false = ap (λ b. cond b [] before) (above slice.end m l)

  -- where what is asked stays from a moment on, unless one of these states begins, the stages of
  -- these states have it
  abbrev Stays : ℕ → ℕ → List State → Type 0
  Stays from m states = (low : ℕ) → from ≤ low → low ≤ m → Apart low m states
      → asked_at past query low ≡ asked_at past query m

  abbrev AtStage : List State → Type 0
  AtStage states = (low t m : ℕ) → Rise t states → (low ≡ slice.start) ⊎ (low ≤ t)
      → slice.start ≤ low → low ≤ m → m < slice.end → Stays low m states
      → relation_from (asked_at past query low) (stages_from states) m ≡ asked_at past query m

  at_stage : (states : List State) → AtStage states
  at_stage [] low t m rise near from l to h = end_at (asked_at past query low) m to
      ∙ h low (omega arith) l tt
  at_stage (s ∷ states) low t m rise near from l to h =
      step (at_stage states) (is_inside slice s.stamp) refl
    where
      later : t < s.stamp
      later = rise.0

      still : (low ≡ slice.start) ⊎ (low ≤ t) → (low ≡ slice.start) ⊎ (low ≤ s.stamp)
      still (inl k) = inl k
      still (inr k) = inr (let less = later in omega (arith, less, k))

      lower : (low ≡ slice.start) ⊎ (low ≤ t) → slice.start < s.stamp → low ≤ s.stamp
      lower (inl k) a = omega arith
      lower (inr k) a = (let less = later in omega (arith, less, k))

      -- one that does not begin in the slice
      crossed : AtStage states → (s.stamp ≤ low) ⊎ (m < s.stamp)
          → relation_from (asked_at past query low) (stages_from states) m ≡ asked_at past query m
      crossed more (inl k) = more low s.stamp m rise.1 (still near) from l to
          (λ x a b c. h x a b (inl (omega arith), c))
      crossed more (inr k) = more low s.stamp m rise.1 (still near) from l to
          (λ x a b c. h x a b (inr k, c))

      out : (s.stamp ≤ slice.start) ⊎ (slice.end ≤ s.stamp) → (s.stamp ≤ low) ⊎ (m < s.stamp)
      out (inl k) = inl (omega (arith, k, from))
      out (inr k) = inr (omega (arith, k, to))

      in_turn : AtStage states → low ≤ s.stamp → slice.start < s.stamp → (m < s.stamp)
          ⊎ (s.stamp ≤ m)
          → relation_from (asked_at past query low)
          (stage_at past query s.stamp ∷ stages_from states) m ≡ asked_at past query m
      in_turn more p k (inl a) = relation_before (asked_at past query low)
          (stage_at past query s.stamp) (stages_from states) m a
          ∙ h low (omega arith) l (inr a, all_after low m states s.stamp rise.1 a)
      in_turn more p k (inr a) = relation_after (asked_at past query low)
          (stage_at past query s.stamp) (stages_from states) m a
          ∙ more s.stamp s.stamp m rise.1 (inr (omega arith)) (omega arith) a to
          (λ x b d c. h x (omega arith) d (inl b, c))

      step : AtStage states → (b : Bool) → is_inside slice s.stamp ≡ b
          → relation_from (asked_at past query low)
          (map (stage_at past query) (cond b
          (s.stamp ∷ filter (is_inside slice) (map (λ (w : State). w.stamp) states))
          (filter (is_inside slice) (map (λ (w : State). w.stamp) states)))
          ++ after_slice slice) m
          ≡ asked_at past query m
      step more true e = (let k = inside_is slice s.stamp e in
          in_turn more (lower near k.0) k.0 (at_or_below m s.stamp))
      step more false e = crossed more (out (outside_is slice s.stamp e))

  -- nothing is asked from the end of the slice on
  abbrev Ended : List State → Type 0
  Ended states = (before : Relation) (m : ℕ) → slice.end ≤ m → (slice.end == forever) ≡ false
      → relation_from before (stages_from states) m ≡ []

  ended : (states : List State) → Ended states
  ended [] before m l e =
      ap (λ b. relation_from before (cond b [] (record { start = slice.end; items = [] } ∷ [])) m) e
      ∙ ap (λ b. cond b [] before) (at_most slice.end m l)
  ended (s ∷ states) before m l e = step (ended states) (is_inside slice s.stamp) refl
    where
      step : Ended states → (b : Bool) → is_inside slice s.stamp ≡ b
          → relation_from before (map (stage_at past query)
          (cond b (s.stamp ∷ filter (is_inside slice) (map (λ (w : State). w.stamp) states))
          (filter (is_inside slice) (map (λ (w : State). w.stamp) states)))
          ++ after_slice slice) m
          ≡ []
      step more true i = relation_after before (stage_at past query s.stamp) (stages_from states) m
          (let k = (inside_is slice s.stamp i).1 in omega arith)
          ∙ more (asked_at past query s.stamp) m l e
      step more false i = more before m l e

  -- the stages follow one another
  abbrev closing : Bool → List (Stage Row)
  closing b = cond b [] (record { start = slice.end; items = [] } ∷ [])

  end_follows : (low : ℕ) → low < slice.end → slice.end ≤ forever
      → StagesFollow low (after_slice slice)
  end_follows low l to = step (slice.end == forever) refl
    where
      step : (b : Bool) → (slice.end == forever) ≡ b → StagesFollow low (closing b)
      step true e = tt
      step false e = (l, grind (arith, e, nat_tests), tt)

  abbrev Follows : List State → Type 0
  Follows states = (low t : ℕ) → Rise t states → (low ≡ slice.start) ⊎ (low ≤ t) → low < slice.end
      → slice.end ≤ forever → StagesFollow low (stages_from states)

  follow : (states : List State) → Follows states
  follow [] low t rise near l to = end_follows low l to
  follow (s ∷ states) low t rise near l to = step (follow states) (is_inside slice s.stamp) refl
    where
      later : t < s.stamp
      later = rise.0

      still : (low ≡ slice.start) ⊎ (low ≤ t) → (low ≡ slice.start) ⊎ (low ≤ s.stamp)
      still (inl k) = inl k
      still (inr k) = inr (let less = later in omega (arith, less, k))

      higher : (low ≡ slice.start) ⊎ (low ≤ t) → slice.start < s.stamp → low < s.stamp
      higher (inl k) a = omega arith
      higher (inr k) a = (let less = later in omega (arith, less, k))

      step : Follows states → (b : Bool) → is_inside slice s.stamp ≡ b
          → StagesFollow low (map (stage_at past query)
          (cond b (s.stamp ∷ filter (is_inside slice) (map (λ (w : State). w.stamp) states))
          (filter (is_inside slice) (map (λ (w : State). w.stamp) states)))
          ++ after_slice slice)
      step more true e = (let k = inside_is slice s.stamp e in (
        higher near k.0,
        omega (arith, k.1, to),
        more s.stamp s.stamp rise.1 (inr (omega arith)) k.1 to,
      ))
      step more false e = more low s.stamp rise.1 (still near) l to

-- ---- the listing

first_outside : (slice : Span) (t : ℕ) → t ≡ 0 → is_inside slice t ≡ false
first_outside slice t e = ap (is_inside slice) e ∙ none slice
  where
    none : (slice : Span) → is_inside slice 0 ≡ false
    none slice = (let low : nat_lt slice.start 0 ≡ false = grind (arith, nat_tests) in
        ap (λ b. b && nat_lt 0 slice.end) low)

module _ (past : Past) (query : PlainQuery) (begins : EachStarts past.states past.versions) where
  timeline_of : (states : List State) → AreStates states → past.states ≡ states
      → IsLasting query.when → (slice_of query.when).end ≤ forever
      → IsListingOf past query (listing_of row_cmp
      (map (stage_at past query) (beginnings (slice_of query.when) states)
      ++ after_slice (slice_of query.when)))
  timeline_of [] a same l to = absurd a
  timeline_of (s ∷ states) a same l to = rw shorter
      (sliced row_cmp (relation_at (first ∷ rest)) (asked_at past query) slice to inside before
      after (listing_of row_cmp (first ∷ rest))
      (timeline_listing row_cmp row_exact (first ∷ rest) line))
    where
      slice : Span
      slice = slice_of query.when

      first : Stage Row
      first = stage_at past query slice.start

      rest : List (Stage Row)
      rest = stages_from past query slice states

      shorter : filter (is_inside (slice_of query.when))
          (s.stamp ∷ map (λ (w : State). w.stamp) states)
          ≡ filter (is_inside (slice_of query.when)) (map (λ (w : State). w.stamp) states)
      shorter = ap (λ b. cond b (s.stamp ∷ filter (is_inside (slice_of query.when))
          (map (λ (w : State). w.stamp) states))
          (filter (is_inside (slice_of query.when)) (map (λ (w : State). w.stamp) states)))
          (first_outside (slice_of query.when) s.stamp a.0)

      line : IsTimeline (first ∷ rest)
      line = (
        omega (arith, l, to),
        follow past query slice states slice.start 0 a.1 (inl refl) l
            to,
      )

      inside : (m : ℕ) → slice.start ≤ m → m < slice.end
          → relation_at (first ∷ rest) m ≡ asked_at past query m
      inside m from below = relation_after [] first rest m from
          ∙ at_stage past query slice states slice.start 0 m a.1 (inl refl) (omega arith) from below
          (λ low p q c. stays past query low m begins q (together low q c))
        where
          together : (low : ℕ) → low ≤ m → Apart low m states → Apart low m past.states
          together low q c = subst (λ ss. Apart low m ss) (sym same) (inl (omega (arith, a.0)), c)

      before : (m : ℕ) → m < slice.start → relation_at (first ∷ rest) m ≡ []
      before m below = relation_before [] first rest m below

      after : (m : ℕ) → slice.end ≤ m → m < forever → relation_at (first ∷ rest) m ≡ []
      after m from below = relation_after [] first rest m (omega (arith, l))
          ∙ ended past query slice states (asked_at past query slice.start) m from
          (let short : (slice.end == forever) ≡ false = grind (arith, nat_tests) in short)

pub listing_is : (past : Past) (query : PlainQuery) → AreStates past.states
    → EachStarts past.states past.versions → IsLasting query.when
    → (slice_of query.when).end ≤ forever
    → IsListingOf past query (listing past query)
listing_is past query a b l to = timeline_of past query b past.states a refl l to
