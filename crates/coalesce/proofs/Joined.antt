-- What joins make of sorted entries is the list of what they hold.
use Rattle.std.specs.Prelude.{◌≡◌, ◌↔◌, ◌⊎◌, ◌&&◌, ℕ, ◌-◌, ◌<◌, ◌≤◌, true, false, cond, nat_le}
use Rattle.std.specs.Prelude.{List, [], ◌∷◌, ⊤}
use Rattle.std.proofs.Common.{refl, sym, ap, subst, ◌∙◌, inl, inr, arith}
use Rattle.std.specs.Ordering.{is_eq, nat_cmp, ordering_then}
use Rattle.std.specs.declared.cmp.Ordering.{Ordering}
use Rattle.std.specs.declared.cmp.Ordering.TheVariants.{Less, Equal, Greater}
use Rattle.std.proofs.lemmas.Bool.Decides.{nat_tests}
use Rattle.relations_spec.specs.Sets.{In, BeforeAll, Ascends, IsExact}
use Rattle.relations_spec.specs.Spans.{Span}
use Rattle.relations_spec.specs.Timed.{Entry, at}
use Rattle.relations_spec.specs.Listing.{IsEntry, IsListing, Covered, entry_cmp}
use Rattle.relations_spec.proofs.SetLaws.{cmp_itself, below_each, told_apart}
use Rattle.relations_spec.proofs.ListingLaws.{at_or_above, made, entry_less, less_entry}
use Rattle.relations_spec.proofs.Held.{in_at, covers_is}
use Rattle.coalesce.specs.Joining.{touch_entries, join_entries, into, merged}
use Rattle.coalesce.proofs.Cut.{Covers, covered_first, covered_later, from_covered, Within}

module _ {X : Type 0} (cmp : X → X → Ordering) (o : IsExact cmp) where
  -- by item, then start
  abbrev pub NotAfter : Entry X → Entry X → Type 0
  NotAfter a b = (cmp a.item b.item ≡ Less) ⊎ ((a.item ≡ b.item)
      × (a.period.start ≤ b.period.start))

  abbrev pub Ordered : List (Entry X) → Type 0
  Ordered [] = ⊤
  Ordered (e ∷ []) = ⊤
  Ordered (e ∷ (f ∷ rest)) = NotAfter e f × Ordered (f ∷ rest)

  -- of an earlier item, or of the same item before a gap
  abbrev IsApart : Entry X → Entry X → Type 0
  IsApart a b = (cmp a.item b.item ≡ Less) ⊎ ((a.item ≡ b.item) × (a.period.end < b.period.start))

  abbrev gap_cmp : Entry X → Entry X → Ordering
  gap_cmp a b = ordering_then (cmp a.item b.item) (nat_cmp a.period.end b.period.start)

  ended : Entry X → Entry X
  ended a = made a.item a.period.end a.period.end

  less_gap : (a b : Entry X) → IsApart a b → gap_cmp a b ≡ Less
  unfolding ended
  less_gap a b h = entry_less cmp o (ended a) b h

  gap_less : (a b : Entry X) → gap_cmp a b ≡ Less → IsApart a b
  unfolding ended
  gap_less a b h = less_entry cmp o (ended a) b h

  pub not_after_trans : (a b c : Entry X) → NotAfter a b → NotAfter b c → NotAfter a c
  not_after_trans a b c (inl h) (inl k) = inl (o.trans a.item b.item c.item h k)
  not_after_trans a b c (inl h) (inr k) = inl (subst (λ (w : X). cmp a.item w ≡ Less) k.0 h)
  not_after_trans a b c (inr h) (inl k) = inl (subst (λ (w : X). cmp w c.item ≡ Less) (sym h.0) k)
  not_after_trans a b c (inr h) (inr k) = inr (h.0 ∙ k.0, omega arith)

  apart_before : (a b c : Entry X) → IsApart a b → NotAfter b c → IsApart a c
  apart_before a b c (inl h) (inl k) = inl (o.trans a.item b.item c.item h k)
  apart_before a b c (inl h) (inr k) = inl (subst (λ (w : X). cmp a.item w ≡ Less) k.0 h)
  apart_before a b c (inr h) (inl k) = inl (subst (λ (w : X). cmp w c.item ≡ Less) (sym h.0) k)
  apart_before a b c (inr h) (inr k) = inr (h.0 ∙ k.0, omega arith)

  -- what it means that two touch
  touching : (e f : Entry X) → touch_entries cmp e f ≡ true → (e.item ≡ f.item)
      × (f.period.start ≤ e.period.end)
  touching e f t = step (cmp e.item f.item) refl t
    where
      step : (r : Ordering) → cmp e.item f.item ≡ r
          → (is_eq r && nat_le f.period.start e.period.end) ≡ true → (e.item ≡ f.item)
          × (f.period.start ≤ e.period.end)
      step Less q h = absurd (cc)
      step Equal q h = (o.same e.item f.item q, grind (arith, nat_tests))
      step Greater q h = absurd (cc)

  parted : (e f : Entry X) → NotAfter e f → touch_entries cmp e f ≡ false → IsApart e f
  parted e f (inl h) t = inl h
  parted e f (inr h) t = inr (
    h.0,
    step (subst (λ (w : X). cmp e.item w ≡ Equal) h.0
        (cmp_itself cmp o e.item)) t,
  )
    where
      at_same : (r : Ordering) → r ≡ Equal → (is_eq r && nat_le f.period.start e.period.end) ≡ false
          → nat_le f.period.start e.period.end ≡ false
      at_same Less q h = absurd (cc)
      at_same Equal q h = h
      at_same Greater q h = absurd (cc)

      step : cmp e.item f.item ≡ Equal → touch_entries cmp e f ≡ false
          → e.period.end < f.period.start
      step q h = let k = at_same (cmp e.item f.item) q h in grind (arith, nat_tests)

  starts_before : (e f : Entry X) → NotAfter e f → e.item ≡ f.item → e.period.start ≤ f.period.start
  starts_before e f (inl h) i = absurd (o.apart f.item (subst (λ (w : X). cmp w f.item ≡ Less) i h))
  starts_before e f (inr h) i = h.1

  -- the joined entry in the place of the two
  not_after_join : (e f g : Entry X) → e.item ≡ f.item → e.period.start ≤ f.period.start
      → NotAfter f g → NotAfter (join_entries e f) g
  not_after_join e f g i s (inl h) = inl (subst (λ (w : X). cmp w g.item ≡ Less) (sym i) h)
  not_after_join e f g i s (inr h) = inr (i ∙ h.0, omega arith)

  ordered_join : (e f : Entry X) (rest : List (Entry X)) → e.item ≡ f.item
      → e.period.start ≤ f.period.start → Ordered (f ∷ rest) → Ordered (join_entries e f ∷ rest)
  ordered_join e f [] i s h = tt
  ordered_join e f (g ∷ rest) i s h = (not_after_join e f g i s h.0, h.1)

  touch_join : (e f : Entry X) (rest : List (Entry X)) → Ordered (e ∷ (f ∷ rest))
      → touch_entries cmp e f ≡ true → Ordered (join_entries e f ∷ rest)
  touch_join e f rest h t = let i = (touching e f t).0 in
      ordered_join e f rest i (starts_before e f h.0 i) h.1

  -- each that comes out is not before the first
  after : (rest : List (Entry X)) (e : Entry X) → Ordered (e ∷ rest) → (g : Entry X)
      → In g (into (touch_entries cmp) join_entries e rest) → NotAfter e g
  after [] e h g m = elim m [
    | inl i ↦ subst (λ (w : Entry X). NotAfter e w) i
        (inr (refl, omega arith))
    | inr k ↦ absurd k
  ]
  after (f ∷ rest) e h g m =
      elim (touch_entries cmp e f) as (λ b. touch_entries cmp e f ≡ b
      → In g (cond b (into (touch_entries cmp) join_entries (join_entries e f) rest)
      (e ∷ into (touch_entries cmp) join_entries f rest)) → NotAfter e g) [
        | true ↦ λ t k. after rest (join_entries e f) (touch_join e f rest h t) g k
        | false ↦ λ t k. elim k [
          | inl i ↦ subst (λ (w : Entry X). NotAfter e w) i (inr (refl, omega arith))
          | inr l ↦ not_after_trans e f g h.0 (after rest f h.1 g l)
        ]
      ] refl m

  joined_ascends : (rest : List (Entry X)) (e : Entry X) → Ordered (e ∷ rest)
      → Ascends gap_cmp (into (touch_entries cmp) join_entries e rest)
  joined_ascends [] e h = (tt, tt)
  joined_ascends (f ∷ rest) e h =
      elim (touch_entries cmp e f) as (λ b. touch_entries cmp e f ≡ b
      → Ascends gap_cmp (cond b (into (touch_entries cmp) join_entries (join_entries e f) rest)
      (e ∷ into (touch_entries cmp) join_entries f rest))) [
        | true ↦ λ t. joined_ascends rest (join_entries e f) (touch_join e f rest h t)
        | false ↦ λ t. (
          below_each gap_cmp e (into (touch_entries cmp) join_entries f rest)
              (λ g m. less_gap e g (apart_before e f g (parted e f h.0 t) (after rest f h.1 g m))),
          joined_ascends rest f h.1,
        )
      ] refl

  -- each that comes out stays inside the slice
  within_join : (slice : Span) (e f : Entry X) → Within slice e → Within slice f
      → Within slice (join_entries e f)
  within_join slice e f h k =
      let a = h.from in
      let b = h.lasting in
      let c = h.to in
      let d = k.to in
      record { from = a; lasting = omega arith; to = omega arith }

  joined_within : (slice : Span) (rest : List (Entry X)) (e : Entry X)
      → ((g : Entry X) → In g (e ∷ rest) → Within slice g) → (g : Entry X)
      → In g (into (touch_entries cmp) join_entries e rest) → Within slice g
  joined_within slice [] e h g m = h g m
  joined_within slice (f ∷ rest) e h g m =
      elim (touch_entries cmp e f) as (λ b. In g
      (cond b (into (touch_entries cmp) join_entries (join_entries e f) rest)
      (e ∷ into (touch_entries cmp) join_entries f rest)) → Within slice g) [
        | true ↦ λ k. joined_within slice rest (join_entries e f) (λ w n. elim n [
          | inl i ↦ subst (λ (w : Entry X). Within slice w) i
              (within_join slice e f (h e (inl refl)) (h f (inr (inl refl))))
          | inr l ↦ h w (inr (inr l))
        ]) g k
        | false ↦ λ k. elim k [
          | inl i ↦ h g (inl i)
          | inr l ↦ joined_within slice rest f (λ w n. h w (inr n)) g l
        ]
      ] m

  -- what comes out covers what went in
  module _ (x : X) (m : ℕ) where
    one_there : (e f : Entry X) → e.item ≡ f.item → e.period.start ≤ f.period.start → Covers e x m
        ⊎ Covers f x m → Covers (join_entries e f) x m
    one_there e f i s (inl h) = let a = h.1 in let b = h.2 in (h.0, a, omega arith)
    one_there e f i s (inr h) = let a = h.1 in let b = h.2 in (i ∙ h.0, omega arith, omega arith)

    two_there : (e f : Entry X) (rest : List (Entry X)) → e.item ≡ f.item
        → e.period.start ≤ f.period.start → Covered (e ∷ (f ∷ rest)) x m
        → Covered (join_entries e f ∷ rest) x m
    two_there e f rest i s c = elim (from_covered e (f ∷ rest) x m c) [
      | inl h ↦ covered_first (join_entries e f) rest x m (one_there e f i s (inl h))
      | inr k ↦ elim (from_covered f rest x m k) [
        | inl h ↦ covered_first (join_entries e f) rest x m (one_there e f i s (inr h))
        | inr l ↦ covered_later (join_entries e f) rest x m l
      ]
    ]

    there : (rest : List (Entry X)) (e : Entry X) → Ordered (e ∷ rest) → Covered (e ∷ rest) x m
        → Covered (into (touch_entries cmp) join_entries e rest) x m
    there [] e h c = c
    there (f ∷ rest) e h c =
        elim (touch_entries cmp e f) as (λ b. touch_entries cmp e f ≡ b
        → Covered (cond b (into (touch_entries cmp) join_entries (join_entries e f) rest)
        (e ∷ into (touch_entries cmp) join_entries f rest)) x m) [
          | true ↦ λ t.
              let i = (touching e f t).0 in
              there rest (join_entries e f) (touch_join e f rest h t)
              (two_there e f rest i (starts_before e f h.0 i) c)
          | false ↦ λ t. elim (from_covered e (f ∷ rest) x m c) [
            | inl k ↦ covered_first e (into (touch_entries cmp) join_entries f rest) x m k
            | inr k ↦ covered_later e (into (touch_entries cmp) join_entries f rest) x m
                (there rest f h.1 k)
          ]
        ] refl

    one_back : (e f : Entry X) → e.item ≡ f.item → f.period.start ≤ e.period.end
        → Covers (join_entries e f) x m → Covers e x m ⊎ Covers f x m
    one_back e f i s h = elim (below e.period.end) [
      | inl k ↦ inl (h.0, h.1, k)
      | inr k ↦ (let b = h.2 in inr (sym i ∙ h.0, omega arith, omega arith))
    ]
      where
        below : (n : ℕ) → (m < n) ⊎ (n ≤ m)
        below n = grind arith

    two_back : (e f : Entry X) (rest : List (Entry X)) → e.item ≡ f.item
        → f.period.start ≤ e.period.end → Covered (join_entries e f ∷ rest) x m
        → Covered (e ∷ (f ∷ rest)) x m
    two_back e f rest i s c = elim (from_covered (join_entries e f) rest x m c) [
      | inl h ↦ elim (one_back e f i s h) [
        | inl k ↦ covered_first e (f ∷ rest) x m k
        | inr k ↦ covered_later e (f ∷ rest) x m (covered_first f rest x m k)
      ]
      | inr l ↦ covered_later e (f ∷ rest) x m (covered_later f rest x m l)
    ]

    back : (rest : List (Entry X)) (e : Entry X) → Ordered (e ∷ rest)
        → Covered (into (touch_entries cmp) join_entries e rest) x m → Covered (e ∷ rest) x m
    back [] e h c = c
    back (f ∷ rest) e h c =
        elim (touch_entries cmp e f) as (λ b. touch_entries cmp e f ≡ b
        → Covered (cond b (into (touch_entries cmp) join_entries (join_entries e f) rest)
        (e ∷ into (touch_entries cmp) join_entries f rest)) x m → Covered (e ∷ (f ∷ rest)) x m) [
          | true ↦ λ t k.
              let i = touching e f t in
              two_back e f rest i.0 i.1 (back rest (join_entries e f) (touch_join e f rest h t) k)
          | false ↦ λ t k. elim (from_covered e (into (touch_entries cmp) join_entries f rest) x m
              k) [
                | inl l ↦ covered_first e (f ∷ rest) x m l
                | inr l ↦ covered_later e (f ∷ rest) x m (back rest f h.1 l)
              ]
        ] refl c

  -- entries that are apart are the list of what they cover
  module _ (relation : ℕ → List X) (slice : Span) (out : List (Entry X)) (same : (x : X) (m : ℕ)
      → In x (relation m) ↔ Covered out x m)
      (within : (e : Entry X) → In e out → Within slice e) (ascends : Ascends gap_cmp out) where
    -- no other entry of the item covers the moment before the start, or the end
    none_before : (e : Entry X) → In e out → slice.start < e.period.start
        → ¬ In e.item (relation (e.period.start - 1))
    none_before e k s h =
        let c = (same e.item (e.period.start - 1)).0 h in
        let u = c.3 in
        let v = c.4 in
        let l = (within e k).lasting in
        elim (told_apart gap_cmp out ascends e c.0 k c.1) [
          | inl i ↦ (let j : e.period.start ≡ c.0.period.start =
              ap (λ (w : Entry X). w.period.start) i in absurd (omega arith))
          | inr a ↦ elim a [
            | inl q ↦ elim (gap_less e c.0 q) [
              | inl n ↦ o.apart e.item (subst (λ (w : X). cmp e.item w ≡ Less) c.2 n)
              | inr n ↦ (let p = n.1 in absurd (omega arith))
            ]
            | inr q ↦ elim (gap_less c.0 e q) [
              | inl n ↦ o.apart e.item (subst (λ (w : X). cmp w e.item ≡ Less) c.2 n)
              | inr n ↦ (let p = n.1 in absurd (omega arith))
            ]
          ]
        ]

    none_after : (e : Entry X) → In e out → ¬ In e.item (relation e.period.end)
    none_after e k h =
        let c = (same e.item e.period.end).0 h in
        let u = c.3 in
        let v = c.4 in
        elim (told_apart gap_cmp out ascends e c.0 k c.1) [
          | inl i ↦ (let j : e.period.end ≡ c.0.period.end = ap (λ (w : Entry X). w.period.end) i in
              absurd (omega arith))
          | inr a ↦ elim a [
            | inl q ↦ elim (gap_less e c.0 q) [
              | inl n ↦ o.apart e.item (subst (λ (w : X). cmp e.item w ≡ Less) c.2 n)
              | inr n ↦ (let p = n.1 in absurd (omega arith))
            ]
            | inr q ↦ elim (gap_less c.0 e q) [
              | inl n ↦ o.apart e.item (subst (λ (w : X). cmp w e.item ≡ Less) c.2 n)
              | inr n ↦ (let p = n.1 in let l = (within e k).lasting in absurd (omega arith))
            ]
          ]
        ]

    is_entry : (e : Entry X) → In e out → IsEntry relation slice e
    is_entry e k = record {
      lasting = (within e k).lasting;
      from = (within e k).from;
      to = (within e k).to;
      holds = λ m a b. (same e.item m).1 (e, k, refl, a, b);
      begins = elim (at_or_above slice.start e.period.start (within e k).from) [
        | inl i ↦ inl (sym i)
        | inr s ↦ inr (none_before e k s)
      ];
      ends = inr (none_after e k);
    }

    by_start : (entries : List (Entry X)) → ((e : Entry X) → In e entries → Within slice e)
        → Ascends gap_cmp entries → Ascends (entry_cmp cmp) entries
    by_start [] w a = tt
    by_start (e ∷ entries) w a = (each entries a.0, by_start entries (λ f k. w f (inr k)) a.1)
      where
        sooner : (f : Entry X) → IsApart e f → entry_cmp cmp e f ≡ Less
        sooner f (inl h) = entry_less cmp o e f (inl h)
        sooner f (inr h) = (let p = h.1 in let l = (w e (inl refl)).lasting in
            entry_less cmp o e f (inr (h.0, omega arith)))

        each : (others : List (Entry X)) → BeforeAll gap_cmp e others
            → BeforeAll (entry_cmp cmp) e others
        each [] b = tt
        each (f ∷ others) b = (sooner f (gap_less e f b.0), each others b.1)

    pub apart_listing : IsListing cmp relation slice out
    apart_listing = record {
      each = is_entry;
      complete = λ x m a b h. (same x m).0 h;
      ascending = by_start out within ascends;
    }

  -- entries hold what they cover
  pub covered_at : (entries : List (Entry X)) (x : X) (m : ℕ)
      → In x (at cmp entries m) ↔ Covered entries x m
  covered_at entries x m = (
    λ h. let r = (in_at cmp o entries x m).0 h in let c = (covers_is r.0.period m).0 r.3 in
        (r.0, r.1, r.2, c.0, c.1),
    λ c. (in_at cmp o entries x m).1 (c.0, c.1, c.2, (covers_is c.0.period m).1 (c.3, c.4)),
  )

  pub merged_listing : (slice : Span) (entries : List (Entry X)) → Ordered entries
      → ((e : Entry X) → In e entries → Within slice e)
      → IsListing cmp (at cmp entries) slice (merged (touch_entries cmp) join_entries entries)
  merged_listing slice [] h w = apart_listing (at cmp []) slice [] (λ x m. covered_at [] x m)
      (λ e k. absurd k) tt
  merged_listing slice (e ∷ rest) h w = apart_listing (at cmp (e ∷ rest)) slice
      (into (touch_entries cmp) join_entries e rest)
      (λ x m. (
        λ k. there x m rest e h ((covered_at (e ∷ rest) x m).0 k),
        λ c.
            (covered_at (e ∷ rest) x m).1 (back x m rest e h c),
      ))
      (joined_within slice rest e w)
      (joined_ascends rest e h)
