-- The rows exported are those of the listings.
use Rattle.std.specs.Prelude.{◌≡◌, ◌==◌, ◌≤◌, ◌<◌, ◌-◌, ◌++◌, ◌&&◌, ◌⊎◌, ℕ, Bool, true, false}
use Rattle.std.specs.Prelude.{List, [], ◌∷◌, map, nat_lt}
use Rattle.std.proofs.Common.{refl, sym, ap, ◌∙◌, inl, inr, arith}
use Rattle.std.proofs.lemmas.Bool.Decides.{nat_tests}
use Rattle.std.specs.List.{filter, flat_map}
use Rattle.std.specs.Ordering.{nat_cmp}
use Rattle.std.specs.Cmp.{nat_cmp_total}
use Rattle.std.specs.FinMap.{get, nat_cmp-IsAntisymmetric}
use Rattle.relations_spec.specs.Sets.{In, BeforeAll, Ascends, IsExact}
use Rattle.relations_spec.proofs.ListingLaws.{nat_less}
use Rattle.relations_spec.specs.Spans.{forever}
use Rattle.relations_spec.specs.Timed.{Entry}
use Rattle.relations_spec.proofs.SetLaws.{in_filter, from_filter, in_flat_map, from_map}
use Rattle.relations_spec.proofs.SetLaws.{in_append, in_set, from_set, set_ascends}
use Rattle.prima_base.specs.OrderLaws.{exact_from}
use Rattle.schema_catalog.specs.Places.{NamedColumns}
use Rattle.schema_catalog.specs.Databases.{Database, IsDatabase}
use Rattle.smo_ops_types.specs.Changes.{PlainChange}
use Rattle.smo_ops_types.specs.Commands.{PlainCommand}
use Rattle.smo_ops_spec.specs.OneRow.{Row, Relation}
use Rattle.smo_ops_spec.specs.Effects.{rows_under}
use Rattle.smo_ops_spec.proofs.CountingLaws.{gains_nothing}
use Rattle.smo_ops_spec.specs.Past.{State, Past, tables_of}
use Rattle.smo_ops_spec.specs.ValidPast.{IsPast, AllUpTo, Rise, AreStates, last_or_nought}
use Rattle.version_export_past_spec.specs.Rows.{ending, beginning, changes_between}
use Rattle.version_export_past_spec.specs.Commands.{if_any, row_commands}
use Rattle.version_export_past_spec.specs.Listed.{begun_at, ended_at}
use Rattle.version_export_past_spec.specs.Showing.{first_stamp, shown_by, tables_in, later_moments}
use Rattle.version_export_past_spec.proofs.ShownDatabases.{stays, Apart}
use Rattle.version_export.specs.Exported.{rows_exported}
use Rattle.version_export.specs.Seen.{rows_listed}
use Rattle.version_export.specs.ByListings.{all_listed, listed_at, entry_moments}
use Rattle.version_export.specs.ByListings.{listed_moments, moments_after, commands_listed}
use Rattle.version_export.proofs.OtherMoments.{some_change, is_active, same_commands}
use Rattle.version_export.proofs.OtherMoments.{filtered_ascends}
use Rattle.version_export.proofs.WholeRows.{listed_changes}

pub nat_exact : IsExact nat_cmp
nat_exact = exact_from nat_cmp_total nat_cmp-IsAntisymmetric

-- ---- moments

-- each state begins above the one before
above_each : (m low : ℕ) (states : List State) → m ≤ low → Rise low states
    → BeforeAll nat_cmp m (map (λ (s : State). s.stamp) states)
above_each m low [] l r = tt
above_each m low (s ∷ states) l r = (
  (let rise = r.0 in nat_less m s.stamp (omega (arith, rise, l))),
  (let rise = r.0 in above_each m s.stamp states (omega (arith, rise, l)) r.1),
)

stamps_ascend : (low : ℕ) (states : List State) → Rise low states
    → Ascends nat_cmp (map (λ (s : State). s.stamp) states)
stamps_ascend low [] r = tt
stamps_ascend low (s ∷ states) r = (
  above_each s.stamp s.stamp states (omega arith) r.1,
  stamps_ascend s.stamp states r.1,
)

all_ascend : (states : List State) → AreStates states
    → Ascends nat_cmp (map (λ (s : State). s.stamp) states)
all_ascend [] a = absurd a
all_ascend (s ∷ states) a = (
  above_each s.stamp 0 states (let z = a.0 in omega (arith, z)) a.1,
  stamps_ascend 0 states a.1,
)

inside : (first m : ℕ) → (nat_lt first m && nat_lt m forever) ≡ true → (first < m) × (m < forever)
inside first m e = (grind (arith, nat_tests, e), grind (arith, nat_tests, e))

is_inside : (first m : ℕ) → first < m → m < forever → (nat_lt first m && nat_lt m forever) ≡ true
is_inside first m a b = grind (arith, nat_tests, a, b)

-- ---- where something changes

some_in : {X : Type 0} (f : X → List PlainChange) (xs : List X) → some_change (flat_map f xs) ≡ true
    → (x : X) × In x xs × (some_change (f x) ≡ true)
some_in f [] e = absurd (cc)
some_in f (x ∷ xs) e = step (some_in f xs) (f x) refl e
  where
    step : (some_change (flat_map f xs) ≡ true → (y : _) × In y xs × (some_change (f y) ≡ true))
        → (cs : List PlainChange) → f x ≡ cs → some_change (cs ++ flat_map f xs) ≡ true
        → (y : _) × In y (x ∷ xs) × (some_change (f y) ≡ true)
    step more [] q h = (let k = more h in (k.0, inr k.1, k.2))
    step more (c ∷ cs) q h = (x, inl refl, ap some_change q)

some_member : (cs : List PlainChange) → some_change cs ≡ true → (c : PlainChange) × In c cs
some_member [] e = absurd (cc)
some_member (c ∷ cs) e = (c, inl refl)

same_number : (m n : ℕ) → (m == n) ≡ true → m ≡ n
same_number m n e = grind (arith, nat_tests, e)

-- of a listing, an entry that begins or ends then
moment_of : (t : NamedColumns) (es : List (Entry Row)) (m : ℕ)
    → some_change (listed_at m (t, es)) ≡ true → In m (listed_moments (t, es))
moment_of t es m e =
    let c = some_member (listed_at m (t, es)) e in
    elim (in_append c.0 (map (ending t) (ended_at es m)) (map (beginning t) (begun_at es m)) c.1) [
      | inl a ↦ (let k = from_map (ending t) c.0 (ended_at es m) a in
          let f = from_map (λ (x : Entry Row). x.item) k.0
          (filter (λ (x : Entry Row). x.period.end == m) es) k.1 in
          let g = from_filter (λ (x : Entry Row). x.period.end == m) f.0 es f.1 in
          in_flat_map entry_moments f.0 m es g.0
          (inr (inl (same_number f.0.period.end m g.1))))
      | inr b ↦ (let k = from_map (beginning t) c.0 (begun_at es m) b in
          let f = from_map (λ (x : Entry Row). x.item) k.0
          (filter (λ (x : Entry Row). x.period.start == m) es) k.1 in
          let g = from_filter (λ (x : Entry Row). x.period.start == m) f.0 es f.1 in
          in_flat_map entry_moments f.0 m es g.0 (inl (same_number f.0.period.start m g.1)))
    ]

-- ---- where no state begins nothing changes

nothing_between : (tables : List NamedColumns) (db : Database)
    → changes_between tables db db ≡ []
nothing_between [] db = refl
nothing_between (t ∷ tables) db =
    ap (λ (rows : Relation). (map (ending t) rows ++ map (beginning t) rows)
    ++ changes_between tables db db) (gains_nothing (rows_under (get db t.0)))
    ∙ nothing_between tables db

-- either a state begins at the moment, or none does after the moment before and up to it
begins_or_not : (states : List State) (m : ℕ) → 0 < m
    → In m (map (λ (s : State). s.stamp) states) ⊎ Apart (m - 1) m states
begins_or_not [] m l = inr tt
begins_or_not (s ∷ states) m l = step (begins_or_not states m l) (s.stamp == m) refl
  where
    other : (s.stamp == m) ≡ false → (s.stamp ≤ m - 1) ⊎ (m < s.stamp)
    other e = grind (arith, nat_tests, e, l)

    step : In m (map (λ (x : State). x.stamp) states) ⊎ Apart (m - 1) m states → (b : Bool)
        → (s.stamp == m) ≡ b
        → In m (s.stamp ∷ map (λ (x : State). x.stamp) states) ⊎ Apart (m - 1) m (s ∷ states)
    step (inl i) b e = inl (inr i)
    step (inr a) true e = inl (inl (same_number s.stamp m e))
    step (inr a) false e = inr (other e, a)

module _ (past : Past) (version : ℕ) (h : IsPast past)
    (ends : last_or_nought past.last < forever)
    (shows : (m : ℕ) → IsDatabase (tables_of past version) (shown_by past version m)) where
  abbrev first : ℕ
  first = first_stamp past

  abbrev es : List NamedColumns
  es = tables_in past version

  abbrev shown : ℕ → Database
  shown = shown_by past version

  -- the changes of a moment
  same_changes : (ts : List NamedColumns) → ((t : NamedColumns) → In t ts → In t es) → (m : ℕ)
      → 0 < m → m < forever
      → changes_between ts (shown (m - 1)) (shown m)
      ≡ flat_map (listed_at m) (map (λ (t : NamedColumns). (t, rows_listed past version t)) ts)
  same_changes [] k m a b = refl
  same_changes (t ∷ ts) k m a b =
      ap (λ (cs : List PlainChange). cs ++ changes_between ts (shown (m - 1)) (shown m))
      (listed_changes past version h t (k t (inl refl)) shows m a b)
      ∙ ap (λ (cs : List PlainChange). listed_at m (t, rows_listed past version t) ++ cs)
      (same_changes ts (λ u i. k u (inr i)) m a b)

  there : (m : ℕ) → is_active es shown m ≡ true → In m (later_moments first past.states)
      → In m (moments_after first (all_listed past version))
  there m e i =
      let k = from_filter (λ n. nat_lt first n) m (map (λ (s : State). s.stamp) past.states) i in
      let low : first < m = (let q = k.1 in grind (arith, nat_tests, q)) in
      let high : m < forever = below past.states h.ended k.0 in
      let c : some_change (flat_map (listed_at m) (all_listed past version)) ≡ true =
      ap some_change (sym (same_changes es (λ t j. j) m (omega (arith, low)) high)) ∙ e in
      let l = some_in (listed_at m) (all_listed past version) c in
      in_set nat_cmp nat_exact m _ (in_filter (λ n. nat_lt first n && nat_lt n forever) m
      (flat_map listed_moments (all_listed past version))
      (in_flat_map listed_moments l.0 m (all_listed past version) l.1
      (moment_of l.0.0 l.0.1 m l.2)) (is_inside first m low high))
    where
      below : (states : List State) → AllUpTo (last_or_nought past.last) states
          → In m (map (λ (s : State). s.stamp) states) → m < forever
      below [] u j = absurd j
      below (s ∷ states) u (inl q) = (let w = u.0 in omega (arith, w, q, ends))
      below (s ∷ states) u (inr j) = below states u.1 j

  back : (m : ℕ) → is_active es shown m ≡ true
      → In m (moments_after first (all_listed past version))
      → In m (later_moments first past.states)
  back m e i =
      let k = from_filter (λ n. nat_lt first n && nat_lt n forever) m
      (flat_map listed_moments (all_listed past version))
      (from_set nat_cmp nat_exact m _ i) in
      let low : first < m = (inside first m k.1).0 in
      elim (begins_or_not past.states m (omega (arith, low))) [
        | inl j ↦ in_filter (λ n. nat_lt first n) m (map (λ (s : State). s.stamp) past.states) j
            (grind (arith, nat_tests, low))
        | inr a ↦ (let still : changes_between es (shown (m - 1)) (shown m) ≡ [] =
            ap (changes_between es (shown (m - 1)))
            (stays past version h.begun (m - 1) m (omega (arith, low)) a)
            ∙ nothing_between es (shown (m - 1)) in
            let no : some_change (changes_between es (shown (m - 1)) (shown m)) ≡ false =
            ap some_change still in absurd (cc))
      ]

  by_moments : (ms : List ℕ) → ((m : ℕ) → In m ms → (first < m) × (m < forever))
      → row_commands es shown ms
      ≡ flat_map (λ m. if_any m (flat_map (listed_at m) (all_listed past version))) ms
  by_moments [] k = refl
  by_moments (m ∷ ms) k =
      let a = (k m (inl refl)).0 in
      ap (λ (cs : List PlainChange). if_any m cs ++ row_commands es shown ms)
      (same_changes es (λ t j. j) m (omega (arith, a)) (k m (inl refl)).1)
      ∙ ap (λ (rest : List PlainCommand).
      if_any m (flat_map (listed_at m) (all_listed past version)) ++ rest)
      (by_moments ms (λ n i. k n (inr i)))

  rising : (states : List State) → AreStates states
      → Ascends nat_cmp (later_moments first states)
  rising states a = filtered_ascends (λ n. nat_lt first n) (map (λ (s : State). s.stamp) states)
      (all_ascend states a)

  pub rows_by_listings : rows_exported past version
      ≡ commands_listed first (all_listed past version)
  rows_by_listings =
      same_commands es shown (later_moments first past.states)
      (moments_after first (all_listed past version)) (rising past.states h.states)
      (set_ascends nat_cmp nat_exact _) there back
      ∙ by_moments (moments_after first (all_listed past version))
      (λ m i. inside first m (from_filter (λ n. nat_lt first n && nat_lt n forever) m
      (flat_map listed_moments (all_listed past version))
      (from_set nat_cmp nat_exact m _ i)).1)
