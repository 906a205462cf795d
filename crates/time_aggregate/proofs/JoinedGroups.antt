-- Groups of rows that stand side by side.
use Rattle.std.specs.Prelude.{◌≡◌, ◌↔◌, ℕ, ◌-◌, ◌<◌, ◌≤◌, ◌⊎◌, Bool, true, false, List, [], ◌∷◌}
use Rattle.std.specs.Prelude.{◌++◌, map, take}
use Rattle.std.proofs.Common.{refl, sym, ap, subst, ◌∙◌, inl, inr, arith}
use Rattle.std.specs.List.{filter}
use Rattle.std.specs.Ordering.{is_eq}
use Rattle.std.specs.declared.cmp.Ordering.{Ordering}
use Rattle.std.specs.declared.cmp.Ordering.TheVariants.{Less, Equal, Greater}
use Rattle.relations_spec.specs.Sets.{In}
use Rattle.relations_spec.specs.Spans.{Span}
use Rattle.relations_spec.specs.Timed.{Entry}
use Rattle.relations_spec.specs.Listing.{IsEntry, IsListing, entry_cmp}
use Rattle.relations_spec.proofs.SetLaws.{in_map, from_map, in_left, in_right, in_append}
use Rattle.relations_spec.proofs.SetLaws.{set_ascends}
use Rattle.relations_spec.proofs.SetLaws.{in_set, from_set, one_list, ascends_append, cmp_itself}
use Rattle.prima_base.specs.declared.value.Value.{Value}
use Rattle.prima_base.specs.Order.{row_cmp}
use Rattle.prima_base.specs.OrderLaws.{row_exact}
use Rattle.temporal_lang_types.specs.declared.agg_item.AggItem.{AggItem}
use Rattle.prima_base.specs.Groups.{Group}
use Rattle.time_aggregate.specs.Aggregates.{Row, groups, group_of, keys_of, rows_of}
use Rattle.time_aggregate.specs.Aggregates.{begins_with, amounts_of}
use Rattle.time_aggregate.specs.Parts.{AreOf, AreBefore}

-- maps that agree on the members, and filters that keep all or none
pub map_same : {X Y : Type 0} (f h : X → Y) (xs : List X) → ((x : X) → In x xs → f x ≡ h x)
    → map f xs ≡ map h xs
map_same f h [] s = refl
map_same f h (x ∷ xs) s =
    let e = s x (inl refl) in
    let k = map_same f h xs (λ y m. s y (inr m)) in
    cc

pub map_join : {X Y : Type 0} (f : X → Y) (xs ys : List X) → map f (xs ++ ys) ≡ map f xs ++ map f ys
map_join f [] ys = refl
map_join {X} {Y} f (x ∷ xs) ys = ap (λ (w : List Y). f x ∷ w) (map_join f xs ys)

filter_join : {X : Type 0} (p : X → Bool) (xs ys : List X)
    → filter p (xs ++ ys) ≡ filter p xs ++ filter p ys
filter_join p [] ys = refl
filter_join {X} p (x ∷ xs) ys =
    let e = filter_join p xs ys in
    elim (p x) as (λ (b : Bool). Rattle.std.specs.Prelude.cond b (x ∷ filter p (xs ++ ys))
    (filter p (xs ++ ys)) ≡ Rattle.std.specs.Prelude.cond b (x ∷ filter p xs) (filter p xs)
    ++ filter p ys) [ true ↦ ap (λ (w : List X). x ∷ w) e | false ↦ e ]

pub filter_all : {X : Type 0} (p : X → Bool) (xs : List X) → ((x : X) → In x xs → p x ≡ true)
    → filter p xs ≡ xs
filter_all p [] s = refl
filter_all {X} p (x ∷ xs) s = rw (s x (inl refl))
    (ap (λ (w : List X). x ∷ w) (filter_all p xs (λ y m. s y (inr m))))

pub filter_none : {X : Type 0} (p : X → Bool) (xs : List X) → ((x : X) → In x xs → p x ≡ false)
    → filter p xs ≡ []
filter_none p [] s = refl
filter_none p (x ∷ xs) s = rw (s x (inl refl)) (filter_none p xs (λ y m. s y (inr m)))

append_none : {X : Type 0} (xs : List X) → xs ++ [] ≡ xs
append_none [] = refl
append_none {X} (x ∷ xs) = ap (λ (w : List X). x ∷ w) (append_none xs)

-- a row that begins with the key, and one that does not
begins_is : (g : ℕ) (key : List Value) (row : Row) → take g row ≡ key
    → begins_with g key row ≡ true
begins_is g key row e = rw e (rw (cmp_itself row_cmp row_exact key) refl)

begins_less : (g : ℕ) (key : List Value) (row : Row) → row_cmp (take g row) key ≡ Less
    → begins_with g key row ≡ false
begins_less g key row e = rw e refl

begins_more : (g : ℕ) (key : List Value) (row : Row) → row_cmp key (take g row) ≡ Less
    → begins_with g key row ≡ false
begins_more g key row e = step (row_cmp (take g row) key) refl
  where
    step : (o : Ordering) → row_cmp (take g row) key ≡ o → is_eq o ≡ false
    step Less q = refl
    step Equal q = absurd (row_exact.apart key (subst (λ (w : List Value). row_cmp key w ≡ Less)
        (row_exact.same (take g row) key q) e))
    step Greater q = refl

module _ (g : ℕ) (items : List AggItem) where
  pub key_in : (key : List Value) (rows : List Row) → In key (keys_of g rows) → (row : Row)
      × In row rows × (take g row ≡ key)
  key_in key rows m = from_map (take g) key rows
      (from_set row_cmp row_exact key (map (take g) rows) m)

  pub in_keys : (row : Row) (rows : List Row) → In row rows → In (take g row) (keys_of g rows)
  in_keys row rows m = in_set row_cmp row_exact (take g row) (map (take g) rows)
      (in_map (take g) row rows m)

  pub one_group : (key : List Value) (row : Row) (rows : List Row) → AreOf g key (row ∷ rows)
      → groups g items (row ∷ rows)
      ≡ record { key = key; amounts = amounts_of items (row ∷ rows) } ∷ []
  unfolding groups
  one_group key row rows a =
      let keys : keys_of g (row ∷ rows) ≡ key ∷ [] = one_list row_cmp row_exact
      (keys_of g (row ∷ rows)) (key ∷ []) (set_ascends row_cmp row_exact
      (map (take g) (row ∷ rows))) (tt, tt) (record { there = there; back = back }) in
      let all : rows_of g key (row ∷ rows) ≡ row ∷ rows = filter_all (begins_with g key)
      (row ∷ rows) (λ x m. begins_is g key x (a x m)) in
      ap (λ (w : List (List Value)). map (group_of g items (row ∷ rows)) w) keys
      ∙ ap (λ (w : List Row). record { key = key; amounts = amounts_of items w } ∷ []) all
    where
      there : (k : List Value) → In k (keys_of g (row ∷ rows)) → In k (key ∷ [])
      there k m = let h = key_in k (row ∷ rows) m in inl (sym (a h.0 h.1) ∙ h.2)

      back : (k : List Value) → In k (key ∷ []) → In k (keys_of g (row ∷ rows))
      back k (inl e) = subst (λ (w : List Value). In w (keys_of g (row ∷ rows)))
          (a row (inl refl) ∙ e) (in_keys row (row ∷ rows) (inl refl))
      back k (inr m) = absurd m

  pub both_groups : (rows others : List Row) → AreBefore g rows others
      → groups g items (rows ++ others) ≡ groups g items rows ++ groups g items others
  unfolding groups
  both_groups rows others a =
      ap (λ (w : List (List Value)). map (group_of g items (rows ++ others)) w) keys
      ∙ map_join (group_of g items (rows ++ others)) (keys_of g rows) (keys_of g others)
      ∙ ap (λ (w : List Group). w ++ map (group_of g items (rows ++ others)) (keys_of g others))
      first ∙ ap (λ (w : List Group). map (group_of g items rows) (keys_of g rows) ++ w) second
    where
      there : (k : List Value) → In k (keys_of g (rows ++ others))
          → In k (keys_of g rows ++ keys_of g others)
      there k m =
          let h = key_in k (rows ++ others) m in
          elim (in_append h.0 rows others h.1) [
            | inl w ↦ in_left k (keys_of g rows) (keys_of g others)
                (subst (λ (v : List Value). In v (keys_of g rows)) h.2 (in_keys h.0 rows w))
            | inr w ↦ in_right k (keys_of g rows) (keys_of g others)
                (subst (λ (v : List Value). In v (keys_of g others)) h.2 (in_keys h.0 others w))
          ]

      back : (k : List Value) → In k (keys_of g rows ++ keys_of g others)
          → In k (keys_of g (rows ++ others))
      back k m = elim (in_append k (keys_of g rows) (keys_of g others) m) [
        | inl w ↦ (let h = key_in k rows w in subst (λ (v : List Value).
            In v (keys_of g (rows ++ others))) h.2
            (in_keys h.0 (rows ++ others) (in_left h.0 rows others h.1)))
        | inr w ↦ (let h = key_in k others w in subst (λ (v : List Value).
            In v (keys_of g (rows ++ others))) h.2
            (in_keys h.0 (rows ++ others) (in_right h.0 rows others h.1)))
      ]

      apart : (k l : List Value) → In k (keys_of g rows) → In l (keys_of g others)
          → row_cmp k l ≡ Less
      apart k l m n =
          let h = key_in k rows m in
          let i = key_in l others n in
          subst (λ (v : List Value). row_cmp v l ≡ Less) h.2
          (subst (λ (v : List Value). row_cmp (take g h.0) v ≡ Less) i.2 (a h.0 i.0 h.1 i.1))

      keys : keys_of g (rows ++ others) ≡ keys_of g rows ++ keys_of g others
      keys = one_list row_cmp row_exact (keys_of g (rows ++ others))
          (keys_of g rows ++ keys_of g others)
          (set_ascends row_cmp row_exact (map (take g) (rows ++ others)))
          (ascends_append row_cmp (keys_of g rows) (keys_of g others)
          (set_ascends row_cmp row_exact (map (take g) rows))
          (set_ascends row_cmp row_exact (map (take g) others)) apart)
          (record { there = there; back = back })

      kept_first : (k : List Value) → In k (keys_of g rows)
          → rows_of g k (rows ++ others) ≡ rows_of g k rows
      kept_first k m =
          let none : rows_of g k others ≡ [] = filter_none (begins_with g k) others (λ x n.
          (let h = key_in k rows m in begins_more g k x
          (subst (λ (v : List Value). row_cmp v (take g x) ≡ Less) h.2 (a h.0 x h.1 n)))) in
          filter_join (begins_with g k) rows others
          ∙ ap (λ (w : List Row). rows_of g k rows ++ w) none ∙ append_none (rows_of g k rows)

      kept_second : (k : List Value) → In k (keys_of g others)
          → rows_of g k (rows ++ others) ≡ rows_of g k others
      kept_second k m =
          let none : rows_of g k rows ≡ [] = filter_none (begins_with g k) rows (λ x n.
          (let h = key_in k others m in begins_less g k x
          (subst (λ (v : List Value). row_cmp (take g x) v ≡ Less) h.2 (a x h.0 n h.1)))) in
          filter_join (begins_with g k) rows others
          ∙ ap (λ (w : List Row). w ++ rows_of g k others) none

      first : map (group_of g items (rows ++ others)) (keys_of g rows)
          ≡ map (group_of g items rows) (keys_of g rows)
      first = map_same (group_of g items (rows ++ others)) (group_of g items rows) (keys_of g rows)
          (λ k m. ap (λ (w : List Row). record { key = k; amounts = amounts_of items w })
          (kept_first k m))

      second : map (group_of g items (rows ++ others)) (keys_of g others)
          ≡ map (group_of g items others) (keys_of g others)
      second = map_same (group_of g items (rows ++ others)) (group_of g items others)
          (keys_of g others) (λ k m. ap (λ (w : List Row). record {
            key = k;
            amounts =
                amounts_of items w;
          }) (kept_second k m))

-- the listings of two relations of which the one has all that comes first
module _ {X : Type 0} (cmp : X → X → Ordering) (apart : (x : X) → cmp x x ≡ Less → ⊥)
    (f h : ℕ → List X) (slice : Span)
    (before : (x y : X) (m n : ℕ) → In x (f m) → In y (h n) → cmp x y ≡ Less) where
  first_entry : (e : Entry X) → IsEntry f slice e → IsEntry (λ m. f m ++ h m) slice e
  first_entry e p =
      let last = p.lasting in
      let here = p.holds e.period.start (omega arith) last in
      record {
        lasting = last;
        from = p.from;
        to = p.to;
        holds = λ m a b. in_left e.item (f m) (h m) (p.holds m a b);
        begins = elim p.begins [
          | inl w ↦ inl w
          | inr w ↦ inr (λ i. other (e.period.start - 1) here w i)
        ];
        ends = elim p.ends [ inl w ↦ inl w | inr w ↦ inr (λ i. other e.period.end here w i) ];
      }
    where
      other : (m : ℕ) → In e.item (f e.period.start) → (¬ In e.item (f m))
          → In e.item (f m ++ h m) → ⊥
      other m here w i = elim (in_append e.item (f m) (h m) i) [
        | inl k ↦ w k
        | inr k ↦ apart e.item (before e.item e.item e.period.start m here k)
      ]

  second_entry : (e : Entry X) → IsEntry h slice e → IsEntry (λ m. f m ++ h m) slice e
  second_entry e p =
      let last = p.lasting in
      let here = p.holds e.period.start (omega arith) last in
      record {
        lasting = last;
        from = p.from;
        to = p.to;
        holds = λ m a b. in_right e.item (f m) (h m) (p.holds m a b);
        begins = elim p.begins [
          | inl w ↦ inl w
          | inr w ↦ inr (λ i. other (e.period.start - 1) here w i)
        ];
        ends = elim p.ends [ inl w ↦ inl w | inr w ↦ inr (λ i. other e.period.end here w i) ];
      }
    where
      other : (m : ℕ) → In e.item (h e.period.start) → (¬ In e.item (h m))
          → In e.item (f m ++ h m) → ⊥
      other m here w i = elim (in_append e.item (f m) (h m) i) [
        | inl k ↦ apart e.item (before e.item e.item m e.period.start k here)
        | inr k ↦ w k
      ]

  pub both_listings : (es fs : List (Entry X)) → IsListing cmp f slice es
      → IsListing cmp h slice fs → IsListing cmp (λ m. f m ++ h m) slice (es ++ fs)
  both_listings es fs p q = record {
    each = each;
    complete = complete;
    ascending =
        ascends_append (entry_cmp cmp) es fs p.ascending q.ascending less;
  }
    where
      each : (e : Entry X) → In e (es ++ fs) → IsEntry (λ m. f m ++ h m) slice e
      each e m = elim (in_append e es fs m) [
        | inl w ↦ first_entry e (p.each e w)
        | inr w ↦ second_entry e (q.each e w)
      ]

      complete : (x : X) (m : ℕ) → slice.start ≤ m → m < slice.end → In x (f m ++ h m)
          → Rattle.relations_spec.specs.Listing.Covered (es ++ fs) x m
      complete x m a b i = elim (in_append x (f m) (h m) i) [
        | inl w ↦ (let c = p.complete x m a b w in (c.0, in_left c.0 es fs c.1, c.2, c.3, c.4))
        | inr w ↦ (let c = q.complete x m a b w in (c.0, in_right c.0 es fs c.1, c.2, c.3, c.4))
      ]

      less : (x y : Entry X) → In x es → In y fs → entry_cmp cmp x y ≡ Less
      less x y m n =
          let a = p.each x m in
          let b = q.each y n in
          let s = a.lasting in
          let t = b.lasting in
          let e = before x.item y.item x.period.start y.period.start
          (a.holds x.period.start (omega arith) s) (b.holds y.period.start (omega arith) t) in
          rw e refl
