-- The least and the greatest of values, and how often one is there.
use Rattle.std.specs.Prelude.{◌≡◌, ◌↔◌, ℕ, ◌<◌, ℤ, pos, ◌+ℤ◌, true, false}
use Rattle.std.specs.Prelude.{List, [], ◌∷◌, map, length, Option, Some, None, take, min}
use Rattle.std.proofs.lemmas.List.{take_all}
use Rattle.relations_spec.proofs.ListingLaws.{at_or_below}
use Rattle.std.proofs.Common.{refl, sym, ap, subst, ◌∙◌, inl, inr, suc, zero, arith}
use Rattle.std.proofs.lemmas.Int.{ints}
use Rattle.std.specs.Ordering.{is_eq, is_gt, is_lt}
use Rattle.std.specs.declared.cmp.Ordering.{Ordering}
use Rattle.std.specs.declared.cmp.Ordering.TheVariants.{Less, Equal, Greater}
use Rattle.std.specs.Option.{unwrap_or, IsSome}
use Rattle.std.specs.BTreeMap as tree
use Rattle.relations_spec.specs.Sets.{In, Ascends, set_of}
use Rattle.relations_spec.proofs.SetLaws.{in_set, from_set, set_ascends, before_in, cmp_itself}
use Rattle.prima_base.specs.declared.value.Value.{Value}
use Rattle.prima_base.specs.Order.{value_cmp, value_eq}
use Rattle.time_aggregate.specs.KeyLaws.{value_exact}
use Rattle.time_aggregate.specs.Aggregates.{Row, cell, cells, number, least, greatest, first_of}
use Rattle.time_aggregate.specs.Aggregates.{last_of, total_by}
use Rattle.time_aggregate.specs.Tallies.{is_value, counted, NoneIsZero}

pub same_value : (a b : Value) → (value_eq a b ≡ true) ↔ (a ≡ b)
same_value a b = (there (value_cmp a b) refl, back)
  where
    there : (o : Ordering) → value_cmp a b ≡ o → is_eq o ≡ true → a ≡ b
    there Less q e = absurd (cc)
    there Equal q e = value_exact.same a b q
    there Greater q e = absurd (cc)

    back : a ≡ b → value_eq a b ≡ true
    back e = subst (λ (w : Value). is_eq (value_cmp a w) ≡ true) e
        (rw (cmp_itself value_cmp value_exact a) refl)

pub map_take : {X Y : Type 0} (f : X → Y) (n : ℕ) (xs : List X)
    → map f (take n xs) ≡ take n (map f xs)
map_take f zero xs = refl
map_take f (suc n) [] = refl
map_take {X} {Y} f (suc n) (x ∷ xs) = ap (λ (w : List Y). f x ∷ w) (map_take f n xs)

pub take_min : {X : Type 0} (n : ℕ) (xs : List X) → take (min n (length xs)) xs ≡ take n xs
take_min n xs = elim (at_or_below n (length xs)) [
  | inl h ↦ (let e : min n (length xs) ≡ n = omega arith in rw e refl)
  | inr h ↦ (
      let e : min n (length xs) ≡ length xs = omega arith in
      rw e (take_all (length xs) xs (omega arith) ∙ sym (take_all n xs h)))
]

-- numbers of cells
pub total_cells : (place : ℕ) (rows : List Row)
    → total_by number (cells place rows) ≡ total_by (λ row. number (cell place row)) rows
total_cells place [] = refl
total_cells place (row ∷ rows) = ap (λ (w : ℤ). number (cell place row) +ℤ w)
    (total_cells place rows)

-- how often the value is there
abbrev pub Occurs : Value → ℕ → List Row → Type 0
Occurs v place rows = (n : ℕ) × (total_by (λ row. is_value v (cell place row)) rows ≡ pos n)
    × (0 < n → In v (cells place rows)) × (In v (cells place rows) → 0 < n)

pub occurs : (v : Value) (place : ℕ) (rows : List Row) → Occurs v place rows
occurs v place [] = (0, refl, λ h. absurd (omega arith), λ h. absurd h)
occurs v place (row ∷ rows) = step (value_cmp v (cell place row)) refl (occurs v place rows)
  where
    other : (is_value v (cell place row) ≡ pos 0) → (v ≡ cell place row → ⊥)
        → Occurs v place rows → Occurs v place (row ∷ rows)
    other e d r =
        let q = r.1 in (
          r.0,
          rw e (omega (arith, ints)),
          λ h. inr (r.2 h),
          λ h. elim h [
            | inl k ↦ absurd (d (sym k))
            | inr k ↦ r.3 k
          ],
        )

    step : (o : Ordering) → value_cmp v (cell place row) ≡ o → Occurs v place rows
        → Occurs v place (row ∷ rows)
    step Less q r = other (rw q refl) (λ e. value_exact.apart v
        (subst (λ (w : Value). value_cmp v w ≡ Less) (sym e) q)) r
    step Equal q r =
        let e = r.1 in
        let p : is_value v (cell place row) ≡ pos 1 = rw q refl in (
          suc r.0,
          rw p (omega (arith, ints)),
          λ h. inl (sym (value_exact.same v (cell place row) q)),
          λ h. omega arith,
        )
    step Greater q r = other (rw q refl) (λ e. value_exact.apart v
        (value_exact.turn v v (subst (λ (w : Value). value_cmp v w ≡ Greater) (sym e) q))) r

not_before : (v x : Value) → value_cmp x v ≡ Less → is_gt (value_cmp v x) ≡ false → ⊥
not_before v x e h = step (value_cmp v x) refl h
  where
    step : (o : Ordering) → value_cmp v x ≡ o → is_gt o ≡ false → ⊥
    step Less q k = value_exact.apart x (value_exact.trans x v x e q)
    step Equal q k = value_exact.apart x (subst (λ (w : Value). value_cmp x w ≡ Less)
        (value_exact.same v x q) e)
    step Greater q k = absurd (cc)

pub first_is : (v : Value) (values : List Value) → Ascends value_cmp values → In v values
    → ((w : Value) → In w values → is_gt (value_cmp v w) ≡ false) → first_of values ≡ v
first_is v [] a m h = absurd m
first_is v (x ∷ values) a (inl e) h = e
first_is v (x ∷ values) a (inr m) h =
    absurd (not_before v x (before_in value_cmp x v values a.0 m) (h x (inl refl)))

pub last_is : (v : Value) (values : List Value) → Ascends value_cmp values → In v values
    → ((w : Value) → In w values → is_lt (value_cmp v w) ≡ false) → last_of values ≡ v
last_is v [] a m h = absurd m
last_is v (x ∷ []) a (inl e) h = e
last_is v (x ∷ []) a (inr m) h = absurd m
last_is v (x ∷ y ∷ values) a (inl e) h =
    let l : value_cmp v y ≡ Less = subst (λ (w : Value). value_cmp w y ≡ Less) e a.0.0 in
    let n = h y (inr (inl refl)) in
    absurd (cc)
last_is v (x ∷ y ∷ values) a (inr m) h = last_is v (y ∷ values) a.1 m (λ w i. h w (inr i))

module _ (counts : tree.BTreeMap Value ℤ) (place : ℕ) (rows : List Row)
    (same : (v : Value) → counted counts v ≡ total_by (λ row. is_value v (cell place row)) rows)
    (none : NoneIsZero counts) where
  there : (v : Value) → In v (cells place rows) → IsSome (tree.get value_cmp counts v)
  there v m = step (tree.get value_cmp counts v) refl
    where
      step : (o : Option ℤ) → tree.get value_cmp counts v ≡ o → IsSome o
      step None q =
          let r = occurs v place rows in
          let e = same v in
          let c : counted counts v ≡ pos 0 = rw q refl in
          let k = r.3 m in
          let p = r.1 in
          absurd (omega (arith, ints))
      step (Some n) q = refl

  back : (v : Value) (n : ℤ) → tree.get value_cmp counts v ≡ Some n → In v (cells place rows)
  back v n e =
      let r = occurs v place rows in
      let s = same v in
      let c : counted counts v ≡ n = rw e refl in
      step r.0 refl r c s
    where
      step : (k : ℕ) → k ≡ (occurs v place rows).0 → Occurs v place rows → counted counts v ≡ n
          → counted counts v ≡ total_by (λ row. is_value v (cell place row)) rows
          → In v (cells place rows)
      step zero q r c s =
          let w = (occurs v place rows).1 in
          let z : n ≡ pos 0 = omega (arith, ints) in
          absurd (none v (e ∙ ap Some z))
      step (suc k) q r c s = (occurs v place rows).2 (omega arith)

  pub least_is : (v : Value) (n : ℤ) → tree.get value_cmp counts v ≡ Some n
      → tree.IsLowerBound value_cmp counts v → v ≡ least (cells place rows)
  unfolding least
  least_is v n e low = sym (first_is v (set_of value_cmp (cells place rows))
      (set_ascends value_cmp value_exact (cells place rows))
      (in_set value_cmp value_exact v (cells place rows) (back v n e))
      (λ w m. low w (there w (from_set value_cmp value_exact w (cells place rows) m))))

  pub greatest_is : (v : Value) (n : ℤ) → tree.get value_cmp counts v ≡ Some n
      → tree.IsUpperBound value_cmp counts v → v ≡ greatest (cells place rows)
  unfolding greatest
  greatest_is v n e high = sym (last_is v (set_of value_cmp (cells place rows))
      (set_ascends value_cmp value_exact (cells place rows))
      (in_set value_cmp value_exact v (cells place rows) (back v n e))
      (λ w m. high w (there w (from_set value_cmp value_exact w (cells place rows) m))))

  pub some_counted : 0 < length rows → 0 < tree.btree_map_len counts
  some_counted h = step rows h refl
    where
      step : (rs : List Row) → 0 < length rs → rs ≡ rows → 0 < tree.btree_map_len counts
      step [] k q = absurd (omega arith)
      step (row ∷ rs) k q = more counts.entries refl (there (cell place row)
          (subst (λ (w : List Row). In (cell place row) (cells place w)) q (inl refl)))
        where
          more : (es : List (Value × ℤ)) → es ≡ counts.entries
              → IsSome (tree.get value_cmp counts (cell place row)) → 0 < length counts.entries
          more [] p i =
              let k = subst (λ (w : List (Value × ℤ)). IsSome (Rattle.std.specs.Map.lookup
              (tree.is_at (value_cmp (cell place row))) w)) (sym p) i in absurd (cc)
          more (x ∷ es) p i = let l = ap length p in omega arith
