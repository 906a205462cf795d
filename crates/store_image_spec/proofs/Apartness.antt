-- Two ids show the same row at no moment where they show none at the moments at which entries
-- begin.
use Rattle.std.proofs.Common.{◌≡◌, ℕ, zero, suc, ◌+◌, ◌≤◌, ◌<◌, Bool, true, false, cond, not, List}
use Rattle.std.proofs.Common.{[], ◌∷◌, ◌++◌, map, length, get_or, refl, sym, ap, ◌∙◌, subst, arith}
use Rattle.std.proofs.Common.{inl, inr}
use Rattle.std.specs.Prelude.{◌⊎◌}
use Rattle.std.specs.Ordering.{is_eq}
use Rattle.std.specs.List.{list_all}
use Rattle.std.specs.declared.cmp.Ordering.{Ordering}
use Rattle.std.specs.declared.cmp.Ordering.TheVariants.{Less, Equal, Greater}
use Rattle.relations_spec.specs.Sets.{In}
use Rattle.relations_spec.specs.Spans.{Span, span, covers}
use Rattle.relations_spec.proofs.SetLaws.{in_map, in_flat_map, cmp_itself}
use Rattle.prima_base.specs.Order.{row_cmp}
use Rattle.prima_base.specs.OrderLaws.{row_exact}
use Rattle.prima_base.specs.declared.value.Value.{Value}
use Rattle.history_store_spec.specs.Store.{Cell, shown_at, row_at, rows_from, Holds}
use Rattle.smo_ops_spec.proofs.PastMoments.{before_or_not}
use Rattle.command_codec_spec.proofs.Correctness.{by_test, true_false}
use Rattle.command_codec_spec.proofs.Numbers.{both_true, of_both}
use Rattle.store_image_spec.specs.ItemChecks.{is_among, all_apart, starts_of, are_apart}
use Rattle.store_image_spec.proofs.Checking.{either, first_true, second_true}
use Rattle.store_image_spec.proofs.Filling.{covers_so, covers_both, in_shown, from_shown, fills_one}
use Rattle.store_image_spec.proofs.Filling.{in_key}
use Rattle.store_image_spec.proofs.FittingRows.{AllFilled, only_one}

-- ---- rows among others

all_of : {X : Type 0} (p : X → Bool) (xs : List X) → list_all p xs ≡ true → (x : X) → In x xs
    → p x ≡ true
all_of p [] e x i = absurd i
all_of p (y ∷ ys) e x (inl q) = ap p (sym q) ∙ (of_both (p y) (list_all p ys) e).0
all_of p (y ∷ ys) e x (inr i) = all_of p ys (of_both (p y) (list_all p ys) e).1 x i

all_so : {X : Type 0} (p : X → Bool) (xs : List X) → ((x : X) → p x ≡ true) → list_all p xs ≡ true
all_so p [] f = refl
all_so p (x ∷ xs) f = both_true (p x) (list_all p xs) (f x) (all_so p xs f)

is_among_so : (row : List Value) (rows : List (List Value)) (r : List Value) → In r rows → r ≡ row
    → is_among row rows ≡ true
is_among_so row [] r i e = absurd i
is_among_so row (x ∷ rows) r (inl q) e =
    first_true (is_eq (row_cmp row x)) (is_among row rows)
    (ap (λ y. is_eq (row_cmp row y)) (q ∙ e) ∙ ap is_eq (cmp_itself row_cmp row_exact row))
is_among_so row (x ∷ rows) r (inr i) e = second_true (is_eq (row_cmp row x)) (is_among row rows)
    (is_among_so row rows r i e)

equal_is : (o : Ordering) → is_eq o ≡ true → o ≡ Equal
equal_is Less e = true_false (sym e)
equal_is Equal e = refl
equal_is Greater e = true_false (sym e)

among_is : (row : List Value) (rows : List (List Value)) → is_among row rows ≡ true → In row rows
among_is row [] e = true_false (sym e)
among_is row (x ∷ rows) e = step (either (is_eq (row_cmp row x)) (is_among row rows) e)
    (among_is row rows)
  where
    step : (is_eq (row_cmp row x) ≡ true) ⊎ (is_among row rows ≡ true)
        → (is_among row rows ≡ true → In row rows) → In row (x ∷ rows)
    step (inl q) f = inl (sym (row_exact.same row x (equal_is (row_cmp row x) q)))
    step (inr q) f = inr (f q)

-- ---- the rows of the keys from one id on

module _ (m : ℕ) (cells : List (List Cell)) where
  -- the id of this place holds
  HoldsFrom : List Span → ℕ → Type 0
  HoldsFrom keys j = (j < length keys) × (covers (get_or keys j (span 0 0)) m ≡ true)

  in_rows : (low : ℕ) (keys : List Span) (j : ℕ) → j < length keys
      → covers (get_or keys j (span 0 0)) m ≡ true
      → In (row_at (low + j) m cells) (rows_from low m keys cells)
  in_rows low [] j b c = absurd (omega (arith, b))
  in_rows low (k ∷ keys) zero b c =
      let n : low + 0 ≡ low = omega arith in
      subst (λ x. In (row_at (low + 0) m cells)
      (cond x (row_at low m cells ∷ rows_from (low + 1) m keys cells)
      (rows_from (low + 1) m keys cells))) (sym c) (inl (ap (λ x. row_at x m cells) (sym n)))
  in_rows low (k ∷ keys) (suc j) b c =
      let n : (low + 1) + j ≡ low + suc j = omega arith in
      step (covers k m) (subst (λ x. In (row_at x m cells) (rows_from (low + 1) m keys cells)) n
      (in_rows (low + 1) keys j (omega (arith, b)) c))
    where
      step : (q : Bool) → In (row_at (low + suc j) m cells) (rows_from (low + 1) m keys cells)
          → In (row_at (low + suc j) m cells)
          (cond q (row_at low m cells ∷ rows_from (low + 1) m keys cells)
          (rows_from (low + 1) m keys cells))
      step true i = inr i
      step false i = i

  from_rows : (low : ℕ) (keys : List Span) (row : List Value) → In row (rows_from low m keys cells)
      → (j : ℕ) × (j < length keys) × (covers (get_or keys j (span 0 0)) m ≡ true)
      × (row_at (low + j) m cells ≡ row)
  from_rows low [] row i = absurd i
  from_rows low (k ∷ keys) row i =
      step (λ x. (let r = from_rows (low + 1) keys row x in
      let n : low + suc r.0 ≡ (low + 1) + r.0 = omega arith in let b = r.1 in
      (suc r.0, omega (arith, b), r.2, ap (λ y. row_at y m cells) n ∙ r.3)))
      (covers k m) refl i
    where
      step : (In row (rows_from (low + 1) m keys cells) → (j : ℕ) × (j < length (k ∷ keys))
          × (covers (get_or (k ∷ keys) j (span 0 0)) m ≡ true) × (row_at (low + j) m cells ≡ row))
          → (q : Bool) → covers k m ≡ q → In row
          (cond q (row_at low m cells ∷ rows_from (low + 1) m keys cells)
          (rows_from (low + 1) m keys cells))
          → (j : ℕ) × (j < length (k ∷ keys)) × (covers (get_or (k ∷ keys) j (span 0 0)) m ≡ true)
          × (row_at (low + j) m cells ≡ row)
      step f true e (inl x) = let n : low + 0 ≡ low = omega arith in
          (0, omega arith, e, ap (λ y. row_at y m cells) n ∙ x)
      step f true e (inr x) = f x
      step f false e x = f x

  -- where all are apart, two ids show two rows
  rows_differ : (low : ℕ) (keys : List Span) → all_apart (rows_from low m keys cells) ≡ true
      → (i j : ℕ) → i < j → j < length keys → covers (get_or keys i (span 0 0)) m ≡ true
      → covers (get_or keys j (span 0 0)) m ≡ true
      → row_at (low + i) m cells ≡ row_at (low + j) m cells → ⊥
  rows_differ low [] a i j l b ci cj e = omega (arith, b)
  rows_differ low (k ∷ keys) a i zero l b ci cj e = omega (arith, l)
  rows_differ low (k ∷ keys) a zero (suc j) l b ci cj e =
      let all : all_apart (row_at low m cells ∷ rows_from (low + 1) m keys cells) ≡ true =
      sym (ap (λ q. all_apart (cond q (row_at low m cells ∷ rows_from (low + 1) m keys cells)
      (rows_from (low + 1) m keys cells))) ci) ∙ a in
      let none = (of_both (not (is_among (row_at low m cells) (rows_from (low + 1) m keys cells)))
      (all_apart (rows_from (low + 1) m keys cells)) all).0 in
      let there = in_rows (low + 1) keys j (omega (arith, b)) cj in
      let n : (low + 1) + j ≡ low + suc j = omega arith in
      let z : low + 0 ≡ low = omega arith in
      let same : row_at ((low + 1) + j) m cells ≡ row_at low m cells = ap (λ x. row_at x m cells) n
      ∙ sym e ∙ ap (λ x. row_at x m cells) z in
      true_false (sym none ∙ ap not (is_among_so (row_at low m cells)
      (rows_from (low + 1) m keys cells) (row_at ((low + 1) + j) m cells) there same))
  rows_differ low (k ∷ keys) a (suc i) (suc j) l b ci cj e =
      let p : (low + 1) + i ≡ low + suc i = omega arith in
      let n : (low + 1) + j ≡ low + suc j = omega arith in
      rows_differ (low + 1) keys (rest (covers k m) a) i j (omega (arith, l)) (omega (arith, b)) ci
      cj (ap (λ x. row_at x m cells) p ∙ e ∙ ap (λ x. row_at x m cells) (sym n))
    where
      rest : (q : Bool) → all_apart (cond q (row_at low m cells ∷ rows_from (low + 1) m keys cells)
          (rows_from (low + 1) m keys cells)) ≡ true
          → all_apart (rows_from (low + 1) m keys cells) ≡ true
      rest true h = (of_both (not (is_among (row_at low m cells)
          (rows_from (low + 1) m keys cells))) (all_apart (rows_from (low + 1) m keys cells)) h).1
      rest false h = h

  -- and where two ids show two rows, all are apart
  differ_apart : (low : ℕ) (keys : List Span)
      → ((i j : ℕ) → i < j → j < length keys → covers (get_or keys i (span 0 0)) m ≡ true
      → covers (get_or keys j (span 0 0)) m ≡ true
      → row_at (low + i) m cells ≡ row_at (low + j) m cells → ⊥)
      → all_apart (rows_from low m keys cells) ≡ true
  differ_apart low [] f = refl
  differ_apart low (k ∷ keys) f = step (covers k m) refl (differ_apart (low + 1) keys later)
    where
      later : (i j : ℕ) → i < j → j < length keys → covers (get_or keys i (span 0 0)) m ≡ true
          → covers (get_or keys j (span 0 0)) m ≡ true
          → row_at ((low + 1) + i) m cells ≡ row_at ((low + 1) + j) m cells → ⊥
      later i j l b ci cj e =
          let p : low + suc i ≡ (low + 1) + i = omega arith in
          let n : low + suc j ≡ (low + 1) + j = omega arith in
          f (suc i) (suc j) (omega (arith, l)) (omega (arith, b)) ci cj
          (ap (λ x. row_at x m cells) p ∙ e ∙ ap (λ x. row_at x m cells) (sym n))

      none : covers k m ≡ true → is_among (row_at low m cells) (rows_from (low + 1) m keys cells)
          ≡ false
      none c = by_test (is_among (row_at low m cells) (rows_from (low + 1) m keys cells))
          (λ e. (let r = from_rows (low + 1) keys (row_at low m cells)
          (among_is (row_at low m cells) (rows_from (low + 1) m keys cells) e) in
          let z : low + 0 ≡ low = omega arith in
          let n : low + suc r.0 ≡ (low + 1) + r.0 = omega arith in
          let b = r.1 in
          absurd (f 0 (suc r.0) (omega arith) (omega (arith, b)) c r.2
          (ap (λ x. row_at x m cells) z ∙ sym r.3 ∙ ap (λ x. row_at x m cells) (sym n)))))
          (λ e. e)

      step : (q : Bool) → covers k m ≡ q → all_apart (rows_from (low + 1) m keys cells) ≡ true
          → all_apart (cond q (row_at low m cells ∷ rows_from (low + 1) m keys cells)
          (rows_from (low + 1) m keys cells)) ≡ true
      step true c h = both_true (not (is_among (row_at low m cells)
          (rows_from (low + 1) m keys cells))) (all_apart (rows_from (low + 1) m keys cells))
          (ap not (none c)) h
      step false c h = h

pub apart_at_starts : (keys : List Span) (cells : List (List Cell))
    → ((m i j : ℕ) → Holds keys i m → Holds keys j m → row_at i m cells ≡ row_at j m cells → i ≡ j)
    → are_apart keys cells ≡ true
apart_at_starts keys cells f = all_so (λ m. all_apart (rows_from 0 m keys cells)) (starts_of cells)
    (λ m. differ_apart m cells 0 keys
    (λ i j l b ci cj e. (let p : i ≡ 0 + i = omega arith in
    let n : j ≡ 0 + j = omega arith in
    let same : i ≡ j = f m i j ((omega (arith, l, b)), ci) (b, cj)
    (ap (λ x. row_at x m cells) p ∙ e ∙ ap (λ x. row_at x m cells) (sym n)) in
    omega (arith, same, l))))

-- ---- the last moment before another at which an entry begins

-- at none of them, or the latest of those up to the moment
abbrev Latest : ℕ → List ℕ → Type 0
Latest m starts = ((t : ℕ) → In t starts → t ≤ m → ⊥)
    ⊎ ((s : ℕ) × In s starts × (s ≤ m) × ((t : ℕ) → In t starts → t ≤ m → t ≤ s))

latest : (m : ℕ) (starts : List ℕ) → Latest m starts
latest m [] = inl (λ t i l. i)
latest m (a ∷ starts) = step (before_or_not m a) (latest m starts)
  where
    early : a ≤ m → ((s : ℕ) × In s starts × (s ≤ m) × ((t : ℕ) → In t starts → t ≤ m → t ≤ s))
        → Latest m (a ∷ starts)
    early h r = elim (before_or_not a r.0) [
      | inl l ↦ inr (
        r.0,
        inr r.1,
        r.2,
        λ t i. elim i as (λ x. t ≤ m → t ≤ r.0) [
          | inl e ↦ λ k. omega (arith, e, l)
          | inr j ↦ r.3 t j
        ],
      )
      | inr g ↦ inr (
        a,
        inl refl,
        h,
        λ t i. elim i as (λ x. t ≤ m → t ≤ a) [
          | inl e ↦ λ k. omega (arith, e)
          | inr j ↦ λ k. (let b = r.3 t j k in omega (arith, b, g))
        ],
      )
    ]

    step : (m < a) ⊎ (a ≤ m) → Latest m starts → Latest m (a ∷ starts)
    step (inl l) (inl f) = inl (λ t i. elim i as (λ x. t ≤ m → ⊥) [
      | inl e ↦ λ k. omega (arith, e, l, k)
      | inr j ↦ f t j
    ])
    step (inl l) (inr r) = inr (
      r.0,
      inr r.1,
      r.2,
      λ t i. elim i as (λ x. t ≤ m → t ≤ r.0) [
        | inl e ↦ λ k. absurd (omega (arith, e, l, k))
        | inr j ↦ r.3 t j
      ],
    )
    step (inr h) (inl f) = inr (
      a,
      inl refl,
      h,
      λ t i. elim i as (λ x. t ≤ m → t ≤ a) [
        | inl e ↦ λ k. omega (arith, e)
        | inr j ↦ λ k. absurd (f t j k)
      ],
    )
    step (inr h) (inr r) = early h r

in_starts : (columns : List (List Cell)) (cells : List Cell) (c : Cell) → In cells columns
    → In c cells → In c.period.start (starts_of columns)
in_starts columns cells c i j = in_flat_map (λ (column : List Cell).
    map (λ (d : Cell). d.period.start) column) cells c.period.start columns i
    (in_map (λ (d : Cell). d.period.start) c cells j)

one_value : (xs ys : List Value) (v w d : Value) → xs ≡ w ∷ [] → ys ≡ v ∷ [] → d ≡ v → In d xs
    → xs ≡ ys
one_value xs ys v w d p q e i = p ∙ ap (λ x. x ∷ []) (only_one d w (subst (In d) p i) ∙ e) ∙ sym q

-- between such moments an id shows the same
module _ (keys : List Span) (columns : List (List Cell)) (filled : AllFilled keys columns) (m s : ℕ)
    (early : s ≤ m) (last : (t : ℕ) → In t (starts_of columns) → t ≤ m → t ≤ s) (id : ℕ)
    (holds : Holds keys id m) where
  value_there : (cells : List Cell) → In cells columns
      → (covers (get_or keys id (span 0 0)) s ≡ true) × (shown_at id s cells ≡ shown_at id m cells)
  value_there cells i =
      let fill = (filled cells i).filled id holds.0 in
      let v = fills_one (get_or keys id (span 0 0)) id cells fill m holds.1 in
      let d = from_shown id m cells v.0 (subst (In v.0) (sym v.1) (inl refl)) in
      let k = covers_both d.0.period m d.3 in
      let low = last d.0.period.start (in_starts columns cells d.0 i d.1) k.0 in
      let up = k.1 in
      let own : covers d.0.period s ≡ true = covers_so d.0.period s low
      (omega (arith, early, up)) in
      let key = in_key (get_or keys id (span 0 0)) id cells fill d.0 d.1 d.2 s own in
      let w = fills_one (get_or keys id (span 0 0)) id cells fill s key in (
        key,
        one_value (shown_at id s cells) (shown_at id m cells) v.0 w.0 d.0.value w.1 v.1 d.4
            (in_shown id s cells d.0 d.1 d.2 own),
      )

  row_there : (some : List (List Cell)) → ((cells : List Cell) → In cells some → In cells columns)
      → row_at id s some ≡ row_at id m some
  row_there [] f = refl
  row_there (cells ∷ some) f = ap (λ l. l ++ row_at id s some)
      (value_there cells (f cells (inl refl))).1
      ∙ ap (λ l. shown_at id m cells ++ l) (row_there some (λ c i. f c (inr i)))

pub apart_always : (keys : List Span) (columns : List (List Cell)) → AllFilled keys columns
    → 1 ≤ length columns → are_apart keys columns ≡ true → (m i j : ℕ) → Holds keys i m
    → Holds keys j m
    → row_at i m columns ≡ row_at j m columns → i ≡ j
apart_always keys [] filled some e m i j hi hj q = absurd (omega (arith, some))
apart_always keys (first ∷ more) filled some e m i j hi hj q =
    found (latest m (starts_of (first ∷ more)))
  where
    begun : (t : ℕ) × In t (starts_of (first ∷ more)) × (t ≤ m)
    begun =
        let v = fills_one (get_or keys i (span 0 0)) i first
        ((filled first (inl refl)).filled i hi.0) m hi.1 in
        let d = from_shown i m first v.0 (subst (In v.0) (sym v.1) (inl refl)) in (
          d.0.period.start,
          in_starts (first ∷ more) first d.0 (inl refl) d.1,
          (covers_both d.0.period m d.3).0,
        )

    found : Latest m (starts_of (first ∷ more)) → i ≡ j
    found (inl f) = absurd (let b = begun in f b.0 b.1 b.2)
    found (inr r) =
        let s = r.0 in
        let all = all_of (λ t. all_apart (rows_from 0 t keys (first ∷ more)))
        (starts_of (first ∷ more)) e s r.1 in
        let vi = (value_there keys (first ∷ more) filled m s r.2 r.3 i hi first (inl refl)).0 in
        let vj = (value_there keys (first ∷ more) filled m s r.2 r.3 j hj first (inl refl)).0 in
        let ri = row_there keys (first ∷ more) filled m s r.2 r.3 i hi (first ∷ more) (λ c k. k) in
        let rj = row_there keys (first ∷ more) filled m s r.2 r.3 j hj (first ∷ more) (λ c k. k) in
        let same : row_at i s (first ∷ more) ≡ row_at j s (first ∷ more) = ri ∙ q ∙ sym rj in
        elim (before_or_not i j) [
          | inl l ↦ absurd (rows_differ s (first ∷ more) 0 keys all i j l hj.0 vi vj
              (at s i ∙ same ∙ sym (at s j)))
          | inr g ↦ elim (before_or_not j i) [
            | inl l ↦ absurd (rows_differ s (first ∷ more) 0 keys all j i l hi.0 vj vi
                (at s j ∙ sym same ∙ sym (at s i)))
            | inr k ↦ omega (arith, g, k)
          ]
        ]
      where
        at : (s n : ℕ) → row_at (0 + n) s (first ∷ more) ≡ row_at n s (first ∷ more)
        at s n = let z : 0 + n ≡ n = omega arith in ap (λ x. row_at x s (first ∷ more)) z
