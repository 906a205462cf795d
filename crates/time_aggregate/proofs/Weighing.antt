-- What the turns up to a moment add up to is what the rows that hold then add up to.
use Rattle.std.specs.Prelude.{◌≡◌, ℕ, ◌+◌, ◌<◌, ◌≤◌, ℤ, pos, ◌+ℤ◌, ◌-ℤ◌, Bool, true, false}
use Rattle.std.specs.Prelude.{cond, nat_le, nat_lt, List, [], ◌∷◌, ◌++◌, map, length}
use Rattle.std.proofs.Common.{refl, inl, inr, suc, get_or, arith}
use Rattle.std.specs.List.{sum_by}
use Rattle.std.specs.List.Sorted.{IsPermutation}
use borrow.Author.Differences.{up, down}
use Rattle.std.proofs.lemmas.Int.{ints}
use Rattle.std.proofs.lemmas.Bool.Decides.{nat_tests}
use Rattle.std.proofs.lemmas.List.Sums.{sum_by-cons}
use Rattle.std.proofs.lemmas.List.Sorted.{sum_by-IsPermutation}
use Rattle.relations_spec.specs.Sets.{In}
use Rattle.relations_spec.specs.Spans.{covers}
use Rattle.relations_spec.specs.Timed.{held_at}
use Rattle.prima_base.specs.declared.timed_row.TimedRow.{TimedRow}
use Rattle.prima_base.specs.Order.{shown}
use Rattle.prima_base.specs.Timed.{entries_of}
use Rattle.time_aggregate.specs.declared.turn.Turn.{Turn}
use Rattle.time_aggregate.specs.Aggregates.{Row, total_by}
use Rattle.time_aggregate.specs.Turns.{weigh, weighed, turns_from, opening, closing}

total_split : {X : Type 0} (f : X → ℤ) (xs : List X)
    → total_by f xs ≡ pos (sum_by (λ x. up (f x)) xs) -ℤ pos (sum_by (λ x. down (f x)) xs)
total_split f [] = refl
total_split f (x ∷ xs) =
    let e = total_split f xs in
    let u = sum_by-cons (λ y. up (f y)) x xs in
    let d = sum_by-cons (λ y. down (f y)) x xs in
    omega (arith, ints)

pub total_permuted : {X : Type 0} (f : X → ℤ) (xs ys : List X) → IsPermutation xs ys
    → total_by f ys ≡ total_by f xs
total_permuted f xs ys p =
    let u = sum_by-IsPermutation (λ x. up (f x)) xs ys p in
    let d = sum_by-IsPermutation (λ x. down (f x)) xs ys p in
    let a = total_split f xs in
    let b = total_split f ys in
    omega (arith, ints)

pub total_join : {X : Type 0} (f : X → ℤ) (xs ys : List X)
    → total_by f (xs ++ ys) ≡ total_by f xs +ℤ total_by f ys
total_join f [] ys = omega (arith, ints)
total_join f (x ∷ xs) ys = let e = total_join f xs ys in omega (arith, ints)

-- the turns up to a moment
abbrev pub upto : ℕ → (ℕ → ℤ) → Turn → ℤ
upto m f t = cond (nat_le t.moment m) (weighed f t) (pos 0)

module _ (m : ℕ) (f : ℕ → ℤ) where
  upto_in : (t : Turn) → t.moment ≤ m → upto m f t ≡ weighed f t
  upto_in t h = let e : nat_le t.moment m ≡ true = grind (arith, nat_tests) in rw e refl

  upto_out : (t : Turn) → m < t.moment → upto m f t ≡ pos 0
  upto_out t h = let e : nat_le t.moment m ≡ false = grind (arith, nat_tests) in rw e refl

  all_in : (turns : List Turn) → ((t : Turn) → In t turns → t.moment ≤ m)
      → total_by (upto m f) turns ≡ weigh f turns
  all_in [] h = refl
  all_in (t ∷ turns) h =
      let e = upto_in t (h t (inl refl)) in
      let k = all_in turns (λ u i. h u (inr i)) in
      omega (arith, ints)

  all_out : (turns : List Turn) → ((t : Turn) → In t turns → m < t.moment)
      → total_by (upto m f) turns ≡ pos 0
  all_out [] h = refl
  all_out (t ∷ turns) h =
      let e = upto_out t (h t (inl refl)) in
      let k = all_out turns (λ u i. h u (inr i)) in
      omega (arith, ints)

  -- a row adds what it adds where its period has the moment
  one_row : (place : ℕ) (row : TimedRow) (n : ℤ) → row.period.start < row.period.end
      → f place ≡ n → upto m f (opening place row) +ℤ upto m f (closing place row)
      ≡ cond (covers row.period m) n (pos 0)
  one_row place row n h e = step (nat_le row.period.start m) (nat_le row.period.end m) refl refl
    where
      step : (a b : Bool) → nat_le row.period.start m ≡ a → nat_le row.period.end m ≡ b
          → upto m f (opening place row) +ℤ upto m f (closing place row)
          ≡ cond (covers row.period m) n (pos 0)
      step true true p q =
          let c : nat_lt m row.period.end ≡ false = grind (arith, nat_tests) in
          rw (p, q, c) (omega (arith, ints))
      step true false p q =
          let c : nat_lt m row.period.end ≡ true = grind (arith, nat_tests) in
          rw (p, q, c) (omega (arith, ints))
      step false true p q = absurd (grind (arith, nat_tests))
      step false false p q =
          rw (p, q) refl

  held_total : (h : Row → ℤ) (row : TimedRow) (rows : List TimedRow)
      → total_by h (held_at (entries_of (row ∷ rows)) m)
      ≡ cond (covers row.period m) (h (map shown row.values.items)) (pos 0)
      +ℤ total_by h (held_at (entries_of rows) m)
  held_total h row rows = elim (covers row.period m) as (λ (b : Bool).
      total_by h (cond b (map shown row.values.items ∷ held_at (entries_of rows) m)
      (held_at (entries_of rows) m)) ≡ cond b (h (map shown row.values.items)) (pos 0)
      +ℤ total_by h (held_at (entries_of rows) m)) [
        | true ↦ refl
        | false ↦ omega (arith, ints)
      ]

  all_rows : (h : Row → ℤ) (place : ℕ) (rows : List TimedRow)
      → ((row : TimedRow) → In row rows → row.period.start < row.period.end)
      → ((k : ℕ) (d : TimedRow) → k < length rows
      → f (place + k) ≡ h (map shown (get_or rows k d).values.items))
      → total_by (upto m f) (turns_from place rows) ≡ total_by h (held_at (entries_of rows) m)
  all_rows h place [] l s = refl
  all_rows h place (row ∷ rows) l s =
      let z : place + 0 ≡ place = omega arith in
      let e = one_row place row (h (map shown row.values.items)) (l row (inl refl))
      (rw z at (s 0 row (omega arith))) in
      let k = all_rows h (place + 1) rows (λ r i. l r (inr i)) (λ n d i.
      (let w : place + 1 + n ≡ place + suc n = omega arith in
      rw w (s (suc n) d (omega arith)))) in
      let t = held_total h row rows in
      omega (arith, ints)

  pub weighed_is_held : (h : Row → ℤ) (place : ℕ) (rows : List TimedRow) (done rest : List Turn)
      → ((row : TimedRow) → In row rows → row.period.start < row.period.end)
      → ((k : ℕ) (d : TimedRow) → k < length rows
      → f (place + k) ≡ h (map shown (get_or rows k d).values.items))
      → IsPermutation (turns_from place rows) (done ++ rest)
      → ((t : Turn) → In t done → t.moment ≤ m) → ((t : Turn) → In t rest → m < t.moment)
      → weigh f done ≡ total_by h (held_at (entries_of rows) m)
  weighed_is_held h place rows done rest l s p a b =
      let e = all_in done a in
      let o = all_out rest b in
      let j = total_join (upto m f) done rest in
      let q = total_permuted (upto m f) (turns_from place rows) (done ++ rest) p in
      let r = all_rows h place rows l s in
      omega (arith, ints)
