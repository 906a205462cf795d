-- Sums, products and greater ones of numbers that are one where they stop are one where they stop.
use Rattle.std.proofs.Common.{◌≡◌, ◌⊎◌, ◌+◌, ◌*◌, ◌≤◌, ◌<◌, ℕ, zero, suc, max, min, ap, sym, arith}
use Rattle.std.proofs.Common.{◌∙◌, inl, inr}
use Rattle.std.proofs.lemmas.Bool.{cases_lt}
use Rattle.std.proofs.lemmas.Nat.{mul-le}
use Rattle.smo_ops_widths.specs.Counted.{stopped}

pub add_stopped : (a b x y : ℕ) → stopped a ≡ stopped x → stopped b ≡ stopped y
    → stopped (a + b) ≡ stopped (x + y)
add_stopped a b x y p q = omega (arith, p, q)

pub max_stopped : (a b x y : ℕ) → stopped a ≡ stopped x → stopped b ≡ stopped y
    → stopped (max a b) ≡ stopped (max x y)
max_stopped a b x y p q = omega (arith, p, q)

pub stopped_twice : (a : ℕ) → stopped (stopped a) ≡ stopped a
stopped_twice a = omega arith

-- a product of a number that stops and one that is not 0 stops
large_first : (a b : ℕ) → 18446744073709551615 ≤ a → 1 ≤ b → 18446744073709551615 ≤ a * b
large_first a b l m = (let p = mul-le a 1 a b (omega arith) m in
    let q : a * 1 ≡ a = omega arith in omega (arith, l, p, q))

large_second : (a b : ℕ) → 1 ≤ a → 18446744073709551615 ≤ b → 18446744073709551615 ≤ a * b
large_second a b m l = (let p = mul-le 1 b a b m (omega arith) in
    let q : 1 * b ≡ b = omega arith in omega (arith, l, p, q))

both_stop : (m n : ℕ) → 18446744073709551615 ≤ m → 18446744073709551615 ≤ n
    → stopped m ≡ stopped n
both_stop m n p q = omega (arith, p, q)

-- equal, or both stop
same_or_large : (a x : ℕ) → stopped a ≡ stopped x
    → (a ≡ x) ⊎ ((18446744073709551615 ≤ a) × (18446744073709551615 ≤ x))
same_or_large a x p = step (cases_lt a 18446744073709551615)
  where
    step : (a < 18446744073709551615) ⊎ (18446744073709551615 ≤ a)
        → (a ≡ x) ⊎ ((18446744073709551615 ≤ a) × (18446744073709551615 ≤ x))
    step (inl l) = inl (omega (arith, p, l))
    step (inr l) = inr (l, omega (arith, p, l))

pub mul_stopped : (a b x y : ℕ) → stopped a ≡ stopped x → stopped b ≡ stopped y
    → stopped (a * b) ≡ stopped (x * y)
mul_stopped zero b x y p q =
    let none : 0 ≡ x = omega (arith, p) in
    let left : 0 * b ≡ 0 = omega arith in
    let right : 0 * y ≡ 0 = omega arith in
    ap stopped (left ∙ sym right) ∙ ap (λ (n : ℕ). stopped (n * y)) none
mul_stopped (suc a) zero x y p q =
    let none : 0 ≡ y = omega (arith, q) in
    let left : suc a * 0 ≡ 0 = omega arith in
    let right : x * 0 ≡ 0 = omega arith in
    ap stopped (left ∙ sym right) ∙ ap (λ (n : ℕ). stopped (x * n)) none
mul_stopped (suc a) (suc b) x y p q = step (same_or_large (suc a) x p) (same_or_large (suc b) y q)
  where
    step : (suc a ≡ x) ⊎ ((18446744073709551615 ≤ suc a) × (18446744073709551615 ≤ x))
        → (suc b ≡ y) ⊎ ((18446744073709551615 ≤ suc b) × (18446744073709551615 ≤ y))
        → stopped (suc a * suc b) ≡ stopped (x * y)
    step (inl e) (inl f) = ap (λ (n : ℕ). stopped (n * suc b)) e
        ∙ ap (λ (n : ℕ). stopped (x * n)) f
    step (inl e) (inr m) = both_stop (suc a * suc b) (x * y)
        (large_second (suc a) (suc b) (omega arith) m.0) (large_second x y (omega (arith, p)) m.1)
    step (inr l) r = both_stop (suc a * suc b) (x * y)
        (large_first (suc a) (suc b) l.0 (omega arith)) (large_first x y l.1 (omega (arith, q)))

-- where it stops at 2^63 it is as it was
pub at_most : (a b : ℕ) → a ≡ stopped b → min a 9223372036854775808 ≡ min 9223372036854775808 b
at_most a b p = omega (arith, p)

pub same_at_most : (a b : ℕ) → stopped b ≡ stopped a
    → min a 9223372036854775808 ≡ min 9223372036854775808 b
same_at_most a b p = omega (arith, p)

-- the greater of what is read on and back, beside a third number and the greatest up to now
pub both_read : (most on back a b w : ℕ) → on ≡ stopped a → back ≡ stopped b
    → stopped (max (max most (max on back)) w) ≡ stopped (max most (max (max a b) w))
both_read most on back a b w p q = omega (arith, p, q)

-- what is read on is left out where it is no greater than the third, or than one up to now
pub back_read : (most back a b w last : ℕ) → back ≡ stopped b → a ≤ max w last
    → stopped last ≤ most
    → stopped (max (max most back) w) ≡ stopped (max most (max (max a b) w))
back_read most back a b w last q l m = omega (arith, q, l, m)

-- the first of them
pub first_read : (all most on back a b w : ℕ) → all ≡ max (max a b) w → on ≡ stopped a
    → back ≡ stopped b → most ≡ max on back
    → (stopped a ≤ most) × (stopped all ≡ stopped (max most w))
first_read all most on back a b w e p q m = (omega (arith, p, m), omega (arith, e, p, q, m))
