-- Numbers of several bytes, the highest first, up to a greatest one: the reader stops at the first
-- byte with which no such number goes on.
use Rattle.std.proofs.Common.{◌≡◌, ℕ, zero, suc, ◌+◌, ◌*◌, ◌/◌, ◌%◌, ◌^◌, ◌<◌, ◌≤◌, Bool, true}
use Rattle.std.proofs.Common.{false, ◌&&◌, nat_lt, nat_le, [], ◌∷◌, refl, sym, ap, ◌∙◌, subst}
use Rattle.std.proofs.Common.{arith}
use Rattle.std.specs.Int.{byte_at}
use Rattle.std.proofs.Math.Nat.{div-one, div-mul-le_self, pow-suc}
use Rattle.std.proofs.lemmas.Nat.{pow_pos, pow-add, shr-shr, le-div, div_below}
use Rattle.std.proofs.lemmas.Bool.{ltb-true, leb-true, lt-ltb, le-leb}
use Rattle.command_codec_spec.specs.Reading.{IsCorrectParser, byte, pure, digits}
use Rattle.command_codec_spec.specs.Encoding.{number}
use Rattle.command_codec_spec.proofs.Correctness.{true_false, retold, pure_correct, byte_correct}
use Rattle.command_codec_spec.proofs.Correctness.{then_correct}

-- 256 ^ k
bytes_worth : (k : ℕ) → 256 ^ k ≡ 2 ^ (8 * k)
bytes_worth zero = refl
bytes_worth (suc k) =
    let e : 8 * suc k ≡ 8 + 8 * k = omega arith in
    pow-suc 256 k ∙ ap (λ n. n * 256) (bytes_worth k)
    ∙ (let z : 2 ^ (8 * k) * 256 ≡ 256 * 2 ^ (8 * k) = omega arith in z)
    ∙ sym (pow-add 2 8 (8 * k)) ∙ ap (λ n. 2 ^ n) (sym e)

pub byte_is : (k n : ℕ) → byte_at k n ≡ n / 2 ^ (8 * k) % 256
byte_is zero n = ap (λ m. m % 256) (sym (div-one n))
byte_is (suc k) n = ap (λ w. n / w % 256) (bytes_worth (suc k))

-- the number without its lowest byte
pub higher : (k n : ℕ) → n / 2 ^ (8 * suc k) ≡ n / 2 ^ (8 * k) / 256
higher k n = let e : 8 * suc k ≡ 8 * k + 8 = omega arith in ap (λ j. n / 2 ^ j) e
    ∙ sym (shr-shr n (8 * k) 8)

div_monotone : (m n w : ℕ) → 0 < w → m ≤ n → m / w ≤ n / w
div_monotone m n w h e = le-div (m / w) n w h (omega (arith, e, div-mul-le_self m w))

pub number_suc : (k n : ℕ) → number (suc k) n ≡ byte_at k n ∷ number k n
unfolding number
number_suc k n = refl

pub number_zero : (n : ℕ) → number zero n ≡ []
unfolding number
number_zero n = refl

pub both_true : (a b : Bool) → a ≡ true → b ≡ true → (a && b) ≡ true
both_true true b e h = h
both_true false b e h = e

pub of_both : (a b : Bool) → (a && b) ≡ true → (a ≡ true) × (b ≡ true)
of_both true b e = (refl, e)
of_both false b e = true_false (sym e)

-- the byte goes on with a number that is at most `most`
abbrev pub goes_on : ℕ → ℕ → ℕ → ℕ → Bool
goes_on most k n b = nat_lt b 256 && nat_le (n * 256 + b) (most / 2 ^ (8 * k))

-- a number that begins with n, so many bytes above its end
abbrev pub IsDigits : ℕ → ℕ → ℕ → ℕ → Type 0
IsDigits most k n m = (m ≤ most) × (m / 2 ^ (8 * k) ≡ n)

pub digits_correct : (most k n : ℕ) → n ≤ most / 2 ^ (8 * k)
    → IsCorrectParser (digits most k n) (IsDigits most k n) (λ m. number k m)
unfolding digits
digits_correct most zero n fits = retold (pure n) (λ m. m ≡ n) (IsDigits most zero n) (λ m. [])
    (λ m. number zero m)
    (λ m e. (
      (let P : ℕ → Type 0 = λ x. (x ≤ most)
          × (x / 1 ≡ n) in subst P (sym e) (omega (arith, fits, div-one most), div-one n)),
      sym (number_zero m),
    ))
    (λ m h. sym (div-one m) ∙ h.1) (pure_correct n)
digits_correct most (suc k) n fits =
    then_correct (byte (goes_on most k n)) (λ b. goes_on most k n b ≡ true) (λ b. b ∷ [])
    (λ b. digits most k (n * 256 + b)) (λ b m. IsDigits most k (n * 256 + b) m)
    (λ b m. number k m) (IsDigits most (suc k) n) (λ m. number (suc k) m)
    (byte_correct (goes_on most k n) 0 (both_true (nat_lt 0 256)
    (nat_le (n * 256 + 0) (most / 2 ^ (8 * k))) refl
    (le-leb _ _ (omega (arith, fits, higher k most)))))
    (λ b e. digits_correct most k (n * 256 + b) (leb-true _ _ (of_both _ _ e).1))
    joined parted
  where
    joined : (b m : ℕ) → goes_on most k n b ≡ true → IsDigits most k (n * 256 + b) m
        → IsDigits most (suc k) n m × (number (suc k) m ≡ b ∷ number k m)
    joined b m e h =
        let small : b < 256 = ltb-true _ _ (of_both _ _ e).0 in
        let prefix : m / 2 ^ (8 * k) ≡ n * 256 + b = h.1 in (
          (
            h.0,
            higher k m ∙ (let z : m / 2 ^ (8 * k) / 256 ≡ n = omega (arith, prefix, small) in
                z),
          ),
          number_suc k m ∙ ap (λ c. c ∷ number k m)
              (byte_is k m ∙ (let z : m / 2 ^ (8 * k) % 256 ≡ b = omega (arith, prefix, small) in
              z)),
        )

    parted : (m : ℕ) → IsDigits most (suc k) n m → (b : ℕ) × (goes_on most k n b ≡ true)
        × IsDigits most k (n * 256 + b) m
    parted m h =
        let q = m / 2 ^ (8 * k) in
        let prefix : q / 256 ≡ n = sym (higher k m) ∙ h.1 in
        let whole : q ≡ n * 256 + q % 256 = omega (arith, prefix) in
        let below : q ≤ most / 2 ^ (8 * k) = div_monotone m most (2 ^ (8 * k)) (pow_pos (8 * k))
        h.0 in (
          q % 256,
          both_true (nat_lt (q % 256) 256) (nat_le (n * 256 + q % 256) (most / 2 ^ (8 * k)))
              (lt-ltb _ _ (omega arith)) (le-leb _ _ (omega (arith, whole, below))),
          (h.0, whole),
        )

-- a number of so many bytes, at most `most`
pub number_correct : (most k : ℕ) → most < 2 ^ (8 * k)
    → IsCorrectParser (digits most k 0) (λ n. n ≤ most) (λ n. number k n)
number_correct most k small = retold (digits most k 0) (IsDigits most k 0) (λ n. n ≤ most)
    (λ n. number k n) (λ n. number k n) (λ n h. (h.0, refl))
    (λ n h. (
      h,
      (let below : n < 1 * 2 ^ (8 * k) = omega (arith, h, small) in
          let z : n / 2 ^ (8 * k) < 1 = div_below n (2 ^ (8 * k)) 1 (pow_pos (8 * k)) below in
          omega (arith, z)),
    ))
    (digits_correct most k 0 (omega arith))
