-- Numbers by their digits.
use Rattle.std.proofs.Common.{ℕ, suc, ◌+◌, ◌-◌, ◌*◌, ◌<◌, ◌≤◌, List, [], ◌∷◌, length, drop, get_or}
use Rattle.std.proofs.Common.{drop-cons, arith}
use Rattle.lexer_spec.specs.Bytes.{number_from}

grows : (n : ℕ) (digits : List ℕ) → n ≤ number_from n digits
grows n [] = omega arith
grows n (d ∷ digits) = omega (arith, grows (n * 10 + (d - 48)) digits)

pub too_large : (digits : List ℕ) (i n most : ℕ) → i < length digits
    → most ≤ n * 10 + (get_or digits i 0 - 48) → most ≤ number_from n (drop i digits)
too_large digits i n most h k = rw (drop-cons digits i 0)
    (omega (arith, grows (n * 10 + (get_or digits i 0 - 48)) (drop (suc i) digits)))
