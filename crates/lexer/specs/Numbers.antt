-- Integers in the range of their place.
use Rattle.std.specs.Prelude.{ℕ, ℤ, pos, negsuc, nat_le, Option, Some, None, if◌then◌else◌}
use Rattle.lexer_spec.specs.Lexemes.{is_int}

-- the integer, if it is one of 64 bits
abbrev pub in_range : ℤ → Option ℤ
in_range z = if is_int z then Some z else None

-- the number, if it is one from 0 to the most
abbrev pub natural_in : ℕ → ℤ → Option ℕ
natural_in most (pos n) = if nat_le n most then Some n else None
natural_in most (negsuc n) = None
