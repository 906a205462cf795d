-- The lexical grammar, by cases on the bytes.
use Rattle.std.specs.Prelude.{ℕ, ◌+◌, ◌-◌, ◌*◌, ◌<◌, ◌≤◌, Bool, true, false, ◌||◌, ◌&&◌, not}
use Rattle.std.specs.Prelude.{nat_lt, nat_le, ◌==◌, List, [], ◌∷◌, length, take, get_or}
use Rattle.std.specs.Prelude.{if◌then◌else◌}
use Rattle.std.specs.List.{prefix_len}
use Rattle.prima_base.specs.Bytes.{is_control, is_digit, is_name_byte}
use Rattle.prima_base.specs.Limits.{max_text}
use Rattle.lexer_spec.specs.declared.kind.TokenKind.TheVariants.{Word, Number, Text, Sign}
use Rattle.lexer_spec.specs.declared.scan_of.Scanned.{Scanned}
use Rattle.lexer_spec.specs.declared.scan_of.Scanned.TheVariants.{End, Of, Bad, Open, Long}
use Rattle.lexer_spec.specs.declared.scan_of.Scanned.TheVariants.{Big}

abbrev pub is_word_start : ℕ → Bool
is_word_start b = (nat_le 97 b && nat_le b 122) || ((nat_le 65 b && nat_le b 90) || b == 95)

abbrev pub is_blank : ℕ → Bool
is_blank b = b == 32 || (b == 9 || (b == 10 || b == 13))

-- ---- between tokens

-- how far blanks and comments reach, `n` bytes after the prefix, in a comment or not; a comment
-- goes to the next LF or the end
unfoldable mutual
  pub gap_len : Bool → ℕ → List ℕ → ℕ
  gap_len comment n [] = n
  gap_len comment n (b ∷ bytes) = if comment then gap_len (not (b == 10)) (n + 1) bytes
      else (if is_blank b then gap_len false (n + 1) bytes
      else (if b == 45 then gap_dash n bytes else n))

  -- after a dash
  pub gap_dash : ℕ → List ℕ → ℕ
  gap_dash n [] = n
  gap_dash n (b ∷ bytes) = if b == 45 then gap_len true (n + 2) bytes else n

-- ---- numbers

-- the number of these digits after those that make `n`
abbrev pub number_from : ℕ → List ℕ → ℕ
number_from n [] = n
number_from n (d ∷ digits) = number_from (n * 10 + (d - 48)) digits

abbrev pub number : List ℕ → ℕ
number digits = number_from 0 digits

-- below -2^63 or above 2^64 - 1
abbrev pub is_big : Bool → ℕ → Bool
is_big true n = nat_lt 9223372036854775808 n
is_big false n = nat_lt 18446744073709551615 n

-- a number of these digits, which stand so many bytes after its prefix
abbrev pub scanned_number : Bool → ℕ → List ℕ → Scanned
scanned_number negative signs digits = if is_big negative (number digits) then Big
    else Of Number (signs + length digits)

-- the digits at the start
abbrev pub digits_of : List ℕ → List ℕ
digits_of bytes = take (prefix_len is_digit bytes) bytes

-- ---- texts

-- what a text stands for, from after its opening quote to its closing one: each doubled quote once
unfoldable mutual
  pub text_value : List ℕ → List ℕ
  text_value [] = []
  text_value (b ∷ bytes) = if b == 39 then quote_value bytes else b ∷ text_value bytes

  -- after a quote inside
  pub quote_value : List ℕ → List ℕ
  quote_value [] = []
  quote_value (b ∷ bytes) = if b == 39 then 39 ∷ text_value bytes else []

-- where a text ends, after its opening quote and `n - 1` more bytes: a doubled quote goes on
unfoldable mutual
  pub text_from : ℕ → List ℕ → Scanned
  text_from n [] = Open
  text_from n (b ∷ bytes) = if b == 39 then text_quote n bytes
      else (if is_control b then Bad n else text_from (n + 1) bytes)

  -- after a quote inside
  pub text_quote : ℕ → List ℕ → Scanned
  text_quote n [] = Of Text (n + 1)
  text_quote n (b ∷ bytes) = if b == 39 then text_from (n + 2) bytes else Of Text (n + 1)

-- a text that ends is too long when it stands for more bytes than a text has at most
abbrev pub scan_sized : ℕ → Scanned → Scanned
scan_sized size (Of kind n) = if nat_lt max_text size then Long else Of kind n
scan_sized size scan_of = scan_of

-- ---- one token

-- a sign, by its first byte and the next, which is 0 at the end
abbrev pub sign : ℕ → ℕ → Scanned
sign b next =
    if (b == 60 && (next == 61 || next == 62)) || (b == 62 && next == 61) then Of Sign 2
    else (if b == 40 || (b == 41 || (b == 44 || (b == 46 || (b == 60 || (b == 61 || b == 62)))))
    then Of Sign 1 else Bad 0)

-- the token of this byte and those after it, as long as possible
unfoldable pub scanned_from : ℕ → List ℕ → Scanned
scanned_from b bytes =
    if is_word_start b then Of Word (prefix_len is_name_byte bytes + 1)
    else (if is_digit b then scanned_number false 0 (digits_of (b ∷ bytes))
    else (if b == 39 then scan_sized (length (text_value bytes)) (text_from 1 bytes)
    else (if b == 45 && is_digit (get_or bytes 0 0) then scanned_number true 1 (digits_of bytes)
    else sign b (get_or bytes 0 0))))

abbrev pub scan_of : List ℕ → Scanned
scan_of [] = End
scan_of (b ∷ bytes) = scanned_from b bytes

-- what is scanned lies within this many bytes
abbrev pub Within : ℕ → Scanned → Type 0
Within len (Of kind n) = (0 < n) × (n ≤ len)
Within len (Bad n) = n < len
Within len _ = Unit {0}
