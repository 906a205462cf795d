-- What is written of a lexeme is one whole token, whatever follows that does not continue it.
use Rattle.std.proofs.Common.{◌≡◌, ℕ, ℤ, pos, negsuc, suc, ◌+◌, ◌<◌, ◌≤◌, ◌^◌, Bool, true, false}
use Rattle.std.proofs.Common.{cond, not, ◌||◌, ◌==◌, eqb-true, nat_lt, nat_le, get_or, List, []}
use Rattle.std.proofs.Common.{◌∷◌, ◌++◌, length, take, codes, decimal, None, Some, refl, sym, ap}
use Rattle.std.proofs.Common.{◌∙◌, subst, arith, append_assoc, length-append}
use Rattle.std.specs.Fmt.{signed_decimal}
use Rattle.std.specs.List.{prefix_len}
use Rattle.std.specs.Str.{bytes_eq}
use Rattle.std.specs.Int.{IsInRange}
use Rattle.std.proofs.lemmas.Bool.Decides.{nat_tests}
use Rattle.std.proofs.lemmas.Fmt.{digits_decimal, digits_value-decimal, decimal_nonempty}
use Rattle.std.proofs.lemmas.Str.Parse.{IsNumeralModel, numerals_by_fold}
use Rattle.prima_base.specs.Bytes.{is_control, is_digit, is_name_byte, first_from, IsName, IsTxt}
use Rattle.lexer_spec.specs.declared.kind.TokenKind.{TokenKind}
use Rattle.lexer_spec.specs.declared.kind.TokenKind.TheVariants.{Word, Number, Text, Sign}
use Rattle.lexer_spec.specs.declared.scan_of.Scanned.TheVariants.{Of, Long, Big}
use Rattle.lexer_spec.specs.Bytes.{is_word_start, is_blank, gap_len, gap_dash, number_from}
use Rattle.lexer_spec.specs.Bytes.{number as value_of, is_big, scanned_number, digits_of}
use Rattle.lexer_spec.specs.Bytes.{text_value, text_from, text_quote, scan_sized}
use Rattle.lexer_spec.specs.Bytes.{sign as scanned_sign, scan_of}
use Rattle.lexer_spec.specs.Spaced.{Each, NoneNext, is_quote}
use Rattle.lexer_spec.specs.Lexemes.{Lexeme, word, number, text, sign, signed_value, integer, says}
use Rattle.lexer_spec.specs.Lexemes.{is_int, is_one_of}
use Rattle.lexer_spec.proofs.Cases.{true_false, by_test}
use Rattle.lexer_spec.proofs.WholeTokens.{at_word, at_digit, at_quote, at_minus, at_sign}
use Rattle.lexer_spec.proofs.WholeTokens.{quote_step}
use Rattle.lexer_spec.proofs.WholeTokens.{plain_step, doubled_step, closed_step, last_step}
use Rattle.lexer_spec.proofs.WholeTokens.{value_plain, value_doubled, value_closed, value_last}
use Rattle.lexer_spec.proofs.WholeTokens.{or_true}
use Rattle.lexer_spec.proofs.LexemeTests.{sign_exact}
use Rattle.smo_parse.specs.TreeTexts.{doubled}

abbrev pub kind_of : Lexeme → TokenKind
kind_of (word w) = Word
kind_of (number z) = Number
kind_of (text t) = Text
kind_of (sign s) = Sign

-- its bytes: a number without leading zeros, a text in quotes
abbrev pub written : Lexeme → List ℕ
written (word w) = w
written (number z) = signed_decimal z
written (text t) = codes "'" ++ doubled t ++ codes "'"
written (sign s) = s

abbrev pub signs : List (List ℕ)
signs = codes "(" ∷ codes ")" ∷ codes "," ∷ codes "." ∷ codes "=" ∷ codes "<>" ∷ codes "<"
    ∷ codes "<=" ∷ codes ">" ∷ codes ">=" ∷ []

-- a number that a token has: -2^63 to 2^64 - 1
abbrev pub is_number : ℤ → Bool
is_number (pos n) = nat_le n 18446744073709551615
is_number (negsuc n) = nat_le n 9223372036854775807

-- that it can be written
abbrev pub Writable : Lexeme → Type 0
Writable (word w) = IsName w
Writable (number z) = is_number z ≡ true
Writable (text t) = IsTxt t
Writable (sign s) = is_one_of signs s ≡ true

-- a space, a bracket, a comma or a point: it continues no token
abbrev pub closes : ℕ → Bool
closes b = b == 32 || (b == 40 || (b == 41 || (b == 44 || b == 46)))

abbrev pub Closing : List ℕ → Type 0
Closing [] = Unit {0}
Closing (b ∷ bytes) = closes b ≡ true

pub closing_append : (bytes rest : List ℕ) → Closing bytes → Closing rest → Closing (bytes ++ rest)
closing_append [] rest h k = k
closing_append (b ∷ bytes) rest h k = h

-- no gap stands before it, it is one token, and that says it
pub record Token (x : Lexeme) (rest : List ℕ) : Type 0 where
  pub near : gap_len false 0 (written x ++ rest) ≡ 0
  pub whole : scan_of (written x ++ rest) ≡ Of (kind_of x) (length (written x))
  pub means : says (kind_of x) (written x) ≡ x

-- ---- what a byte is

closes_none : (p : ℕ → Bool) → ((b : ℕ) → closes b ≡ true → p b ≡ false) → (rest : List ℕ)
    → Closing rest → NoneNext p rest
closes_none p h [] k = tt
closes_none p h (b ∷ rest) k = h b k

no_name_byte : (b : ℕ) → closes b ≡ true → is_name_byte b ≡ false
no_name_byte b e = grind (arith, nat_tests)

no_digit : (b : ℕ) → closes b ≡ true → is_digit b ≡ false
no_digit b e = grind (arith, nat_tests)

no_quote : (b : ℕ) → closes b ≡ true → is_quote b ≡ false
no_quote b e = grind (arith, nat_tests)

no_second : (b : ℕ) → closes b ≡ true → (b == 61 || b == 62) ≡ false
no_second b e = grind (arith, nat_tests)

no_equal : (b : ℕ) → closes b ≡ true → (b == 61) ≡ false
no_equal b e = grind (arith, nat_tests)

start_of : (b : ℕ) → is_name_byte b ≡ true → is_digit b ≡ false → is_word_start b ≡ true
start_of b e f = grind (arith, nat_tests)

start_no_blank : (b : ℕ) → is_word_start b ≡ true → is_blank b ≡ false
start_no_blank b e = grind (arith, nat_tests)

start_no_dash : (b : ℕ) → is_word_start b ≡ true → (b == 45) ≡ false
start_no_dash b e = grind (arith, nat_tests)

digit_no_start : (b : ℕ) → is_digit b ≡ true → is_word_start b ≡ false
digit_no_start b e = grind (arith, nat_tests)

digit_no_blank : (b : ℕ) → is_digit b ≡ true → is_blank b ≡ false
digit_no_blank b e = grind (arith, nat_tests)

digit_no_dash : (b : ℕ) → is_digit b ≡ true → (b == 45) ≡ false
digit_no_dash b e = grind (arith, nat_tests)

digit_in : (b : ℕ) → is_digit b ≡ true → IsInRange 48 57 b
digit_in b e = (grind (arith, nat_tests), grind (arith, nat_tests))

in_digit : (b : ℕ) → IsInRange 48 57 b → is_digit b ≡ true
in_digit b h = let l : 48 ≤ b = h.0 in let k : b ≤ 57 = h.1 in grind (arith, nat_tests)

-- ---- no gap before it

no_gap : (b : ℕ) (bytes : List ℕ) → is_blank b ≡ false → (b == 45) ≡ false
    → gap_len false 0 (b ∷ bytes) ≡ 0
unfolding gap_len
no_gap b bytes e f = ap (λ t. cond t (gap_len false 1 bytes) (cond (b == 45) (gap_dash 0 bytes) 0))
    e ∙ ap (λ t. cond t (gap_dash 0 bytes) 0) f

no_comment : (c : ℕ) (bytes : List ℕ) → (c == 45) ≡ false → gap_len false 0 (45 ∷ c ∷ bytes) ≡ 0
unfolding gap_len
no_comment c bytes e = ap (λ t. cond t (gap_len true 2 bytes) 0) e

-- ---- words

run_len : (p : ℕ → Bool) (w rest : List ℕ) → Each p w → NoneNext p rest
    → prefix_len p (w ++ rest) ≡ length w
run_len p [] [] h k = refl
run_len p [] (b ∷ rest) h k = ap (λ t. cond t (1 + prefix_len p rest) 0) k
run_len p (b ∷ w) rest h k = let e : 1 + prefix_len p (w ++ rest) ≡ suc (length w) =
    omega (arith, run_len p w rest h.1 k) in ap (λ t. cond t (1 + prefix_len p (w ++ rest)) 0) h.0
    ∙ e

name_bytes : (at : ℕ) (w : List ℕ) → first_from (λ c. not (is_name_byte c)) at w ≡ None
    → Each is_name_byte w
name_bytes at [] h = tt
name_bytes at (b ∷ w) h = by_test (is_name_byte b)
    (λ e. (
      e,
      name_bytes (at + 1) w (sym (ap (λ t.
          cond (not t) (Some at) (first_from (λ c. not (is_name_byte c)) (at + 1) w)) e) ∙ h),
    ))
    (λ e. let z : Some at ≡ None = sym (ap (λ t.
    cond (not t) (Some at) (first_from (λ c. not (is_name_byte c)) (at + 1) w)) e) ∙ h in cc)

word_token : (w rest : List ℕ) → IsName w → Closing rest → Token (word w) rest
word_token [] rest h k = let z : 0 < 0 = h.some in absurd (omega (arith, z))
word_token (b ∷ w) rest h k =
    let valid : cond (is_digit b) (Some 0) (first_from (λ c. not (is_name_byte c)) 0 (b ∷ w))
    ≡ None = h.valid in
    let no : is_digit b ≡ false = by_test (is_digit b)
    (λ e. let z : Some 0 ≡ None = sym (ap
    (λ t. cond t (Some 0) (first_from (λ c. not (is_name_byte c)) 0 (b ∷ w))) e) ∙ valid in cc)
    (λ e. e) in
    let bytes : Each is_name_byte (b ∷ w) = name_bytes 0 (b ∷ w)
    (sym (ap (λ t. cond t (Some 0) (first_from (λ c. not (is_name_byte c)) 0 (b ∷ w))) no)
    ∙ valid) in
    let start : is_word_start b ≡ true = start_of b bytes.0 no in
    let len : length w + 1 ≡ length (b ∷ w) = omega arith in
    record {
      near = no_gap b (w ++ rest) (start_no_blank b start) (start_no_dash b start);
      whole = at_word b (w ++ rest) start ∙ ap (λ n. Of Word (n + 1))
          (run_len is_name_byte w rest bytes.1 (closes_none is_name_byte no_name_byte rest k))
          ∙ ap (Of Word) len;
      means = refl;
    }

-- ---- numbers

own : IsNumeralModel (Each is_digit) value_of
own = numerals_by_fold (Each is_digit) (record
    { empty = tt; parts = λ c cs h. (digit_in c h.0, h.1); more = λ c cs k h. (in_digit c k, h) })
    number_from (record { empty = λ n. refl; more = λ n c cs k. refl })

take_prefix : (prefix rest : List ℕ) (n : ℕ) → n ≡ length prefix → take n (prefix ++ rest) ≡ prefix
take_prefix prefix rest n e = ap (λ k. take k (prefix ++ rest)) e ∙ whole prefix
  where
    whole : (l : List ℕ) → take (length l) (l ++ rest) ≡ l
    whole [] = refl
    whole (x ∷ l) = ap (λ t. x ∷ t) (whole l)

digits_are : (ds rest : List ℕ) → Each is_digit ds → Closing rest → digits_of (ds ++ rest) ≡ ds
digits_are ds rest h k = take_prefix ds rest (prefix_len is_digit (ds ++ rest))
    (run_len is_digit ds rest h (closes_none is_digit no_digit rest k))

not_big : (n : ℕ) → n < 2 ^ 64 → is_big false n ≡ false
not_big n h = let k : n ≤ 18446744073709551615 = omega (arith, h) in grind (arith, nat_tests)

not_low : (n : ℕ) → n ≤ 9223372036854775808 → is_big true n ≡ false
not_low n h = grind (arith, nat_tests)

small : (n : ℕ) → nat_le n 9223372036854775807 ≡ true → n ≤ 9223372036854775807
small n h = grind (arith, nat_tests)

below : (n : ℕ) → n ≤ 9223372036854775808 → n < 2 ^ 64
below n h = omega (arith, h)

-- digits, with no sign before them
digits_token : (n : ℕ) (ds rest : List ℕ) → n < 2 ^ 64 → 0 < length ds → Each is_digit ds
    → value_of ds ≡ n → Closing rest → (gap_len false 0 (ds ++ rest) ≡ 0)
    × (scan_of (ds ++ rest) ≡ Of Number (length ds)) × (integer ds ≡ pos n)
digits_token n [] rest few some h e k = absurd (omega (arith, some))
digits_token n (d ∷ ds) rest few some h e k = (
  no_gap d (ds ++ rest) (digit_no_blank d h.0) (digit_no_dash d h.0),
  at_digit d (ds ++ rest) (digit_no_start d h.0) h.0
      ∙ ap (scanned_number false 0) (digits_are (d ∷ ds) rest h k)
      ∙ ap (λ t. cond t Big (Of Number (0 + length (d ∷ ds)))) (ap (is_big false) e ∙ not_big n few)
      ∙ (let z : 0 + length (d ∷ ds) ≡ length (d ∷ ds) = omega arith in ap (Of Number) z),
  ap (λ t. cond t (signed_value true (value_of ds)) (signed_value false (value_of (d ∷ ds))))
      (digit_no_dash d h.0) ∙ ap pos e,
)

minus_token : (n : ℕ) (ds rest : List ℕ) → suc n ≤ 9223372036854775808 → 0 < length ds
    → Each is_digit ds → value_of ds ≡ suc n → Closing rest
    → (gap_len false 0 (45 ∷ (ds ++ rest)) ≡ 0)
    × (scan_of (45 ∷ (ds ++ rest)) ≡ Of Number (length (45 ∷ ds))) × (integer (45 ∷ ds) ≡ negsuc n)
minus_token n [] rest few some h e k = absurd (omega (arith, some))
minus_token n (d ∷ ds) rest few some h e k = (
  no_comment d (ds ++ rest) (digit_no_dash d h.0),
  at_minus 45 (d ∷ (ds ++ rest)) refl refl refl h.0
      ∙ ap (scanned_number true 1) (digits_are (d ∷ ds) rest h k)
      ∙ ap (λ t. cond t Big (Of Number (1 + length (d ∷ ds))))
      (ap (is_big true) e ∙ not_low (suc n) few)
      ∙ (let z : 1 + length (d ∷ ds) ≡ length (45 ∷ d ∷ ds) = omega arith in ap (Of Number) z),
  ap (signed_value true) e,
)

fits_token : (n : ℕ) → nat_le n 18446744073709551615 ≡ true → n ≤ 18446744073709551615
fits_token n h = grind (arith, nat_tests)

as_number : (n : ℕ) → nat_le n 9223372036854775807 ≡ true → nat_le n 18446744073709551615 ≡ true
as_number n h = let k = small n h in grind (arith, nat_tests)

-- an INT is one
pub any_int : (z : ℤ) → is_int z ≡ true → is_number z ≡ true
any_int (pos n) h = as_number n h
any_int (negsuc n) h = h

number_token : (z : ℤ) (rest : List ℕ) → is_number z ≡ true → Closing rest → Token (number z) rest
number_token (pos n) rest h k =
    let few : n < 2 ^ 64 = let l = fits_token n h in omega (arith, l) in
    let r = digits_token n (decimal n) rest few (decimal_nonempty n few) (digits_decimal own n few)
    (digits_value-decimal own n few) k in
    record { near = r.0; whole = r.1; means = ap number r.2 }
number_token (negsuc n) rest h k =
    let low : suc n ≤ 9223372036854775808 = omega (arith, small n h) in
    let few : suc n < 2 ^ 64 = below (suc n) low in
    let r = minus_token n (decimal (suc n)) rest low (decimal_nonempty (suc n) few)
    (digits_decimal own (suc n) few) (digits_value-decimal own (suc n) few) k in
    record { near = r.0; whole = r.1; means = ap number r.2 }

-- ---- texts

closed : (n : ℕ) (rest : List ℕ) → Closing rest → text_quote n rest ≡ Of Text (n + 1)
closed n [] k = last_step n
closed n (c ∷ rest) k = closed_step n c rest (no_quote c k)

-- a byte inside, and the others
tail_free : (at b : ℕ) (t : List ℕ) → first_from is_control at (b ∷ t) ≡ None
    → (is_control b ≡ false) × (first_from is_control (at + 1) t ≡ None)
tail_free at b t h = by_test (is_control b)
    (λ e. let z : Some at ≡ None = sym (ap (λ c.
    cond c (Some at) (first_from is_control (at + 1) t)) e) ∙ h in cc)
    (λ e. (e, sym (ap (λ c. cond c (Some at) (first_from is_control (at + 1) t)) e) ∙ h))

doubled_quote : (b : ℕ) (t : List ℕ) → (b == 39) ≡ true → doubled (b ∷ t) ≡ 39 ∷ 39 ∷ doubled t
doubled_quote b t e = ap (λ c. cond c (39 ∷ 39 ∷ doubled t) (b ∷ doubled t)) e

doubled_plain : (b : ℕ) (t : List ℕ) → (b == 39) ≡ false → doubled (b ∷ t) ≡ b ∷ doubled t
doubled_plain b t e = ap (λ c. cond c (39 ∷ 39 ∷ doubled t) (b ∷ doubled t)) e

text_follow : (n at : ℕ) (t rest : List ℕ) → first_from is_control at t ≡ None → Closing rest
    → text_from n (doubled t ++ 39 ∷ rest) ≡ Of Text (n + length (doubled t) + 1)
text_follow n at [] rest h k = let e : n + 1 ≡ n + 0 + 1 = omega arith in quote_step n 39 rest refl
    ∙ closed n rest k ∙ ap (Of Text) e
text_follow n at (b ∷ t) rest h k =
    let free = tail_free at b t h in
    by_test (b == 39)
    (λ q. let e : n + 2 + length (doubled t) + 1 ≡ n + length (39 ∷ 39 ∷ doubled t) + 1 =
    omega arith in
    ap (λ l. text_from n (l ++ 39 ∷ rest)) (doubled_quote b t q)
    ∙ quote_step n 39 (39 ∷ (doubled t ++ 39 ∷ rest)) refl
    ∙ doubled_step n 39 (doubled t ++ 39 ∷ rest) refl
    ∙ text_follow (n + 2) (at + 1) t rest free.1 k ∙ ap (Of Text) e
    ∙ ap (λ l. Of Text (n + length l + 1)) (sym (doubled_quote b t q)))
    (λ q. let e : n + 1 + length (doubled t) + 1 ≡ n + length (b ∷ doubled t) + 1 = omega arith in
    ap (λ l. text_from n (l ++ 39 ∷ rest)) (doubled_plain b t q)
    ∙ plain_step n b (doubled t ++ 39 ∷ rest) q free.0
    ∙ text_follow (n + 1) (at + 1) t rest free.1 k ∙ ap (Of Text) e
    ∙ ap (λ l. Of Text (n + length l + 1)) (sym (doubled_plain b t q)))

last_value : (rest : List ℕ) → Closing rest → text_value (39 ∷ rest) ≡ []
last_value [] k = value_last 39 refl
last_value (c ∷ rest) k = value_closed 39 c rest refl (no_quote c k)

text_means : (t rest : List ℕ) → Closing rest → text_value (doubled t ++ 39 ∷ rest) ≡ t
text_means [] rest k = last_value rest k
text_means (b ∷ t) rest k = by_test (b == 39)
    (λ q. ap (λ l. text_value (l ++ 39 ∷ rest)) (doubled_quote b t q)
    ∙ value_doubled 39 39 (doubled t ++ 39 ∷ rest) refl refl
    ∙ ap (λ l. 39 ∷ l) (text_means t rest k) ∙ ap (λ x. x ∷ t) (sym (eqb-true b 39 q)))
    (λ q. ap (λ l. text_value (l ++ 39 ∷ rest)) (doubled_plain b t q)
    ∙ value_plain b (doubled t ++ 39 ∷ rest) q ∙ ap (λ l. b ∷ l) (text_means t rest k))

not_long : (n : ℕ) → n ≤ 4096 → nat_lt 4096 n ≡ false
not_long n h = grind (arith, nat_tests)

text_token : (t rest : List ℕ) → IsTxt t → Closing rest → Token (text t) rest
text_token t rest h k =
    let same : (doubled t ++ 39 ∷ []) ++ rest ≡ doubled t ++ 39 ∷ rest =
    append_assoc (doubled t) (39 ∷ []) rest in
    let len : 1 + length (doubled t) + 1 ≡ length (39 ∷ (doubled t ++ 39 ∷ [])) =
    omega (arith, length-append (doubled t) (39 ∷ [])) in
    record {
      near = no_gap 39 ((doubled t ++ 39 ∷ []) ++ rest) refl refl;
      whole = ap (λ l. scan_of (39 ∷ l)) same ∙ at_quote 39 (doubled t ++ 39 ∷ rest) refl refl refl
          ∙ ap (λ l. scan_sized (length l) (text_from 1 (doubled t ++ 39 ∷ rest)))
          (text_means t rest k)
          ∙ ap (scan_sized (length t)) (text_follow 1 0 t rest h.1 k)
          ∙ ap (λ b. cond b Long (Of Text (1 + length (doubled t) + 1))) (not_long (length t) h.0)
          ∙ ap (Of Text) len;
      means = ap text (text_means t [] tt);
    }

-- ---- signs

-- ( ) , . =
alone : (b : ℕ) (rest : List ℕ) → gap_len false 0 (b ∷ rest) ≡ 0 → scan_of (b ∷ rest) ≡ Of Sign 1
    → Token (sign (b ∷ [])) rest
alone b rest e f = record { near = e; whole = f; means = refl }

pub open_token : (rest : List ℕ) → Token (sign (codes "(")) rest
open_token rest = alone 40 rest (no_gap 40 rest refl refl) (at_sign 40 rest refl refl refl refl)

pub point_token : (rest : List ℕ) → Token (sign (codes ".")) rest
point_token rest = alone 46 rest (no_gap 46 rest refl refl) (at_sign 46 rest refl refl refl refl)

close_token : (rest : List ℕ) → Token (sign (codes ")")) rest
close_token rest = alone 41 rest (no_gap 41 rest refl refl) (at_sign 41 rest refl refl refl refl)

comma_token : (rest : List ℕ) → Token (sign (codes ",")) rest
comma_token rest = alone 44 rest (no_gap 44 rest refl refl) (at_sign 44 rest refl refl refl refl)

equal_token : (rest : List ℕ) → Token (sign (codes "=")) rest
equal_token rest = alone 61 rest (no_gap 61 rest refl refl) (at_sign 61 rest refl refl refl refl)

less_token : (rest : List ℕ) → Closing rest → Token (sign (codes "<")) rest
less_token rest k = alone 60 rest (no_gap 60 rest refl refl)
    (at_sign 60 rest refl refl refl refl ∙ one rest k)
  where
    one : (l : List ℕ) → Closing l → scanned_sign 60 (get_or l 0 0) ≡ Of Sign 1
    one [] h = refl
    one (c ∷ l) h = ap (λ t. cond (t || false) (Of Sign 2) (Of Sign 1)) (no_second c h)

greater_token : (rest : List ℕ) → Closing rest → Token (sign (codes ">")) rest
greater_token rest k = alone 62 rest (no_gap 62 rest refl refl)
    (at_sign 62 rest refl refl refl refl ∙ one rest k)
  where
    one : (l : List ℕ) → Closing l → scanned_sign 62 (get_or l 0 0) ≡ Of Sign 1
    one [] h = refl
    one (c ∷ l) h = ap (λ t. cond t (Of Sign 2) (Of Sign 1)) (no_equal c h)

two : (b c : ℕ) (rest : List ℕ) → gap_len false 0 (b ∷ c ∷ rest) ≡ 0
    → scan_of (b ∷ c ∷ rest) ≡ Of Sign 2 → Token (sign (b ∷ c ∷ [])) rest
two b c rest e f = record { near = e; whole = f; means = refl }

unequal_token : (rest : List ℕ) → Token (sign (codes "<>")) rest
unequal_token rest = two 60 62 rest (no_gap 60 (62 ∷ rest) refl refl)
    (at_sign 60 (62 ∷ rest) refl refl refl refl)

no_more_token : (rest : List ℕ) → Token (sign (codes "<=")) rest
no_more_token rest = two 60 61 rest (no_gap 60 (61 ∷ rest) refl refl)
    (at_sign 60 (61 ∷ rest) refl refl refl refl)

no_less_token : (rest : List ℕ) → Token (sign (codes ">=")) rest
no_less_token rest = two 62 61 rest (no_gap 62 (61 ∷ rest) refl refl)
    (at_sign 62 (61 ∷ rest) refl refl refl refl)

sign_token : (s rest : List ℕ) → is_one_of signs s ≡ true → Closing rest → Token (sign s) rest
sign_token s rest h k =
    or_true (bytes_eq s (codes "(")) _ h (at (codes "(") (open_token rest)) (λ h.
    or_true (bytes_eq s (codes ")")) _ h (at (codes ")") (close_token rest)) (λ h.
    or_true (bytes_eq s (codes ",")) _ h (at (codes ",") (comma_token rest)) (λ h.
    or_true (bytes_eq s (codes ".")) _ h (at (codes ".") (point_token rest)) (λ h.
    or_true (bytes_eq s (codes "=")) _ h (at (codes "=") (equal_token rest)) (λ h.
    or_true (bytes_eq s (codes "<>")) _ h (at (codes "<>") (unequal_token rest)) (λ h.
    or_true (bytes_eq s (codes "<")) _ h (at (codes "<") (less_token rest k)) (λ h.
    or_true (bytes_eq s (codes "<=")) _ h (at (codes "<=") (no_more_token rest)) (λ h.
    or_true (bytes_eq s (codes ">")) _ h (at (codes ">") (greater_token rest k)) (λ h.
    or_true (bytes_eq s (codes ">=")) _ h (at (codes ">=") (no_less_token rest))
    (λ h. true_false (sym h)))))))))))
  where
    at : (w : List ℕ) → Token (sign w) rest → bytes_eq s w ≡ true → Token (sign s) rest
    at w t e = let P : Lexeme → Type 0 = λ x. Token x rest in
        subst P (sym (sign_exact w (sign s) e)) t

-- ---- any lexeme

pub token_of : (x : Lexeme) (rest : List ℕ) → Writable x → Closing rest → Token x rest
token_of (word w) rest h k = word_token w rest h k
token_of (number z) rest h k = number_token z rest h k
token_of (text t) rest h k = text_token t rest h k
token_of (sign s) rest h k = sign_token s rest h k

-- ---- the bytes of a lexeme

-- those of a name
pub name_is_bytes : (w : List ℕ) → IsName w → Each is_name_byte w
name_is_bytes [] h = tt
name_is_bytes (b ∷ w) h =
    let valid : cond (is_digit b) (Some 0) (first_from (λ c. not (is_name_byte c)) 0 (b ∷ w))
    ≡ None = h.valid in
    let no : is_digit b ≡ false = by_test (is_digit b)
    (λ e. let z : Some 0 ≡ None = sym (ap
    (λ t. cond t (Some 0) (first_from (λ c. not (is_name_byte c)) 0 (b ∷ w))) e) ∙ valid in cc)
    (λ e. e) in
    name_bytes 0 (b ∷ w)
    (sym (ap (λ t. cond t (Some 0) (first_from (λ c. not (is_name_byte c)) 0 (b ∷ w))) no)
    ∙ valid)

-- those of a number without its sign, of which there are some
pub number_is_digits : (n : ℕ) → nat_le n 18446744073709551615 ≡ true → Each is_digit (decimal n)
    × (0 < length (decimal n))
number_is_digits n h = let few : n < 2 ^ 64 = let l = fits_token n h in omega (arith, l) in
    (digits_decimal own n few, decimal_nonempty n few)
