-- A token alone is a whole token.
use Rattle.std.proofs.Common.{◌≡◌, ℕ, suc, ◌+◌, Bool, true, false, cond, ◌||◌, ◌&&◌, List, [], ◌∷◌}
use Rattle.std.proofs.Common.{length, take, get_or, refl, sym, ap, ◌∙◌, arith, eqb-true, ◌==◌}
use Rattle.std.proofs.Common.{nat_lt}
use Rattle.std.specs.List.{prefix_len}
use Rattle.std.proofs.lemmas.List.Folds.{length-prefix_len}
use Rattle.prima_base.specs.Bytes.{is_control, is_digit, is_name_byte}
use Rattle.lexer_spec.specs.declared.kind.TokenKind.{TokenKind}
use Rattle.lexer_spec.specs.declared.kind.TokenKind.TheVariants.{Word, Number, Text, Sign}
use Rattle.lexer_spec.specs.declared.scan_of.Scanned.{Scanned}
use Rattle.lexer_spec.specs.declared.scan_of.Scanned.TheVariants.{End, Of, Bad, Open, Long}
use Rattle.lexer_spec.specs.declared.scan_of.Scanned.TheVariants.{Big}
use Rattle.lexer_spec.specs.Bytes.{is_word_start, digits_of, number, scanned_number, is_big}
use Rattle.lexer_spec.specs.Bytes.{text_value, quote_value, text_from, text_quote, scan_sized, sign}
use Rattle.lexer_spec.specs.Bytes.{scanned_from, scan_of}
use Rattle.lexer_spec.proofs.Cases.{true_false, by_test}
use Rattle.lexer_spec.proofs.Cuts.{take_whole}

abbrev pub len_of : Scanned → ℕ
len_of (Of kind n) = n
len_of _ = 0

abbrev pub is_of : Scanned → Bool
is_of (Of kind n) = true
is_of _ = false

-- ---- runs of bytes

prefix_step : (p : ℕ → Bool) (b : ℕ) (l : List ℕ) → p b ≡ true
    → prefix_len p (b ∷ l) ≡ suc (prefix_len p l)
prefix_step p b l e = ap (λ t. cond t (1 + prefix_len p l) 0) e ∙ omega arith

prefix_again : (p : ℕ → Bool) (l : List ℕ) → prefix_len p (take (prefix_len p l) l) ≡ prefix_len p l
prefix_again p [] = refl
prefix_again p (b ∷ l) = by_test (p b)
    (λ e. ap (λ k. prefix_len p (take k (b ∷ l))) (prefix_step p b l e)
    ∙ prefix_step p b (take (prefix_len p l) l) e ∙ ap suc (prefix_again p l)
    ∙ sym (prefix_step p b l e))
    (λ e. let z : prefix_len p (b ∷ l) ≡ 0 = ap (λ t. cond t (1 + prefix_len p l) 0) e in
    ap (λ k. prefix_len p (take k (b ∷ l))) z ∙ sym z)

digits_again : (bytes : List ℕ) → digits_of (digits_of bytes) ≡ digits_of bytes
digits_again bytes = take_whole (digits_of bytes) (prefix_len is_digit (digits_of bytes))
    (prefix_again is_digit bytes ∙ sym (length-prefix_len is_digit bytes))

digits_step : (b : ℕ) (bytes : List ℕ) → is_digit b ≡ true
    → digits_of (b ∷ bytes) ≡ b ∷ digits_of bytes
digits_step b bytes e = ap (λ k. take k (b ∷ bytes)) (prefix_step is_digit b bytes e)

-- ---- the cases of what is scanned

module _ (b : ℕ) (bytes : List ℕ) where
  pub at_word : is_word_start b ≡ true → scanned_from b bytes
      ≡ Of Word (prefix_len is_name_byte bytes + 1)
  unfolding scanned_from
  at_word e = ap (λ t. cond t (Of Word (prefix_len is_name_byte bytes + 1))
      (cond (is_digit b) (scanned_number false 0 (digits_of (b ∷ bytes)))
      (cond (b == 39) (scan_sized (length (text_value bytes)) (text_from 1 bytes))
      (cond (b == 45 && is_digit (get_or bytes 0 0)) (scanned_number true 1 (digits_of bytes))
      (sign b (get_or bytes 0 0)))))) e

  pub at_digit : is_word_start b ≡ false → is_digit b ≡ true
      → scanned_from b bytes ≡ scanned_number false 0 (digits_of (b ∷ bytes))
  unfolding scanned_from
  at_digit e f = ap (λ t. cond t (Of Word (prefix_len is_name_byte bytes + 1))
      (cond (is_digit b) (scanned_number false 0 (digits_of (b ∷ bytes)))
      (cond (b == 39) (scan_sized (length (text_value bytes)) (text_from 1 bytes))
      (cond (b == 45 && is_digit (get_or bytes 0 0)) (scanned_number true 1 (digits_of bytes))
      (sign b (get_or bytes 0 0)))))) e
      ∙ ap (λ t. cond t (scanned_number false 0 (digits_of (b ∷ bytes)))
      (cond (b == 39) (scan_sized (length (text_value bytes)) (text_from 1 bytes))
      (cond (b == 45 && is_digit (get_or bytes 0 0)) (scanned_number true 1 (digits_of bytes))
      (sign b (get_or bytes 0 0))))) f

  pub at_quote : is_word_start b ≡ false → is_digit b ≡ false → (b == 39) ≡ true
      → scanned_from b bytes ≡ scan_sized (length (text_value bytes)) (text_from 1 bytes)
  unfolding scanned_from
  at_quote e f g = ap (λ t. cond t (Of Word (prefix_len is_name_byte bytes + 1))
      (cond (is_digit b) (scanned_number false 0 (digits_of (b ∷ bytes)))
      (cond (b == 39) (scan_sized (length (text_value bytes)) (text_from 1 bytes))
      (cond (b == 45 && is_digit (get_or bytes 0 0)) (scanned_number true 1 (digits_of bytes))
      (sign b (get_or bytes 0 0)))))) e
      ∙ ap (λ t. cond t (scanned_number false 0 (digits_of (b ∷ bytes)))
      (cond (b == 39) (scan_sized (length (text_value bytes)) (text_from 1 bytes))
      (cond (b == 45 && is_digit (get_or bytes 0 0)) (scanned_number true 1 (digits_of bytes))
      (sign b (get_or bytes 0 0))))) f
      ∙ ap (λ t. cond t (scan_sized (length (text_value bytes)) (text_from 1 bytes))
      (cond (b == 45 && is_digit (get_or bytes 0 0)) (scanned_number true 1 (digits_of bytes))
      (sign b (get_or bytes 0 0)))) g

  pub at_minus : is_word_start b ≡ false → is_digit b ≡ false → (b == 39) ≡ false
      → (b == 45 && is_digit (get_or bytes 0 0)) ≡ true
      → scanned_from b bytes ≡ scanned_number true 1 (digits_of bytes)
  unfolding scanned_from
  at_minus e f g m = ap (λ t. cond t (Of Word (prefix_len is_name_byte bytes + 1))
      (cond (is_digit b) (scanned_number false 0 (digits_of (b ∷ bytes)))
      (cond (b == 39) (scan_sized (length (text_value bytes)) (text_from 1 bytes))
      (cond (b == 45 && is_digit (get_or bytes 0 0)) (scanned_number true 1 (digits_of bytes))
      (sign b (get_or bytes 0 0)))))) e
      ∙ ap (λ t. cond t (scanned_number false 0 (digits_of (b ∷ bytes)))
      (cond (b == 39) (scan_sized (length (text_value bytes)) (text_from 1 bytes))
      (cond (b == 45 && is_digit (get_or bytes 0 0)) (scanned_number true 1 (digits_of bytes))
      (sign b (get_or bytes 0 0))))) f
      ∙ ap (λ t. cond t (scan_sized (length (text_value bytes)) (text_from 1 bytes))
      (cond (b == 45 && is_digit (get_or bytes 0 0)) (scanned_number true 1 (digits_of bytes))
      (sign b (get_or bytes 0 0)))) g
      ∙ ap (λ t. cond t (scanned_number true 1 (digits_of bytes)) (sign b (get_or bytes 0 0))) m

  pub at_sign : is_word_start b ≡ false → is_digit b ≡ false → (b == 39) ≡ false
      → (b == 45 && is_digit (get_or bytes 0 0)) ≡ false
      → scanned_from b bytes ≡ sign b (get_or bytes 0 0)
  unfolding scanned_from
  at_sign e f g m = ap (λ t. cond t (Of Word (prefix_len is_name_byte bytes + 1))
      (cond (is_digit b) (scanned_number false 0 (digits_of (b ∷ bytes)))
      (cond (b == 39) (scan_sized (length (text_value bytes)) (text_from 1 bytes))
      (cond (b == 45 && is_digit (get_or bytes 0 0)) (scanned_number true 1 (digits_of bytes))
      (sign b (get_or bytes 0 0)))))) e
      ∙ ap (λ t. cond t (scanned_number false 0 (digits_of (b ∷ bytes)))
      (cond (b == 39) (scan_sized (length (text_value bytes)) (text_from 1 bytes))
      (cond (b == 45 && is_digit (get_or bytes 0 0)) (scanned_number true 1 (digits_of bytes))
      (sign b (get_or bytes 0 0))))) f
      ∙ ap (λ t. cond t (scan_sized (length (text_value bytes)) (text_from 1 bytes))
      (cond (b == 45 && is_digit (get_or bytes 0 0)) (scanned_number true 1 (digits_of bytes))
      (sign b (get_or bytes 0 0)))) g
      ∙ ap (λ t. cond t (scanned_number true 1 (digits_of bytes)) (sign b (get_or bytes 0 0))) m

-- ---- each again

abbrev Again : ℕ → List ℕ → TokenKind → ℕ → Type 0
Again b bytes kind n = scan_of (take n (b ∷ bytes)) ≡ Of kind n

number_len : (negative : Bool) (signs : ℕ) (digits : List ℕ) (kind : TokenKind) (n : ℕ)
    → scanned_number negative signs digits ≡ Of kind n → n ≡ signs + length digits
number_len negative signs digits kind n e = by_big (is_big negative (number digits)) e
  where
    by_big : (t : Bool) → cond t Big (Of Number (signs + length digits)) ≡ Of kind n
        → n ≡ signs + length digits
    by_big true h = true_false (sym (ap is_of h))
    by_big false h = sym (ap len_of h)

word_again : (b : ℕ) (bytes : List ℕ) (kind : TokenKind) (n : ℕ) → is_word_start b ≡ true
    → scanned_from b bytes ≡ Of kind n → Again b bytes kind n
word_again b bytes kind n w e =
    let is : Of Word (prefix_len is_name_byte bytes + 1) ≡ Of kind n = sym (at_word b bytes w)
    ∙ e in
    let same : prefix_len is_name_byte bytes + 1 ≡ n = ap len_of is in
    let len : n ≡ suc (prefix_len is_name_byte bytes) = omega (arith, same) in
    ap (λ k. scan_of (take k (b ∷ bytes))) len
    ∙ at_word b (take (prefix_len is_name_byte bytes) bytes) w
    ∙ ap (λ k. Of Word (k + 1)) (prefix_again is_name_byte bytes) ∙ is

digit_again : (b : ℕ) (bytes : List ℕ) (kind : TokenKind) (n : ℕ) → is_word_start b ≡ false
    → is_digit b ≡ true → scanned_from b bytes ≡ Of kind n → Again b bytes kind n
digit_again b bytes kind n w d e =
    let is = sym (at_digit b bytes w d) ∙ e in
    let len : n ≡ prefix_len is_digit (b ∷ bytes) =
    omega (
      arith,
      number_len false 0 (digits_of (b ∷ bytes)) kind n is,
      length-prefix_len is_digit (b ∷ bytes),
    ) in
    ap (λ k. scan_of (take k (b ∷ bytes))) len ∙ ap scan_of (digits_step b bytes d)
    ∙ at_digit b (digits_of bytes) w d
    ∙ ap (scanned_number false 0) (ap digits_of (sym (digits_step b bytes d))
    ∙ digits_again (b ∷ bytes)) ∙ is

-- the next byte is a digit after the digits too
next_digit : (bytes : List ℕ) → is_digit (get_or bytes 0 0) ≡ true
    → is_digit (get_or (digits_of bytes) 0 0) ≡ true
next_digit [] h = h
next_digit (c ∷ bytes) h = ap (λ l. is_digit (get_or l 0 0)) (digits_step c bytes h) ∙ h

pub and_right : (a b : Bool) → (a && b) ≡ true → b ≡ true
and_right true b e = e
and_right false b e = true_false (sym e)

pub and_left : (a b : Bool) → (a && b) ≡ true → a ≡ true
and_left true b e = refl
and_left false b e = true_false (sym e)

and_both : (a b : Bool) → a ≡ true → b ≡ true → (a && b) ≡ true
and_both a b e f = ap (λ t. t && b) e ∙ f

minus_again : (b : ℕ) (bytes : List ℕ) (kind : TokenKind) (n : ℕ) → is_word_start b ≡ false
    → is_digit b ≡ false → (b == 39) ≡ false → (b == 45 && is_digit (get_or bytes 0 0)) ≡ true
    → scanned_from b bytes ≡ Of kind n → Again b bytes kind n
minus_again b bytes kind n w d q m e =
    let is = sym (at_minus b bytes w d q m) ∙ e in
    let len : n ≡ suc (prefix_len is_digit bytes) =
    omega (
      arith,
      number_len true 1 (digits_of bytes) kind n is,
      length-prefix_len is_digit bytes,
    ) in
    ap (λ k. scan_of (take k (b ∷ bytes))) len
    ∙ at_minus b (digits_of bytes) w d q (and_both (b == 45)
    (is_digit (get_or (digits_of bytes) 0 0))
    (and_left (b == 45) (is_digit (get_or bytes 0 0)) m)
    (next_digit bytes (and_right (b == 45) (is_digit (get_or bytes 0 0)) m)))
    ∙ ap (scanned_number true 1) (digits_again bytes) ∙ is

-- what ends a text is within it, and tells what it stands for
abbrev TextWithin : ℕ → List ℕ → TokenKind → ℕ → Type 0
TextWithin k bytes kind n = (j : ℕ) × (n ≡ k + j) × (text_from k (take j bytes) ≡ Of kind n)
    × (text_value (take j bytes) ≡ text_value bytes)

pub quote_step : (k b : ℕ) (bytes : List ℕ) → (b == 39) ≡ true
    → text_from k (b ∷ bytes) ≡ text_quote k bytes
unfolding text_from
quote_step k b bytes e = ap (λ t. cond t (text_quote k bytes)
    (cond (is_control b) (Bad k) (text_from (k + 1) bytes))) e

pub plain_step : (k b : ℕ) (bytes : List ℕ) → (b == 39) ≡ false → is_control b ≡ false
    → text_from k (b ∷ bytes) ≡ text_from (k + 1) bytes
unfolding text_from
plain_step k b bytes e f = ap (λ t. cond t (text_quote k bytes)
    (cond (is_control b) (Bad k) (text_from (k + 1) bytes))) e
    ∙ ap (λ t. cond t (Bad k) (text_from (k + 1) bytes)) f

pub bad_step : (k b : ℕ) (bytes : List ℕ) → (b == 39) ≡ false → is_control b ≡ true
    → text_from k (b ∷ bytes) ≡ Bad k
unfolding text_from
bad_step k b bytes e f = ap (λ t. cond t (text_quote k bytes)
    (cond (is_control b) (Bad k) (text_from (k + 1) bytes))) e
    ∙ ap (λ t. cond t (Bad k) (text_from (k + 1) bytes)) f

pub open_step : (k : ℕ) → text_from k [] ≡ Open
unfolding text_from
open_step k = refl

pub last_step : (k : ℕ) → text_quote k [] ≡ Of Text (k + 1)
unfolding text_quote
last_step k = refl

pub doubled_step : (k c : ℕ) (bytes : List ℕ) → (c == 39) ≡ true
    → text_quote k (c ∷ bytes) ≡ text_from (k + 2) bytes
unfolding text_quote
doubled_step k c bytes e = ap (λ t. cond t (text_from (k + 2) bytes) (Of Text (k + 1))) e

pub closed_step : (k c : ℕ) (bytes : List ℕ) → (c == 39) ≡ false
    → text_quote k (c ∷ bytes) ≡ Of Text (k + 1)
unfolding text_quote
closed_step k c bytes e = ap (λ t. cond t (text_from (k + 2) bytes) (Of Text (k + 1))) e

pub value_plain : (b : ℕ) (bytes : List ℕ) → (b == 39) ≡ false
    → text_value (b ∷ bytes) ≡ b ∷ text_value bytes
unfolding text_value
value_plain b bytes e = ap (λ t. cond t (quote_value bytes) (b ∷ text_value bytes)) e

pub value_doubled : (b c : ℕ) (bytes : List ℕ) → (b == 39) ≡ true → (c == 39) ≡ true
    → text_value (b ∷ c ∷ bytes) ≡ 39 ∷ text_value bytes
unfolding text_value
value_doubled b c bytes e f = ap (λ t. cond t (cond (c == 39) (39 ∷ text_value bytes) [])
    (b ∷ text_value (c ∷ bytes))) e ∙ ap (λ t. cond t (39 ∷ text_value bytes) []) f

pub value_closed : (b c : ℕ) (bytes : List ℕ) → (b == 39) ≡ true → (c == 39) ≡ false
    → text_value (b ∷ c ∷ bytes) ≡ []
unfolding text_value
value_closed b c bytes e f = ap (λ t. cond t (cond (c == 39) (39 ∷ text_value bytes) [])
    (b ∷ text_value (c ∷ bytes))) e ∙ ap (λ t. cond t (39 ∷ text_value bytes) []) f

pub value_last : (b : ℕ) → (b == 39) ≡ true → text_value (b ∷ []) ≡ []
unfolding text_value
value_last b e = ap (λ t. cond t [] (b ∷ text_value [])) e

within_doubled : (k b c : ℕ) (bytes : List ℕ) (kind : TokenKind) (n : ℕ) → (b == 39) ≡ true
    → (c == 39) ≡ true → TextWithin (k + 2) bytes kind n → TextWithin k (b ∷ c ∷ bytes) kind n
within_doubled k b c bytes kind n q r h = (
  suc (suc h.0),
  omega (arith, h.1),
  quote_step k b (c ∷ take h.0 bytes) q ∙ doubled_step k c (take h.0 bytes) r ∙ h.2,
  value_doubled b c (take h.0 bytes) q r ∙ ap (λ l. 39 ∷ l) h.3 ∙ sym (value_doubled b c bytes q r),
)

within_longer : (k b c : ℕ) (bytes : List ℕ) (kind : TokenKind) (n : ℕ) → (b == 39) ≡ false
    → is_control b ≡ false → TextWithin (k + 1) (c ∷ bytes) kind n
    → TextWithin k (b ∷ c ∷ bytes) kind n
within_longer k b c bytes kind n q f h = (
  suc h.0,
  omega (arith, h.1),
  plain_step k b (take h.0 (c ∷ bytes)) q f ∙ h.2,
  value_plain b (take h.0 (c ∷ bytes)) q ∙ ap (λ l. b ∷ l) h.3 ∙ sym (value_plain b (c ∷ bytes) q),
)

within_closed : (k b c : ℕ) (bytes : List ℕ) (kind : TokenKind) (n : ℕ) → (b == 39) ≡ true
    → (c == 39) ≡ false → Of Text (k + 1) ≡ Of kind n → TextWithin k (b ∷ c ∷ bytes) kind n
within_closed k b c bytes kind n q r is = (
  1,
  sym (ap len_of is),
  quote_step k b [] q ∙ last_step k
      ∙ is,
  value_last b q ∙ sym (value_closed b c bytes q r),
)

text_within : (k : ℕ) (bytes : List ℕ) (kind : TokenKind) (n : ℕ) → text_from k bytes ≡ Of kind n
    → TextWithin k bytes kind n
text_within k [] kind n e = true_false (sym (ap is_of (sym (open_step k) ∙ e)))
text_within k (b ∷ []) kind n e = by_test (b == 39)
    (λ q. let len : n ≡ k + 1 = sym (ap len_of
    (sym (last_step k) ∙ sym (quote_step k b [] q) ∙ e)) in (1, len, e, refl))
    (λ q. by_test (is_control b)
    (λ c. true_false (sym (ap is_of (sym (bad_step k b [] q c) ∙ e))))
    (λ c. true_false (sym (ap is_of (sym (open_step (k + 1)) ∙ sym (plain_step k b [] q c) ∙ e)))))
text_within k (b ∷ c ∷ bytes) kind n e = by_test (b == 39)
    (λ q. by_test (c == 39)
    (λ r. within_doubled k b c bytes kind n q r
    (text_within (k + 2) bytes kind n (sym (doubled_step k c bytes r)
    ∙ sym (quote_step k b (c ∷ bytes) q) ∙ e)))
    (λ r. within_closed k b c bytes kind n q r
    (sym (closed_step k c bytes r) ∙ sym (quote_step k b (c ∷ bytes) q) ∙ e)))
    (λ q. by_test (is_control b)
    (λ f. true_false (sym (ap is_of (sym (bad_step k b (c ∷ bytes) q f) ∙ e))))
    (λ f. within_longer k b c bytes kind n q f
    (text_within (k + 1) (c ∷ bytes) kind n (sym (plain_step k b (c ∷ bytes) q f) ∙ e))))

pub sized_of : (size : ℕ) (p : Scanned) (kind : TokenKind) (n : ℕ) → scan_sized size p ≡ Of kind n
    → (p ≡ Of kind n) × (nat_lt 4096 size ≡ false)
sized_of size (Of k m) kind n e = by_size (nat_lt 4096 size) e
  where
    by_size : (t : Bool) → cond t Long (Of k m) ≡ Of kind n → (Of k m ≡ Of kind n) × (t ≡ false)
    by_size true h = true_false (sym (ap is_of h))
    by_size false h = (h, refl)
sized_of size End kind n e = true_false (sym (ap is_of e))
sized_of size (Bad m) kind n e = true_false (sym (ap is_of e))
sized_of size Open kind n e = true_false (sym (ap is_of e))
sized_of size Long kind n e = true_false (sym (ap is_of e))
sized_of size Big kind n e = true_false (sym (ap is_of e))

text_again : (b : ℕ) (bytes : List ℕ) (kind : TokenKind) (n : ℕ) → is_word_start b ≡ false
    → is_digit b ≡ false → (b == 39) ≡ true → scanned_from b bytes ≡ Of kind n
    → Again b bytes kind n
text_again b bytes kind n w d q e =
    let is = sym (at_quote b bytes w d q) ∙ e in
    let s = sized_of (length (text_value bytes)) (text_from 1 bytes) kind n is in
    let h = text_within 1 bytes kind n s.0 in
    let len : n ≡ suc h.0 = omega (arith, h.1) in
    ap (λ k. scan_of (take k (b ∷ bytes))) len
    ∙ at_quote b (take h.0 bytes) w d q
    ∙ ap (λ v. scan_sized (length v) (text_from 1 (take h.0 bytes))) h.3
    ∙ ap (scan_sized (length (text_value bytes))) (h.2 ∙ sym s.0) ∙ is

-- ---- signs

pub or_true : {X : Type 0} (a b : Bool) → (a || b) ≡ true → (a ≡ true → X) → (b ≡ true → X) → X
or_true true b e f g = f refl
or_true false b e f g = g e

one_sign : (b : ℕ) → (b == 40 || (b == 41 || (b == 44
    || (b == 46 || (b == 60 || (b == 61 || b == 62)))))) ≡ true → scan_of (b ∷ []) ≡ Of Sign 1
unfolding scanned_from
one_sign b h =
    or_true (b == 40) (b == 41 || (b == 44 || (b == 46 || (b == 60 || (b == 61 || b == 62))))) h
    (at 40 refl) (λ h.
    or_true (b == 41) (b == 44 || (b == 46 || (b == 60 || (b == 61 || b == 62)))) h (at 41 refl)
    (λ h.
    or_true (b == 44) (b == 46 || (b == 60 || (b == 61 || b == 62))) h (at 44 refl) (λ h.
    or_true (b == 46) (b == 60 || (b == 61 || b == 62)) h (at 46 refl) (λ h.
    or_true (b == 60) (b == 61 || b == 62) h (at 60 refl) (λ h.
    or_true (b == 61) (b == 62) h (at 61 refl) (at 62 refl))))))
  where
    at : (s : ℕ) → scan_of (s ∷ []) ≡ Of Sign 1 → (b == s) ≡ true → scan_of (b ∷ []) ≡ Of Sign 1
    at s e t = ap (λ x. scan_of (x ∷ [])) (eqb-true b s t) ∙ e

abbrev is_two : ℕ → ℕ → Bool
is_two b c = (b == 60 && (c == 61 || c == 62)) || (b == 62 && c == 61)

two_sign : (b c : ℕ) → is_two b c ≡ true → scan_of (b ∷ c ∷ []) ≡ Of Sign 2
unfolding scanned_from
two_sign b c h =
    or_true (b == 60 && (c == 61 || c == 62)) (b == 62 && c == 61) h
    (λ h. or_true (c == 61) (c == 62) (and_right (b == 60) (c == 61 || c == 62) h)
    (at 60 61 refl (and_left (b == 60) (c == 61 || c == 62) h))
    (at 60 62 refl (and_left (b == 60) (c == 61 || c == 62) h)))
    (λ h. at 62 61 refl (and_left (b == 62) (c == 61) h) (and_right (b == 62) (c == 61) h))
  where
    at : (s t : ℕ) → scan_of (s ∷ t ∷ []) ≡ Of Sign 2 → (b == s) ≡ true → (c == t) ≡ true
        → scan_of (b ∷ c ∷ []) ≡ Of Sign 2
    at s t e x y = ap (λ u. scan_of (u ∷ c ∷ [])) (eqb-true b s x)
        ∙ ap (λ u. scan_of (s ∷ u ∷ [])) (eqb-true c t y) ∙ e

two_next : (b : ℕ) (bytes : List ℕ) → is_two b (get_or bytes 0 0) ≡ true → Again b bytes Sign 2
two_next b [] h = or_true (b == 60 && false) (b == 62 && false) h
    (λ h. true_false (sym (and_right (b == 60) false h)))
    (λ h. true_false (sym (and_right (b == 62) false h)))
two_next b (c ∷ bytes) h = two_sign b c h

abbrev one_of : Bool → Scanned
one_of t = cond t (Of Sign 1) (Bad 0)

sign_again : (b : ℕ) (bytes : List ℕ) (kind : TokenKind) (n : ℕ)
    → sign b (get_or bytes 0 0) ≡ Of kind n → Again b bytes kind n
sign_again b bytes kind n e = by_test (is_two b (get_or bytes 0 0)) two one
  where
    two : is_two b (get_or bytes 0 0) ≡ true → Again b bytes kind n
    two h =
        let is : Of Sign 2 ≡ Of kind n = sym (ap
        (λ t. cond t (Of Sign 2) (one_of (b == 40
        || (b == 41 || (b == 44 || (b == 46 || (b == 60 || (b == 61 || b == 62)))))))) h) ∙ e in
        ap (λ k. scan_of (take k (b ∷ bytes))) (sym (ap len_of is)) ∙ two_next b bytes h ∙ is

    only : (t : Bool) → (b == 40 || (b == 41 ||
        (b == 44 || (b == 46 || (b == 60 || (b == 61 || b == 62)))))) ≡ t → one_of t ≡ Of kind n
        → Again b bytes kind n
    only true t is = ap (λ k. scan_of (take k (b ∷ bytes))) (sym (ap len_of is)) ∙ one_sign b t ∙ is
    only false t is = true_false (sym (ap is_of is))

    one : is_two b (get_or bytes 0 0) ≡ false → Again b bytes kind n
    one h = only (b == 40 || (b == 41 || (b == 44
        || (b == 46 || (b == 60 || (b == 61 || b == 62)))))) refl
        (sym (ap (λ t. cond t (Of Sign 2) (one_of
        (b == 40 || (b == 41 || (b == 44 || (b == 46 || (b == 60 || (b == 61 || b == 62)))))))) h)
        ∙ e)

-- ---- any token

pub again : (bytes : List ℕ) (kind : TokenKind) (n : ℕ) → scan_of bytes ≡ Of kind n
    → scan_of (take n bytes) ≡ Of kind n
again [] kind n e = true_false (sym (ap is_of e))
again (b ∷ bytes) kind n e =
    by_test (is_word_start b) (λ w. word_again b bytes kind n w e) (λ w.
    by_test (is_digit b) (λ d. digit_again b bytes kind n w d e) (λ d.
    by_test (b == 39) (λ q. text_again b bytes kind n w d q e) (λ q.
    by_test (b == 45 && is_digit (get_or bytes 0 0)) (λ m. minus_again b bytes kind n w d q m e)
    (λ m.
    sign_again b bytes kind n (sym (at_sign b bytes w d q m) ∙ e)))))
