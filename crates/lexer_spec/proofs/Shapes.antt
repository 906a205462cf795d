-- Each token has its kind's form, and what stands after it does not continue it.
use Rattle.std.proofs.Common.{◌≡◌, ℕ, suc, ◌+◌, ◌<◌, ◌≤◌, Bool, true, cond, ◌&&◌, ◌==◌, eqb-true}
use Rattle.std.proofs.Common.{nat_lt, get_or, List, [], ◌∷◌, ◌++◌, length, take, drop, false, refl}
use Rattle.std.proofs.Common.{sym, ap, ◌∙◌, subst, arith, inl, inr, Option, None, Some}
use Rattle.std.specs.List.{prefix_len}
use Rattle.std.proofs.lemmas.Bool.Decides.{nat_tests}
use Rattle.prima_base.specs.Bytes.{is_control, is_digit, is_name_byte}
use Rattle.lexer_spec.specs.declared.kind.TokenKind.{TokenKind}
use Rattle.lexer_spec.specs.declared.kind.TokenKind.TheVariants.{Word, Number, Text, Sign}
use Rattle.lexer_spec.specs.declared.scan_of.Scanned.{Scanned}
use Rattle.lexer_spec.specs.declared.scan_of.Scanned.TheVariants.{End, Of, Bad, Open, Long}
use Rattle.lexer_spec.specs.declared.scan_of.Scanned.TheVariants.{Big}
use Rattle.lexer_spec.specs.declared.token.Token.{Token}
use Rattle.lexer_spec.specs.declared.fault.LexFault.{LexFault}
use Rattle.lexer_spec.specs.declared.fault.LexFault.TheVariants.{BadByte, OpenQuote, BigNumber}
use Rattle.lexer_spec.specs.declared.fault.LexFault.TheVariants.{LongText}
use Rattle.lexer_spec.specs.Bytes.{is_word_start, digits_of, number, scanned_number, is_big}
use Rattle.lexer_spec.specs.Bytes.{text_value, text_from, scan_sized, sign, scanned_from, scan_of}
use Rattle.lexer_spec.specs.Bytes.{gap_len}
use Rattle.lexer_spec.specs.Lexed.{Lexes, EndsBy, after_gap}
use Rattle.lexer_spec.specs.Spaced as s
use Rattle.lexer_spec.specs.Spaced.{Each, NoneNext, IsGap, GapEnds, is_quote, IsLiteral}
use Rattle.lexer_spec.specs.Spaced.{are_sign, is_one_sign, IsToken, IsOpen, BeginsNothing}
use Rattle.lexer_spec.specs.Spaced.{IsFault, EndsSo, Spaced}
use Rattle.lexer_spec.proofs.Cases.{true_false, by_test}
use Rattle.lexer_spec.proofs.WholeTokens.{len_of, is_of, at_word, at_digit, at_quote, at_minus}
use Rattle.lexer_spec.proofs.WholeTokens.{at_sign, quote_step, plain_step, bad_step, open_step}
use Rattle.lexer_spec.proofs.WholeTokens.{last_step, doubled_step, closed_step, value_plain}
use Rattle.lexer_spec.proofs.WholeTokens.{value_doubled, value_closed, value_last, sized_of}
use Rattle.lexer_spec.proofs.WholeTokens.{and_left, and_right}
use Rattle.lexer_spec.proofs.Gaps.{gap_is}

-- ---- runs of bytes

abbrev Run : (ℕ → Bool) → List ℕ → Type 0
Run p l = (prefix : List ℕ) × (rest : List ℕ) × (l ≡ prefix ++ rest)
    × (prefix_len p l ≡ length prefix) × (take (prefix_len p l) l ≡ prefix) × Each p prefix
    × NoneNext p rest

one_more : (p : ℕ → Bool) (b : ℕ) (l : List ℕ) → p b ≡ true → Run p l → Run p (b ∷ l)
one_more p b l e h =
    let z : prefix_len p (b ∷ l) ≡ suc (prefix_len p l) = ap (λ t. cond t (1 + prefix_len p l) 0) e
    ∙ omega arith in (
      b ∷ h.0,
      h.1,
      ap (λ k. b ∷ k) h.2,
      omega (arith, z, h.3),
      ap (λ k. take k (b ∷ l)) z
          ∙ ap (λ k. b ∷ k) h.4,
      (e, h.5),
      h.6,
    )

run : (p : ℕ → Bool) (l : List ℕ) → Run p l
run p [] = ([], [], refl, refl, refl, tt, tt)
run p (b ∷ l) = by_test (p b) (λ e. one_more p b l e (run p l))
    (λ e. let z : prefix_len p (b ∷ l) ≡ 0 = ap (λ t. cond t (1 + prefix_len p l) 0) e in
    ([], b ∷ l, refl, z, ap (λ k. take k (b ∷ l)) z, tt, e))

-- ---- what the bytes of what is scanned are

-- the first n of these bytes are a token of the kind
abbrev Shaped : TokenKind → ℕ → List ℕ → Type 0
Shaped kind n bytes = (text : List ℕ) × (rest : List ℕ) × (bytes ≡ text ++ rest) × (n ≡ length text)
    × IsToken kind text rest

as_kind : (k kind : TokenKind) (m n : ℕ) (bytes : List ℕ) → Of k m ≡ Of kind n → Shaped k m bytes
    → Shaped kind n bytes
as_kind k kind m n bytes e h =
    let z : k ≡ kind = cc in
    let y : m ≡ n = ap len_of e in
    let P : TokenKind → Type 0 = λ x. Shaped x n bytes in
    let Q : ℕ → Type 0 = λ x. Shaped k x bytes in
    subst P z (subst Q y h)

word_shape : (b : ℕ) (bytes : List ℕ) → is_word_start b ≡ true
    → Shaped Word (prefix_len is_name_byte bytes + 1) (b ∷ bytes)
word_shape b bytes e = let r = run is_name_byte bytes in
    (b ∷ r.0, r.1, ap (λ l. b ∷ l) r.2, omega (arith, r.3), (b, r.0, refl, e, r.5, r.6))

not_big : (negative : Bool) (n : ℕ) (kind : TokenKind) (k m : ℕ)
    → cond (is_big negative n) Big (Of Number k) ≡ Of kind m → (is_big negative n ≡ false)
    × (Of Number k ≡ Of kind m)
not_big negative n kind k m e = by_big (is_big negative n) refl e
  where
    by_big : (t : Bool) → is_big negative n ≡ t → cond t Big (Of Number k) ≡ Of kind m
        → (is_big negative n ≡ false) × (Of Number k ≡ Of kind m)
    by_big true f h = true_false (sym (ap is_of h))
    by_big false f h = (f, h)

small_enough : (n : ℕ) → is_big false n ≡ false → n ≤ 18446744073709551615
small_enough n e = grind (arith, nat_tests)

great_enough : (n : ℕ) → is_big true n ≡ false → n ≤ 9223372036854775808
great_enough n e = grind (arith, nat_tests)

-- digits, of which there is one at least
digit_shape : (b : ℕ) (bytes : List ℕ) (kind : TokenKind) (n : ℕ) → is_digit b ≡ true
    → scanned_number false 0 (digits_of (b ∷ bytes)) ≡ Of kind n → Shaped kind n (b ∷ bytes)
unfolding one_more
digit_shape b bytes kind n d e =
    let r = run is_digit bytes in
    let o = one_more is_digit b bytes d r in
    let k = not_big false (number (digits_of (b ∷ bytes))) kind (0 + length (digits_of (b ∷ bytes)))
    n e in
    let same : digits_of (b ∷ bytes) ≡ b ∷ r.0 = o.4 in
    let fits : number (b ∷ r.0) ≤ 18446744073709551615 =
    small_enough (number (b ∷ r.0)) (sym (ap (λ l. is_big false (number l)) same) ∙ k.0) in
    let len : 0 + length (digits_of (b ∷ bytes)) ≡ length (b ∷ r.0) =
    omega (arith, ap length same) in
    as_kind Number kind (0 + length (digits_of (b ∷ bytes))) n (b ∷ bytes) k.1
    (b ∷ r.0, r.1, o.2, len, (b, r.0, (d, r.5), r.6, inl (refl, fits)))

minus_shape : (b : ℕ) (bytes : List ℕ) (kind : TokenKind) (n : ℕ)
    → (b == 45 && is_digit (get_or bytes 0 0)) ≡ true
    → scanned_number true 1 (digits_of bytes) ≡ Of kind n → Shaped kind n (b ∷ bytes)
unfolding one_more
minus_shape b [] kind n m e = true_false (sym (and_right (b == 45) false m))
minus_shape b (c ∷ bytes) kind n m e =
    let d : is_digit c ≡ true = and_right (b == 45) (is_digit c) m in
    let r = run is_digit bytes in
    let o = one_more is_digit c bytes d r in
    let k = not_big true (number (digits_of (c ∷ bytes))) kind (1 + length (digits_of (c ∷ bytes)))
    n e in
    let same : digits_of (c ∷ bytes) ≡ c ∷ r.0 = o.4 in
    let fits : number (c ∷ r.0) ≤ 9223372036854775808 =
    great_enough (number (c ∷ r.0)) (sym (ap (λ l. is_big true (number l)) same) ∙ k.0) in
    let len : 1 + length (digits_of (c ∷ bytes)) ≡ length (b ∷ c ∷ r.0) =
    omega (arith, ap length same) in
    let dash : b ≡ 45 = eqb-true b 45 (and_left (b == 45) (is_digit c) m) in
    as_kind Number kind (1 + length (digits_of (c ∷ bytes))) n (b ∷ c ∷ bytes) k.1 (
      b ∷ c ∷ r.0,
      r.1,
      ap (λ l. b ∷ l) o.2,
      len,
      (c, r.0, (d, r.5), r.6, inr (ap (λ x. x ∷ c ∷ r.0) dash, fits)),
    )

-- ---- texts

-- the literal after so many bytes of it
abbrev Literal : ℕ → List ℕ → TokenKind → ℕ → Type 0
Literal k bytes kind n = (inner : List ℕ) × (rest : List ℕ) × (bytes ≡ inner ++ rest)
    × (Of Text (k + length inner) ≡ Of kind n) × IsLiteral (text_value bytes) inner
    × NoneNext is_quote rest

valued : (v w : List ℕ) (inner : List ℕ) → v ≡ w → IsLiteral w inner → IsLiteral v inner
valued v w inner e h = let P : List ℕ → Type 0 = λ x. IsLiteral x inner in subst P (sym e) h

quoted : (b : ℕ) (v inner : List ℕ) → (b == 39) ≡ true → IsLiteral v (39 ∷ inner)
    → IsLiteral v (b ∷ inner)
quoted b v inner e h = let P : ℕ → Type 0 = λ x. IsLiteral v (x ∷ inner) in
    subst P (sym (eqb-true b 39 e)) h

closes : (k b : ℕ) (bytes : List ℕ) (kind : TokenKind) (n : ℕ) → (b == 39) ≡ true
    → text_value (b ∷ bytes) ≡ [] → NoneNext is_quote bytes → Of Text (k + 1) ≡ Of kind n
    → Literal k (b ∷ bytes) kind n
closes k b bytes kind n q v h e = (
  b ∷ [],
  bytes,
  refl,
  e,
  quoted b (text_value (b ∷ bytes)) [] q (valued (text_value (b ∷ bytes)) [] (39 ∷ []) v
      s.closed),
  h,
)

goes_on : (k b : ℕ) (bytes : List ℕ) (kind : TokenKind) (n : ℕ) → (b == 39) ≡ false
    → is_control b ≡ false → Literal (k + 1) bytes kind n → Literal k (b ∷ bytes) kind n
goes_on k b bytes kind n q c h =
    let len : k + length (b ∷ h.0) ≡ k + 1 + length h.0 = omega arith in (
      b ∷ h.0,
      h.1,
      ap (λ l. b ∷ l) h.2,
      ap (Of Text) len ∙ h.3,
      valued (text_value (b ∷ bytes)) (b ∷ text_value bytes) (b ∷ h.0) (value_plain b bytes q)
          (s.a_byte b (text_value bytes) h.0 q c h.4),
      h.5,
    )

doubles : (k b c : ℕ) (bytes : List ℕ) (kind : TokenKind) (n : ℕ) → (b == 39) ≡ true
    → (c == 39) ≡ true → Literal (k + 2) bytes kind n → Literal k (b ∷ c ∷ bytes) kind n
doubles k b c bytes kind n q r h =
    let len : k + length (b ∷ c ∷ h.0) ≡ k + 2 + length h.0 = omega arith in
    let P : ℕ → Type 0 = λ x. IsLiteral (text_value (b ∷ c ∷ bytes)) (39 ∷ x ∷ h.0) in (
      b ∷ c ∷ h.0,
      h.1,
      ap (λ l. b ∷ c ∷ l) h.2,
      ap (Of Text) len ∙ h.3,
      quoted b (text_value (b ∷ c ∷ bytes)) (c ∷ h.0) q
          (subst P (sym (eqb-true c 39 r)) (valued (text_value (b ∷ c ∷ bytes))
          (39 ∷ text_value bytes) (39 ∷ 39 ∷ h.0) (value_doubled b c bytes q r)
          (s.a_quote (text_value bytes) h.0 h.4))),
      h.5,
    )

-- how what stands after so many bytes of a literal ends
abbrev TextEnds : ℕ → List ℕ → Scanned → Type 0
TextEnds k bytes (Of kind n) = Literal k bytes kind n
TextEnds k bytes (Bad n) = (inner : List ℕ) × (c : ℕ) × (more : List ℕ)
    × (bytes ≡ inner ++ c ∷ more) × IsOpen inner × (is_control c ≡ true) × (n ≡ k + length inner)
TextEnds k bytes Open = IsOpen bytes
TextEnds k bytes _ = ⊥

quote_open : (b : ℕ) (bytes : List ℕ) → (b == 39) ≡ true → IsOpen (39 ∷ bytes) → IsOpen (b ∷ bytes)
quote_open b bytes e h = let P : ℕ → Type 0 = λ x. IsOpen (x ∷ bytes) in
    subst P (sym (eqb-true b 39 e)) h

two_quotes : (b c : ℕ) (bytes : List ℕ) → (b == 39) ≡ true → (c == 39) ≡ true → IsOpen bytes
    → IsOpen (b ∷ c ∷ bytes)
two_quotes b c bytes q r h = let P : ℕ → Type 0 = λ x. IsOpen (39 ∷ x ∷ bytes) in
    quote_open b (c ∷ bytes) q (subst P (sym (eqb-true c 39 r)) (s.a_quote_more bytes h))

ends_on : (k b : ℕ) (bytes : List ℕ) (p : Scanned) → (b == 39) ≡ false → is_control b ≡ false
    → TextEnds (k + 1) bytes p → TextEnds k (b ∷ bytes) p
ends_on k b bytes (Of kind n) q c h = goes_on k b bytes kind n q c h
ends_on k b bytes (Bad n) q c h = (
  b ∷ h.0,
  h.1,
  h.2,
  ap (λ l. b ∷ l) h.3,
  s.a_byte_more b h.0 q c h.4,
  h.5,
  omega (arith, h.6),
)
ends_on k b bytes Open q c h = s.a_byte_more b bytes q c h
ends_on k b bytes End q c h = h
ends_on k b bytes Long q c h = h
ends_on k b bytes Big q c h = h

ends_doubled : (k b c : ℕ) (bytes : List ℕ) (p : Scanned) → (b == 39) ≡ true → (c == 39) ≡ true
    → TextEnds (k + 2) bytes p → TextEnds k (b ∷ c ∷ bytes) p
ends_doubled k b c bytes (Of kind n) q r h = doubles k b c bytes kind n q r h
ends_doubled k b c bytes (Bad n) q r h = (
  b ∷ c ∷ h.0,
  h.1,
  h.2,
  ap (λ l. b ∷ c ∷ l) h.3,
  two_quotes b c h.0 q r h.4,
  h.5,
  omega (arith, h.6),
)
ends_doubled k b c bytes Open q r h = two_quotes b c bytes q r h
ends_doubled k b c bytes End q r h = h
ends_doubled k b c bytes Long q r h = h
ends_doubled k b c bytes Big q r h = h

ends_as : (k : ℕ) (bytes : List ℕ) (p r : Scanned) → p ≡ r → TextEnds k bytes r → TextEnds k bytes p
ends_as k bytes p r e h = let P : Scanned → Type 0 = λ x. TextEnds k bytes x in subst P (sym e) h

-- a control byte ends it
stops_at : (k b : ℕ) (bytes : List ℕ) → is_control b ≡ true → TextEnds k (b ∷ bytes) (Bad k)
stops_at k b bytes c = ([], b, bytes, refl, s.opened, c, omega arith)

text_ends : (k : ℕ) (bytes : List ℕ) → TextEnds k bytes (text_from k bytes)
text_ends k [] = ends_as k [] (text_from k []) Open (open_step k) s.opened
text_ends k (b ∷ []) = by_test (b == 39)
    (λ q. ends_as k (b ∷ []) (text_from k (b ∷ [])) (Of Text (k + 1))
    (quote_step k b [] q ∙ last_step k) (closes k b [] Text (k + 1) q (value_last b q) tt refl))
    (λ q. by_test (is_control b)
    (λ c. ends_as k (b ∷ []) (text_from k (b ∷ [])) (Bad k) (bad_step k b [] q c)
    (stops_at k b [] c))
    (λ c. ends_as k (b ∷ []) (text_from k (b ∷ [])) Open (plain_step k b [] q c ∙ open_step (k + 1))
    (s.a_byte_more b [] q c s.opened)))
text_ends k (b ∷ c ∷ bytes) = by_test (b == 39)
    (λ q. by_test (c == 39)
    (λ r. ends_as k (b ∷ c ∷ bytes) (text_from k (b ∷ c ∷ bytes)) (text_from (k + 2) bytes)
    (quote_step k b (c ∷ bytes) q ∙ doubled_step k c bytes r)
    (ends_doubled k b c bytes (text_from (k + 2) bytes) q r (text_ends (k + 2) bytes)))
    (λ r. ends_as k (b ∷ c ∷ bytes) (text_from k (b ∷ c ∷ bytes)) (Of Text (k + 1))
    (quote_step k b (c ∷ bytes) q ∙ closed_step k c bytes r)
    (closes k b (c ∷ bytes) Text (k + 1) q (value_closed b c bytes q r) r refl)))
    (λ q. by_test (is_control b)
    (λ f. ends_as k (b ∷ c ∷ bytes) (text_from k (b ∷ c ∷ bytes)) (Bad k)
    (bad_step k b (c ∷ bytes) q f) (stops_at k b (c ∷ bytes) f))
    (λ f. ends_as k (b ∷ c ∷ bytes) (text_from k (b ∷ c ∷ bytes)) (text_from (k + 1) (c ∷ bytes))
    (plain_step k b (c ∷ bytes) q f) (ends_on k b (c ∷ bytes) (text_from (k + 1) (c ∷ bytes)) q
    f (text_ends (k + 1) (c ∷ bytes)))))

literal : (k : ℕ) (bytes : List ℕ) (kind : TokenKind) (n : ℕ) → text_from k bytes ≡ Of kind n
    → Literal k bytes kind n
literal k bytes kind n e = let P : Scanned → Type 0 = λ x. TextEnds k bytes x in
    subst P e (text_ends k bytes)

short_enough : (n : ℕ) → nat_lt 4096 n ≡ false → n ≤ 4096
short_enough n e = grind (arith, nat_tests)

text_shape : (b : ℕ) (bytes : List ℕ) (kind : TokenKind) (n : ℕ) → (b == 39) ≡ true
    → scan_sized (length (text_value bytes)) (text_from 1 bytes) ≡ Of kind n
    → Shaped kind n (b ∷ bytes)
text_shape b bytes kind n q e =
    let z = sized_of (length (text_value bytes)) (text_from 1 bytes) kind n e in
    let h = literal 1 bytes kind n z.0 in
    let len : 1 + length h.0 ≡ length (b ∷ h.0) = omega arith in
    as_kind Text kind (1 + length h.0) n (b ∷ bytes) h.3 (
      b ∷ h.0,
      h.1,
      ap (λ l. b ∷ l) h.2,
      len,
      (
        text_value bytes,
        h.0,
        ap (λ x. x ∷ h.0) (eqb-true b 39 q),
        h.4,
        short_enough (length (text_value bytes)) z.1,
        h.5,
      ),
    )

-- ---- signs

abbrev single : ℕ → Scanned
single b = cond (is_one_sign b) (Of Sign 1) (Bad 0)

two_shape : (b c : ℕ) (bytes : List ℕ) → are_sign b c ≡ true → Shaped Sign 2 (b ∷ c ∷ bytes)
two_shape b c bytes e = (b ∷ c ∷ [], bytes, refl, refl, inl (b, c, refl, e))

one_shape : (b : ℕ) (bytes : List ℕ) → is_one_sign b ≡ true → NoneNext (are_sign b) bytes
    → Shaped Sign 1 (b ∷ bytes)
one_shape b bytes e h = (b ∷ [], bytes, refl, refl, inr (b, refl, e, h))

-- nothing is two bytes long with no second byte
no_second : (b : ℕ) → are_sign b 0 ≡ false
no_second b = grind (arith, nat_tests)

sign_shape : (b : ℕ) (bytes : List ℕ) (kind : TokenKind) (n : ℕ)
    → sign b (get_or bytes 0 0) ≡ Of kind n → Shaped kind n (b ∷ bytes)
sign_shape b bytes kind n e = by_two bytes e
  where
    by_one : (l : List ℕ) → NoneNext (are_sign b) l → single b ≡ Of kind n → Shaped kind n (b ∷ l)
    by_one l h f = by_test (is_one_sign b)
        (λ t. as_kind Sign kind 1 n (b ∷ l) (sym (ap (λ u. cond u (Of Sign 1) (Bad 0)) t) ∙ f)
        (one_shape b l t h))
        (λ t. true_false (sym (ap is_of (sym (ap (λ u. cond u (Of Sign 1) (Bad 0)) t) ∙ f))))

    by_two : (l : List ℕ) → sign b (get_or l 0 0) ≡ Of kind n → Shaped kind n (b ∷ l)
    by_two [] f = by_one [] tt (sym (ap (λ u. cond u (Of Sign 2) (single b)) (no_second b)) ∙ f)
    by_two (c ∷ l) f = by_test (are_sign b c)
        (λ t. as_kind Sign kind 2 n (b ∷ c ∷ l)
        (sym (ap (λ u. cond u (Of Sign 2) (single b)) t) ∙ f) (two_shape b c l t))
        (λ t. by_one (c ∷ l) t (sym (ap (λ u. cond u (Of Sign 2) (single b)) t) ∙ f))

-- ---- whatever is scanned

pub shape : (bytes : List ℕ) (kind : TokenKind) (n : ℕ) → scan_of bytes ≡ Of kind n
    → Shaped kind n bytes
shape [] kind n e = true_false (sym (ap is_of e))
shape (b ∷ bytes) kind n e =
    by_test (is_word_start b) (λ w. as_kind Word kind (prefix_len is_name_byte bytes + 1) n
    (b ∷ bytes) (sym (at_word b bytes w) ∙ e) (word_shape b bytes w)) (λ w.
    by_test (is_digit b) (λ d. digit_shape b bytes kind n d (sym (at_digit b bytes w d) ∙ e)) (λ d.
    by_test (b == 39) (λ q. text_shape b bytes kind n q (sym (at_quote b bytes w d q) ∙ e)) (λ q.
    by_test (b == 45 && is_digit (get_or bytes 0 0))
    (λ m. minus_shape b bytes kind n m (sym (at_minus b bytes w d q m) ∙ e)) (λ m.
    sign_shape b bytes kind n (sym (at_sign b bytes w d q m) ∙ e)))))

-- ---- prefixes

take_prefix : (prefix rest : List ℕ) → take (length prefix) (prefix ++ rest) ≡ prefix
take_prefix [] rest = refl
take_prefix (x ∷ prefix) rest = ap (λ l. x ∷ l) (take_prefix prefix rest)

drop_prefix : (prefix rest : List ℕ) → drop (length prefix) (prefix ++ rest) ≡ rest
drop_prefix [] rest = refl
drop_prefix (x ∷ prefix) rest = drop_prefix prefix rest

-- ---- faults

-- what ends the tokens where no token is scanned
by_none : (at : ℕ) (bytes : List ℕ) (e : Option LexFault) → e ≡ None → bytes ≡ []
    → EndsSo at bytes e
by_none at bytes e n h = let P : Option LexFault
    → Type 0 = λ x. EndsSo at bytes x in subst P (sym n) h

by_fault : (at : ℕ) (bytes : List ℕ) (e : Option LexFault) (f : LexFault) → e ≡ Some f
    → IsFault at bytes f → EndsSo at bytes e
by_fault at bytes e f n h = let P : Option LexFault
    → Type 0 = λ x. EndsSo at bytes x in subst P (sym n) h

no_end : {X : Type 0} (at : ℕ) (p : Scanned) (kind : TokenKind) (n : ℕ) (e : Option LexFault)
    → p ≡ Of kind n → EndsBy at p e → X
no_end at p kind n e h k = absurd (let P : Scanned → Type 0 = λ q. EndsBy at q e in subst P h k)

ends_by : (at : ℕ) (p r : Scanned) (e : Option LexFault) → p ≡ r → EndsBy at p e → EndsBy at r e
ends_by at p r e h k = let P : Scanned → Type 0 = λ q. EndsBy at q e in subst P h k

too_big : (n : ℕ) → is_big false n ≡ true → 18446744073709551615 < n
too_big n e = grind (arith, nat_tests)

too_low : (n : ℕ) → is_big true n ≡ true → 9223372036854775808 < n
too_low n e = grind (arith, nat_tests)

too_long : (n : ℕ) → nat_lt 4096 n ≡ true → 4096 < n
too_long n e = grind (arith, nat_tests)

digits_end : (at b : ℕ) (bytes : List ℕ) (e : Option LexFault) → is_digit b ≡ true
    → EndsBy at (scanned_number false 0 (digits_of (b ∷ bytes))) e → EndsSo at (b ∷ bytes) e
unfolding one_more
digits_end at b bytes e d h = by_test (is_big false (number (digits_of (b ∷ bytes)))) big small
  where
    small : is_big false (number (digits_of (b ∷ bytes))) ≡ false → EndsSo at (b ∷ bytes) e
    small f = no_end at (scanned_number false 0 (digits_of (b ∷ bytes))) Number
        (0 + length (digits_of (b ∷ bytes))) e
        (ap (λ t. cond t Big (Of Number (0 + length (digits_of (b ∷ bytes))))) f) h

    big : is_big false (number (digits_of (b ∷ bytes))) ≡ true → EndsSo at (b ∷ bytes) e
    big f =
        let r = run is_digit bytes in
        let o = one_more is_digit b bytes d r in
        let same : digits_of (b ∷ bytes) ≡ b ∷ r.0 = o.4 in
        let over : 18446744073709551615 < number (b ∷ r.0) =
        too_big (number (b ∷ r.0)) (sym (ap (λ l. is_big false (number l)) same) ∙ f) in
        by_fault at (b ∷ bytes) e (BigNumber at)
        (ends_by at (scanned_number false 0 (digits_of (b ∷ bytes))) Big e
        (ap (λ t. cond t Big (Of Number (0 + length (digits_of (b ∷ bytes))))) f) h)
        (b, r.0, r.1, (d, r.5), r.6, refl, inl (o.2, over))

minus_end : (at b : ℕ) (bytes : List ℕ) (e : Option LexFault)
    → (b == 45 && is_digit (get_or bytes 0 0)) ≡ true
    → EndsBy at (scanned_number true 1 (digits_of bytes)) e → EndsSo at (b ∷ bytes) e
unfolding one_more
minus_end at b [] e m h = true_false (sym (and_right (b == 45) false m))
minus_end at b (c ∷ bytes) e m h = by_test (is_big true (number (digits_of (c ∷ bytes)))) big small
  where
    d : is_digit c ≡ true
    d = and_right (b == 45) (is_digit c) m

    small : is_big true (number (digits_of (c ∷ bytes))) ≡ false → EndsSo at (b ∷ c ∷ bytes) e
    small f = no_end at (scanned_number true 1 (digits_of (c ∷ bytes))) Number
        (1 + length (digits_of (c ∷ bytes))) e
        (ap (λ t. cond t Big (Of Number (1 + length (digits_of (c ∷ bytes))))) f) h

    big : is_big true (number (digits_of (c ∷ bytes))) ≡ true → EndsSo at (b ∷ c ∷ bytes) e
    big f =
        let r = run is_digit bytes in
        let o = one_more is_digit c bytes d r in
        let same : digits_of (c ∷ bytes) ≡ c ∷ r.0 = o.4 in
        let over : 9223372036854775808 < number (c ∷ r.0) =
        too_low (number (c ∷ r.0)) (sym (ap (λ l. is_big true (number l)) same) ∙ f) in
        let dash : b ≡ 45 = eqb-true b 45 (and_left (b == 45) (is_digit c) m) in
        by_fault at (b ∷ c ∷ bytes) e (BigNumber at)
        (ends_by at (scanned_number true 1 (digits_of (c ∷ bytes))) Big e
        (ap (λ t. cond t Big (Of Number (1 + length (digits_of (c ∷ bytes))))) f) h) (
          c,
          r.0,
          r.1,
          (d, r.5),
          r.6,
          refl,
          inr
              (ap (λ x. x ∷ c ∷ bytes) dash ∙ ap (λ l. 45 ∷ l) o.2, over),
        )

text_end : (at b : ℕ) (bytes : List ℕ) (e : Option LexFault) → (b == 39) ≡ true
    → EndsBy at (scan_sized (length (text_value bytes)) (text_from 1 bytes)) e
    → EndsSo at (b ∷ bytes) e
text_end at b bytes e q h = by_scanned (text_from 1 bytes) (text_ends 1 bytes) h
  where
    quote : b ≡ 39
    quote = eqb-true b 39 q

    long : (kind : TokenKind) (n : ℕ) → Literal 1 bytes kind n
        → nat_lt 4096 (length (text_value bytes)) ≡ true → IsFault at (b ∷ bytes) (LongText at)
    long kind n t f = (
      text_value bytes,
      t.0,
      t.1,
      ap (λ x. x ∷ bytes) quote ∙ ap (λ l. 39 ∷ l) t.2,
      t.4,
      too_long (length (text_value bytes)) f,
      t.5,
      refl,
    )

    by_scanned : (p : Scanned) → TextEnds 1 bytes p
        → EndsBy at (scan_sized (length (text_value bytes)) p) e
        → EndsSo at (b ∷ bytes) e
    by_scanned (Of kind n) t k = by_test (nat_lt 4096 (length (text_value bytes)))
        (λ f. by_fault at (b ∷ bytes) e (LongText at)
        (ends_by at (cond (nat_lt 4096 (length (text_value bytes))) Long (Of kind n)) Long e
        (ap (λ u. cond u Long (Of kind n)) f) k) (long kind n t f))
        (λ f. no_end at (cond (nat_lt 4096 (length (text_value bytes))) Long (Of kind n)) kind n e
        (ap (λ u. cond u Long (Of kind n)) f) k)
    by_scanned (Bad n) t k = by_fault at (b ∷ bytes) e (BadByte (at + n)) k
        (inr (
          t.0,
          t.1,
          t.2,
          ap (λ x. x ∷ bytes) quote ∙ ap (λ l. 39 ∷ l) t.3,
          t.4,
          t.5,
          omega (arith, t.6),
        ))
    by_scanned Open t k = by_fault at (b ∷ bytes) e (OpenQuote at) k
        (bytes, ap (λ x. x ∷ bytes) quote, t, refl)
    by_scanned End t k = absurd t
    by_scanned Long t k = absurd t
    by_scanned Big t k = absurd t

sign_end : (at b : ℕ) (bytes : List ℕ) (e : Option LexFault) → is_word_start b ≡ false
    → is_digit b ≡ false → (b == 39) ≡ false → (b == 45 && is_digit (get_or bytes 0 0)) ≡ false
    → EndsBy at (sign b (get_or bytes 0 0)) e → EndsSo at (b ∷ bytes) e
sign_end at b bytes e w d q m h = by_test (are_sign b (get_or bytes 0 0))
    (λ t. no_end at (sign b (get_or bytes 0 0)) Sign 2 e (ap (λ u. cond u (Of Sign 2) (single b)) t)
    h) (λ t. by_one (ends_by at (sign b (get_or bytes 0 0)) (single b) e
    (ap (λ u. cond u (Of Sign 2) (single b)) t) h))
  where
    by_one : EndsBy at (single b) e → EndsSo at (b ∷ bytes) e
    by_one k = by_test (is_one_sign b)
        (λ t. no_end at (single b) Sign 1 e (ap (λ u. cond u (Of Sign 1) (Bad 0)) t) k)
        (λ t. by_fault at (b ∷ bytes) e (BadByte (at + 0))
        (ends_by at (single b) (Bad 0) e (ap (λ u. cond u (Of Sign 1) (Bad 0)) t) k)
        (inl (omega arith, (w, d, q, t, m))))

ends : (at : ℕ) (bytes : List ℕ) (e : Option LexFault) → EndsBy at (scan_of bytes) e
    → EndsSo at bytes e
ends at [] e h = by_none at [] e h refl
ends at (b ∷ bytes) e h =
    by_test (is_word_start b) (λ w. no_end at (scanned_from b bytes) Word
    (prefix_len is_name_byte bytes + 1) e (at_word b bytes w) h) (λ w.
    by_test (is_digit b) (λ d. digits_end at b bytes e d
    (ends_by at (scanned_from b bytes) (scanned_number false 0 (digits_of (b ∷ bytes))) e
    (at_digit b bytes w d) h)) (λ d.
    by_test (b == 39) (λ q. text_end at b bytes e q
    (ends_by at (scanned_from b bytes) (scan_sized (length (text_value bytes)) (text_from 1 bytes))
    e
    (at_quote b bytes w d q) h)) (λ q.
    by_test (b == 45 && is_digit (get_or bytes 0 0))
    (λ m. minus_end at b bytes e m (ends_by at (scanned_from b bytes)
    (scanned_number true 1 (digits_of bytes)) e (at_minus b bytes w d q m) h)) (λ m.
    sign_end at b bytes e w d q m (ends_by at (scanned_from b bytes) (sign b (get_or bytes 0 0)) e
    (at_sign b bytes w d q m) h)))))

-- ---- a whole text

pub spaced : (at : ℕ) (bytes : List ℕ) (ts : List Token) (e : Option LexFault) → Lexes at bytes ts e
    → Spaced at bytes ts e
spaced at bytes [] e h =
    let g = gap_is bytes in
    let P : ℕ → Type 0 = λ n. EndsSo (at + n) (after_gap bytes) e in (
      g.0,
      after_gap bytes,
      g.1,
      g.2,
      g.3,
      subst P g.4
          (ends (at + gap_len false 0 bytes) (after_gap bytes) e h),
    )
spaced at bytes (t ∷ ts) e h =
    let g = gap_is bytes in
    let f = shape (after_gap bytes) t.kind (length t.text.now) h.0 in
    let text : f.0 ≡ t.text.now = sym (h.1 ∙ ap (λ n. take n (after_gap bytes)) f.3
    ∙ ap (take (length f.0)) f.2 ∙ take_prefix f.0 f.1) in
    let rest : f.1 ≡ drop (length t.text.now) (after_gap bytes) =
    sym (ap (λ n. drop n (after_gap bytes)) f.3 ∙ ap (drop (length f.0)) f.2
    ∙ drop_prefix f.0 f.1) in
    let whole : after_gap bytes ≡ t.text.now ++ f.1 = f.2 ∙ ap (λ l. l ++ f.1) text in
    let P : List ℕ → Type 0 = λ l. IsGap g.0 l in
    let Q : List ℕ → Type 0 = λ l. IsToken t.kind l f.1 in
    let R : List ℕ → Type 0 = λ l. Spaced (t.at + length t.text.now) l ts e in (
      g.0,
      f.1,
      g.1 ∙ ap (λ l. g.0 ++ l) whole,
      h.2 ∙ ap (λ n. at + n) g.4,
      subst P whole g.2,
      subst Q text f.4,
      subst R (sym rest) (spaced (t.at + length t.text.now)
          (drop (length t.text.now) (after_gap bytes)) ts e h.3),
    )
