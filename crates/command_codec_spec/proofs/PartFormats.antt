-- The readers of names, texts, values, types, signs and lists are good for their formats.
use Rattle.std.proofs.Common.{◌≡◌, ℕ, zero, suc, ◌+◌, ◌*◌, ◌^◌, ◌<◌, ◌≤◌, ℤ, pos, Bool, true, false}
use Rattle.std.proofs.Common.{cond, not, nat_lt, nat_le, List, [], ◌∷◌, ◌++◌, length, drop, Some}
use Rattle.std.proofs.Common.{None, T, negsuc, refl, sym, ap, ◌∙◌, subst, arith}
use Rattle.std.specs.Int.{w64, cast_signed, cast_unsigned}
use Rattle.std.specs.Int.RustNames.{FitsSigned}
use mir.Val.{Fits}
use Rattle.std.specs.List.{flat_map, AllByRecursion}
use Rattle.std.proofs.Math.Facts.{sfits_to_z, to_z-of_z, of_z-to_z, Fits-of_z}
use Rattle.std.proofs.lemmas.Bool.{leb-true, lt-ltb, le-leb}
use Rattle.std.proofs.lemmas.Int.{ints}
use Rattle.std.proofs.lemmas.List.Concat.{flat_map-cons}
use Rattle.prima_base.specs.Bytes.{is_control, is_digit, is_name_byte, first_from, first_bad, IsTxt}
use Rattle.prima_base.specs.Bytes.{is_text_byte, IsName}
use Rattle.prima_base.specs.Columns.{IsValid}
use Rattle.prima_base.specs.declared.value.ColType.{ColType}
use Rattle.prima_base.specs.declared.value.ColType.TheVariants.{Int as IntType, Text as TextType}
use Rattle.prima_base.specs.declared.value.Value.{Value}
use Rattle.prima_base.specs.declared.value.Value.TheVariants.{Int, Text}
use Rattle.cond_expr.specs.declared.expr.CmpOp.{CmpOp}
use Rattle.cond_expr.specs.declared.expr.CmpOp.TheVariants.{Eq, Ne, Lt, Le, Gt, Ge}
use Rattle.command_codec_spec.specs.Reading.{Parsed, Parser, IsCorrectParser, pure, map_to, byte}
use Rattle.command_codec_spec.specs.Reading.{by_tag, run, digits, items, list_parser}
use Rattle.command_codec_spec.specs.Encoding.{number, name_bytes, type_tag, value_bytes, sign_tag}
use Rattle.command_codec_spec.specs.Encoding.{list_bytes}
use Rattle.command_codec_spec.specs.Reader.{up_to, is_name_start, is_name_length, name_text, name}
use Rattle.command_codec_spec.specs.Reader.{text, number_64, value_arm, value}
use Rattle.command_codec_spec.specs.Reader.{type_of_tag, column_type, sign_of_tag, sign}
use Rattle.command_codec_spec.proofs.Correctness.{by_test, true_false, retold, pure_correct}
use Rattle.command_codec_spec.proofs.Correctness.{mapped_correct, then_correct, byte_correct, Each}
use Rattle.command_codec_spec.proofs.Correctness.{run_correct, ArmCorrect, parts_correct}
use Rattle.command_codec_spec.proofs.Correctness.{parts_read}
use Rattle.command_codec_spec.proofs.Correctness.{tagged_correct}
use Rattle.command_codec_spec.proofs.Numbers.{number_correct, both_true, of_both}

is_true : (b : Bool) → T b → b ≡ true
is_true true t = refl
is_true false t = absurd t

-- ---- where each byte is taken, no first byte is refused

none_refused : (p : ℕ → Bool) (at : ℕ) (bytes : List ℕ) → AllByRecursion (λ b. p b ≡ false) bytes
    → first_from p at bytes ≡ None
none_refused p at [] h = refl
none_refused p at (b ∷ bytes) h = ap (λ t. cond t (Some at) (first_from p (at + 1) bytes)) h.0
    ∙ none_refused p (at + 1) bytes h.1

each_passes : (p : ℕ → Bool) (at : ℕ) (bytes : List ℕ) → first_from p at bytes ≡ None
    → AllByRecursion (λ b. p b ≡ false) bytes
each_passes p at [] h = tt
each_passes p at (b ∷ bytes) h = by_test (p b)
    (λ e. absurd (let z : Some at ≡ None = sym
    (ap (λ t. cond t (Some at) (first_from p (at + 1) bytes)) e) ∙ h in cc))
    (λ e. (
      e,
      each_passes p (at + 1) bytes (sym
          (ap (λ t. cond t (Some at) (first_from p (at + 1) bytes)) e) ∙ h),
    ))

not_true : (b : Bool) → not b ≡ true → b ≡ false
not_true true e = sym e
not_true false e = refl

not_false : (b : Bool) → not b ≡ false → b ≡ true
not_false true e = refl
not_false false e = sym e

-- a test that holds of each, and its negation of none
each_not : (p : ℕ → Bool) (bytes : List ℕ) → Each (λ b. not (p b)) bytes
    → AllByRecursion (λ b. p b ≡ false) bytes
each_not p [] h = tt
each_not p (b ∷ bytes) h = (not_true (p b) h.0, each_not p bytes h.1)

not_each : (p : ℕ → Bool) (bytes : List ℕ) → AllByRecursion (λ b. p b ≡ false) bytes
    → Each (λ b. not (p b)) bytes
not_each p [] h = tt
not_each p (b ∷ bytes) h = (ap not h.0, not_each p bytes h.1)

each_refuses : (p : ℕ → Bool) (bytes : List ℕ) → Each p bytes
    → AllByRecursion (λ b. not (p b) ≡ false) bytes
each_refuses p [] h = tt
each_refuses p (b ∷ bytes) h = (ap not h.0, each_refuses p bytes h.1)

refuses_each : (p : ℕ → Bool) (bytes : List ℕ) → AllByRecursion (λ b. not (p b) ≡ false) bytes
    → Each p bytes
refuses_each p [] h = tt
refuses_each p (b ∷ bytes) h = (not_false (p b) h.0, refuses_each p bytes h.1)

-- ---- names

-- bytes of a name are valid, the first of them no digit
starts : (b : ℕ) (m : List ℕ) → is_name_start b ≡ true → Each is_name_byte m
    → first_bad (b ∷ m) ≡ None
starts b m h each =
    let k = of_both (is_name_byte b) (not (is_digit b)) h in
    ap (λ t. cond t (Some 0) (first_from (λ c. not (is_name_byte c)) 0 (b ∷ m)))
    (not_true (is_digit b) k.1) ∙ none_refused (λ c. not (is_name_byte c)) 0 (b ∷ m)
    (each_refuses is_name_byte (b ∷ m) (k.0, each))

no_digit : (b : ℕ) (m : List ℕ) → first_bad (b ∷ m) ≡ None → is_digit b ≡ false
no_digit b m h = by_test (is_digit b) (λ e. absurd
    (let z : Some 0 ≡ None = sym (ap (λ t. cond t (Some 0)
    (first_from (λ c. not (is_name_byte c)) 0 (b ∷ m))) e) ∙ h in cc)) (λ e. e)

named : (b : ℕ) (m : List ℕ) → first_bad (b ∷ m) ≡ None → (is_name_start b ≡ true)
    × Each is_name_byte m
named b m h =
    let d = no_digit b m h in
    let each = refuses_each is_name_byte (b ∷ m)
    (each_passes (λ c. not (is_name_byte c)) 0 (b ∷ m)
    (sym (ap (λ t. cond t (Some 0) (first_from (λ c. not (is_name_byte c)) 0 (b ∷ m))) d)
    ∙ h)) in
    (both_true (is_name_byte b) (not (is_digit b)) each.0 (ap not d), each.1)

-- a byte, and so many more of a name
abbrev Led : ℕ → ℕ → List ℕ → Type 0
Led k b l = (m : List ℕ) × ((length m ≡ k) × Each is_name_byte m) × (l ≡ b ∷ m)

pub name_text_correct : (n : ℕ) → is_name_length n ≡ true
    → IsCorrectParser (name_text n) (λ l. (length l ≡ n) × IsName l) (λ l. l)
unfolding name_text
name_text_correct zero e = true_false (sym e)
name_text_correct (suc k) e =
    then_correct (byte is_name_start) (λ b. is_name_start b ≡ true) (λ b. b ∷ [])
    (λ b. map_to (λ l. b ∷ l) (run is_name_byte k)) (Led k) (λ b l. drop 1 l)
    (λ l. (length l ≡ suc k) × IsName l) (λ l. l)
    (byte_correct is_name_start 97 refl)
    (λ b h. mapped_correct (run is_name_byte k) (λ l. (length l ≡ k) × Each is_name_byte l) (λ l. l)
    (run_correct is_name_byte 97 refl k) (λ l. b ∷ l) (Led k b) (λ l. drop 1 l)
    (λ m i. ((m, i, refl), refl)) (λ l i. i))
    (λ b l h i. (let P : List ℕ → Type 0 = λ x. ((length x ≡ suc k) × IsName x)
    × (x ≡ b ∷ drop 1 x) in subst P (sym i.2) ((ap suc i.1.0, made b i.0 h i.1), refl)))
    parted
  where
    short : suc k ≤ 63
    short = leb-true (suc k) 63 (of_both (nat_lt 0 (suc k)) (nat_le (suc k) 63) e).1

    made : (b : ℕ) (m : List ℕ) → is_name_start b ≡ true → (length m ≡ k) × Each is_name_byte m
        → IsName (b ∷ m)
    made b m h i = record {
      some = omega arith;
      short = omega (arith, short, i.0);
      valid =
          starts b m h i.1;
    }

    parted : (l : List ℕ) → (length l ≡ suc k) × IsName l → (b : ℕ) × (is_name_start b ≡ true)
        × Led k b l
    parted [] h = absurd (omega (arith, h.0))
    parted (b ∷ l) h = let n = named b l h.1.valid in (b, n.0, (l, (omega (arith, h.0), n.1), refl))

pub name_correct : IsCorrectParser name IsName name_bytes
unfolding name
name_correct = then_correct (byte is_name_length) (λ n. is_name_length n ≡ true) (λ n. n ∷ [])
    name_text (λ n l. (length l ≡ n) × IsName l) (λ n l. l) IsName name_bytes
    (byte_correct is_name_length 1 refl) name_text_correct
    (λ n l h i. (i.1, ap (λ m. m ∷ l) i.0))
    (λ l i. (
      length l,
      both_true (nat_lt 0 (length l)) (nat_le (length l) 63)
          (lt-ltb 0 (length l) i.some) (le-leb (length l) 63 i.short),
      (refl, i),
    ))

-- ---- values

pub are_text : (n : ℕ) (l : List ℕ) → n ≤ 4096 → (length l ≡ n) × Each is_text_byte l → IsTxt l
are_text n l h i = (omega (arith, h, i.0), none_refused is_control 0 l (each_not is_control l i.1))

pub text_correct : IsCorrectParser text IsTxt (λ t. number 2 (length t) ++ t)
unfolding text
text_correct = then_correct (digits 4096 2 0) (λ n. n ≤ 4096) (λ n. number 2 n)
    (λ n. run is_text_byte n) (λ n l. (length l ≡ n) × Each is_text_byte l) (λ n l. l) IsTxt
    (λ t. number 2 (length t) ++ t)
    (number_correct 4096 2 (omega arith)) (λ n h. run_correct is_text_byte 97 refl n)
    (λ n l h i. (are_text n l h i, ap (λ m. number 2 m ++ l) i.0))
    (λ l i. (length l, i.0, (refl, not_each is_control l (each_passes is_control 0 l i.1))))

pub number_64_correct : IsCorrectParser number_64 (λ n. n ≤ 18446744073709551615) (λ n. number 8 n)
unfolding number_64
number_64_correct = number_correct 18446744073709551615 8 (omega arith)

-- an INT is valid just where it is a signed number of 64 bits
int_valid : (z : ℤ) → FitsSigned w64 z → IsValid (Int z)
int_valid z h = (let f = h.sfits in (omega (arith, ints, f), omega (arith, ints, f)))

int_fits : (z : ℤ) → IsValid (Int z) → FitsSigned w64 z
int_fits (pos n) h = record {
  sfits =
      (let s = leb-true n 9223372036854775807 (is_true _ h.1.le) in omega (arith, s));
}
int_fits (negsuc n) h = record {
  sfits =
      (let s = leb-true n 9223372036854775807 (is_true _ h.0.le) in omega (arith, s));
}

pub zero_valid : IsValid (Int (pos 0))
zero_valid = int_valid (pos 0) (record { sfits = omega arith })

made_int : (n : ℕ) → n ≤ 18446744073709551615 → IsValid (Int (cast_signed w64 n))
    × (value_bytes (Int (cast_signed w64 n)) ≡ 0 ∷ number 8 n)
made_int n h =
    let f : Fits w64 n = record { fits = omega (arith, h) } in
    (int_valid (cast_signed w64 n) (sfits_to_z f), ap (λ m. 0 ∷ number 8 m) (of_z-to_z f))

small : (z : ℤ) → FitsSigned w64 z → cast_unsigned w64 z ≤ 18446744073709551615
small z h = let f = (Fits-of_z h).fits in omega (arith, f)

pub value_correct : IsCorrectParser value IsValid value_bytes
unfolding value
value_correct = tagged_correct (up_to 1) value_arm IsValid value_bytes (Int (pos 0)) zero_valid each
    complete
  where
    each : (x : ℕ) → up_to 1 x ≡ true → ArmCorrect IsValid value_bytes x (value_arm x)
    each zero e = parts_correct number_64 (λ n. n ≤ 18446744073709551615) (λ n. number 8 n)
        number_64_correct (λ n. Int (cast_signed w64 n)) IsValid value_bytes 0 made_int
    each (suc zero) e = parts_correct text IsTxt (λ t. number 2 (length t) ++ t) text_correct Text
        IsValid value_bytes 1 (λ t h. (h, refl))
    each (suc (suc n)) e = absurd (omega (arith, leb-true (suc (suc n)) 1 e))

    complete : (v : Value) → IsValid v → (rest : List ℕ)
        → by_tag (up_to 1) value_arm (value_bytes v ++ rest) ≡ Parsed v rest
    complete (Int z) h rest =
        parts_read number_64 (λ n. n ≤ 18446744073709551615) (λ n. number 8 n) number_64_correct
        (λ n. Int (cast_signed w64 n)) IsValid value_bytes 0 made_int (cast_unsigned w64 z)
        (small z (int_fits z h)) rest
        ∙ ap (λ x. Parsed (Int x) rest) (to_z-of_z (int_fits z h))
    complete (Text t) h rest = parts_read text IsTxt (λ t. number 2 (length t) ++ t) text_correct
        Text IsValid value_bytes 1 (λ t h. (h, refl)) t h rest

-- ---- types and signs

pub column_type_correct : IsCorrectParser column_type (λ k. Unit {0}) (λ k. type_tag k ∷ [])
unfolding column_type
column_type_correct = mapped_correct (byte (up_to 1)) (λ x. up_to 1 x ≡ true) (λ x. x ∷ [])
    (byte_correct (up_to 1) 0 refl) type_of_tag (λ k. Unit {0}) (λ k. type_tag k ∷ []) up down
  where
    up : (x : ℕ) → up_to 1 x ≡ true → Unit {0} × (type_tag (type_of_tag x) ∷ [] ≡ x ∷ [])
    up zero e = (tt, refl)
    up (suc zero) e = (tt, refl)
    up (suc (suc n)) e = absurd (omega (arith, leb-true (suc (suc n)) 1 e))

    down : (k : ColType) → Unit {0} → (x : ℕ) × (up_to 1 x ≡ true) × (k ≡ type_of_tag x)
    down IntType h = (0, refl, refl)
    down TextType h = (1, refl, refl)

pub sign_correct : IsCorrectParser sign (λ o. Unit {0}) (λ o. sign_tag o ∷ [])
unfolding sign
sign_correct = mapped_correct (byte (up_to 5)) (λ x. up_to 5 x ≡ true) (λ x. x ∷ [])
    (byte_correct (up_to 5) 0 refl) sign_of_tag (λ o. Unit {0}) (λ o. sign_tag o ∷ []) up down
  where
    up : (x : ℕ) → up_to 5 x ≡ true → Unit {0} × (sign_tag (sign_of_tag x) ∷ [] ≡ x ∷ [])
    up zero e = (tt, refl)
    up (suc zero) e = (tt, refl)
    up (suc (suc zero)) e = (tt, refl)
    up (suc (suc (suc zero))) e = (tt, refl)
    up (suc (suc (suc (suc zero)))) e = (tt, refl)
    up (suc (suc (suc (suc (suc zero))))) e = (tt, refl)
    up (suc (suc (suc (suc (suc (suc n)))))) e =
        absurd (omega (arith, leb-true (suc (suc (suc (suc (suc (suc n)))))) 5 e))

    down : (o : CmpOp) → Unit {0} → (x : ℕ) × (up_to 5 x ≡ true) × (o ≡ sign_of_tag x)
    down Eq h = (0, refl, refl)
    down Ne h = (1, refl, refl)
    down Lt h = (2, refl, refl)
    down Le h = (3, refl, refl)
    down Gt h = (4, refl, refl)
    down Ge h = (5, refl, refl)

-- ---- lists

module _ {A : Type 0} (p : Parser A) (Is : A → Type 0) (encode : A → List ℕ) where
  abbrev pub All : List A → Type 0
  All l = AllByRecursion Is l

  -- so many
  abbrev pub Counted : ℕ → List A → Type 0
  Counted k l = (length l ≡ k) × All l

  -- the first, and so many more
  abbrev LedBy : ℕ → A → List A → Type 0
  LedBy k a l = (m : List A) × Counted k m × (l ≡ a ∷ m)

  none : (l : List A) → l ≡ [] → Counted 0 l × ([] ≡ flat_map encode l)
  none [] e = ((refl, tt), refl)
  none (a ∷ l) e = absurd cc

  no_more : (l : List A) → Counted 0 l → l ≡ []
  no_more [] h = refl
  no_more (a ∷ l) h = absurd (omega (arith, h.0))

  pub no_items_correct : IsCorrectParser (items p 0) (Counted 0) (flat_map encode)
  unfolding items
  no_items_correct = retold (pure []) (λ l. l ≡ []) (Counted 0) (λ l. []) (flat_map encode) none
      no_more (pure_correct [])

  module _ (correct : IsCorrectParser p Is encode) where
    parted : (k : ℕ) (l : List A) → Counted (suc k) l → (a : A) × Is a × LedBy k a l
    parted k [] h = absurd (omega (arith, h.0))
    parted k (a ∷ l) h = (a, h.1.0, (l, (omega (arith, h.0), h.1.1), refl))

    joined : (k : ℕ) (a : A) (l : List A) → Is a → LedBy k a l → Counted (suc k) l
        × (flat_map encode l ≡ encode a ++ flat_map encode (drop 1 l))
    joined k a l h i = let P : List A → Type 0 = λ x. Counted (suc k) x
        × (flat_map encode x ≡ encode a ++ flat_map encode (drop 1 x)) in
        subst P (sym i.2) ((ap suc i.1.0, (h, i.1.1)), flat_map-cons encode a i.0)

    pub items_correct : (k : ℕ) → IsCorrectParser (items p k) (Counted k) (flat_map encode)
    unfolding items
    items_correct zero = no_items_correct
    items_correct (suc k) =
        then_correct p Is encode (λ a. map_to (λ l. a ∷ l) (items p k)) (LedBy k)
        (λ a l. flat_map encode (drop 1 l)) (Counted (suc k)) (flat_map encode) correct
        (λ a h. mapped_correct (items p k) (Counted k) (flat_map encode) (items_correct k)
        (λ l. a ∷ l) (LedBy k a) (λ l. flat_map encode (drop 1 l)) (λ m i. ((m, i, refl), refl))
        (λ l i. i))
        (joined k) (parted k)

  -- a list with its count in prefix, where so many can be read
  pub list_correct : (k most : ℕ) → most < 2 ^ (8 * k)
      → ((n : ℕ) → n ≤ most → IsCorrectParser (items p n) (Counted n) (flat_map encode))
      → IsCorrectParser (list_parser k most p) (λ l. (length l ≤ most) × All l)
      (list_bytes k encode)
  list_correct k most fits each = then_correct (digits most k 0) (λ n. n ≤ most) (λ n. number k n)
      (λ n. items p n) Counted (λ n l. flat_map encode l) (λ l. (length l ≤ most) × All l)
      (list_bytes k encode)
      (number_correct most k fits) each
      (λ n l h i. ((omega (arith, h, i.0), i.1), ap (λ m. number k m ++ flat_map encode l) i.0))
      (λ l h. (length l, h.0, (refl, h.1)))
