-- What a reader that is good for its format says of bytes is what they are, and they are one thing
-- alone.
use Rattle.std.proofs.Common.{◌≡◌, ℕ, zero, suc, ◌+◌, ◌-◌, ◌<◌, ◌≤◌, List, [], ◌∷◌, ◌++◌, length}
use Rattle.std.proofs.Common.{take, drop, refl, sym, ap, ◌∙◌, subst, append_assoc, append-nil}
use Rattle.std.proofs.Common.{arith, inl, inr}
use Rattle.std.proofs.lemmas.Bool.{cases_lt}
use Rattle.std.proofs.lemmas.List.{take_at, take-append-drop, length-append, length-drop}
use Rattle.smo_ops_types.specs.Commands.{PlainCommand}
use Rattle.command_codec_spec.specs.Reading.{Out, Parsed, Unexpected, Parser, Begins, Same}
use Rattle.command_codec_spec.specs.Reading.{Explains}
use Rattle.command_codec_spec.specs.Reading.{IsCorrectParser}
use Rattle.command_codec_spec.specs.Encoding.{command_bytes}
use Rattle.command_codec_spec.specs.Valid.{IsCommand}
use Rattle.command_codec_spec.specs.Reader.{command}
use Rattle.command_codec_spec.specs.Found.{Encodes, GoesOn, IsBadAt, Decoding, whole, bad_at}
use Rattle.command_codec_spec.specs.Found.{rest_at}
use Rattle.command_codec_spec.specs.Found.{IsDecoding, Part, part, no_part, more, IsPart}
use Rattle.command_codec_spec.proofs.Correctness.{halts, is_read, one_value}
use Rattle.command_codec_spec.proofs.CommandFormats.{command_correct}

take_next : {A : Type 0} (f : List A) (x : A) (rest : List A)
    → take (length f + 1) (f ++ x ∷ rest) ≡ f ++ x ∷ []
take_next [] x rest = refl
take_next (y ∷ f) x rest = let e : length (y ∷ f) + 1 ≡ suc (length f + 1) = omega arith in
    ap (λ n. take n (y ∷ (f ++ x ∷ rest))) e ∙ ap (λ l. y ∷ l) (take_next f x rest)

-- a prefix of a prefix
take_take : (i j : ℕ) (l : List ℕ) → i ≤ j → (m : List ℕ) × (take j l ≡ take i l ++ m)
take_take zero j l h = (take j l, refl)
take_take (suc i) zero l h = absurd (omega (arith, h))
take_take (suc i) (suc j) [] h = ([], refl)
take_take (suc i) (suc j) (x ∷ l) h = let r = take_take i j l (omega (arith, h)) in
    (r.0, ap (λ m. x ∷ m) r.1)

module _ {A : Type 0} (S : A → List ℕ → Type 0) where
  -- where bytes begin a spelling, so does each prefix of them
  goes_before : (i j : ℕ) (bytes : List ℕ) → i ≤ j → GoesOn S (take j bytes)
      → GoesOn S (take i bytes)
  goes_before i j bytes h g =
      let t = take_take i j bytes h in
      let P : List ℕ → Type 0 = λ l. S g.1 l in
      (t.0 ++ g.0, g.1, subst P (ap (λ l. l ++ g.0) t.1 ∙ append_assoc (take i bytes) t.0 g.0) g.2)

  later_halts : (bytes : List ℕ) (p q : ℕ) → IsBadAt S bytes p → IsBadAt S bytes q → p < q → ⊥
  later_halts bytes p q h k lt =
      let w = k.within in
      h.halts (omega (arith, w, lt)) (goes_before (p + 1) q bytes (omega (arith, lt)) k.goes)

  bad_once : (bytes : List ℕ) (p q : ℕ) → IsBadAt S bytes p → IsBadAt S bytes q → p ≡ q
  bad_once bytes p q h k = elim (cases_lt p q) [
    | inl lt ↦ absurd (later_halts bytes p q h k lt)
    | inr le ↦ elim (cases_lt q p) [
      | inl lt ↦ absurd (later_halts bytes q p k h lt)
      | inr ge ↦ omega (arith, le, ge)
    ]
  ]

module _ {A : Type 0} (p : Parser A) (Is : A → Type 0) (encode : A → List ℕ)
    (correct : IsCorrectParser p Is encode) where
  abbrev S : A → List ℕ → Type 0
  S a bytes = Is a × (bytes ≡ encode a)

  -- a prefix that is a spelling is what is read
  prefix_read : (a : A) (k : ℕ) (ts : List ℕ) → S a (take k ts) → p ts ≡ Parsed a (drop k ts)
  prefix_read a k ts s = ap p (sym (take-append-drop k ts) ∙ ap (λ l. l ++ drop k ts) s.1)
      ∙ correct.complete a s.0 (drop k ts)

  pub got_prefix : (a : A) (ts rest : List ℕ) → p ts ≡ Parsed a rest → (length rest ≤ length ts)
      × S a (take (length ts - length rest) ts)
  got_prefix a ts rest e =
      let r = is_read p Is encode correct a ts rest e in
      let n = ap length r.1 in
      let m = length-append (encode a) rest in
      let k : length ts - length rest ≡ length (encode a) = omega (arith, n, m) in (
        omega (arith, n, m),
        (
          r.0,
          ap (λ i. take i ts) k ∙ ap (take (length (encode a))) r.1
              ∙ take_at (encode a) rest (length (encode a)) refl,
        ),
      )

  stuck_prefix : (ts prefix rest : List ℕ) → p ts ≡ Unexpected rest → ts ≡ prefix ++ rest
      → Begins Is encode prefix → Same p prefix rest → IsBadAt S ts (length prefix)
  stuck_prefix ts prefix rest e parts begins same = record {
    within = (let n = ap length parts in omega (arith, n, length-append prefix rest));
    goes = (
      begins.0,
      begins.1,
      (
        begins.2,
        ap (λ l. l ++ begins.0)
            (ap (take (length prefix)) parts ∙ take_at prefix rest (length prefix) refl)
            ∙ sym begins.3,
      ),
    );
    halts = halted rest parts same;
    none = λ a k s. absurd (let z : Unexpected rest ≡ Parsed a (drop k ts) = sym e
        ∙ prefix_read a k ts s in cc);
  }
    where
      halted : (r : List ℕ) → ts ≡ prefix ++ r → Same p prefix r → length prefix < length ts
          → GoesOn S (take (length prefix + 1) ts) → ⊥
      halted [] q s lt g = absurd (let n = ap length q in
          omega (arith, n, lt, length-append prefix []))
      halted (x ∷ r) q s lt g =
          halts p Is encode correct prefix x r s (
            g.0,
            g.1,
            g.2.0,
            sym g.2.1 ∙ ap (λ l. l ++ g.0)
                (ap (take (length prefix + 1)) q ∙ take_next prefix x r),
          )

  pub stuck_place : (ts rest : List ℕ) → p ts ≡ Unexpected rest → (length rest ≤ length ts)
      × IsBadAt S ts (length ts - length rest)
  stuck_place ts rest e =
      let P : Out A → Type 0 = λ o. Explains p Is encode ts o in
      let x : (prefix : List ℕ) × (ts ≡ prefix ++ rest) × Begins Is encode prefix
      × Same p prefix rest = subst P e (correct.explains ts) in
      let n = ap length x.1 in
      let m = length-append x.0 rest in
      let k : length x.0 ≡ length ts - length rest = omega (arith, n, m) in
      let Q : ℕ → Type 0 = λ i. IsBadAt S ts i in
      (omega (arith, n, m), subst Q k (stuck_prefix ts x.0 rest e x.1 x.2 x.3))

  -- two prefixes that are spellings are one
  prefixes_once : (a b : A) (j k : ℕ) (ts : List ℕ) → j ≤ length ts → k ≤ length ts
      → S a (take j ts) → S b (take k ts) → (a ≡ b) × (j ≡ k)
  prefixes_once a b j k ts hj hk s t =
      let e : Parsed a (drop j ts) ≡ Parsed b (drop k ts) = sym (prefix_read a j ts s)
      ∙ prefix_read b k ts t in
      let l : drop j ts ≡ drop k ts = cc in
      let n = ap length l in
      ((let z : a ≡ b = cc in z), omega (arith, hj, hk, n, length-drop j ts, length-drop k ts))

  -- ---- a part at a place

  module _ (bytes : List ℕ) (from : ℕ) (within : from ≤ length bytes) where
    pub got_part : (a : A) (rest : List ℕ) → p (drop from bytes) ≡ Parsed a rest
        → (length rest ≤ length bytes) × IsPart S bytes from (part a (length bytes - length rest))
    got_part a rest e =
        let g = got_prefix a (drop from bytes) rest e in
        let n = length-drop from bytes in
        let k : length (drop from bytes) - length rest ≡ length bytes - length rest - from =
        omega (arith, n) in
        let P : ℕ → Type 0 = λ i. S a (take i (drop from bytes)) in
        (omega (arith, g.0, n), (omega (arith, g.0, n, within), omega arith, subst P k g.1))

    pub stuck_part : (rest : List ℕ) → p (drop from bytes) ≡ Unexpected rest
        → (length rest ≤ length bytes) × IsPart S bytes from (no_part (length bytes - length rest))
    stuck_part rest e =
        let g = stuck_place (drop from bytes) rest e in
        let n = length-drop from bytes in
        let k : length (drop from bytes) - length rest ≡ length bytes - length rest - from =
        omega (arith, n) in
        let P : ℕ → Type 0 = λ i. IsBadAt S (drop from bytes) i in
        (omega (arith, g.0, n), (omega (arith, g.0, n, within), subst P k g.1))

    pub part_once : (x y : Part A) → IsPart S bytes from x → IsPart S bytes from y → x ≡ y
    part_once (part a i) (part b j) h k =
        let n = length-drop from bytes in
        let z = prefixes_once a b (i - from) (j - from) (drop from bytes) (omega (arith, h.1, n))
        (omega (arith, k.1, n)) h.2 k.2 in
        let e : i ≡ j = omega (arith, z.1, h.0, k.0) in
        ap (λ c. part c i) z.0 ∙ ap (part b) e
    part_once (part a i) (no_part j) h k = absurd (k.1.none a (i - from) h.2)
    part_once (no_part i) (part b j) h k = absurd (h.1.none b (j - from) k.2)
    part_once (no_part i) (no_part j) h k = let e =
        bad_once S (drop from bytes) (i - from) (j - from) h.1 k.1 in let z : i ≡ j =
        omega (arith, e, h.0, k.0) in ap no_part z
    part_once (more i) y h k = absurd h
    part_once (part a i) (more j) h k = absurd k
    part_once (no_part i) (more j) h k = absurd k

    -- what a function answers where a part was read, and where none was: it fits, it is right, and
    -- it is the one answer
    pub got_at : (ts : List ℕ) (a : A) (rest : List ℕ) → ts ≡ drop from bytes → p ts ≡ Parsed a rest
        → (length rest ≤ length bytes) × IsPart S bytes from (part a (length bytes - length rest))
        × ((x : Part A) → IsPart S bytes from x → part a (length bytes - length rest) ≡ x)
    got_at ts a rest e h = let g = got_part a rest (ap p (sym e) ∙ h) in
        (g.0, g.1, λ x k. part_once (part a (length bytes - length rest)) x g.1 k)

    pub stuck_at : (ts rest : List ℕ) → ts ≡ drop from bytes → p ts ≡ Unexpected rest
        → (length rest ≤ length bytes) × IsPart S bytes from (no_part (length bytes - length rest))
        × ((x : Part A) → IsPart S bytes from x → no_part (length bytes - length rest) ≡ x)
    stuck_at ts rest e h = let g = stuck_part rest (ap p (sym e) ∙ h) in
        (g.0, g.1, λ x k. part_once (no_part (length bytes - length rest)) x g.1 k)

-- ---- whole commands

pub got_command : (c : PlainCommand) (bytes : List ℕ) → command bytes ≡ Parsed c []
    → IsDecoding bytes (whole c)
got_command c bytes e = let r = is_read command IsCommand command_bytes command_correct c bytes []
    e in (r.0, r.1 ∙ append-nil (command_bytes c))

pub got_more : (c : PlainCommand) (bytes rest : List ℕ) → command bytes ≡ Parsed c rest
    → 0 < length rest → (length rest ≤ length bytes)
    × IsDecoding bytes (rest_at (length bytes - length rest))
got_more c bytes rest e h = let g = got_prefix command IsCommand command_bytes command_correct c
    bytes rest e in (g.0, (omega (arith, g.0, h), c, g.1))

pub stuck_command : (bytes rest : List ℕ) → command bytes ≡ Unexpected rest
    → (length rest ≤ length bytes) × IsDecoding bytes (bad_at (length bytes - length rest))
stuck_command bytes rest e = stuck_place command IsCommand command_bytes command_correct bytes rest
    e

take_all : (bytes : List ℕ) → take (length bytes) bytes ≡ bytes
take_all bytes = ap (take (length bytes)) (sym (append-nil bytes))
    ∙ take_at bytes [] (length bytes) refl

as_prefix : (c : PlainCommand) (bytes : List ℕ) → Encodes c bytes
    → Encodes c (take (length bytes) bytes)
as_prefix c bytes s = (s.0, take_all bytes ∙ s.1)

pub decoding_once : (bytes : List ℕ) (x y : Decoding) → IsDecoding bytes x → IsDecoding bytes y
    → x ≡ y
decoding_once bytes (whole c) (whole d) h k =
    ap whole (prefixes_once command IsCommand command_bytes command_correct c d (length bytes)
    (length bytes) bytes (omega arith) (omega arith) (as_prefix c bytes h) (as_prefix d bytes k)).0
decoding_once bytes (whole c) (bad_at j) h k =
    absurd (k.none c (length bytes) (as_prefix c bytes h))
decoding_once bytes (whole c) (rest_at j) h k =
    absurd (let z = (prefixes_once command IsCommand command_bytes command_correct c k.1
    (length bytes) j bytes (omega arith) (omega (arith, k.0)) (as_prefix c bytes h) k.2).1 in
    omega (arith, z, k.0))
decoding_once bytes (bad_at i) (whole d) h k =
    absurd (h.none d (length bytes) (as_prefix d bytes k))
decoding_once bytes (bad_at i) (bad_at j) h k = ap bad_at (bad_once Encodes bytes i j h k)
decoding_once bytes (bad_at i) (rest_at j) h k = absurd (h.none k.1 j k.2)
decoding_once bytes (rest_at i) (whole d) h k =
    absurd (let z = (prefixes_once command IsCommand command_bytes command_correct d h.1
    (length bytes) i bytes (omega arith) (omega (arith, h.0)) (as_prefix d bytes k) h.2).1 in
    omega (arith, z, h.0))
decoding_once bytes (rest_at i) (bad_at j) h k = absurd (k.none h.1 i h.2)
decoding_once bytes (rest_at i) (rest_at j) h k =
    ap rest_at (prefixes_once command IsCommand command_bytes command_correct h.1 k.1 i j bytes
    (omega (arith, h.0)) (omega (arith, k.0)) h.2 k.2).1

-- bytes are one of the three
pub decoded : (bytes : List ℕ) → (x : Decoding) × IsDecoding bytes x
decoded bytes = by_outcome (command bytes) refl
  where
    by_outcome : (o : Out PlainCommand) → command bytes ≡ o → (x : Decoding) × IsDecoding bytes x
    by_outcome (Parsed c []) e = (whole c, got_command c bytes e)
    by_outcome (Parsed c (x ∷ rest)) e = (
      rest_at (length bytes - length (x ∷ rest)),
      (got_more c bytes (x ∷ rest) e (omega arith)).1,
    )
    by_outcome (Unexpected rest) e = (
      bad_at (length bytes - length rest),
      (stuck_command bytes rest e).1,
    )

-- ---- laws

pub one_encoding : {A : Type 0} (Is : A → Type 0) (encode : A → List ℕ) (c : A) (a b : List ℕ)
    → Is c
    × (a ≡ encode c) → Is c × (b ≡ encode c) → a ≡ b
one_encoding Is encode c a b h k = h.1 ∙ sym k.1

pub no_prefix : {A : Type 0} (p : Parser A) (Is : A → Type 0) (encode : A → List ℕ)
    → IsCorrectParser p Is encode → (c d : A) (a tail : List ℕ) → Is c × (a ≡ encode c) → Is d
    × (a ++ tail ≡ encode d) → (c ≡ d) × (tail ≡ [])
no_prefix p Is encode correct c d a tail h k =
    one_value p Is encode correct c d tail [] h.0 k.0
    (ap (λ l. l ++ tail) (sym h.1) ∙ k.1 ∙ sym (append-nil (encode d)))

pub its_own : (c d : PlainCommand) (a : List ℕ) → Encodes c a → Encodes d a → c ≡ d
its_own c d a h k = (one_value command IsCommand command_bytes command_correct c d [] [] h.0 k.0
    (ap (λ l. l ++ []) (sym h.1 ∙ k.1))).0
