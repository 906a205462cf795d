-- What stands before a record's payload, read.
use Rattle.std.proofs.Common.{◌≡◌, inl, inr, ℕ, ◌+◌, ◌<◌, ◌≤◌, ◌^◌, IsTrue, List, [], ◌∷◌}
use Rattle.std.proofs.Common.{◌++◌, length, get_or, take, drop, refl, sym, ◌∙◌, ap, min, arith}
use Rattle.std.specs.Prelude.{not, false}
use Rattle.std.proofs.lemmas.Bool.{cases_lt}
use Rattle.std.proofs.lemmas.List.{take_all, take_at, take-take, drop-drop, get_or-take, get_or-drop}
use Rattle.std.proofs.lemmas.List.{get_or_read, length-take, length-drop}
use Rattle.std.specs.Int.{w64, to_be_bytes, from_be_bytes}
use Rattle.journal.specs.Records.{is_known, IsKnown}
use Rattle.journal.specs.Damage.{has_no_kind, IsBadFrame, DiffersAt}
use Rattle.journal.specs.Reading.{IsHead, IsRead}
use Rattle.journal.specs.declared.rec.Rec.{Rec}
use Rattle.journal.proofs.RecordBytes.{length_is, eight, split_encoded}

-- of what stands after a gate, the first nine bytes
module _ (at : ℕ) (rest first : List ℕ) (starts : take 9 rest ≡ first) where
  pub nothing_there : first ≡ [] → IsBadFrame at rest (at + 1)
  nothing_there none = go rest (starts ∙ none)
    where
      go : (rest : List ℕ) → take 9 rest ≡ [] → IsBadFrame at rest (at + 1)
      go [] is = inl (refl, refl)
      go (x ∷ rest) is = absurd (omega (arith, ap length is))

  pub no_such_kind : (kind : ℕ) → 0 < length first → kind ≡ get_or first 0 0
      → is_known kind ≡ false → IsBadFrame at rest (at + 1)
  no_such_kind kind some is unknown = go rest (starts)
    where
      go : (rest : List ℕ) → take 9 rest ≡ first → IsBadFrame at rest (at + 1)
      go [] starts = inl (refl, refl)
      go (x ∷ rest) starts = inl (
        ap not (ap is_known (ap (λ (l : List ℕ). get_or l 0 0) starts ∙ sym is) ∙ unknown),
        refl,
      )

-- a known kind stands there
pub has_kind : (rest : List ℕ) (kind : ℕ) → 0 < length rest → kind ≡ get_or rest 0 0
    → IsKnown kind → IsTrue (not (has_no_kind rest))
has_kind [] kind some is known = absurd (omega arith)
has_kind (x ∷ rest) kind some is known =
    ap (λ b. not (not b)) (ap is_known (sym is) ∙ known)

pub cut_short : (at : ℕ) (rest first : List ℕ) (kind : ℕ) → take 9 rest ≡ first
    → 0 < length first → kind ≡ get_or first 0 0 → IsKnown kind → length first < 9
    → IsBadFrame at rest (at + 2)
cut_short at rest first kind starts some is known short =
    let n : length first ≡ length (take 9 rest) = ap length (sym starts) in
    inr (
      has_kind rest kind (omega (arith, n, some, length-take 9 rest))
          (is ∙ ap (λ (l : List ℕ). get_or l 0 0) (sym starts) ∙ get_or-take 9 rest 0 0 (omega arith))
          known,
      inl (omega (arith, n, short, length-take 9 rest)),
      refl,
    )

pub head_is : (rest first : List ℕ) (kind len : ℕ) → take 9 rest ≡ first → 9 ≤ length first
    → ((i : ℕ) → get_or first i 0 < 256) → kind ≡ get_or first 0 0
    → len ≡ from_be_bytes w64 (get_or first 1 0 ∷ get_or first 2 0 ∷ get_or first 3 0
    ∷ get_or first 4 0 ∷ get_or first 5 0 ∷ get_or first 6 0 ∷ get_or first 7 0 ∷ get_or first 8 0
    ∷ [])
    → IsHead rest kind len
head_is rest first kind len starts long small is said =
    let n : length first ≡ length (take 9 rest) = ap length (sym starts) in
    let same : take 8 (drop 1 first) ≡ take 8 (drop 1 rest) =
    ap (λ (l : List ℕ). take 8 (drop 1 l)) (sym starts) ∙ eight_of_nine rest in
    let len_is : len ≡ from_be_bytes w64 (take 8 (drop 1 first)) =
    said ∙ ap (from_be_bytes w64) (sym (eight first long)) in
    record {
      whole = omega (arith, n, long, length-take 9 rest);
      kind_is =
          is ∙ ap (λ (l : List ℕ). get_or l 0 0) (sym starts)
          ∙ get_or-take 9 rest 0 0 (omega arith);
      encoded = length_is first len long small len_is ∙ same;
      len_is = len_is ∙ ap (from_be_bytes w64) same;
    }
  where
    eight_of_nine : (rest : List ℕ) → take 8 (drop 1 (take 9 rest)) ≡ take 8 (drop 1 rest)
    eight_of_nine [] = refl
    eight_of_nine (x ∷ rest) = take-take 8 8 rest (omega arith)

-- the first nine bytes, or all that there are
pub first_nine : (rest first : List ℕ) (n : ℕ) → n ≡ min (length rest) 9 → first ≡ take n rest
    → take 9 rest ≡ first
first_nine rest first n is_n is = elim (cases_lt (length rest) 9) [
  | inl short ↦ take_all 9 rest (omega (arith, short))
      ∙ sym (is ∙ take_all n rest (omega (arith, short, is_n)))
  | inr long ↦ let n_is : 9 ≡ n = omega (arith, long, is_n) in
      ap (λ (k : ℕ). take k rest) n_is ∙ sym is
]

-- the next gate does not lie in the file
pub cut_off : (at : ℕ) (rest : List ℕ) (kind len : ℕ) → IsHead rest kind len → IsKnown kind
    → length rest ≤ 9 + len → IsBadFrame at rest (at + 2)
cut_off at rest kind len head known short =
    inr (
      has_kind rest kind (omega (arith, head.whole)) head.kind_is known,
      inr (omega (arith, short, head.len_is)),
      refl,
    )

-- the record stands there whole
pub record_read : (at : ℕ) (rest : List ℕ) (rec : Rec) (n : ℕ) → IsHead rest rec.kind n
    → IsKnown rec.kind → n + 9 < length rest → n < 2 ^ 64 → rec.at ≡ at
    → length rec.payload.items ≡ n → rec.payload.items ≡ take n (drop 9 rest)
    → IsRead at rest rec (9 + length rec.payload.items)
record_read at rest rec n head known inside short place size paid =
    let split = split_encoded rest rec.payload.items n head.whole head.encoded inside paid in
    record {
      is = split
          ∙ ap (λ k. (k ∷ to_be_bytes w64 (length rec.payload.items) ++ rec.payload.items)
          ++ drop (9 + n) rest) (sym head.kind_is)
          ∙ ap (λ k. (rec.kind ∷ to_be_bytes w64 (length rec.payload.items) ++ rec.payload.items)
          ++ drop (9 + k) rest) (sym size);
      used_is = refl;
      inside = omega (arith, size, inside);
      place = place;
      known = known;
      short = omega (arith, size, short);
    }

-- a payload and the gate after it, read into a buffer of just that length
module _ (file zeros got : List ℕ) (at n m : ℕ) (size : m ≡ n + 1)
    (is : got ≡ take m (drop (at + 1 + 9) file)) (inside : at + 10 + n < length file) where
  filled : take m (got ++ drop (length got) zeros) ≡ take m (drop (at + 1 + 9) file)
  filled = take_at got (drop (length got) zeros) m
      (omega (
        arith,
        ap length is,
        length-take m (drop (at + 1 + 9) file),
        length-drop (at + 1 + 9) file,
      ))
      ∙ is

  pub payload_filled : (payload : List ℕ)
      → payload ≡ take n (take m (got ++ drop (length got) zeros))
      → payload ≡ take n (drop 9 (drop (at + 1) file))
  payload_filled payload paid =
      paid ∙ ap (λ (l : List ℕ). take n l) filled
      ∙ take-take n m (drop (at + 1 + 9) file) (omega (arith, size))
      ∙ ap (λ (l : List ℕ). take n l) (sym (drop-drop 9 (at + 1) file))

  pub gate_filled : (gate : ℕ) → gate ≡ get_or (take m (got ++ drop (length got) zeros)) n gate
      → gate ≡ get_or file (at + 10 + n) 0
  gate_filled gate read =
      get_or_read (take m (got ++ drop (length got) zeros)) n gate
      (omega (
        arith,
        ap length filled,
        length-take m (drop (at + 1 + 9) file),
        length-drop (at + 1 + 9) file,
      )) read 0
      ∙ ap (λ (l : List ℕ). get_or l n 0) filled
      ∙ get_or-take m (drop (at + 1 + 9) file) n 0 (omega (arith, size))
      ∙ get_or-drop (at + 1 + 9) file n 0
      ∙ ap (λ (k : ℕ). get_or file k 0) (sum at n)
    where
      sum : (at n : ℕ) → at + 1 + 9 + n ≡ at + 10 + n
      sum at n = omega arith

-- the header, read with the byte after it
pub differs_in_file : (file : List ℕ) (place : ℕ) → DiffersAt (take 9 file) place
    → DiffersAt file place
differs_in_file file place it = record {
  within = it.within;
  before = sym (take-take place 9 file (omega (arith, it.within))) ∙ it.before;
  differs = λ e. it.differs (get_or-take 9 file place 0 (omega (arith, it.within)) ∙ e);
}
