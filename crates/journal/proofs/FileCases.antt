-- Each list of bytes stands for records, or it is damaged.
use Rattle.std.proofs.Common.{◌≡◌, ◌≢◌, ◌⊎◌, inl, inr, ℕ, zero, suc, ◌+◌, ◌^◌, ◌<◌, ◌≤◌, List}
use Rattle.std.proofs.Common.{[], ◌∷◌, ◌++◌, length, get_or, take, drop, refl, sym, ◌∙◌, ap, subst}
use Rattle.std.proofs.Common.{arith, append_assoc, take-append-drop, Bool, true, false}
use Rattle.std.specs.Prelude.{not}
use Rattle.std.proofs.lemmas.Bool.{cases_lt}
use Rattle.std.proofs.lemmas.List.{take_more, get_or-drop, length-take, length-drop}
use Rattle.std.specs.Int.{w64, from_be_bytes}
use Rattle.journal.specs.Records.{Record, header, body, frames, is_known, IsKnown, AreKnown}
use Rattle.journal.specs.Records.{StandsFor}
use Rattle.journal.specs.Damage.{DiffersAt, IsBadFrame, IsDamagedAt}
use Rattle.journal.proofs.RecordBytes.{split, eight}

-- every byte is one
abbrev AreBytes : List ℕ → Type 0
AreBytes xs = (i : ℕ) → get_or xs i 0 < 256

same_or_not : (m n : ℕ) → (m ≡ n) ⊎ (m ≢ n)
same_or_not m n = elim (cases_lt m n) [
  | inl lt ↦ inr (λ e. omega (arith, lt, e))
  | inr le ↦ elim (cases_lt n m) [
    | inl lt ↦ inr (λ e. omega (arith, lt, e))
    | inr ge ↦ inl (omega (arith, le, ge))
  ]
]

-- whole records, and a gate that is not open
abbrev IsShut : List ℕ → Type 0
IsShut xs = (rs : List Record) × (g : ℕ) × (p : List ℕ) × (g ≢ 1) × AreKnown rs
    × (xs ≡ frames rs ++ g ∷ p)

-- whole records, and an open gate with no whole record after it
abbrev IsBroken : List ℕ → Type 0
IsBroken xs = (rs : List Record) × (rest : List ℕ) × AreKnown rs × (xs ≡ frames rs ++ 1 ∷ rest)
    × ((at : ℕ) → (place : ℕ) × IsBadFrame at rest place)

no_record : (g : ℕ) (rest : List ℕ) → g ≡ 1 → ((at : ℕ) → (place : ℕ) × IsBadFrame at rest place)
    → IsBroken (g ∷ rest)
no_record g rest is_open bad =
    ([], rest, tt, ap (λ (n : ℕ). n ∷ rest) is_open, bad)

module _ (g : ℕ) (rest more : List ℕ) (r : Record) (is_open : g ≡ 1) (is : rest ≡ body r ++ more)
    (known : IsKnown r.0) (short : length r.1 < 2 ^ 64) where
  encoded : (rs : List Record) (end : List ℕ) → more ≡ frames rs ++ end
      → g ∷ rest ≡ frames (r ∷ rs) ++ end
  encoded rs end more_is =
      ap (λ (n : ℕ). n ∷ rest) is_open
      ∙ ap (λ (l : List ℕ). 1 ∷ l) (is ∙ ap (λ (l : List ℕ). body r ++ l) more_is
      ∙ sym (append_assoc (body r) (frames rs) end))

  one_before : IsShut more ⊎ IsBroken more → IsShut (g ∷ rest) ⊎ IsBroken (g ∷ rest)
  one_before (inl (rs, h, p, shut, are, more_is)) =
      inl (r ∷ rs, h, p, shut, (known, short, are), encoded rs (h ∷ p) more_is)
  one_before (inr (rs, end, are, more_is, bad)) =
      inr (r ∷ rs, end, (known, short, are), encoded rs (1 ∷ end) more_is, bad)

small_number : (xs : List ℕ) → 9 ≤ length xs → AreBytes xs
    → from_be_bytes w64 (take 8 (drop 1 xs)) < 2 ^ 64
small_number xs long small =
    let size : from_be_bytes w64 (take 8 (drop 1 xs)) ≡ from_be_bytes w64 (get_or xs 1 0
    ∷ get_or xs 2 0 ∷ get_or xs 3 0 ∷ get_or xs 4 0 ∷ get_or xs 5 0 ∷ get_or xs 6 0
    ∷ get_or xs 7 0 ∷ get_or xs 8 0 ∷ []) = ap (from_be_bytes w64) (eight xs long) in
    omega (
      arith,
      size,
      small 1,
      small 2,
      small 3,
      small 4,
      small 5,
      small 6,
      small 7,
      small 8,
    )

bytes_after : (n : ℕ) (xs : List ℕ) → AreBytes xs → AreBytes (drop n xs)
bytes_after n xs small i = subst (λ x. x < 256) (sym (get_or-drop n xs i 0)) (small (n + i))

module _ (fuel g kind : ℕ) (tail : List ℕ) (le : length (g ∷ kind ∷ tail) ≤ suc fuel)
    (small : AreBytes (g ∷ kind ∷ tail))
    (further : (xs : List ℕ) → length xs ≤ fuel → 0 < length xs → AreBytes xs
    → IsShut xs ⊎ IsBroken xs) (is_open : g ≡ 1) where
  rest_small : AreBytes (kind ∷ tail)
  rest_small = bytes_after 1 (g ∷ kind ∷ tail) small

  -- what the eight bytes of the length say
  abbrev size : ℕ
  size = from_be_bytes w64 (take 8 (drop 1 (kind ∷ tail)))

  whole : IsKnown kind → 9 ≤ length (kind ∷ tail) → size + 9 < length (kind ∷ tail)
      → IsShut (g ∷ kind ∷ tail) ⊎ IsBroken (g ∷ kind ∷ tail)
  whole known long inside =
      let payload = take size (drop 9 (kind ∷ tail)) in
      let more = drop (9 + size) (kind ∷ tail) in
      let short : length payload < 2 ^ 64 = omega (
        arith,
        length-take size (drop 9 (kind ∷ tail)),
        small_number (kind ∷ tail) long rest_small,
      ) in
      let less : length more ≤ fuel = omega (arith, le, length-drop (9 + size) (kind ∷ tail)) in
      let some : 0 < length more = omega (arith, inside, length-drop (9 + size) (kind ∷ tail)) in
      one_before g (kind ∷ tail) more (kind, payload) is_open
      (split (kind ∷ tail) payload size long rest_small refl inside refl) known short
      (further more less some (bytes_after (9 + size) (kind ∷ tail) rest_small))

  after_open : (b : Bool) → is_known kind ≡ b
      → IsShut (g ∷ kind ∷ tail) ⊎ IsBroken (g ∷ kind ∷ tail)
  after_open false unknown = inr (no_record g (kind ∷ tail) is_open
      (λ at. (at + 1, inl (ap not unknown, refl))))
  after_open true known = elim (cases_lt (length (kind ∷ tail)) 9) [
    | inl short ↦ inr (no_record g (kind ∷ tail) is_open
        (λ at. (at + 2, inr (ap (λ b. not (not b)) known, inl short, refl))))
    | inr long ↦ elim (cases_lt (9 + size) (length (kind ∷ tail))) [
      | inl inside ↦ whole known long (omega (arith, inside))
      | inr cut ↦ inr (no_record g (kind ∷ tail) is_open
          (λ at. (at + 2, inr (ap (λ b. not (not b)) known, inr cut, refl))))
    ]
  ]

parsed : (fuel : ℕ) (xs : List ℕ) → length xs ≤ fuel → 0 < length xs → AreBytes xs
    → IsShut xs ⊎ IsBroken xs
parsed fuel [] le some small = absurd (omega (arith, some))
parsed zero (g ∷ rest) le some small = absurd (omega (arith, le))
parsed (suc fuel) (g ∷ []) le some small = elim (same_or_not g 1) [
  | inl is_open ↦ inr (no_record g [] is_open (λ at. (at + 1, inl (refl, refl))))
  | inr shut ↦ inl ([], g, [], shut, tt, refl)
]
parsed (suc fuel) (g ∷ kind ∷ tail) le some small = elim (same_or_not g 1) [
  | inr shut ↦ inl ([], g, kind ∷ tail, shut, tt, refl)
  | inl is_open ↦ after_open fuel g kind tail le small (parsed fuel) is_open (is_known kind) refl
]

-- the first difference from the header, or none
compared : (file : List ℕ) (left at : ℕ) → 9 < length file → at + left ≡ 8
    → take at file ≡ take at header → ((place : ℕ) × DiffersAt file place) ⊎ (take 8 file ≡ header)
compared file zero at long all same =
    let end : at ≡ 8 = omega (arith, all) in
    inr (subst (λ k. take k file ≡ take k header) end same)
compared file (suc left) at long all same =
    elim (same_or_not (get_or file at 0) (get_or header at 0)) [
      | inr differs ↦ inl (
        at,
        record { within = omega (arith, all); before = same; differs = differs },
      )
      | inl is ↦ compared file left (at + 1) long (omega (arith, all))
          (take_more file at 0 (omega (arith, all, long))
          ∙ ap (λ (l : List ℕ). l ++ get_or file at 0 ∷ []) same
          ∙ ap (λ (x : ℕ). take at header ++ x ∷ []) is
          ∙ sym (take_more header at 0 (omega (arith, all))))
    ]

module _ (file : List ℕ) (long : 9 < length file) (starts : take 8 file ≡ header) where
  file_is : (rs : List Record) (end : List ℕ) → drop 8 file ≡ frames rs ++ end
      → file ≡ (header ++ frames rs) ++ end
  file_is rs end is =
      sym (take-append-drop 8 file) ∙ ap (λ (l : List ℕ). l ++ drop 8 file) starts
      ∙ ap (λ (l : List ℕ). header ++ l) is ∙ sym (append_assoc header (frames rs) end)

  named : IsShut (drop 8 file) ⊎ IsBroken (drop 8 file)
      → ((rs : List Record) × StandsFor file rs) ⊎ ((place : ℕ) × IsDamagedAt file place)
  named (inl (rs, g, p, shut, known, is)) = inl (
    rs,
    inr (record {
      gate = g;
      rest = p;
      shut = shut;
      file_is = file_is rs (g ∷ p) is;
      known = known;
    }),
  )
  named (inr (rs, rest, known, is, bad)) =
      let here = bad (length (header ++ frames rs)) in
      inr (
        here.0,
        record {
          long = long;
          is = inr (record {
            records = rs;
            rest = rest;
            file_is = file_is rs (1 ∷ rest) is;
            known = known;
            bad = here.1;
          });
        },
      )

pub stands_or_damaged : (file : List ℕ) → ((i : ℕ) → get_or file i 0 < 256)
    → ((rs : List Record) × StandsFor file rs) ⊎ ((place : ℕ) × IsDamagedAt file place)
stands_or_damaged file small = elim (cases_lt 9 (length file)) [
  | inr short ↦ inl ([], inl (short, refl))
  | inl long ↦ elim (compared file 8 0 long refl refl) [
    | inl differs ↦ inr (differs.0, record { long = long; is = inl differs.1 })
    | inr starts ↦ named file long starts (parsed (length file) (drop 8 file)
        (omega (arith, length-drop 8 file)) (omega (arith, long, length-drop 8 file))
        (bytes_after 8 file small))
  ]
]
