-- A file that is damaged stands for no records.
use Rattle.std.proofs.Common.{◌≡◌, ◌≢◌, ◌⊎◌, inl, inr, ⊎_elim, ℕ, ◌+◌, ◌<◌, ◌^◌, List, [], ◌∷◌}
use Rattle.std.proofs.Common.{◌++◌, length, get_or, take, drop, refl, sym, ◌∙◌, ap, subst, arith}
use Rattle.std.proofs.Common.{append_assoc, length-append, IsTrue, Bool, true, false}
use Rattle.std.specs.Prelude.{not}
use Rattle.std.proofs.lemmas.Bool.{both_ways, cases_lt}
use Rattle.std.proofs.lemmas.List.{take_at, get_or_append_left, get_or-take}
use Rattle.std.proofs.lemmas.Nat.{from_be_bytes-to_be_bytes_8}
use Rattle.std.specs.Int.{w64, to_be_bytes, from_be_bytes}
use Rattle.journal.specs.Records.{Record, header, body, frames, before_gate, is_known, IsKnown}
use Rattle.journal.specs.Records.{AreKnown, Holds, StandsFor}
use Rattle.journal.specs.Damage.{DiffersAt, BreaksAt, IsBadFrame, IsDamagedAt, has_no_kind}
use Rattle.journal.specs.RecordLaws.{head_is, tail_is, last_part, after, one_record}

-- what begins with a whole record and a gate is no bad frame
whole : (r : Record) (rest xs : List ℕ) (at place : ℕ) → IsKnown r.0 → length r.1 < 2 ^ 64
    → 0 < length xs → rest ≡ body r ++ xs → IsBadFrame at rest place → ⊥
whole r rest xs at place known short some is bad =
    let encoded : rest ≡ r.0 ∷ (to_be_bytes w64 (length r.1) ++ (r.1 ++ xs)) = is ∙ after r xs in
    ⊎_elim
    (λ no_kind. let h : IsTrue (not (is_known r.0)) =
    subst (λ l. IsTrue (has_no_kind l)) encoded no_kind.0 in
    both_ways (is_known r.0) (not_true (is_known r.0) h) known)
    (λ cut. let size : from_be_bytes w64 (take 8 (drop 1 rest)) ≡ length r.1 =
    ap (λ (l : List ℕ). from_be_bytes w64 (take 8 (drop 1 l))) encoded
    ∙ ap (from_be_bytes w64) (take_at (to_be_bytes w64 (length r.1)) (r.1 ++ xs) 8 refl)
    ∙ from_be_bytes-to_be_bytes_8 (length r.1) short in
    let long : length rest ≡ 9 + (length r.1 + length xs) =
    omega (
      arith,
      ap length encoded,
      length-append (to_be_bytes w64 (length r.1)) (r.1 ++ xs),
      length-append r.1 xs,
    ) in
    ⊎_elim (λ s. omega (arith, s, long)) (λ s. omega (arith, s, long, size, some)) cut.1)
    bad
  where
    not_true : (b : Bool) → IsTrue (not b) → b ≡ false
    not_true true h = absurd (both_ways false refl h)
    not_true false h = refl

some_left : (rs : List Record) (g : ℕ) (p : List ℕ) → 0 < length (frames rs ++ g ∷ p)
some_left [] g p = omega arith
some_left (r ∷ rs) g p = omega arith

not_both : (rs ss : List Record) (g at place : ℕ) (p rest : List ℕ) → g ≢ 1 → AreKnown rs
    → frames rs ++ g ∷ p ≡ frames ss ++ 1 ∷ rest → AreKnown ss → IsBadFrame at rest place → ⊥
not_both [] [] g at place p rest shut known e known_s bad = shut (head_is g 1 _ _ e)
not_both [] (s ∷ ss) g at place p rest shut known e known_s bad = shut (head_is g 1 _ _ e)
not_both (r ∷ rs) [] g at place p rest shut known e known_s bad =
    whole r rest (frames rs ++ g ∷ p) at place known.0 known.1 (some_left rs g p)
    (sym (tail_is 1 1 _ _ e) ∙ append_assoc (body r) (frames rs) (g ∷ p)) bad
not_both (r ∷ rs) (s ∷ ss) g at place p rest shut known e known_s bad =
    let further = sym (append_assoc (body r) (frames rs) (g ∷ p)) ∙ tail_is 1 1 _ _ e
    ∙ append_assoc (body s) (frames ss) (1 ∷ rest) in
    not_both rs ss g at place p rest shut known.2
    (one_record r s (frames rs ++ g ∷ p) (frames ss ++ 1 ∷ rest) known.1 known_s.1 further).1
    known_s.2 bad

holds_no_damage : (file : List ℕ) (rs : List Record) (place : ℕ) → Holds file rs
    → DiffersAt file place ⊎ BreaksAt file place → ⊥
holds_no_damage file rs place holds (inl differs) =
    let is = holds.file_is ∙ append_assoc header (frames rs) (holds.gate ∷ holds.rest) in
    differs.differs (ap (λ (l : List ℕ). get_or l place 0) is
    ∙ get_or_append_left header (frames rs ++ holds.gate ∷ holds.rest) 0 place differs.within)
holds_no_damage file rs place holds (inr breaks) =
    let e = sym (append_assoc header (frames rs) (holds.gate ∷ holds.rest)) ∙ sym holds.file_is
    ∙ breaks.file_is ∙ append_assoc header (frames breaks.records) (1 ∷ breaks.rest) in
    not_both rs breaks.records holds.gate
    (length (before_gate breaks.records)) place holds.rest breaks.rest holds.shut holds.known
    (last_part 8 header header _ _ refl refl e) breaks.known breaks.bad

-- a file stands for records, or it is damaged, and not both
pub not_damaged : (file : List ℕ) (rs : List Record) (place : ℕ) → StandsFor file rs
    → IsDamagedAt file place → ⊥
not_damaged file rs place (inl short) damage = omega (arith, short.0, damage.long)
not_damaged file rs place (inr holds) damage = holds_no_damage file rs place holds damage.is

not_both_ways : (b : Bool) → IsTrue b → IsTrue (not b) → ⊥
not_both_ways true is isnt = both_ways false refl isnt
not_both_ways false is isnt = both_ways false refl is

-- records, and after them an open gate with no whole record: there is one way to read them
one_break : (rs ss : List Record) (at other p q : ℕ) (rest more : List ℕ) → AreKnown rs
    → AreKnown ss → frames rs ++ 1 ∷ rest ≡ frames ss ++ 1 ∷ more → IsBadFrame at rest p
    → IsBadFrame other more q → (rs ≡ ss) × (rest ≡ more)
one_break [] [] at other p q rest more known_r known_s e bad bad_2 = (refl, tail_is 1 1 _ _ e)
one_break [] (s ∷ ss) at other p q rest more known_r known_s e bad bad_2 =
    absurd (whole s rest (frames ss ++ 1 ∷ more) at p known_s.0 known_s.1 (some_left ss 1 more)
    (tail_is 1 1 _ _ e ∙ append_assoc (body s) (frames ss) (1 ∷ more)) bad)
one_break (r ∷ rs) [] at other p q rest more known_r known_s e bad bad_2 =
    absurd (whole r more (frames rs ++ 1 ∷ rest) other q known_r.0 known_r.1 (some_left rs 1 rest)
    (sym (tail_is 1 1 _ _ e) ∙ append_assoc (body r) (frames rs) (1 ∷ rest)) bad_2)
one_break (r ∷ rs) (s ∷ ss) at other p q rest more known_r known_s e bad bad_2 =
    let further = sym (append_assoc (body r) (frames rs) (1 ∷ rest)) ∙ tail_is 1 1 _ _ e
    ∙ append_assoc (body s) (frames ss) (1 ∷ more) in
    let one = one_record r s (frames rs ++ 1 ∷ rest)
    (frames ss ++ 1 ∷ more) known_r.1 known_s.1 further in
    let others = one_break rs ss at other p q rest more known_r.2 known_s.2 one.1 bad bad_2 in
    ((λ i. one.0 i ∷ others.0 i), others.1)

-- a frame is bad at one place
bad_at_one_place : (at p q : ℕ) (rest : List ℕ) → IsBadFrame at rest p → IsBadFrame at rest q
    → p ≡ q
bad_at_one_place at p q rest (inl a) (inl b) = a.1 ∙ sym b.1
bad_at_one_place at p q rest (inl a) (inr b) = absurd (not_both_ways (has_no_kind rest) a.0 b.0)
bad_at_one_place at p q rest (inr a) (inl b) = absurd (not_both_ways (has_no_kind rest) b.0 a.0)
bad_at_one_place at p q rest (inr a) (inr b) = a.2 ∙ sym b.2

-- the first difference is at one place
no_earlier : (file : List ℕ) (p q : ℕ) → DiffersAt file p → DiffersAt file q → p < q → ⊥
no_earlier file p q a b lt =
    a.differs (sym (get_or-take q file p 0 lt) ∙ ap (λ (l : List ℕ). get_or l p 0) b.before
    ∙ get_or-take q header p 0 lt)

differs_at_one_place : (file : List ℕ) (p q : ℕ) → DiffersAt file p → DiffersAt file q → p ≡ q
differs_at_one_place file p q a b = elim (cases_lt p q) [
  | inl lt ↦ absurd (no_earlier file p q a b lt)
  | inr le ↦ elim (cases_lt q p) [
    | inl lt ↦ absurd (no_earlier file q p b a lt)
    | inr ge ↦ omega (arith, le, ge)
  ]
]

no_difference : (file : List ℕ) (p q : ℕ) → DiffersAt file p → BreaksAt file q → ⊥
no_difference file p q differs breaks =
    let is = breaks.file_is ∙ append_assoc header (frames breaks.records) (1 ∷ breaks.rest) in
    differs.differs (ap (λ (l : List ℕ). get_or l p 0) is
    ∙ get_or_append_left header (frames breaks.records ++ 1 ∷ breaks.rest) 0 p differs.within)

breaks_at_one_place : (file : List ℕ) (p q : ℕ) → BreaksAt file p → BreaksAt file q → p ≡ q
breaks_at_one_place file p q a b =
    let e = sym (append_assoc header (frames a.records) (1 ∷ a.rest)) ∙ sym a.file_is ∙ b.file_is
    ∙ append_assoc header (frames b.records) (1 ∷ b.rest) in
    let same = one_break a.records b.records (length (before_gate a.records))
    (length (before_gate b.records)) p q a.rest b.rest a.known b.known
    (last_part 8 header header _ _ refl refl e) a.bad b.bad in
    let at : length (before_gate a.records) ≡ length (before_gate b.records) =
    ap (λ (l : List Record). length (before_gate l)) same.0 in
    bad_at_one_place (length (before_gate b.records)) p q b.rest
    (subst (λ n. IsBadFrame n b.rest p) at
    (subst (λ l. IsBadFrame (length (before_gate a.records)) l p) same.1 a.bad))
    b.bad

-- a file is damaged at one place alone
pub damaged_at_one_place : (file : List ℕ) (p q : ℕ) → IsDamagedAt file p → IsDamagedAt file q
    → p ≡ q
damaged_at_one_place file p q a b = go a.is b.is
  where
    go : DiffersAt file p ⊎ BreaksAt file p → DiffersAt file q ⊎ BreaksAt file q → p ≡ q
    go (inl d) (inl e) = differs_at_one_place file p q d e
    go (inl d) (inr e) = absurd (no_difference file p q d e)
    go (inr d) (inl e) = absurd (no_difference file q p e d)
    go (inr d) (inr e) = breaks_at_one_place file p q d e
