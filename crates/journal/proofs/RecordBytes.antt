-- A record's bytes, read.
use Rattle.std.proofs.Common.{◌≡◌, inl, inr, ℕ, ◌+◌, ◌<◌, ◌≤◌, List, [], ◌∷◌, ◌++◌}
use Rattle.std.proofs.Common.{length, get_or, take, drop, refl, sym, ◌∙◌, ap, subst, arith}
use Rattle.std.proofs.Common.{append_assoc}
use Rattle.std.proofs.lemmas.Bool.{cases_lt}
use Rattle.std.proofs.lemmas.Nat.{be_bytes_8}
use Rattle.std.proofs.lemmas.List.{take-append-drop, drop-drop, get_or-take, get_or-drop}
use Rattle.std.proofs.lemmas.List.{length-take, length-drop, get_or_past}
use Rattle.std.specs.Int.{w64, to_be_bytes, from_be_bytes}

pub length_is : (rest : List ℕ) (n : ℕ) → 9 ≤ length rest → ((i : ℕ) → get_or rest i 0 < 256)
    → n ≡ from_be_bytes w64 (take 8 (drop 1 rest)) → to_be_bytes w64 n ≡ take 8 (drop 1 rest)
length_is rest n long small is = be_bytes_8 (take 8 (drop 1 rest)) n
    (omega (arith, length-take 8 (drop 1 rest), length-drop 1 rest)) each is
  where
    each : (i : ℕ) → get_or (take 8 (drop 1 rest)) i 0 < 256
    each i = elim (cases_lt i 8) [
      | inl lt ↦ subst (λ x. x < 256) (sym
          (get_or-take 8 (drop 1 rest) i 0 lt ∙ get_or-drop 1 rest i 0)) (small (1 + i))
      | inr past ↦ subst (λ x. x < 256)
          (sym (get_or_past (take 8 (drop 1 rest)) i 0
          (omega (arith, past, length-take 8 (drop 1 rest))))) (omega arith)
    ]

first_of : (rest : List ℕ) → 0 < length rest → rest ≡ get_or rest 0 0 ∷ drop 1 rest
first_of [] long = absurd (omega arith)
first_of (x ∷ rest) long = refl

-- a record's first bytes, its payload, and what stands after them
pub split_encoded : (rest payload : List ℕ) (n : ℕ) → 9 ≤ length rest
    → to_be_bytes w64 n ≡ take 8 (drop 1 rest) → n + 9 < length rest
    → payload ≡ take n (drop 9 rest)
    → rest ≡ (get_or rest 0 0 ∷ to_be_bytes w64 (length payload) ++ payload) ++ drop (9 + n) rest
split_encoded rest payload n long is inside pay =
    let size : length payload ≡ n = omega
    (arith, ap length pay, length-take n (drop 9 rest), length-drop 9 rest) in
    let encoded : to_be_bytes w64 (length payload) ≡ take 8 (drop 1 rest) =
    ap (λ k. to_be_bytes w64 k) size ∙ is in
    let after : drop 9 rest ≡ payload ++ drop (9 + n) rest =
    sym (take-append-drop n (drop 9 rest))
    ∙ ap (λ (l : List ℕ). l ++ drop n (drop 9 rest)) (sym pay)
    ∙ ap (λ (l : List ℕ). payload ++ l)
    (drop-drop n 9 rest ∙ ap (λ k. drop k rest) (omega arith)) in
    let whole : drop 1 rest ≡ take 8 (drop 1 rest) ++ (payload ++ drop (9 + n) rest) =
    sym (take-append-drop 8 (drop 1 rest))
    ∙ ap (λ (l : List ℕ). take 8 (drop 1 rest) ++ l) (drop-drop 8 1 rest ∙ after) in
    first_of rest (omega arith) ∙ ap (λ (l : List ℕ). get_or rest 0 0 ∷ l)
    (whole ∙ ap (λ (l : List ℕ). l ++ (payload ++ drop (9 + n) rest)) (sym encoded)
    ∙ sym (append_assoc (to_be_bytes w64 (length payload)) payload (drop (9 + n) rest)))

pub split : (rest payload : List ℕ) (n : ℕ) → 9 ≤ length rest → ((i : ℕ) → get_or rest i 0 < 256)
    → n ≡ from_be_bytes w64 (take 8 (drop 1 rest)) → n + 9 < length rest
    → payload ≡ take n (drop 9 rest)
    → rest ≡ (get_or rest 0 0 ∷ to_be_bytes w64 (length payload) ++ payload) ++ drop (9 + n) rest
split rest payload n long small is =
    split_encoded rest payload n long (length_is rest n long small is)

pub eight : (rest : List ℕ) → 9 ≤ length rest
    → take 8 (drop 1 rest) ≡ get_or rest 1 0 ∷ get_or rest 2 0 ∷ get_or rest 3 0 ∷ get_or rest 4 0 ∷
    get_or rest 5 0 ∷ get_or rest 6 0 ∷ get_or rest 7 0 ∷ get_or rest 8 0 ∷ []
eight [] long = absurd (omega arith)
eight (x ∷ []) long = absurd (omega arith)
eight (x ∷ a ∷ []) long = absurd (omega arith)
eight (x ∷ a ∷ b ∷ []) long = absurd (omega arith)
eight (x ∷ a ∷ b ∷ c ∷ []) long = absurd (omega arith)
eight (x ∷ a ∷ b ∷ c ∷ d ∷ []) long = absurd (omega arith)
eight (x ∷ a ∷ b ∷ c ∷ d ∷ e ∷ []) long = absurd (omega arith)
eight (x ∷ a ∷ b ∷ c ∷ d ∷ e ∷ f ∷ []) long = absurd (omega arith)
eight (x ∷ a ∷ b ∷ c ∷ d ∷ e ∷ f ∷ g ∷ []) long = absurd (omega arith)
eight (x ∷ a ∷ b ∷ c ∷ d ∷ e ∷ f ∷ g ∷ h ∷ rest) long = refl
