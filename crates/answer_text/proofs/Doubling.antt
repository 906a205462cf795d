-- How a text whose quotes are doubled is cut into pieces: each piece ends with a quote, and the
-- next begins with the same quote.
use Rattle.std.proofs.Common.{◌≡◌, ◌≢◌, ◌+◌, ◌-◌, ◌<◌, ◌≤◌, ℕ, List, [], ◌∷◌, ◌++◌, length, take}
use Rattle.std.proofs.Common.{drop, get_or, refl, sym, ap, ◌∙◌, append_assoc, append-nil, arith}
use Rattle.std.proofs.Common.{length-drop, false}
use Rattle.std.specs.Prelude.{◌==◌, ◌||◌, Bool, true, if◌then◌else◌}
use Rattle.std.specs.List.{list_any}
use Rattle.std.proofs.lemmas.List.{take_more, drop_more, drop_all, get_or-drop}
use Rattle.std.proofs.lemmas.Bool.Decides.{nat_tests}
use Rattle.smo_parse.specs.TreeTexts.{doubled}

-- the piece up to the byte, and the byte
piece_more : (xs : List ℕ) (s i : ℕ) → s ≤ i → i < length xs
    → take (i + 1 - s) (drop s xs) ≡ take (i - s) (drop s xs) ++ get_or xs i 0 ∷ []
piece_more xs s i le lt =
    let n : i + 1 - s ≡ i - s + 1 = omega arith in
    let at : s + (i - s) ≡ i = omega arith in
    ap (λ k. take k (drop s xs)) n
    ∙ take_more (drop s xs) (i - s) 0 (omega (arith, length-drop s xs))
    ∙ ap (λ b. take (i - s) (drop s xs) ++ b ∷ [])
    (get_or-drop s xs (i - s) 0 ∙ ap (λ k. get_or xs k 0) at)

other_byte : (b : ℕ) (bytes : List ℕ) → b ≢ 39 → doubled (b ∷ bytes) ≡ b ∷ doubled bytes
other_byte b bytes ne =
    let e : (b == 39) ≡ false = grind (arith, nat_tests) in
    ap (λ t. if t then 39 ∷ 39 ∷ doubled bytes else b ∷ doubled bytes) e

quote_byte : (b : ℕ) (bytes : List ℕ) → b ≡ 39 → doubled (b ∷ bytes) ≡ 39 ∷ 39 ∷ doubled bytes
quote_byte b bytes e = ap (λ c. doubled (c ∷ bytes)) e

-- after another byte the piece goes on
pub goes_on : (xs sent : List ℕ) (s i : ℕ) → s ≤ i → i < length xs → get_or xs i 0 ≢ 39
    → doubled xs ≡ sent ++ (take (i - s) (drop s xs) ++ doubled (drop i xs))
    → doubled xs ≡ sent ++ (take (i + 1 - s) (drop s xs) ++ doubled (drop (i + 1) xs))
goes_on xs sent s i le lt ne e =
    let t = take (i - s) (drop s xs) in
    let b = get_or xs i 0 in
    let rest = doubled (drop (i + 1) xs) in
    let head : doubled (drop i xs) ≡ b ∷ rest = ap doubled (drop_more xs i 0 lt)
    ∙ other_byte b (drop (i + 1) xs) ne in
    let joined : t ++ doubled (drop i xs) ≡ take (i + 1 - s) (drop s xs) ++ rest =
    ap (λ l. t ++ l) head ∙ sym (append_assoc t (b ∷ []) rest)
    ∙ ap (λ l. l ++ rest) (sym (piece_more xs s i le lt)) in
    e ∙ ap (λ l. sent ++ l) joined

-- after a quote a piece is done, and the next begins with the quote
pub next_piece : (xs sent : List ℕ) (s i : ℕ) → s ≤ i → i < length xs → get_or xs i 0 ≡ 39
    → doubled xs ≡ sent ++ (take (i - s) (drop s xs) ++ doubled (drop i xs))
    → doubled xs ≡ (sent ++ take (i + 1 - s) (drop s xs))
    ++ (take (i + 1 - i) (drop i xs) ++ doubled (drop (i + 1) xs))
next_piece xs sent s i le lt q e =
    let t = take (i - s) (drop s xs) in
    let b = get_or xs i 0 in
    let rest = doubled (drop (i + 1) xs) in
    let one : i + 1 - i ≡ 1 = omega arith in
    let begun : take (i + 1 - i) (drop i xs) ≡ 39 ∷ [] =
    ap (λ k. take k (drop i xs)) one ∙ ap (take 1) (drop_more xs i 0 lt) ∙ ap (λ c. c ∷ []) q in
    let head : doubled (drop i xs) ≡ 39 ∷ 39 ∷ rest = ap doubled (drop_more xs i 0 lt)
    ∙ quote_byte b (drop (i + 1) xs) q in
    let done : take (i + 1 - s) (drop s xs) ≡ t ++ 39 ∷ [] = piece_more xs s i le lt
    ∙ ap (λ c. t ++ c ∷ []) q in
    let joined : t ++ doubled (drop i xs) ≡ take (i + 1 - s) (drop s xs) ++ (39 ∷ rest) =
    ap (λ l. t ++ l) head ∙ sym (append_assoc t (39 ∷ []) (39 ∷ rest))
    ∙ ap (λ l. l ++ (39 ∷ rest)) (sym done) in
    e ∙ ap (λ l. sent ++ l) joined
    ∙ sym (append_assoc sent (take (i + 1 - s) (drop s xs)) (39 ∷ rest))
    ∙ ap (λ l. (sent ++ take (i + 1 - s) (drop s xs)) ++ (l ++ rest)) (sym begun)

-- the last piece
pub last_piece : (xs sent : List ℕ) (s i : ℕ) → i ≤ length xs → length xs ≤ i
    → doubled xs ≡ sent ++ (take (i - s) (drop s xs) ++ doubled (drop i xs))
    → doubled xs ≡ sent ++ take (length xs - s) (drop s xs)
last_piece xs sent s i le ge e =
    let at : i ≡ length xs = omega arith in
    e ∙ ap (λ l. sent ++ (take (i - s) (drop s xs) ++ doubled l)) (drop_all i xs ge)
    ∙ ap (λ l. sent ++ l) (append-nil (take (i - s) (drop s xs)))
    ∙ ap (λ k. sent ++ take (k - s) (drop s xs)) at

-- a text without a quote stays as it is
plain_byte : (b : ℕ) (xs : List ℕ) (q : Bool) → (b == 39) ≡ q
    → (q || list_any (λ y. y == 39) xs) ≡ false
    → (list_any (λ y. y == 39) xs ≡ false → doubled xs ≡ xs) → doubled (b ∷ xs) ≡ b ∷ xs
plain_byte b xs true e k rest = absurd (cc)
plain_byte b xs false e k rest = ap (λ t. if t then 39 ∷ 39 ∷ doubled xs else b ∷ doubled xs) e
    ∙ ap (λ l. b ∷ l) (rest k)

pub without_quotes : (xs : List ℕ) → list_any (λ y. y == 39) xs ≡ false → doubled xs ≡ xs
without_quotes [] h = refl
without_quotes (b ∷ xs) h = plain_byte b xs (b == 39) refl h (λ k. without_quotes xs k)
