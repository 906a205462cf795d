-- A file stands for one list of records alone.
use Rattle.std.proofs.Common.{◌≡◌, ◌≢◌, inl, inr, ℕ, ◌<◌, ◌≤◌, ◌^◌, List, [], ◌∷◌, ◌++◌, length}
use Rattle.std.proofs.Common.{get_or, take, drop, refl, sym, ◌∙◌, ap, arith, append_assoc}
use Rattle.std.proofs.Common.{length-append}
use Rattle.std.proofs.lemmas.List.{take_at, drop_at}
use Rattle.std.proofs.lemmas.Nat.{from_be_bytes-to_be_bytes_8}
use Rattle.std.specs.Int.{w64, to_be_bytes, from_be_bytes}
use Rattle.journal.specs.Records.{Record, header, body, frames, before_gate, AreKnown, Holds}
use Rattle.journal.specs.Records.{StandsFor}

pub head_is : (x y : ℕ) (xs ys : List ℕ) → x ∷ xs ≡ y ∷ ys → x ≡ y
head_is x y xs ys e = ap (λ (l : List ℕ). get_or l 0 0) e

pub tail_is : (x y : ℕ) (xs ys : List ℕ) → x ∷ xs ≡ y ∷ ys → xs ≡ ys
tail_is x y xs ys e = ap (λ (l : List ℕ). drop 1 l) e

-- two lists whose first parts are as long
first_part : (n : ℕ) (a b xs ys : List ℕ) → length a ≡ n → length b ≡ n → a ++ xs ≡ b ++ ys → a ≡ b
first_part n a b xs ys la lb e = sym (take_at a xs n la) ∙ ap (λ (l : List ℕ). take n l) e
    ∙ take_at b ys n lb

pub last_part : (n : ℕ) (a b xs ys : List ℕ) → length a ≡ n → length b ≡ n → a ++ xs ≡ b ++ ys
    → xs ≡ ys
last_part n a b xs ys la lb e = sym (drop_at a xs n la) ∙ ap (λ (l : List ℕ). drop n l) e
    ∙ drop_at b ys n lb

-- what stands after an open gate
pub after : (r : Record) (rest : List ℕ)
    → body r ++ rest ≡ r.0 ∷ (to_be_bytes w64 (length r.1) ++ (r.1 ++ rest))
after r rest = ap (λ (l : List ℕ). r.0 ∷ l) (append_assoc (to_be_bytes w64 (length r.1)) r.1 rest)

pub one_record : (r s : Record) (xs ys : List ℕ) → length r.1 < 2 ^ 64 → length s.1 < 2 ^ 64
    → body r ++ xs ≡ body s ++ ys → (r ≡ s) × (xs ≡ ys)
one_record r s xs ys short_r short_s e =
    let whole = sym (after r xs) ∙ e ∙ after s ys in
    let kind : r.0 ≡ s.0 = head_is r.0 s.0 _ _ whole in
    let rest = tail_is r.0 s.0 _ _ whole in
    let encoded : to_be_bytes w64 (length r.1) ≡ to_be_bytes w64 (length s.1) =
    first_part 8 (to_be_bytes w64 (length r.1)) (to_be_bytes w64 (length s.1)) (r.1 ++ xs)
    (s.1 ++ ys) refl refl rest in
    let size : length r.1 ≡ length s.1 =
    sym (from_be_bytes-to_be_bytes_8 (length r.1) short_r) ∙ ap (from_be_bytes w64) encoded
    ∙ from_be_bytes-to_be_bytes_8 (length s.1) short_s in
    let paid = last_part 8 (to_be_bytes w64 (length r.1)) (to_be_bytes w64 (length s.1)) (r.1 ++ xs)
    (s.1 ++ ys) refl refl rest in
    let payload : r.1 ≡ s.1 = first_part (length s.1) r.1 s.1 xs ys size refl paid in
    ((λ i. (kind i, payload i)), last_part (length s.1) r.1 s.1 xs ys size refl paid)

same_tail : (rs ss : List Record) (g h : ℕ) (p q : List ℕ) → g ≢ 1 → h ≢ 1 → AreKnown rs
    → AreKnown ss → frames rs ++ g ∷ p ≡ frames ss ++ h ∷ q → rs ≡ ss
same_tail [] [] g h p q shut_g shut_h known_r known_s e = refl
same_tail [] (s ∷ ss) g h p q shut_g shut_h known_r known_s e = absurd (shut_g (head_is g 1 _ _ e))
same_tail (r ∷ rs) [] g h p q shut_g shut_h known_r known_s e =
    absurd (shut_h (sym (head_is 1 h _ _ e)))
same_tail (r ∷ rs) (s ∷ ss) g h p q shut_g shut_h known_r known_s e =
    let rest = sym (append_assoc (body r) (frames rs) (g ∷ p)) ∙ tail_is 1 1 _ _ e
    ∙ append_assoc (body s) (frames ss) (h ∷ q) in
    let one = one_record r s (frames rs ++ g ∷ p) (frames ss ++ h ∷ q) known_r.1 known_s.1 rest in
    let others = same_tail rs ss g h p q shut_g shut_h known_r.2 known_s.2 one.1 in
    λ i. one.0 i ∷ others i

pub same_records : (file : List ℕ) (rs ss : List Record) → Holds file rs → Holds file ss → rs ≡ ss
same_records file rs ss a b =
    let e = sym (append_assoc header (frames rs) (a.gate ∷ a.rest)) ∙ sym a.file_is ∙ b.file_is
    ∙ append_assoc header (frames ss) (b.gate ∷ b.rest) in
    same_tail rs ss a.gate b.gate a.rest b.rest a.shut b.shut a.known b.known
    (last_part 8 header header _ _ refl refl e)

-- a file that holds a record is longer than nine bytes
pub none_in_nine : (file : List ℕ) (rs : List Record) → length file ≤ 9 → Holds file rs → rs ≡ []
none_in_nine file [] short holds = refl
none_in_nine file (r ∷ rs) short holds =
    absurd (omega (
      arith,
      short,
      ap length holds.file_is,
      length-append (before_gate (r ∷ rs)) (holds.gate ∷ holds.rest),
      length-append (body r) (frames rs),
      length-append (to_be_bytes w64 (length r.1)) r.1,
    ))

pub stands_for_one : (file : List ℕ) (rs ss : List Record) → StandsFor file rs → StandsFor file ss
    → rs ≡ ss
stands_for_one file rs ss (inl a) (inl b) = a.1 ∙ sym b.1
stands_for_one file rs ss (inl a) (inr b) = a.1 ∙ sym (none_in_nine file ss a.0 b)
stands_for_one file rs ss (inr a) (inl b) = none_in_nine file rs b.0 a ∙ sym b.1
stands_for_one file rs ss (inr a) (inr b) = same_records file rs ss a b
