-- Prefixes and rests of lists.
use Rattle.std.proofs.Common.{◌≡◌, ℕ, zero, suc, ◌+◌, ◌-◌, List, [], ◌∷◌, ◌++◌, length, take, drop}
use Rattle.std.proofs.Common.{refl, sym, ap, ◌∙◌, arith, length-drop}

pub take_whole : {A : Type 0} (l : List A) (n : ℕ) → n ≡ length l → take n l ≡ l
take_whole [] zero e = refl
take_whole [] (suc n) e = refl
take_whole (x ∷ l) zero e = absurd (omega arith)
take_whole (x ∷ l) (suc n) e = ap (λ t. x ∷ t) (take_whole l n (omega arith))

pub tail_is : {A : Type 0} (l : List A) (g : ℕ) → take (length l - g) (drop g l) ≡ drop g l
tail_is l g = take_whole (drop g l) (length l - g) (sym (length-drop g l))

pub take_prefix : {A : Type 0} (prefix rest : List A)
    → take (length prefix) (prefix ++ rest) ≡ prefix
take_prefix [] rest = refl
take_prefix (x ∷ prefix) rest = ap (λ l. x ∷ l) (take_prefix prefix rest)

pub drop_prefix : {A : Type 0} (prefix rest : List A) → drop (length prefix) (prefix ++ rest) ≡ rest
drop_prefix [] rest = refl
drop_prefix (x ∷ prefix) rest = drop_prefix prefix rest

drop_none : (A : Type 0) (n : ℕ) → ◌≡◌ {A = List A} (drop n []) []
drop_none A zero = refl
drop_none A (suc n) = refl

pub drop_drop : {A : Type 0} (n m : ℕ) (l : List A) → drop n (drop m l) ≡ drop (m + n) l
drop_drop n zero l = let e : n ≡ zero + n = omega arith in ap (λ k. drop k l) e
drop_drop {A} n (suc m) [] = drop_none A n ∙ sym (drop_none A (suc m + n))
drop_drop n (suc m) (x ∷ l) = drop_drop n m l
    ∙ (let e : suc (m + n) ≡ suc m + n = omega arith in ap (λ k. drop k (x ∷ l)) e)
