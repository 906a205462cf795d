-- Members of lists at places.
use Rattle.std.proofs.Common.{◌≡◌, ℕ, zero, suc, ◌+◌, ◌<◌, List, [], ◌∷◌, map, length, get_or, drop}
use Rattle.std.proofs.Common.{set, refl, sym, ap, ◌∙◌, arith}

pub same_got : {X : Type 0} (xs : List X) (i : ℕ) (x y : X) → i < length xs → x ≡ get_or xs i x
    → y ≡ get_or xs i y → x ≡ y
same_got [] i x y h e f = absurd (omega (arith, h))
same_got (z ∷ xs) zero x y h e f = e ∙ sym f
same_got (z ∷ xs) (suc i) x y h e f = same_got xs i x y (omega (arith, h)) e f

pub dropped_here : {X Y : Type 0} (f : X → Y) (xs : List X) (i : ℕ) (x : X) → i < length xs
    → x ≡ get_or xs i x → drop i (map f xs) ≡ f x ∷ drop (i + 1) (map f xs)
dropped_here f [] i x h e = absurd (omega (arith, h))
dropped_here f (z ∷ xs) zero x h e = ap (λ y. f y ∷ map f xs) (sym e)
dropped_here f (z ∷ xs) (suc i) x h e = let n : suc i + 1 ≡ suc (i + 1) = omega arith in
    dropped_here f xs i x (omega (arith, h)) e ∙ ap (λ k. f x ∷ drop k (map f (z ∷ xs))) (sym n)

pub dropped_plain : {X : Type 0} (xs : List X) (i : ℕ) (x : X) → i < length xs → x ≡ get_or xs i x
    → drop i xs ≡ x ∷ drop (i + 1) xs
dropped_plain [] i x h e = absurd (omega (arith, h))
dropped_plain (z ∷ xs) zero x h e = ap (λ y. y ∷ xs) (sym e)
dropped_plain (z ∷ xs) (suc i) x h e = let n : suc i + 1 ≡ suc (i + 1) = omega arith in
    dropped_plain xs i x (omega (arith, h)) e ∙ ap (λ k. x ∷ drop k (z ∷ xs)) (sym n)

-- one is put in the place of another
pub dropped_set : {X Y : Type 0} (f : X → Y) (xs : List X) (i : ℕ) (y : X) → i < length xs
    → drop i (map f (set xs i y)) ≡ f y ∷ drop (i + 1) (map f xs)
dropped_set f [] i y h = absurd (omega (arith, h))
dropped_set f (z ∷ xs) zero y h = refl
dropped_set f (z ∷ xs) (suc i) y h = let n : suc i + 1 ≡ suc (i + 1) = omega arith in
    dropped_set f xs i y (omega (arith, h)) ∙ ap (λ k. f y ∷ drop k (map f (z ∷ xs))) (sym n)

pub dropped_after : {X Y : Type 0} (f : X → Y) (xs : List X) (i : ℕ) (y : X)
    → drop (i + 1) (map f (set xs i y)) ≡ drop (i + 1) (map f xs)
dropped_after f [] i y = refl
dropped_after f (z ∷ xs) zero y = refl
dropped_after f (z ∷ xs) (suc i) y =
    let n : suc i + 1 ≡ suc (i + 1) = omega arith in
    ap (λ k. drop k (map f (set (z ∷ xs) (suc i) y))) n ∙ dropped_after f xs i y
    ∙ ap (λ k. drop k (map f (z ∷ xs))) (sym n)
