-- Members of lists up to a place, and from a place on.
use Rattle.std.proofs.Common.{◌≡◌, ℕ, zero, suc, ◌+◌, ◌≤◌, ◌<◌, Bool, true, false, List, [], ◌∷◌}
use Rattle.std.proofs.Common.{◌++◌, map, length, get_or, take, drop, set, refl, sym, ap, ◌∙◌, arith}
use Rattle.std.specs.List.{filter}
use Rattle.std.specs.Prelude.{Some, slice_get, if◌then◌else◌}

-- all up to a place are changed
pub changed_up_to : {X Y : Type 0} (f : Y → Y) (g : X → Y) (old : List Y) (xs : List X) (i : ℕ)
    (x y : X) → i < length xs → x ≡ get_or xs i x → map g xs ≡ map f (take i old) ++ drop i old
    → g y ≡ f (g x)
    → map g (set xs i y) ≡ map f (take (i + 1) old) ++ drop (i + 1) old
changed_up_to f g old [] i x y h e so is = absurd (omega (arith, h))
changed_up_to f g [] (z ∷ xs) zero x y h e so is = absurd (let q = so in cc)
changed_up_to f g [] (z ∷ xs) (suc i) x y h e so is = absurd (let q = so in cc)
changed_up_to {X} {Y} f g (o ∷ old) (z ∷ xs) zero x y h e so is =
    let head : g z ≡ o = (let q = so in cc) in
    let rest : map g xs ≡ old = (let q = so in cc) in
    ap (λ w. w ∷ map g xs) (is ∙ ap (λ w. f (g w)) e ∙ ap f head) ∙ ap (λ l. f o ∷ l) rest
changed_up_to {X} {Y} f g (o ∷ old) (z ∷ xs) (suc i) x y h e so is =
    let head : g z ≡ f o = (let q = so in cc) in
    let rest : map g xs ≡ map f (take i old) ++ drop i old = (let q = so in cc) in
    let n : suc i + 1 ≡ suc (i + 1) = omega arith in
    ap (λ w. w ∷ map g (set xs i y)) head ∙ ap (λ l. f o ∷ l)
    (changed_up_to f g old xs i x y (omega (arith, h)) e rest is)
    ∙ ap (λ k. map f (take k (o ∷ old)) ++ drop k (o ∷ old)) (sym n)

pub all_changed : {Y : Type 0} (f : Y → Y) (old : List Y) (i : ℕ) → length old ≤ i
    → map f (take i old) ++ drop i old ≡ map f old
all_changed f [] zero h = refl
all_changed f [] (suc i) h = refl
all_changed f (o ∷ old) zero h = absurd (omega (arith, h))
all_changed f (o ∷ old) (suc i) h = ap (λ l. f o ∷ l) (all_changed f old i (omega (arith, h)))

-- the chosen up to a place
pub chosen_more : {X : Type 0} (p : X → Bool) (xs : List X) (i : ℕ) (x : X)
    → slice_get xs i ≡ Some x → filter p (take (i + 1) xs) ≡ filter p (take i xs)
    ++ (if p x then x ∷ [] else [])
chosen_more p [] i x e = absurd (let z = e in cc)
chosen_more {X} p (z ∷ xs) zero x e = (let same : z ≡ x = cc in ap (λ y. filter p (y ∷ [])) same)
chosen_more {X} p (z ∷ xs) (suc i) x e =
    let n : suc i + 1 ≡ suc (i + 1) = omega arith in
    ap (λ k. filter p (take k (z ∷ xs))) n ∙ step (chosen_more p xs i x e) (p z)
  where
    step : filter p (take (i + 1) xs) ≡ filter p (take i xs) ++ (if p x then x ∷ [] else [])
        → (b : Bool) → (if b then z ∷ filter p (take (i + 1) xs) else filter p (take (i + 1) xs))
        ≡ (if b then z ∷ filter p (take i xs) else filter p (take i xs))
        ++ (if p x then x ∷ [] else [])
    step m true = ap (λ l. z ∷ l) m
    step m false = m

pub none_dropped : {X : Type 0} (xs : List X) (i : ℕ) → length xs ≤ i → drop i xs ≡ []
none_dropped [] zero h = refl
none_dropped [] (suc i) h = refl
none_dropped (x ∷ xs) zero h = absurd (omega (arith, h))
none_dropped (x ∷ xs) (suc i) h = none_dropped xs i (omega (arith, h))

pub got_map : {X Y : Type 0} (f : X → Y) (xs : List X) (i : ℕ) (x : X) → i < length xs
    → x ≡ get_or xs i x → f x ≡ get_or (map f xs) i (f x)
got_map f [] i x h e = absurd (omega (arith, h))
got_map f (y ∷ xs) zero x h e = ap f e
got_map f (y ∷ xs) (suc i) x h e = got_map f xs i x (omega (arith, h)) e

pub some_dropped : {X : Type 0} (xs : List X) (i : ℕ) → i < length xs → (x : X) × (rest : List X)
    × (drop i xs ≡ x ∷ rest)
some_dropped [] i h = absurd (omega (arith, h))
some_dropped (x ∷ xs) zero h = (x, xs, refl)
some_dropped (x ∷ xs) (suc i) h = some_dropped xs i (omega (arith, h))

-- as many are written back as there were
pub written_back : {X : Type 0} (xs old : List X) (n : ℕ) → n ≡ length old → length xs ≡ length old
    → take n (xs ++ drop (length xs) old) ≡ xs
written_back {X} xs old n e l = ap (λ m. take m (xs ++ drop (length xs) old)) (e ∙ sym l)
    ∙ first xs (drop (length xs) old)
  where
    first : (xs ys : List X) → take (length xs) (xs ++ ys) ≡ xs
    first [] ys = refl
    first (x ∷ xs) ys = ap (λ ts. x ∷ ts) (first xs ys)
