-- What lists of sizes say, one behind the other.
use Rattle.std.proofs.Common.{◌≡◌, ◌+◌, ◌<◌, ℕ, Bool, true, false, List, [], ◌∷◌, ◌++◌, map, max}
use Rattle.std.proofs.Common.{length, get_or, drop, refl, ap, sym, append_assoc, ◌∙◌, arith}
use Rattle.std.specs.Prelude.{◌||◌, if◌then◌else◌}
use Rattle.prima_base.specs.OrderLaws.{same_is}
use Rattle.prima_base.specs.Columns.{Column, names_of}
use Rattle.smo_ops_spec.specs.OneRow.{same}
use Rattle.smo_ops_spec.specs.Preconditions.{among}
use Rattle.smo_ops_spec.specs.Checks.{pair_names}
use Rattle.smo_ops_spec.proofs.Firsts.{drop_at}
use Rattle.smo_ops_widths.specs.Widths.{Sizes}
use Rattle.smo_ops_widths.specs.Counted.{size_in}

abbrev SizeList : Type 0
SizeList = List (List ℕ × ℕ)

-- one that has another name
passed : (xs ys : SizeList) (e : List ℕ × ℕ) (n : List ℕ) → same n e.0 ≡ false
    → size_in (xs ++ e ∷ ys) n ≡ size_in (xs ++ ys) n
passed [] ys e n f = ap (λ b. if b then e.1 else size_in ys n) f
passed (x ∷ xs) ys e n f = ap (λ (k : ℕ). if same n x.0 then x.1 else k) (passed xs ys e n f)

-- one whose name stands before
pub said_before : (xs ys : SizeList) (e : List ℕ × ℕ) (n : List ℕ)
    → among e.0 (pair_names xs) ≡ true → size_in (xs ++ e ∷ ys) n ≡ size_in (xs ++ ys) n
said_before [] ys e n t = absurd (cc)
said_before (x ∷ xs) ys e n t = step (said_before xs ys e n) (same n x.0) refl (same e.0 x.0) refl t
  where
    as_one : same n x.0 ≡ false → same e.0 x.0 ≡ true → same n e.0 ≡ false
    as_one f s = ap (same n) (same_is e.0 x.0 s) ∙ f

    step : (among e.0 (pair_names xs) ≡ true → size_in (xs ++ e ∷ ys) n ≡ size_in (xs ++ ys) n)
        → (b : Bool) → same n x.0 ≡ b → (c : Bool) → same e.0 x.0 ≡ c
        → (c || among e.0 (pair_names xs)) ≡ true
        → (if b then x.1 else size_in (xs ++ e ∷ ys) n) ≡ (if b then x.1 else size_in (xs ++ ys) n)
    step more true f c s u = refl
    step more false f true s u = passed xs ys e n (as_one f s)
    step more false f false s u = more u

-- what is not there has the size 1
not_there : (xs : SizeList) (n : List ℕ) → among n (pair_names xs) ≡ false → size_in xs n ≡ 1
not_there [] n f = refl
not_there (x ∷ xs) n f = step (not_there xs n) (same n x.0) f
  where
    step : (among n (pair_names xs) ≡ false → size_in xs n ≡ 1) → (b : Bool)
        → (b || among n (pair_names xs)) ≡ false → (if b then x.1 else size_in xs n) ≡ 1
    step more true g = absurd (cc)
    step more false g = more g

-- the greater ones before others, and alone
greater_before : (f : Sizes) (xs ys : SizeList) (n : List ℕ)
    → size_in (map (λ (e : List ℕ × ℕ). (e.0, max e.1 (f e.0))) xs ++ ys) n
    ≡ (if among n (pair_names xs) then max (size_in xs n) (f n) else size_in ys n)
greater_before f [] ys n = refl
greater_before f (x ∷ xs) ys n = step (greater_before f xs ys n) (same n x.0) refl
  where
    step : size_in (map (λ (e : List ℕ × ℕ). (e.0, max e.1 (f e.0))) xs ++ ys) n
        ≡ (if among n (pair_names xs) then max (size_in xs n) (f n) else size_in ys n)
        → (b : Bool) → same n x.0 ≡ b
        → (if b then max x.1 (f x.0)
        else size_in (map (λ (e : List ℕ × ℕ). (e.0, max e.1 (f e.0))) xs ++ ys) n)
        ≡ (if b || among n (pair_names xs) then max (if b then x.1 else size_in xs n) (f n)
        else size_in ys n)
    step more true s = ap (λ (m : List ℕ). max x.1 (f m)) (sym (same_is n x.0 s))
    step more false s = more

greater_alone : (f : Sizes) (xs : SizeList) (n : List ℕ)
    → size_in (map (λ (e : List ℕ × ℕ). (e.0, max e.1 (f e.0))) xs) n
    ≡ (if among n (pair_names xs) then max (size_in xs n) (f n) else 1)
greater_alone f [] n = refl
greater_alone f (x ∷ xs) n = step (greater_alone f xs n) (same n x.0) refl
  where
    step : size_in (map (λ (e : List ℕ × ℕ). (e.0, max e.1 (f e.0))) xs) n
        ≡ (if among n (pair_names xs) then max (size_in xs n) (f n) else 1)
        → (b : Bool) → same n x.0 ≡ b
        → (if b then max x.1 (f x.0)
        else size_in (map (λ (e : List ℕ × ℕ). (e.0, max e.1 (f e.0))) xs) n)
        ≡ (if b || among n (pair_names xs) then max (if b then x.1 else size_in xs n) (f n)
        else 1)
    step more true s = ap (λ (m : List ℕ). max x.1 (f m)) (sym (same_is n x.0 s))
    step more false s = more

-- the greater sizes of two lists
pub greater_of_both : (xs ys : SizeList) (n : List ℕ)
    → size_in (map (λ (e : List ℕ × ℕ). (e.0, max e.1 (size_in ys e.0))) xs
    ++ map (λ (e : List ℕ × ℕ). (e.0, max e.1 (size_in xs e.0))) ys) n
    ≡ max (size_in xs n) (size_in ys n)
greater_of_both xs ys n = greater_before (size_in ys) xs
    (map (λ (e : List ℕ × ℕ). (e.0, max e.1 (size_in xs e.0))) ys) n
    ∙ step (among n (pair_names xs)) refl
  where
    second : (c : Bool) → among n (pair_names ys) ≡ c → size_in xs n ≡ 1
        → (if c then max (size_in ys n) (size_in xs n) else 1)
        ≡ max (size_in xs n) (size_in ys n)
    second true e one = omega arith
    second false e one = let other = not_there ys n e in omega (arith, one, other)

    step : (b : Bool) → among n (pair_names xs) ≡ b
        → (if b then max (size_in xs n) (size_in ys n)
        else size_in (map (λ (e : List ℕ × ℕ). (e.0, max e.1 (size_in xs e.0))) ys) n)
        ≡ max (size_in xs n) (size_in ys n)
    step true e = refl
    step false e = greater_alone (size_in xs) ys n
        ∙ second (among n (pair_names ys)) refl (not_there xs n e)

-- the sizes of columns before others
pub columns_before : (f : Sizes) (columns : List Column) (ys : SizeList) (n : List ℕ)
    → size_in (map (λ (c : Column). (c.0, f c.0)) columns ++ ys) n
    ≡ (if among n (names_of columns) then f n else size_in ys n)
columns_before f [] ys n = refl
columns_before f (x ∷ columns) ys n = step (columns_before f columns ys n) (same n x.0) refl
  where
    step : size_in (map (λ (c : Column). (c.0, f c.0)) columns ++ ys) n
        ≡ (if among n (names_of columns) then f n else size_in ys n)
        → (b : Bool) → same n x.0 ≡ b
        → (if b then f x.0 else size_in (map (λ (c : Column). (c.0, f c.0)) columns ++ ys) n)
        ≡ (if b || among n (names_of columns) then f n else size_in ys n)
    step more true s = ap f (sym (same_is n x.0 s))
    step more false s = more

-- ---- one more of others

module _ (into others old : SizeList) (i : ℕ) (x : List ℕ × ℕ) (l : i < length others)
    (e : x ≡ get_or others i x)
    (so : (n : List ℕ) → size_in (into ++ drop i others) n ≡ size_in old n) where
  so_far : (n : List ℕ) → size_in (into ++ x ∷ drop (i + 1) others) n ≡ size_in old n
  so_far n = sym (ap (λ (ys : SizeList). size_in (into ++ ys) n) (drop_at others i x l e)) ∙ so n

  pub left_out : among x.0 (pair_names into) ≡ true → (n : List ℕ)
      → size_in (into ++ drop (i + 1) others) n ≡ size_in old n
  left_out t n = sym (said_before into (drop (i + 1) others) x n t) ∙ so_far n

  pub put_on : (new : SizeList) (m : List ℕ) → m ≡ x.0 → new ≡ into ++ (m, x.1) ∷ []
      → (n : List ℕ) → size_in (new ++ drop (i + 1) others) n ≡ size_in old n
  put_on new m f g n =
      ap (λ (xs : SizeList). size_in (xs ++ drop (i + 1) others) n) g
      ∙ ap (λ (xs : SizeList). size_in xs n)
      (append_assoc into ((m, x.1) ∷ []) (drop (i + 1) others))
      ∙ ap (λ (y : List ℕ). size_in (into ++ (y, x.1) ∷ drop (i + 1) others) n) f
      ∙ so_far n
