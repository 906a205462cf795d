-- What is kept, shown and put after the others, one after the other.
use Rattle.std.proofs.Common.{◌≡◌, ◌<◌, ◌+◌, ℕ, Bool, true, false, List, [], ◌∷◌, ◌++◌}
use Rattle.std.proofs.Common.{append_assoc, length, map, take, get_or, refl, sym, ap, ◌∙◌}
use Rattle.std.specs.Prelude.{cond, not}
use Rattle.std.specs.List.{filter, flat_map}
use Rattle.std.proofs.lemmas.List.{take_more, append-nil, map-append}

module _ {X : Type 0} (p : X → Bool) where
  filter_both : (xs ys : List X) → filter p (xs ++ ys) ≡ filter p xs ++ filter p ys
  filter_both [] ys = refl
  filter_both (x ∷ xs) ys =
      elim (p x) as (λ b. cond b (x ∷ filter p (xs ++ ys)) (filter p (xs ++ ys))
      ≡ cond b (x ∷ filter p xs) (filter p xs) ++ filter p ys) [
        | true ↦ ap (λ (l : List X). x ∷ l) (filter_both xs ys)
        | false ↦ filter_both xs ys
      ]

  pub kept_more : (xs : List X) (i : ℕ) (x : X) (b : Bool) (kept more : List X) → i < length xs
      → x ≡ get_or xs i x → b ≡ p x
      → kept ≡ filter p (take i xs) → more ≡ kept ++ cond b (x ∷ []) []
      → more ≡ filter p (take (i + 1) xs)
  kept_more xs i x b kept more l e h k m =
      m ∙ ap (λ (ys : List X). ys ++ cond b (x ∷ []) []) k
      ∙ ap (λ t. filter p (take i xs) ++ cond t (x ∷ []) []) h
      ∙ sym (filter_both (take i xs) (x ∷ []))
      ∙ sym (ap (filter p) (take_more xs i x l ∙ ap (λ d. take i xs ++ d ∷ []) (sym e)))

pub turned : {X : Type 0} (b : Bool) (xs ys : List X) → cond b ys xs ≡ cond (not b) xs ys
turned true xs ys = refl
turned false xs ys = refl

flat_one : {X Y : Type 0} (f : X → List Y) (xs : List X) (x : X)
    → flat_map f (xs ++ x ∷ []) ≡ flat_map f xs ++ f x
flat_one f [] x = append-nil (f x)
flat_one {X} {Y} f (y ∷ xs) x = ap (λ (l : List Y). f y ++ l) (flat_one f xs x)
    ∙ sym (append_assoc (f y) (flat_map f xs) (f x))

-- what passes of all that the members give
pub flat_more : {X Y : Type 0} (p : Y → Bool) (f : X → List Y) (xs : List X) (i : ℕ) (x : X)
    (items more rest : List Y) → i < length xs → x ≡ get_or xs i x
    → items ≡ filter p (flat_map f (take i xs)) → rest ≡ f x → more ≡ items ++ filter p rest
    → more ≡ filter p (flat_map f (take (i + 1) xs))
flat_more {X} {Y} p f xs i x items more rest l e k h m =
    m ∙ ap (λ (ys : List Y). ys ++ filter p rest) k
    ∙ ap (λ (r : List Y). filter p (flat_map f (take i xs)) ++ filter p r) h
    ∙ sym (ap (λ (ys : List X). filter p (flat_map f ys))
    (take_more xs i x l ∙ ap (λ d. take i xs ++ d ∷ []) (sym e))
    ∙ ap (filter p) (flat_one f (take i xs) x)
    ∙ filter_both p (flat_map f (take i xs)) (f x))

-- what passes of what the members show, after the others
pub shown_more : {X Y Z : Type 0} (p : Z → Bool) (f : X → Y) (g : Y → Z)
    (before items more : List Z) (xs : List X) (i : ℕ) (x : X) (v : Z) (b : Bool) → i < length xs
    → x ≡ get_or xs i x
    → items ≡ before ++ filter p (map g (map f (take i xs))) → v ≡ g (f x) → b ≡ p v
    → more ≡ items ++ cond b (v ∷ []) []
    → more ≡ before ++ filter p (map g (map f (take (i + 1) xs)))
shown_more {X} {Y} {Z} p f g before items more xs i x v b l e k s h m =
    let both : map g (map f (take (i + 1) xs)) ≡ map g (map f (take i xs)) ++ g (f x) ∷ [] =
    ap (λ (ys : List X). map g (map f ys)) (take_more xs i x l
    ∙ ap (λ d. take i xs ++ d ∷ []) (sym e))
    ∙ ap (map g) (map-append f (take i xs) (x ∷ []))
    ∙ map-append g (map f (take i xs)) (f x ∷ []) in
    m ∙ ap (λ (ys : List Z). ys ++ cond b (v ∷ []) []) k
    ∙ append_assoc before (filter p (map g (map f (take i xs)))) (cond b (v ∷ []) [])
    ∙ ap (λ t. before ++ (filter p (map g (map f (take i xs))) ++ cond t (v ∷ []) [])) h
    ∙ ap (λ (w : Z). before ++ (filter p (map g (map f (take i xs))) ++ cond (p w) (w ∷ []) [])) s
    ∙ ap (λ (ys : List Z). before ++ ys) (sym
    (filter_both p (map g (map f (take i xs))) (g (f x) ∷ [])))
    ∙ ap (λ (ys : List Z). before ++ filter p ys) (sym both)

-- what the members show
pub shown_one : {X Y : Type 0} (f : X → Y) (xs : List X) (i : ℕ) (x : X) (items more : List Y)
    (v : Y) → i < length xs → x ≡ get_or xs i x
    → items ≡ map f (take i xs) → v ≡ f x → more ≡ items ++ v ∷ [] → more ≡ map f (take (i + 1) xs)
shown_one {X} {Y} f xs i x items more v l e k s m =
    m ∙ ap (λ (ys : List Y). ys ++ v ∷ []) k
    ∙ ap (λ (w : Y). map f (take i xs) ++ w ∷ []) s
    ∙ sym (ap (map f) (take_more xs i x l ∙ ap (λ d. take i xs ++ d ∷ []) (sym e))
    ∙ map-append f (take i xs) (x ∷ []))
