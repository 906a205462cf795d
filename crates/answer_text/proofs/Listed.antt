-- The texts of the members of a list, one after another.
use Rattle.std.proofs.Common.{◌≡◌, ◌+◌, ◌<◌, ℕ, List, ◌++◌, length, drop, get_or, sym, ap, ◌∙◌}
use Rattle.std.proofs.Common.{append_assoc}
use Rattle.std.specs.Prelude.{map}
use Rattle.std.specs.List.{flat_map}
use Rattle.std.proofs.lemmas.List.{drop_more}

-- the next member's text
pub next_text : {A X : Type 0} (f : X → List ℕ) (g : A → X) (xs : List A) (i : ℕ) (x : A)
    (sent : List ℕ) → i < length xs → x ≡ get_or xs i x
    → flat_map f (map g xs) ≡ sent ++ flat_map f (map g (drop i xs))
    → flat_map f (map g xs) ≡ sent ++ (f (g x) ++ flat_map f (map g (drop (i + 1) xs)))
next_text f g xs i x sent lt is e =
    e ∙ ap (λ l. sent ++ flat_map f (map g l)) (drop_more xs i x lt)
    ∙ ap (λ y. sent ++ (f (g y) ++ flat_map f (map g (drop (i + 1) xs)))) (sym is)

-- the same, with the text after what was sent
pub sent_text : {A X : Type 0} (f : X → List ℕ) (g : A → X) (xs : List A) (i : ℕ) (x : A)
    (sent : List ℕ) → i < length xs → x ≡ get_or xs i x
    → flat_map f (map g xs) ≡ sent ++ flat_map f (map g (drop i xs))
    → flat_map f (map g xs) ≡ (sent ++ f (g x)) ++ flat_map f (map g (drop (i + 1) xs))
sent_text f g xs i x sent lt is e =
    next_text f g xs i x sent lt is e ∙ sym (append_assoc sent (f (g x))
    (flat_map f (map g (drop (i + 1) xs))))

-- the same of a list as it is
pub next_own : {X : Type 0} (f : X → List ℕ) (xs : List X) (i : ℕ) (x : X) (sent : List ℕ)
    → i < length xs → x ≡ get_or xs i x → flat_map f xs ≡ sent ++ flat_map f (drop i xs)
    → flat_map f xs ≡ sent ++ (f x ++ flat_map f (drop (i + 1) xs))
next_own f xs i x sent lt is e =
    e ∙ ap (λ l. sent ++ flat_map f l) (drop_more xs i x lt)
    ∙ ap (λ y. sent ++ (f y ++ flat_map f (drop (i + 1) xs))) (sym is)

pub sent_own : {X : Type 0} (f : X → List ℕ) (xs : List X) (i : ℕ) (x : X) (sent : List ℕ)
    → i < length xs → x ≡ get_or xs i x → flat_map f xs ≡ sent ++ flat_map f (drop i xs)
    → flat_map f xs ≡ (sent ++ f x) ++ flat_map f (drop (i + 1) xs)
sent_own f xs i x sent lt is e =
    next_own f xs i x sent lt is e ∙ sym (append_assoc sent (f x) (flat_map f (drop (i + 1) xs)))
