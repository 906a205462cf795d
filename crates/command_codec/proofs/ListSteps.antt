-- The steps of reading one item after the other.
use Rattle.std.proofs.Common.{◌≡◌, ℕ, suc, ◌+◌, ◌-◌, ◌<◌, ◌≤◌, List, [], ◌∷◌, ◌++◌, map, refl, sym}
use Rattle.std.proofs.Common.{ap, ◌∙◌, append-nil, arith}
use Rattle.std.proofs.lemmas.List.{map-append}
use Rattle.command_codec.specs.declared.reader.ReadStop.{ReadStop}
use Rattle.command_codec_spec.specs.Reading.{Out, Parsed, Unexpected, Parser, and_then, pure}
use Rattle.command_codec_spec.specs.Reading.{map_to}
use Rattle.command_codec_spec.specs.Reading.{digits, items, list_parser, prepend}
use Rattle.command_codec.specs.Reads.{Fails}
use Rattle.command_codec.proofs.ReadSteps.{fails_along, prepend_more}

-- these were read, and so many are left
abbrev pub SoMany : {A : Type 0} → Parser A → ℕ → ℕ → List ℕ → List ℕ → List A → Type 0
SoMany p count left start rest l = items p count start ≡ prepend l (items p left rest)

module _ {A : Type 0} (p : Parser A) where
  nothing_before : (o : Out (List A)) → o ≡ prepend [] o
  nothing_before (Parsed l rest) = refl
  nothing_before (Unexpected rest) = refl

  one_before : (a : A) (o : Out (List A)) → and_then o (λ l. pure (a ∷ l)) ≡ prepend (a ∷ []) o
  one_before a (Parsed l rest) = refl
  one_before a (Unexpected rest) = refl

  by_item : (k : ℕ) (ts : List ℕ) → items p (suc k) ts
      ≡ and_then (p ts) (λ a. map_to (λ l. a ∷ l) (items p k))
  unfolding items
  by_item k ts = refl

  no_more : (ts : List ℕ) → items p 0 ts ≡ Parsed [] ts
  unfolding items
  no_more ts = refl

  pub none_yet : (count : ℕ) (start : List ℕ) → SoMany p count (count - 0) start start []
  none_yet count start = let e : count ≡ count - 0 = omega arith in ap (λ k. items p k start) e
      ∙ nothing_before (items p (count - 0) start)

  module _ (count i : ℕ) (start ts : List ℕ) (l : List A)
      (so : SoMany p count (count - i) start ts l) where
    left : i < count → items p (count - i) ts
        ≡ and_then (p ts) (λ a. map_to (λ l. a ∷ l) (items p (count - (i + 1))))
    left h = let e : count - i ≡ suc (count - (i + 1)) = omega arith in ap (λ k. items p k ts) e
        ∙ by_item (count - (i + 1)) ts

    pub one_item : (a : A) (rest : List ℕ) → i < count → p ts ≡ Parsed a rest
        → SoMany p count (count - (i + 1)) start rest (l ++ a ∷ [])
    one_item a rest h e = so ∙ ap (prepend l)
        (left h ∙ ap (λ o. and_then o (λ a. map_to (λ l. a ∷ l) (items p (count - (i + 1))))) e
        ∙ one_before a (items p (count - (i + 1)) rest))
        ∙ prepend_more l (a ∷ []) (items p (count - (i + 1)) rest)

    pub no_item : (e : ReadStop) (new : List ℕ) → i < count → Fails (p ts) e new
        → Fails (items p count start) e new
    no_item e new h = fails_along (p ts) (items p count start) e new
        (λ rest f. so ∙ ap (prepend l) (left h
        ∙ ap (λ o. and_then o (λ a. map_to (λ l. a ∷ l) (items p (count - (i + 1))))) f))

    pub all_items : count ≤ i → items p count start ≡ Parsed l ts
    all_items h = let e : count - i ≡ 0 = omega arith in so ∙ ap (λ k. prepend l (items p k ts)) e
        ∙ ap (prepend l) (no_more ts) ∙ ap (λ x. Parsed x ts) (append-nil l)

-- the same, where a function keeps what stands for them
module _ {A X : Type 0} (view : X → A) (p : Parser A) (count i : ℕ) (start ts : List ℕ) (l : List X)
    (so : SoMany p count (count - i) start ts (map view l)) where
  pub one_pushed : (more : List X) (x : X) (rest : List ℕ) → more ≡ l ++ x ∷ [] → i < count
      → p ts ≡ Parsed (view x) rest → SoMany p count (count - (i + 1)) start rest (map view more)
  one_pushed more x rest pushed h e = one_item p count i start ts (map view l) so (view x) rest h e
      ∙ ap (λ k. prepend k (items p (count - (i + 1)) rest))
      (sym (ap (map view) pushed ∙ map-append view l (x ∷ [])))

-- the same with the count in prefix
module _ {A : Type 0} (p : Parser A) (k most count i : ℕ) (start us ts : List ℕ) (l : List A)
    (counted : digits most k 0 start ≡ Parsed count us)
    (so : SoMany p count (count - i) us ts l) where
  pub no_counted_item : (e : ReadStop) (new : List ℕ) → i < count → Fails (p ts) e new
      → Fails (list_parser k most p start) e new
  no_counted_item e new h f = fails_along (items p count us) (list_parser k most p start) e new
      (λ rest g. ap (λ o. and_then o (λ n. items p n)) counted ∙ g)
      (no_item p count i us ts l so e new h f)

  pub all_counted : count ≤ i → list_parser k most p start ≡ Parsed l ts
  all_counted h = ap (λ o. and_then o (λ n. items p n)) counted ∙ all_items p count i us ts l so h
