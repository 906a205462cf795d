-- Texts that stand in a buffer stand there still when more texts come after them.
use Rattle.std.proofs.Common.{◌≡◌, ℕ, zero, suc, ◌+◌, ◌-◌, ◌<◌, ◌≤◌, List, [], ◌∷◌, ◌++◌, length}
use Rattle.std.proofs.Common.{get_or, take, drop, refl, sym, ap, ◌∙◌, subst, arith}
use Rattle.std.proofs.lemmas.List.{take-append-le, drop-append-le, length-drop}
use Rattle.std.proofs.Math.Seq.{drop-append_seam}
use Rattle.prima_base.specs.Bytes.{IsTxt}
use Rattle.history_store_columns.specs.TextFields.{parts, Rise, AllTexts}

-- no place is after the end
rise_on : (start all : ℕ) (ends : List ℕ) → Rise start ends all → start ≤ all
rise_on start all [] r = omega (arith, r)
rise_on start all (e ∷ ends) r =
    let a = r.0 in
    let b = rise_on e all ends r.1 in
    omega (arith, a, b)

part_still : (bytes more : List ℕ) (at size : ℕ) → at + size ≤ length bytes
    → take size (drop at (bytes ++ more)) ≡ take size (drop at bytes)
part_still bytes more at size h =
    let n = length-drop at bytes in
    ap (take size) (drop-append-le at bytes more (omega arith))
    ∙ take-append-le size (drop at bytes) more (omega (arith, n))

-- the text at the end
at_the_end : (bytes text : List ℕ) (at size : ℕ) → at ≡ length bytes → size ≡ length text
    → take size (drop at (bytes ++ text)) ≡ text
at_the_end bytes text at size e f = rw (e, f, drop-append_seam bytes text) (whole text)
  where
    whole : (xs : List ℕ) → take (length xs) xs ≡ xs
    whole [] = refl
    whole (x ∷ xs) = ap (λ ys. x ∷ ys) (whole xs)

one_more : (start : ℕ) (ends bytes text : List ℕ) → Rise start ends (length bytes)
    → parts start (ends ++ (length bytes + length text) ∷ []) (bytes ++ text)
    ≡ parts start ends bytes ++ text ∷ []
one_more start [] bytes text r =
    let n : (length bytes + length text) - start ≡ length text = omega (arith, r) in
    ap (λ t. t ∷ []) (at_the_end bytes text start ((length bytes + length text) - start) r n)
one_more start (e ∷ ends) bytes text r =
    let a = r.0 in
    let b = rise_on e (length bytes) ends r.1 in
    ap (λ t. t ∷ parts e (ends ++ (length bytes + length text) ∷ []) (bytes ++ text))
    (part_still bytes text start (e - start) (omega (arith, a, b)))
    ∙ ap (λ ts. take (e - start) (drop start bytes) ∷ ts) (one_more e ends bytes text r.1)

rise_more : (start all n : ℕ) (ends : List ℕ) → Rise start ends all → all ≤ n
    → Rise start (ends ++ n ∷ []) n
rise_more start all n [] r h = (omega (arith, r, h), refl)
rise_more start all n (e ∷ ends) r h = (r.0, rise_more e all n ends r.1 h)

all_more : (texts : List (List ℕ)) (text : List ℕ) → AllTexts texts → IsTxt text
    → AllTexts (texts ++ text ∷ [])
all_more [] text a i = (i, tt)
all_more (t ∷ texts) text a i = (a.0, all_more texts text a.1 i)

-- one more text, whose bytes come after the others
pub record IsMore (bytes ends then' after text : List ℕ) : Type 0 where
  pub items : parts 0 after then' ≡ parts 0 ends bytes ++ text ∷ []
  pub rise : Rise 0 after (length then')
  pub valid : AllTexts (parts 0 after then')

pub more_texts : (bytes ends then' after text : List ℕ) (n : ℕ) → then' ≡ bytes ++ text
    → after ≡ ends ++ n ∷ [] → n ≡ length bytes + length text → length then' ≡ n
    → Rise 0 ends (length bytes) → AllTexts (parts 0 ends bytes) → IsTxt text
    → IsMore bytes ends then' after text
more_texts bytes ends then' after text n e f g l r a i =
    let items : parts 0 after then' ≡ parts 0 ends bytes ++ text ∷ [] =
    rw (e, f, g) (one_more 0 ends bytes text r) in
    record {
      items = items;
      rise = rw (l, f) (rise_more 0 (length bytes) n ends r (omega (arith, g)));
      valid = subst AllTexts (sym items) (all_more (parts 0 ends bytes) text a i);
    }

pub length-parts : (start : ℕ) (ends bytes : List ℕ) → length (parts start ends bytes) ≡ length ends
length-parts start [] bytes = refl
length-parts start (e ∷ ends) bytes = ap suc (length-parts e ends bytes)

-- the text at a place stands between the end of the one before it and its own
pub part_at : (start : ℕ) (ends bytes : List ℕ) (k : ℕ) → k < length ends
    → get_or (parts start ends bytes) k [] ≡ take (get_or ends k 0 - get_or (start ∷ ends) k 0)
    (drop (get_or (start ∷ ends) k 0) bytes)
part_at start [] bytes k h = absurd (omega arith)
part_at start (e ∷ ends) bytes zero h = refl
part_at start (e ∷ ends) bytes (suc k) h = part_at e ends bytes k (omega arith)

pub rise_at : (start all : ℕ) (ends : List ℕ) (k : ℕ) → Rise start ends all → k < length ends
    → (get_or (start ∷ ends) k 0 ≤ get_or ends k 0) × (get_or ends k 0 ≤ all)
rise_at start all [] k r h = absurd (omega arith)
rise_at start all (e ∷ ends) zero r h = (r.0, rise_on e all ends r.1)
rise_at start all (e ∷ ends) (suc k) r h = rise_at e all ends k r.1 (omega arith)

pub valid_at : (texts : List (List ℕ)) (k : ℕ) → AllTexts texts → k < length texts
    → IsTxt (get_or texts k [])
valid_at [] k a h = absurd (omega arith)
valid_at (t ∷ texts) zero a h = a.0
valid_at (t ∷ texts) (suc k) a h = valid_at texts k a.1 (omega arith)
