-- The unfoldings after chosen views, view by view.
use Rattle.std.specs.Prelude.{◌≡◌, ℕ, zero, suc, ◌+◌, ◌<◌, ◌≤◌, List, [], ◌∷◌, ◌++◌, length, map}
use Rattle.std.specs.Prelude.{take, drop}
use Rattle.std.specs.List.{flat_map}
use Rattle.std.proofs.Common.{refl, sym, ap, ◌∙◌, arith, get_or, append_assoc}
use Rattle.relations_spec.specs.Choices.{choices}
use Rattle.piece_ir_spec.specs.Pieces.{PlainPiece}
use Rattle.piece_ir_spec.specs.Views.{PlainView, whole}
use Rattle.piece_ir_spec.proofs.JoinedChoices.{map_both}
use Rattle.piece_ir.specs.declared.view.View.{View}
use Rattle.piece_ir.specs.Shown.{view_of}

pub record Part (chosen_is news_are : Type 0) : Type 0 where
  pub chosen : chosen_is
  pub news : news_are

pub append_nil : {X : Type 0} (xs : List X) → xs ++ [] ≡ xs
append_nil [] = refl
append_nil {X} (x ∷ xs) = ap (λ (z : List X). x ∷ z) (append_nil xs)

pub drop_next : {X : Type 0} (xs : List X) (i : ℕ) (d : X) → i < length xs
    → drop i xs ≡ get_or xs i d ∷ drop (i + 1) xs
drop_next [] i d l = absurd (omega arith)
drop_next (x ∷ xs) zero d l = let z : 0 + 1 ≡ suc 0 = omega arith in
    ap (λ k. x ∷ drop k (x ∷ xs)) (sym z)
drop_next (x ∷ xs) (suc i) d l =
    let z : suc i + 1 ≡ suc (i + 1) = omega arith in
    let m : i < length xs = omega arith in
    drop_next xs i d m ∙ ap (λ k. get_or xs i d ∷ drop k (x ∷ xs)) (sym z)

pub drop_none : {X : Type 0} (xs : List X) (i : ℕ) → length xs ≤ i → drop i xs ≡ []
drop_none [] zero l = refl
drop_none [] (suc i) l = refl
drop_none (x ∷ xs) zero l = absurd (omega arith)
drop_none (x ∷ xs) (suc i) l = drop_none xs i (omega arith)

module _ (f : List PlainView → PlainPiece) (prefix : List PlainView)
    (suffix : List (List PlainView)) where
  -- those in which the first of these choices begins with one of the views
  abbrev pub from_views : List PlainView → List PlainPiece
  from_views vs = map (λ c. f (prefix ++ c)) (flat_map (λ v. map (λ c. v ∷ c) suffix) vs)

  after_one : (v : PlainView) (more : List (List PlainView))
      → map (λ c. f ((prefix ++ v ∷ []) ++ c)) more
      ≡ map (λ c. f (prefix ++ c)) (map (λ c. v ∷ c) more)
  after_one v [] = refl
  after_one v (c ∷ more) =
      let a : f ((prefix ++ v ∷ []) ++ c) ≡ f (prefix ++ v ∷ c) =
      ap f (append_assoc prefix (v ∷ []) c) in
      let b = after_one v more in
      cc

  first_view : (v : PlainView) (vs : List PlainView)
      → from_views (v ∷ vs) ≡ map (λ c. f ((prefix ++ v ∷ []) ++ c)) suffix ++ from_views vs
  first_view v vs =
      map_both (λ c. f (prefix ++ c)) (map (λ c. v ∷ c) suffix)
      (flat_map (λ w. map (λ c. w ∷ c) suffix) vs)
      ∙ ap (λ z. z ++ from_views vs) (sym (after_one v suffix))

  -- one view further
  pub one_more : (xs : List View) (i : ℕ) (x : View) (start now new : List PlainPiece)
      → i < length xs → x ≡ get_or xs i x
      → now ++ from_views (map view_of (drop i xs)) ≡ start ++ from_views (map view_of xs)
      → new ≡ now ++ map (λ c. f ((prefix ++ view_of x ∷ []) ++ c)) suffix
      → new ++ from_views (map view_of (drop (i + 1) xs)) ≡ start ++ from_views (map view_of xs)
  one_more xs i x start now new l e h n =
      let more = from_views (map view_of (drop (i + 1) xs)) in
      let here = map (λ c. f ((prefix ++ view_of x ∷ []) ++ c)) suffix in
      let d : drop i xs ≡ x ∷ drop (i + 1) xs = drop_next xs i x l
      ∙ ap (λ y. y ∷ drop (i + 1) xs) (sym e) in
      let g : from_views (map view_of (drop i xs)) ≡ here ++ more =
      ap (λ ys. from_views (map view_of ys)) d
      ∙ first_view (view_of x) (map view_of (drop (i + 1) xs)) in
      ap (λ z. z ++ more) n ∙ append_assoc now here more ∙ ap (λ z. now ++ z) (sym g) ∙ h

  -- none is left
  pub none_more : (xs : List View) (i : ℕ) (start now : List PlainPiece) → length xs ≤ i
      → now ++ from_views (map view_of (drop i xs)) ≡ start ++ from_views (map view_of xs)
      → now ≡ start ++ from_views (map view_of xs)
  none_more xs i start now l h = sym (ap (λ ys. now ++ from_views (map view_of ys))
      (drop_none xs i l) ∙ append_nil now) ∙ h

-- the choices of the atoms from one on
pub choices_from : (vs : List ℕ → List PlainView) (atoms : List (List ℕ)) (at : ℕ)
    → at < length atoms
    → flat_map (λ v. map (λ c. v ∷ c) (choices (map vs (drop (at + 1) atoms))))
    (vs (get_or atoms at [])) ≡ choices (map vs (drop at atoms))
choices_from vs atoms at l = sym (ap (λ ns. choices (map vs ns)) (drop_next atoms at [] l))

pub choices_none : (vs : List ℕ → List PlainView) (atoms : List (List ℕ)) (at : ℕ)
    → length atoms ≤ at → [] ∷ [] ≡ choices (map vs (drop at atoms))
choices_none vs atoms at l = sym (ap (λ ns. choices (map vs ns)) (drop_none atoms at l))

-- ---- whole tables

one_taken : {X : Type 0} (xs : List X) (i k : ℕ) (d : X) → i < length xs → k ≡ 1
    → take k (drop i xs) ≡ get_or xs i d ∷ []
one_taken xs i k d l e = ap (λ j. take j (drop i xs)) e ∙ ap (take 1) (drop_next xs i d l)

mapped_part : {X Y : Type 0} (f : X → Y) (xs : List X) (i k : ℕ)
    → map f (take k (drop i xs)) ≡ take k (drop i (map f xs))
mapped_part f [] zero zero = refl
mapped_part f [] zero (suc k) = refl
mapped_part f [] (suc i) zero = refl
mapped_part f [] (suc i) (suc k) = refl
mapped_part f (x ∷ xs) zero zero = refl
mapped_part {X} {Y} f (x ∷ xs) zero (suc k) = ap (λ (z : List Y). f x ∷ z) (mapped_part f xs zero k)
mapped_part f (x ∷ xs) (suc i) k = mapped_part f xs i k

pub own_view : (wholes : List View) (atoms : List (List ℕ)) (at k : ℕ) (a : List ℕ)
    → map view_of wholes ≡ map whole atoms → at < length atoms → k ≡ 1
    → a ≡ get_or atoms at a → map view_of (take k (drop at wholes)) ≡ whole a ∷ []
own_view wholes atoms at k a e l o i =
    mapped_part view_of wholes at k ∙ ap (λ z. take k (drop at z)) e
    ∙ sym (mapped_part whole atoms at k)
    ∙ ap (map whole) (one_taken atoms at k a l o) ∙ ap (λ n. whole n ∷ []) (sym i)
