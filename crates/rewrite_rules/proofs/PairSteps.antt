-- The loops over the columns of two tables.
use Rattle.std.proofs.Common.{◌≡◌, ℕ, ◌+◌, ◌<◌, Bool, true, false, List, [], ◌∷◌, ◌++◌, map, length}
use Rattle.std.proofs.Common.{take, get_or, refl, sym, ap, ◌∙◌}
use Rattle.std.specs.Prelude.{cond}
use Rattle.std.specs.List.{filter}
use Rattle.std.proofs.lemmas.List.{take_more, map-append}
use Rattle.prima_base.specs.Columns.{Column, names_of}
use Rattle.cond_expr.specs.declared.expr.Whose.TheVariants.{Atom}
use Rattle.cond_expr.specs.Trees.{column}
use Rattle.smo_ops_spec.specs.Preconditions.{among}
use Rattle.smo_ops_spec.specs.Checks.{pair_names}
use Rattle.piece_ir_spec.specs.Views.{out_of}
use Rattle.piece_ir_spec.specs.OperatorViews.{second_names, from_second}
use Rattle.piece_ir_spec.proofs.PairCells.{of_first, of_second, of_neither}

names_are : (cs : List Column) → pair_names cs ≡ names_of cs
names_are [] = refl
names_are (c ∷ cs) = ap (λ (names : List (List ℕ)). c.0 ∷ names) (names_are cs)

pub among_names : (n : List ℕ) (cs : List Column) (b : Bool) → b ≡ among n (pair_names cs)
    → among n (names_of cs) ≡ b
among_names n cs b e = sym (e ∙ ap (among n) (names_are cs))

-- the atom that has a column
module _ (cs ds : List Column) (n : List ℕ) where
  pub first_has : among n (names_of cs) ≡ true
      → column (Atom 0) n ≡ out_of (map from_second (second_names cs ds)) n
  first_has e = sym (of_first cs ds n e)

  pub second_has : among n (names_of cs) ≡ false → among n (names_of ds) ≡ true
      → column (Atom 1) n ≡ out_of (map from_second (second_names cs ds)) n
  second_has e i = sym (of_second cs ds n e i)

  pub neither_has : among n (names_of ds) ≡ false
      → column (Atom 0) n ≡ out_of (map from_second (second_names cs ds)) n
  neither_has e = sym (of_neither cs ds n e)

-- the names that pass a test, with one column more
kept_last : (p : List ℕ → Bool) (cs : List Column) (x : Column)
    → filter p (names_of (cs ++ x ∷ [])) ≡ filter p (names_of cs) ++ cond (p x.0) (x.0 ∷ []) []
kept_last p [] x = refl
kept_last p (c ∷ cs) x = step (p c.0) (kept_last p cs x)
  where
    step : (b : Bool) → filter p (names_of (cs ++ x ∷ [])) ≡ filter p (names_of cs)
        ++ cond (p x.0) (x.0 ∷ []) []
        → cond b (c.0 ∷ filter p (names_of (cs ++ x ∷ []))) (filter p (names_of (cs ++ x ∷ [])))
        ≡ cond b (c.0 ∷ filter p (names_of cs)) (filter p (names_of cs))
        ++ cond (p x.0) (x.0 ∷ []) []
    step true e = ap (λ (names : List (List ℕ)). c.0 ∷ names) e
    step false e = e

map_one : {X : Type 0} (f : List ℕ → X) (b : Bool) (n : List ℕ)
    → map f (cond b (n ∷ []) []) ≡ cond b (f n ∷ []) []
map_one f true n = refl
map_one f false n = refl

pub names_more : {X : Type 0} (f : List ℕ → X) (p : List ℕ → Bool) (cs : List Column) (i : ℕ)
    (x : Column) (b : Bool) (old new : List X) → i < length cs → x ≡ get_or cs i x
    → p x.0 ≡ b → old ≡ map f (filter p (names_of (take i cs)))
    → new ≡ old ++ cond b (f x.0 ∷ []) [] → new ≡ map f (filter p (names_of (take (i + 1) cs)))
names_more {X} f p cs i x b old new below is passed before pushed =
    let taken : take (i + 1) cs ≡ take i cs ++ x ∷ [] = take_more cs i x below
    ∙ ap (λ (z : Column). take i cs ++ z ∷ []) (sym is) in
    let names : filter p (names_of (take (i + 1) cs)) ≡ filter p (names_of (take i cs))
    ++ cond b (x.0 ∷ []) [] =
    ap (λ (columns : List Column). filter p (names_of columns)) taken ∙ kept_last p (take i cs) x
    ∙ ap (λ (t : Bool). filter p (names_of (take i cs)) ++ cond t (x.0 ∷ []) []) passed in
    pushed ∙ ap (λ (xs : List X). xs ++ cond b (f x.0 ∷ []) []) before
    ∙ ap (λ (xs : List X). map f (filter p (names_of (take i cs))) ++ xs) (sym (map_one f b x.0))
    ∙ sym (ap (map f) names ∙ map-append f (filter p (names_of (take i cs))) (cond b (x.0 ∷ []) []))
