-- Columns without the one of a name, step by step.
use Rattle.std.proofs.Common.{◌≡◌, ◌<◌, ◌+◌, ℕ, Bool, true, false, List, [], ◌∷◌, ◌++◌, length}
use Rattle.std.proofs.Common.{take, get_or, refl, sym, ap, ◌∙◌}
use Rattle.std.specs.Prelude.{cond, not, if◌then◌else◌}
use Rattle.std.specs.List.{filter}
use Rattle.std.proofs.lemmas.List.{take_more}
use Rattle.prima_base.specs.Columns.{Column}
use Rattle.smo_ops_spec.specs.OneRow.{same}
use Rattle.smo_ops_spec.specs.Making.{without}

nothing_more : (xs : List Column) → xs ++ [] ≡ xs
nothing_more [] = refl
nothing_more (x ∷ xs) = ap (λ l. x ∷ l) (nothing_more xs)

-- one column more, or the same where it has the name
pub left_out : (items : List Column) (c : Column) (n : List ℕ) (r : Bool) → r ≡ same c.0 n
    → r ≡ true → items ≡ items ++ (if same c.0 n then [] else c ∷ [])
left_out items c n r e h = sym (nothing_more items)
    ∙ ap (λ (b : Bool). items ++ (if b then [] else c ∷ [])) (sym h ∙ e)

pub put_after : (items : List Column) (c : Column) (n : List ℕ) (r : Bool) → r ≡ same c.0 n
    → r ≡ false → items ++ c ∷ [] ≡ items ++ (if same c.0 n then [] else c ∷ [])
put_after items c n r e h = ap (λ (b : Bool). items ++ (if b then [] else c ∷ [])) (sym h ∙ e)

module _ (p : Column → Bool) where
  kept_more : (xs : List Column) (x : Column)
      → filter p (xs ++ x ∷ []) ≡ filter p xs ++ cond (p x) (x ∷ []) []
  kept_more [] x = elim (p x) as (λ b. cond b (x ∷ []) [] ≡ cond b (x ∷ []) []) [
    | true ↦ refl
    | false ↦ refl
  ]
  kept_more (y ∷ xs) x =
      elim (p y) as (λ b. cond b (y ∷ filter p (xs ++ x ∷ [])) (filter p (xs ++ x ∷ []))
      ≡ cond b (y ∷ filter p xs) (filter p xs) ++ cond (p x) (x ∷ []) []) [
        | true ↦ ap (λ l. y ∷ l) (kept_more xs x)
        | false ↦ kept_more xs x
      ]

  pub kept_one : (xs : List Column) (i : ℕ) (x : Column) → i < length xs → x ≡ get_or xs i x
      → filter p (take i xs) ++ cond (p x) (x ∷ []) [] ≡ filter p (take (i + 1) xs)
  kept_one xs i x l e = sym (ap (filter p) (take_more xs i x l
      ∙ ap (λ d. take i xs ++ d ∷ []) (sym e)) ∙ kept_more (take i xs) x)

pub kept_unless : (n : List ℕ) (items xs : List Column) (i : ℕ) (x : Column) → i < length xs
    → x ≡ get_or xs i x → items ≡ without n (take i xs)
    → items ++ (if same x.0 n then [] else x ∷ []) ≡ without n (take (i + 1) xs)
kept_unless n items xs i x l e h =
    ap (λ (l : List Column). l ++ (if same x.0 n then [] else x ∷ [])) h
    ∙ ap (λ (l : List Column). without n (take i xs) ++ l) (other_way (same x.0 n))
    ∙ kept_one (λ c. not (same c.0 n)) xs i x l e
  where
    other_way : (b : Bool) → (if b then [] else x ∷ []) ≡ cond (not b) (x ∷ []) []
    other_way true = refl
    other_way false = refl
