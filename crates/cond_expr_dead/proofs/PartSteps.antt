-- One member of an AND more: the greatest of the lower bounds, and what kills.
use Rattle.std.proofs.Common.{◌≡◌, ℕ, ◌+◌, ◌<◌, ◌≤◌, false, List, [], ◌∷◌, ◌++◌, map, length, take}
use Rattle.std.proofs.Common.{get_or, add-one, refl, sym, ap, ◌∙◌}
use Rattle.std.specs.Prelude.{◌||◌, Option}
use Rattle.std.proofs.Math.Seq.{take-suc}
use Rattle.prima_base.specs.declared.value.Value.{Value}
use Rattle.cond_expr.specs.declared.expr.Cond.{Cond}
use Rattle.cond_expr.specs.Trees.{Test}
use Rattle.cond_expr.specs.Seen.{test, tests_of}
use Rattle.cond_expr.specs.Parts.{parts, all_parts, bound_of}
use Rattle.cond_expr_dead.specs.LowerBounds.{raised, highest}
use Rattle.cond_expr_dead.specs.Earlier.{some_kills}
use Rattle.cond_expr_dead.proofs.PartLists.{from, one_more, none_left}
use Rattle.cond_expr_dead.proofs.EarlierLaws.{some_kills_append}

-- ---- the greatest of the lower bounds

module _ (i : ℕ) (n : List ℕ) where
  highest_append : (xs ys : List Test) (m : Option Value)
      → highest i n (xs ++ ys) m ≡ highest i n ys (highest i n xs m)
  highest_append [] ys m = refl
  highest_append (x ∷ xs) ys m = highest_append xs ys (raised i n (bound_of x) m)

  pub highest_more : (cs : List Cond) (j : ℕ) (c : Cond) → j < length cs → c ≡ get_or cs j c
      → (m : Option Value) → highest i n (from j cs) m
      ≡ highest i n (from (j + 1) cs) (highest i n (parts (test c)) m)
  highest_more cs j c h is m =
      ap (λ (l : List Test). highest i n l m) (one_more cs j c h is)
      ∙ highest_append (parts (test c)) (from (j + 1) cs) m

-- ---- what kills

-- the parts of the members before one
abbrev pub upto : ℕ → List Cond → List Test
upto j cs = all_parts (tests_of (map test (take j cs)))

parts_append : (cs ds : List Cond) → all_parts (tests_of (map test (cs ++ ds)))
    ≡ all_parts (tests_of (map test cs)) ++ all_parts (tests_of (map test ds))
parts_append [] ds = refl
parts_append (c ∷ cs) ds =
    ap (λ (l : List Test). parts (test c) ++ l) (parts_append cs ds)
    ∙ assoc (parts (test c)) (all_parts (tests_of (map test cs)))
    (all_parts (tests_of (map test ds)))
  where
    assoc : (a b c : List Test) → a ++ (b ++ c) ≡ (a ++ b) ++ c
    assoc [] b c = refl
    assoc (x ∷ a) b c = ap (λ (l : List Test). x ∷ l) (assoc a b c)

upto_more : (cs : List Cond) (j : ℕ) (c : Cond) → j < length cs → c ≡ get_or cs j c
    → upto (j + 1) cs ≡ upto j cs ++ parts (test c)
upto_more cs j c h is =
    ap (λ (l : List Cond). all_parts (tests_of (map test l)))
    (ap (λ k. take k cs) (add-one j) ∙ take-suc cs j c h
    ∙ ap (λ (x : Cond). take j cs ++ x ∷ []) (sym is))
    ∙ parts_append (take j cs) (c ∷ [])
    ∙ ap (λ (l : List Test). upto j cs ++ l) (no_more (parts (test c)))
  where
    no_more : (l : List Test) → l ++ [] ≡ l
    no_more [] = refl
    no_more (x ∷ l) = ap (λ (m : List Test). x ∷ m) (no_more l)

-- one member more, where those before it stand before it as well
pub kills_more : (all before : List Test) (cs : List Cond) (j : ℕ) (c : Cond) → j < length cs
    → c ≡ get_or cs j c
    → some_kills all (before ++ upto j cs) (from j cs)
    ≡ (some_kills all (before ++ upto j cs) (parts (test c))
    || some_kills all (before ++ upto (j + 1) cs) (from (j + 1) cs))
kills_more all before cs j c h is =
    ap (some_kills all (before ++ upto j cs)) (one_more cs j c h is)
    ∙ some_kills_append all (before ++ upto j cs) (parts (test c)) (from (j + 1) cs)
    ∙ ap (λ (l : List Test). some_kills all (before ++ upto j cs) (parts (test c))
    || some_kills all l (from (j + 1) cs))
    (sym (assoc before (upto j cs) (parts (test c)))
    ∙ ap (λ (l : List Test). before ++ l) (sym (upto_more cs j c h is)))
  where
    assoc : (a b c : List Test) → a ++ (b ++ c) ≡ (a ++ b) ++ c
    assoc [] b c = refl
    assoc (x ∷ a) b c = ap (λ (l : List Test). x ∷ l) (assoc a b c)

pub kills_none : (all before : List Test) (cs : List Cond) (j : ℕ) → length cs ≤ j
    → some_kills all before (from j cs) ≡ false
kills_none all before cs j h = ap (some_kills all before) (none_left cs j h)
