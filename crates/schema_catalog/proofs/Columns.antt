-- Columns in order, by the first two of them.
use Rattle.std.proofs.Common.{◌≡◌, ◌<◌, ◌≤◌, ◌-◌, ℕ, Bool, true, List, [], ◌∷◌, length, refl}
use Rattle.std.proofs.Common.{get_or, take, drop, sym, ap, subst, ◌∙◌, arith}
use Rattle.std.specs.Prelude.{IsTrue, ◌↔◌}
use Rattle.std.proofs.lemmas.List.{take_all}
use Rattle.prima_base.specs.Columns.{Column, names_of, AreColumns}
use Rattle.std.specs.declared.cmp.Ordering.TheVariants.{Less, Equal, Greater}
use Rattle.std.specs.declared.cmp.Ordering.{Ordering}
use Rattle.std.specs.Ordering.{is_lt}
use Rattle.relations_spec.specs.Sets.{BeforeAll, Ascends}
use Rattle.prima_base.specs.Order.{bytes_cmp}
use Rattle.prima_base.specs.OrderLaws.{bytes_exact}

before_more : (a b : List ℕ) (names : List (List ℕ)) → bytes_cmp a b ≡ Less
    → BeforeAll bytes_cmp b names → BeforeAll bytes_cmp a names
before_more a b [] e h = tt
before_more a b (n ∷ names) e h = (bytes_exact.trans a b n e h.0, before_more a b names e h.1)

pub ascends_more : (a b : List ℕ) (names : List (List ℕ)) → bytes_cmp a b ≡ Less
    → Ascends bytes_cmp (b ∷ names) → Ascends bytes_cmp (a ∷ b ∷ names)
ascends_more a b names e h = ((e, before_more a b names e h.0), h)

pub few_columns : (xs : List Column) → length xs < 2 → AreColumns xs
few_columns [] l = tt
few_columns (x ∷ []) l = (tt, tt)
few_columns (x ∷ y ∷ xs) l = absurd (omega arith)

rest_of : (x : Column) (xs : List Column) → take (length (x ∷ xs) - 1) xs ≡ xs
rest_of x xs = take_all (length (x ∷ xs) - 1) xs (omega arith)

-- the first column is before the second, and the rest is in order or not
pub more_columns : (xs : List Column) (x y : Column) (r : Bool) → 2 ≤ length xs → x ≡ get_or xs 0 x
    → y ≡ get_or (take (length xs - 1) (drop 1 xs)) 0 y → bytes_cmp x.0 y.0 ≡ Less
    → (IsTrue r ↔ AreColumns (take (length xs - 1) (drop 1 xs))) → IsTrue r ↔ AreColumns xs
more_columns [] x y r l ex ey lt h = absurd (omega arith)
more_columns (a ∷ []) x y r l ex ey lt h = absurd (omega arith)
more_columns (a ∷ b ∷ xs) x y r l ex ey lt h =
    let rest : take (length (a ∷ b ∷ xs) - 1) (b ∷ xs) ≡ b ∷ xs = rest_of a (b ∷ xs) in
    let second : y ≡ b = ey ∙ ap (λ (zs : List Column). get_or zs 0 y) rest in
    let before : bytes_cmp a.0 b.0 ≡ Less = subst (λ (z : Column). bytes_cmp a.0 z.0 ≡ Less) second
    (subst (λ (z : Column). bytes_cmp z.0 y.0 ≡ Less) ex lt) in (
      λ t. ascends_more a.0 b.0 (names_of xs) before (subst AreColumns rest (h.0 t)),
      λ c. h.1 (subst AreColumns (sym rest) c.1),
    )

pub less_is : (o : Ordering) → is_lt o ≡ true → o ≡ Less
less_is Less e = refl
less_is Equal e = absurd (cc)
less_is Greater e = absurd (cc)
