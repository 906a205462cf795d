-- Ascending lists, as the other files use them.
use Rattle.std.proofs.Common.{◌≡◌, Bool, true, false, cond, List, [], ◌∷◌, sym, ap, ◌∙◌}
use Rattle.std.specs.List.{filter}
use Rattle.std.specs.Cmp.{IsTotalOrder}
use Rattle.std.specs.declared.cmp.Ordering.{Ordering}
use Rattle.std.specs.declared.cmp.Ordering.TheVariants.{Less, Equal, Greater}
use Rattle.std.specs.FinMap.{nat_cmp-IsAntisymmetric}
use Rattle.std.specs.Ordering.{nat_cmp, ordering_reverse}
use Rattle.std.proofs.lemmas.Cmp.{nat_cmp_total}
use Rattle.relations_spec.specs.Sets.{In, BeforeAll, Ascends, IsExact, set_of}
use Rattle.relations_spec.proofs.SetLaws.{below_each, before_in, from_filter, one_list, set_ascends}
use Rattle.relations_spec.proofs.SetLaws.{in_set, from_set}
use Rattle.prima_base.specs.Order.{row_cmp}
use Rattle.prima_base.specs.OrderLaws.{row_exact, exact_from}
use Rattle.prima_base.specs.declared.value.Value.{Value}

pub exact_rows : (a b : List Value) → row_cmp a b ≡ Equal → a ≡ b
exact_rows a b e = row_exact.same a b e

pub nat_exact : IsExact nat_cmp
nat_exact = exact_from nat_cmp_total nat_cmp-IsAntisymmetric

module _ {A : Type 0} (R : A → A → Ordering) (o : IsTotalOrder R) (exact : (x y : A) → R x y ≡ Equal
    → x ≡ y) where
  not_both : (x y : A) → R x y ≡ Less → R y x ≡ Less → ⊥
  not_both x y p q = let e : Less ≡ Greater = sym p ∙ o.antisymm x y ∙ ap ordering_reverse q in cc

  pub not_self : (x : A) → R x x ≡ Less → ⊥
  not_self x p = not_both x x p p

  pub before_more : (q x : A) (ys : List A) → R q x ≡ Less → BeforeAll R x ys → BeforeAll R q ys
  before_more q x [] l b = tt
  before_more q x (y ∷ ys) l b = (o.trans q x y l b.0, before_more q x ys l b.1)

-- the set of a list that has the members of an ascending one is that one
pub set_is : (xs ys : List (List Value)) → Ascends row_cmp ys
    → ((q : List Value) → In q xs → In q ys) → ((q : List Value) → In q ys → In q xs)
    → set_of row_cmp xs ≡ ys
set_is xs ys r f g =
    one_list row_cmp row_exact (set_of row_cmp xs) ys (set_ascends row_cmp row_exact xs) r
    (record {
      there = λ q i. f q (from_set row_cmp row_exact q xs i);
      back = λ q i.
          in_set row_cmp row_exact q xs (g q i);
    })

-- the members that pass a test stay in order
pub passed_ascend : {X : Type 0} (R : X → X → Ordering) (p : X → Bool) (xs : List X) → Ascends R xs
    → Ascends R (filter p xs)
passed_ascend R p [] a = tt
passed_ascend {X} R p (x ∷ xs) a =
    let rest = passed_ascend R p xs a.1 in
    let first = below_each R x (filter p xs) (λ y i.
    before_in R x y xs a.0 (from_filter p y xs i).0) in
    elim (p x) as (λ b. Ascends R (cond b (x ∷ filter p xs) (filter p xs))) [
      | true ↦ (first, rest)
      | false ↦ rest
    ]
