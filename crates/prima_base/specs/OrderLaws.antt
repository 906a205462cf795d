-- The laws of the order of values and of what `Val`s show.
use Rattle.std.specs.Prelude.{◌≡◌, ℕ, List, true, Some, refl}
use Rattle.std.proofs.Common.{ap, ◌∙◌}
use Rattle.std.specs.declared.cmp.Ordering.TheVariants.{Less, Equal, Greater}
use Rattle.std.specs.Cmp.{IsTotalOrder, IsPartialOrder, IsEquivalence, IsPartialEquivalence}
use Rattle.std.specs.Cmp.{on_total, on_equiv, partial_equiv_from_equiv, partial_order_from_total}
use Rattle.std.specs.Cmp.Lexicographic.{nat_list_cmp_total, lists_total}
use Rattle.std.specs.Hash as fed
use Rattle.std.specs.Ordering.{eq_by_cmp, is_eq, ordering_reverse}
use Rattle.std.specs.declared.cmp.Ordering.{Ordering}
use Rattle.std.specs.FinMap.{IsAntisymmetric, nat_cmp-IsAntisymmetric, int_cmp-IsAntisymmetric}
use Rattle.std.specs.FinMap.{slice_cmp-IsAntisymmetric}
use Rattle.std.proofs.lemmas.Cmp.{int_cmp_total, eq_by_cmp_equiv, tied_itself}
use Rattle.prima_base.specs.declared.value.Value.{Value}
use Rattle.prima_base.specs.declared.value.Value.TheVariants.{Int, Text}
use Rattle.relations_spec.specs.Sets.{IsExact}
use Rattle.prima_base.specs.Order.{value_cmp, row_cmp, bytes_cmp, same, value_eq, shown}

pub value_total : IsTotalOrder value_cmp
value_total = record { antisymm = antisymm; trans = trans; congr = congr }
  where
    antisymm : (x y : Value) → value_cmp x y ≡ ordering_reverse (value_cmp y x)
    antisymm (Int a) (Int b) = int_cmp_total.antisymm a b
    antisymm (Int a) (Text b) = refl
    antisymm (Text a) (Int b) = refl
    antisymm (Text a) (Text b) = nat_list_cmp_total.antisymm a b

    trans : (x y z : Value) → value_cmp x y ≡ Less → value_cmp y z ≡ Less → value_cmp x z ≡ Less
    trans (Int a) (Int b) (Int c) p q = int_cmp_total.trans a b c p q
    trans (Int a) (Int b) (Text c) p q = refl
    trans (Int a) (Text b) (Int c) p q = cc
    trans (Int a) (Text b) (Text c) p q = refl
    trans (Text a) (Int b) z p q = cc
    trans (Text a) (Text b) (Int c) p q = q
    trans (Text a) (Text b) (Text c) p q = nat_list_cmp_total.trans a b c p q

    congr : (x y z : Value) → value_cmp x y ≡ Equal → value_cmp x z ≡ value_cmp y z
    congr (Int a) (Int b) (Int c) p = int_cmp_total.congr a b c p
    congr (Int a) (Int b) (Text c) p = refl
    congr (Int a) (Text b) z p = cc
    congr (Text a) (Int b) z p = cc
    congr (Text a) (Text b) (Int c) p = refl
    congr (Text a) (Text b) (Text c) p = nat_list_cmp_total.congr a b c p

pub val_total : IsTotalOrder (λ x y. value_cmp (shown x) (shown y))
val_total = on_total shown value_total

pub val_eq_equiv : IsEquivalence (λ x y. value_eq (shown x) (shown y))
val_eq_equiv = on_equiv shown (eq_by_cmp_equiv value_total)

pub val_eq_per : IsPartialEquivalence (λ x y. value_eq (shown x) (shown y))
val_eq_per = partial_equiv_from_equiv val_eq_equiv

pub val_po : IsPartialOrder (λ x y. value_eq (shown x) (shown y))
    (λ x y. Some (value_cmp (shown x) (shown y)))
val_po = partial_order_from_total val_total

pub row_total : IsTotalOrder row_cmp
row_total = lists_total value_total

pub row_eq_equiv : IsEquivalence (eq_by_cmp row_cmp)
row_eq_equiv = eq_by_cmp_equiv row_total

pub row_eq_per : IsPartialEquivalence (eq_by_cmp row_cmp)
row_eq_per = partial_equiv_from_equiv row_eq_equiv

pub row_po : IsPartialOrder (eq_by_cmp row_cmp) (λ x y. Some (row_cmp x y))
row_po = partial_order_from_total row_total

pub name_eq_equiv : IsEquivalence same
name_eq_equiv = eq_by_cmp_equiv nat_list_cmp_total

pub name_eq_per : IsPartialEquivalence same
name_eq_per = partial_equiv_from_equiv name_eq_equiv

pub name_po : IsPartialOrder same (λ x y. Some (bytes_cmp x y))
name_po = partial_order_from_total nat_list_cmp_total

-- a total order in which only equal members tie tells apart what differs
pub exact_from : {X : Type 0} {cmp : X → X → Ordering} → IsTotalOrder cmp → IsAntisymmetric cmp
    → IsExact cmp
exact_from {X} {cmp} o s = record {
  turn = λ x y e. (let h = o.antisymm y x in h ∙ ap ordering_reverse e);
  trans = o.trans;
  same = s;
  apart = λ x e. (let h : cmp x x ≡ Equal = tied_itself o x in cc);
}

value_apart : IsAntisymmetric value_cmp
value_apart (Int a) (Int b) e = ap Int (int_cmp-IsAntisymmetric a b e)
value_apart (Int a) (Text b) e = absurd (cc)
value_apart (Text a) (Int b) e = absurd (cc)
value_apart (Text a) (Text b) e = ap Text (slice_cmp-IsAntisymmetric nat_cmp-IsAntisymmetric a b e)

pub row_exact : IsExact row_cmp
row_exact = exact_from row_total (slice_cmp-IsAntisymmetric value_apart)

pub bytes_exact : IsExact bytes_cmp
bytes_exact = exact_from nat_list_cmp_total (slice_cmp-IsAntisymmetric nat_cmp-IsAntisymmetric)

-- names that are told to be one are
pub same_is : (a b : List ℕ) → same a b ≡ true → a ≡ b
same_is a b e = step (bytes_cmp a b) refl e
  where
    step : (o : Ordering) → bytes_cmp a b ≡ o → is_eq o ≡ true → a ≡ b
    step Less q h = absurd (cc)
    step Equal q h = bytes_exact.same a b q
    step Greater q h = absurd (cc)

-- equal names are hashed alike
pub name_fed : (a b : List ℕ) → same a b ≡ true → fed.slice fed.u8 a ≡ fed.slice fed.u8 b
name_fed a b h = ap (fed.slice fed.u8) (same_is a b h)
