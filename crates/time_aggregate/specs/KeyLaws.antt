-- The laws of the order of values.
use Rattle.std.specs.Prelude.{Some}
use Rattle.std.proofs.Common.{ap}
use Rattle.std.specs.Cmp.{IsPartialOrder, IsEquivalence, IsPartialEquivalence}
use Rattle.std.specs.Cmp.{partial_equiv_from_equiv, partial_order_from_total}
use Rattle.std.specs.FinMap.{IsAntisymmetric, nat_cmp-IsAntisymmetric, int_cmp-IsAntisymmetric}
use Rattle.std.specs.FinMap.{slice_cmp-IsAntisymmetric}
use Rattle.std.proofs.lemmas.Cmp.{eq_by_cmp_equiv}
use Rattle.relations_spec.specs.Sets.{IsExact}
use Rattle.prima_base.specs.declared.value.Value.TheVariants.{Int, Text}
use Rattle.prima_base.specs.Order.{value_cmp, value_eq}
use Rattle.prima_base.specs.OrderLaws.{value_total, exact_from}

pub value_eq_equiv : IsEquivalence value_eq
value_eq_equiv = eq_by_cmp_equiv value_total

pub value_eq_per : IsPartialEquivalence value_eq
value_eq_per = partial_equiv_from_equiv value_eq_equiv

pub value_po : IsPartialOrder value_eq (λ x y. Some (value_cmp x y))
value_po = partial_order_from_total value_total

value_apart : IsAntisymmetric value_cmp
value_apart (Int a) (Int b) e = ap Int (int_cmp-IsAntisymmetric a b e)
value_apart (Int a) (Text b) e = absurd (cc)
value_apart (Text a) (Int b) e = absurd (cc)
value_apart (Text a) (Text b) e = ap Text (slice_cmp-IsAntisymmetric nat_cmp-IsAntisymmetric a b e)

pub value_exact : IsExact value_cmp
value_exact = exact_from value_total value_apart
