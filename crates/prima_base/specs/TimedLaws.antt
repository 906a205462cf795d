-- The laws of the order of rows with periods.
use Rattle.std.specs.Prelude.{Some}
use Rattle.std.specs.Cmp.{IsTotalOrder, IsPartialOrder, IsEquivalence, IsPartialEquivalence}
use Rattle.std.specs.Cmp.{on_total, partial_equiv_from_equiv, partial_order_from_total}
use Rattle.std.specs.Cmp.Lexicographic.{lists_total}
use Rattle.std.specs.Ordering.{eq_by_cmp}
use Rattle.std.proofs.lemmas.Cmp.{then_total, nat_cmp_total, eq_by_cmp_equiv}
use Rattle.prima_base.specs.Timed.{timed_cmp}
use Rattle.prima_base.specs.OrderLaws.{val_total}

pub timed_total : IsTotalOrder timed_cmp
timed_total = then_total (on_total (λ t. t.values.items) (lists_total val_total))
    (then_total (on_total (λ t. t.period.start) nat_cmp_total)
    (on_total (λ t. t.period.end) nat_cmp_total))

pub timed_eq_equiv : IsEquivalence (eq_by_cmp timed_cmp)
timed_eq_equiv = eq_by_cmp_equiv timed_total

pub timed_eq_per : IsPartialEquivalence (eq_by_cmp timed_cmp)
timed_eq_per = partial_equiv_from_equiv timed_eq_equiv

pub timed_po : IsPartialOrder (eq_by_cmp timed_cmp) (λ x y. Some (timed_cmp x y))
timed_po = partial_order_from_total timed_total
