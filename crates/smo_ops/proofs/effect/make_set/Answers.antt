use Rattle.std.proofs.Common.{refl}
use Rattle.std.specs.Ordering.{eq_by_cmp}
use Rattle.std.proofs.lemmas.List.Filters.{dedup_is}
use Rattle.prima_base.specs.Order.{row_cmp}
use Rattle.prima_base.specs.OrderLaws.{row_total, row_eq_equiv, row_exact}
use Rattle.smo_ops_spec.proofs.SortLaws.{sorted_set}
use Rattle.smo_ops.proofs.effect.make_set.Goals as goal

pub returns : goal.returns
returns c = sorted_set row_cmp row_total row_exact (eq_by_cmp row_cmp) row_eq_equiv (λ x y. refl)
    c.args.rows.now.items c.sort_unstable.new.self.items c.dedup.new.self.items
    c.sort_unstable.ensures.permutation c.sort_unstable.ensures.sorted
    (dedup_is (eq_by_cmp row_cmp) c.sort_unstable.new.self.items c.dedup.new.self.items
    c.dedup.ensures.filtered)
