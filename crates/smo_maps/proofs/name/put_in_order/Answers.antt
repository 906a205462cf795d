use Rattle.std.proofs.Common.{refl}
use Rattle.std.specs.Cmp.Lexicographic.{nat_list_cmp_total}
use Rattle.std.proofs.lemmas.List.Filters.{dedup_is}
use Rattle.prima_base.specs.Order.{bytes_cmp, same}
use Rattle.prima_base.specs.OrderLaws.{bytes_exact, name_eq_equiv}
use Rattle.smo_ops_spec.proofs.SortLaws.{sorted_set}
use Rattle.smo_maps.proofs.name.put_in_order.Goals as goal

pub returns : goal.returns
returns c = sorted_set bytes_cmp nat_list_cmp_total bytes_exact same name_eq_equiv
    (λ x y. refl) c.args.names.now.items c.sort_unstable.new.self.items c.dedup.new.self.items
    c.sort_unstable.ensures.permutation c.sort_unstable.ensures.sorted
    (dedup_is same c.sort_unstable.new.self.items c.dedup.new.self.items
    c.dedup.ensures.filtered)
