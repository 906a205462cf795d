use Rattle.std.proofs.Common.{refl, subst, List}
use Rattle.std.specs.Prelude.{All}
use Rattle.std.specs.Ordering.{eq_by_cmp}
use Rattle.std.proofs.lemmas.List.Filters.{dedup_is}
use Rattle.prima_base.specs.Order.{row_cmp}
use Rattle.prima_base.specs.OrderLaws.{row_total}
use Rattle.prima_base.specs.Columns.{IsRow}
use Rattle.prima_base.specs.declared.value.Value.{Value}
use Rattle.cases_store_tables.proofs.TestedLaws.{in_all, sorted_ascends}
use Rattle.cases_store_tables.proofs.tested_table.become_relation.Goals as goal

pub returns : goal.returns
returns c = λ t.
    let sorted = c.sort_unstable.new.self.items in
    let rows = c.dedup.new.self.items in
    let columns = c.args.columns.now in
    record {
      ascending = sorted_ascends row_cmp row_total (eq_by_cmp row_cmp) (λ x y. refl) sorted rows
          c.sort_unstable.ensures.sorted (dedup_is (eq_by_cmp row_cmp) sorted rows
          c.dedup.ensures.filtered);
      fitting = λ row m. in_all (IsRow columns) row rows
          (subst (λ (l : List (List Value)). All (IsRow columns) l) c.deref.ensures.value
          (c.are_rows.ensures t)) m;
    }
