use Rattle.std.proofs.Common.{◌≡◌, List, subst, length, arith, ◌-◌}
use Rattle.std.specs.List.Sorted.{IsSorted}
use Rattle.std.proofs.lemmas.List.{take_all}
use Rattle.std.proofs.lemmas.List.Sorted.{length_permutation}
use Rattle.prima_base.specs.Timed.{timed_cmp}
use Rattle.prima_base.specs.declared.timed_row.TimedRow.{TimedRow}
use Rattle.prima_base_rows.proofs.rows.TimedRows.sort.Goals as goal

pub returns-clause-sorted : goal.returns-clause-sorted
returns-clause-sorted c =
    let long : length c.sort_part.new.self.items ≡ length c.args.self.now.items =
    length_permutation _ _ c.sort_part.ensures.permutation in
    let rows = c.len-rows.ensures in
    subst (λ (l : List TimedRow). IsSorted timed_cmp l)
    (take_all (c.len-rows.result - 0) c.sort_part.new.self.items (omega (arith, long, rows)))
    c.sort_part.ensures.sorted
