use Rattle.std.proofs.Common.{◌≡◌, ◌+◌, ◌<◌, ℕ, take, true}
use Rattle.std.specs.Prelude.{All}
use Rattle.relations_spec.specs.Sets.{has}
use Rattle.relations_spec.specs.Spans.{forever}
use Rattle.prima_base.specs.Order.{row_cmp}
use Rattle.history_store.specs.Store.{AllBefore, relation_at}
use Rattle.cases_store_tables.proofs.tested_table.are_there.Given as goal

abbrev pub invariant-loop-row : goal.invariant-loop-row
invariant-loop-row l = (m : ℕ) → m < forever → AllBefore l.stored (m + 1)
    → All (λ row. has row_cmp row (relation_at l.stored m) ≡ true) (take l.row-index l.rows)
