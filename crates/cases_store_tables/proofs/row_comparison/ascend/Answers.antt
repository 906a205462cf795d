use Rattle.std.proofs.Common.{arith}
use Rattle.prima_base.specs.Order.{row_cmp}
use Rattle.prima_base.specs.OrderLaws.{row_exact}
use Rattle.cases_store_tables.proofs.RowOrderLaws.{adjacent_ascend}
use Rattle.cases_store_tables.proofs.row_comparison.ascend.Goals as goal

pub returns : goal.returns
returns c = λ t. adjacent_ascend row_cmp row_exact c.args.rows.now
    (λ k d b. let f = c.loop-place-test.false in c.loop-place.invariant k d (omega (arith, b, f)))
