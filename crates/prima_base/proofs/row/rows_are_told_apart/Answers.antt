use Rattle.prima_base.specs.OrderLaws.{row_exact}
use Rattle.prima_base.proofs.row.rows_are_told_apart.Goals as goal

pub returns : goal.returns
returns c = row_exact
