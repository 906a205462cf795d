use Rattle.script_cli_statement.proofs.Lifelines.{one_borrowed}
use Rattle.script_cli_statement.proofs.response.count_lifelines.Goals as goal

pub loop-i-preserved : goal.loop-i-preserved
loop-i-preserved c = λ past represents. one_borrowed _ _ _ _ c.size.result c.if-is_none.ensures
    (c.size.ensures past represents)
