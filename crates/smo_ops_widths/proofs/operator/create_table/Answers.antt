use Rattle.std.proofs.lemmas.Result.{IfOk-weaker}
use Rattle.std.specs.Prelude.{Some}
use Rattle.smo_ops_widths.specs.Widths.{a_width}
use Rattle.smo_ops_widths.proofs.operator.create_table.Goals as goal

pub returns : goal.returns
returns c = IfOk-weaker c.put.result _ _ (λ done h. λ before columns shown s.
    h shown (Some (a_width 0 0 0 (λ n. 1))) c.created.ensures s) c.put.ensures
