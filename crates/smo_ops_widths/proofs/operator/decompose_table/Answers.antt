use Rattle.std.proofs.lemmas.Result.{IfOk-weaker}
use Rattle.std.specs.FinMap.{get, remove}
use Rattle.smo_ops_widths.specs.Widths.{put_width}
use Rattle.smo_ops_widths.proofs.AtHandLaws.{taken_out}
use Rattle.smo_ops_widths.proofs.operator.decompose_table.Goals as goal

pub returns : goal.returns
returns c = IfOk-weaker c.put-2.result _ _ (λ done h. λ before xs ys shown s.
    let table = c.args.table.now in
    let gone = taken_out _ _ table c.take-second.result shown c.take-second.ensures.found
    c.take-second.ensures.gone s in
    h (put_width c.args.left.now (get shown table) (remove shown table)) (get shown table) gone.0
    (c.in_ok-put.ensures (remove shown table) (get shown table) (c.in_ok-first.ensures shown s)
    gone.1)) c.put-2.ensures
