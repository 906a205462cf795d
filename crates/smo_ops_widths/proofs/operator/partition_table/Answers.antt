use Rattle.std.proofs.lemmas.Result.{IfOk-weaker}
use Rattle.std.specs.FinMap.{get, remove}
use Rattle.std.proofs.Common.{ℕ}
use Rattle.std.specs.Prelude.{Option}
use Rattle.std.specs.Option.{option_map}
use Rattle.cond_expr.specs.Seen.{test}
use Rattle.smo_ops_widths.specs.Widths.{Width, part_width, put_width}
use Rattle.smo_ops_widths.proofs.operator.partition_table.Goals as goal

pub returns : goal.returns
returns c = IfOk-weaker c.put-2.result _ _ (λ done h. λ before shown s.
    let table = c.args.table.now in
    let part : ℕ → Option Width = λ more.
    option_map (part_width more (test c.args.cond.now)) (get shown table) in
    h (put_width c.args.yes.now (part 1) (remove shown table)) (part 2)
    (c.in_ok-second.ensures shown s)
    (c.in_ok-put.ensures (remove shown table) (part 1) (c.in_ok-first.ensures shown s)
    (c.forget.ensures shown s))) c.put-2.ensures
