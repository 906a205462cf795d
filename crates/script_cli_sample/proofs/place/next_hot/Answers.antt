use Rattle.std.proofs.Common.{◌<◌, ◌∙◌, sym, arith}
use Rattle.script_cli_sample.proofs.Numbers.{hot, past}
use Rattle.script_cli_sample.proofs.place.next_hot.Goals as goal

pub cold-preserved : goal.cold-preserved
cold-preserved c =
    let w = c.cold.invariant in
    let t : c.cold.i < c.args.size = c.cold-test.true in
    (omega arith, w.1 ∙ past c.cold.i c.args.size t (sym c.is_hot.ensures ∙ c.if-is_hot.false))

pub returns-then-is_hot-clause-found : goal.returns-then-is_hot-clause-found
returns-then-is_hot-clause-found c = λ fits. c.cold.invariant.1
    ∙ hot c.cold.i c.args.size fits (sym c.is_hot.ensures ∙ c.if-is_hot.true)
