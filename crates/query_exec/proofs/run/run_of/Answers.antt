use Rattle.std.proofs.Common.{◌≡◌, ◌<◌, ℕ, List, length, get_or, take, sym, subst, arith}
use Rattle.query_exec.specs.declared.part_piece.PartPieces.{PartPieces}
use Rattle.query_exec.specs.Runs.{IsRun}
use Rattle.query_exec.proofs.ListSteps.{taken_is}
use Rattle.query_exec.proofs.RunLaws.{none_more, one_more}
use Rattle.query_exec.proofs.run.run_of.Goals as goal

pub loop-next-init : goal.loop-next-init
loop-next-init c = record {
  count = omega arith;
  run = none_more c.args.groups.now c.args.first.now c.ends_in_time.ensures;
}

pub loop-next-preserved : goal.loop-next-preserved
loop-next-preserved c =
    let rest : List PartPieces = c.args.rest.now in
    let i : ℕ = c.loop-next.next-index in
    let x : PartPieces = c.next-item.result in
    let below : i < length rest = c.loop-next-test.true in
    let is : x ≡ get_or rest i x = c.next-item.is in
    record {
      count = omega (arith, c.loop-next.invariant.count);
      run = subst (λ (xs : List PartPieces). IsRun c.args.groups.now c.args.first.now xs
          c.in-Some.both) (sym (taken_is rest i x below is))
          (one_more c.args.groups.now c.args.first.now (take i rest) c.loop-next.period x
          c.in-Some.both c.loop-next.invariant.run c.in-Some.ensures.goes
          c.in-Some.ensures.both);
    }
