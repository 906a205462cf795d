use Rattle.std.proofs.Common.{◌≡◌, ◌++◌, drop}
use Rattle.piece_ir.specs.ExplainedPieces.{all_explained}
use Rattle.query_exec.specs.Planned.{planned_pieces}
use Rattle.query_exec.proofs.explanation.push_plan.Given as goal

abbrev pub invariant-loop-own : goal.invariant-loop-own
invariant-loop-own l =
    all_explained l.into.items ++ planned_pieces l.branch l.atom (drop l.own-index l.plan)
    ≡ all_explained l.initial.into.items ++ planned_pieces l.branch l.atom l.plan
