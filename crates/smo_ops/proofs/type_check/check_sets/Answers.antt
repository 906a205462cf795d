use Rattle.std.proofs.Common.{◌+◌, ◌∙◌, arith}
use Rattle.std.proofs.lemmas.Result.{err_from_is_err_and}
use Rattle.cond_expr.specs.Seen.{tree}
use Rattle.cond_expr.specs.Sizes.{nodes_of}
use Rattle.smo_ops_spec.specs.Checks.{set_tests, set_faults, sets_nodes}
use Rattle.smo_ops_types.specs.Changes.{sets_of}
use Rattle.smo_ops.proofs.CheckLaws.{small_here, known_here, set_wrong, set_fits, nodes_here}
use Rattle.smo_ops.proofs.PassedOn.{walked_on}
use Rattle.smo_ops.proofs.type_check.check_sets.Goals as goal

pub check_set-requires-clause-known : goal.check_set-requires-clause-known
check_set-requires-clause-known c =
    (known_here c.args.own.now c.args.sets.now c.loop-name.name-index c.loop-name-item.result
    c.loop-name-test.true c.loop-name-item.is c.loop-name.invariant.known).0

pub returns-in_err-next : goal.returns-in_err-next
returns-in_err-next c =
    let p = err_from_is_err_and c.from_residual.result c.from_residual.ensures.1 in
    rw (p.1, p.2)
    (walked_on (set_tests c.args.own.now c.loop-name.next
    (c.loop-name-item.result.0, tree c.loop-name-item.result.1))
    (set_faults c.args.own.now c.args.at (sets_of c.args.sets.now))
    (c.loop-name.next + nodes_of (tree c.loop-name-item.result.1))
    (c.args.at + sets_nodes (sets_of c.args.sets.now))
    c.in_err-next.field-0.0
    (λ r h. c.loop-name.invariant.faults
    ∙ set_wrong c.args.own.now c.loop-name.next c.args.sets.now c.loop-name.name-index
    c.loop-name-item.result c.loop-name-test.true c.loop-name-item.is r h)
    c.in_err-next.ensures)

pub loop-name-preserved : goal.loop-name-preserved
loop-name-preserved c =
    let walked = c.in_ok-next.ensures in
    let nodes = nodes_here c.args.own.now c.loop-name.next c.args.sets.now c.loop-name.name-index
    c.loop-name-item.result c.loop-name-test.true c.loop-name-item.is in
    record {
      faults = c.loop-name.invariant.faults
          ∙ set_fits c.args.own.now c.loop-name.next c.args.sets.now c.loop-name.name-index
          c.loop-name-item.result c.loop-name-test.true c.loop-name-item.is c.in_ok-next.next
          walked.0 walked.1;
      nodes = omega (arith, nodes, walked.1);
      small = (small_here c.args.sets.now c.loop-name.name-index c.loop-name-item.result
          c.loop-name-test.true c.loop-name-item.is c.loop-name.invariant.small).1;
      known = (known_here c.args.own.now c.args.sets.now c.loop-name.name-index
          c.loop-name-item.result c.loop-name-test.true c.loop-name-item.is
          c.loop-name.invariant.known).1;
    }
