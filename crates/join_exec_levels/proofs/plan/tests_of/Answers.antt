use Rattle.std.proofs.Common.{◌++◌, ◌≡◌, ◌+◌, true, sym, ap, ◌∙◌, length, length-append}
use Rattle.cond_expr.specs.Seen.{test}
use Rattle.cond_expr.specs.Faults.{test_references}
use Rattle.join_exec_spec.specs.Placing.{all_below}
use Rattle.join_exec_spec.proofs.PlaceLaws.{part_met, settled, one_more_test}
use Rattle.join_exec_levels.proofs.plan.tests_of.Goals as goal
use Rattle.join_exec_levels.proofs.plan.tests_of.Goals.{then-branch+in_ok-push, else-branch}

pub loop-part-preserved : goal.loop-part-preserved
loop-part-preserved c = λ p y z e f h.
    elim c.if-branch.branch [
      | then-branch+in_ok-push w ↦
          let wide : c.args.taken + c.args.width ≡ length (p ++ y) = rw (length-append, e, f) in
          let below : all_below c.args.columns.now (length (p ++ y))
          (test_references (test c.part-item.result.now)) ≡ true =
          ap (λ n. all_below c.args.columns.now n
          (test_references (test c.part-item.result.now))) (sym wide)
          ∙ c.in_ok-is_due.ensures w.if-branch.true in
          rw w.tests-is (one_more_test c.args.columns.now (p ++ y) c.loop-part.tests.items
          w.push.new.self.items c.part-item.result w.in_ok-push.ensures.items
          (c.loop-part.invariant p y z e f h)
          (sym (settled c.args.columns.now (p ++ y) z (test c.part-item.result.now) below)
          ∙ part_met c.args.columns.now ((p ++ y) ++ z) c.args.parts.now c.loop-part.part-index
          c.part-item.result c.loop-part-test.true c.part-item.is h))
      | else-branch w ↦ rw w.tests-is (c.loop-part.invariant p y z e f h)
    ]
