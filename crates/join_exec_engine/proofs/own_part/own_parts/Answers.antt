use Rattle.std.proofs.Common.{◌≡◌, ◌+◌, ◌++◌, true, sym, ap, ◌∙◌, length, arith}
use Rattle.cond_expr.specs.Seen.{test}
use Rattle.cond_expr.specs.Faults.{test_references}
use Rattle.join_exec_spec.specs.Placing.{all_below}
use Rattle.join_exec_spec.proofs.PlaceLaws.{part_met, settled_alone, one_more_test}
use Rattle.join_exec_engine.proofs.own_part.own_parts.Goals as goal
use Rattle.join_exec_engine.proofs.own_part.own_parts.Goals.{then-branch+in_ok-push, else-branch}

pub loop-part-preserved : goal.loop-part-preserved
loop-part-preserved c = λ rest row more e h.
    elim c.if-branch.branch [
      | then-branch+in_ok-push w ↦
          let wide : length c.args.columns.now ≡ 0 + length c.args.columns.now = omega arith in
          let below : all_below c.args.columns.now (length c.args.columns.now)
          (test_references (test c.part-item.result.now)) ≡ true =
          ap (λ n. all_below c.args.columns.now n
          (test_references (test c.part-item.result.now))) wide ∙ sym c.in_ok-is_settled.ensures
          ∙ w.if-branch.true in
          rw w.own-is (one_more_test c.args.columns.now row c.loop-part.own.items
          w.push.new.self.items c.part-item.result w.in_ok-push.ensures.items
          (c.loop-part.invariant rest row more e h)
          (sym (settled_alone rest more c.args.columns.now row (test c.part-item.result.now) e
          below) ∙ part_met (c.args.columns.now ++ rest) (row ++ more) c.args.parts.now
          c.loop-part.part-index c.part-item.result c.loop-part-test.true c.part-item.is h))
      | else-branch w ↦ rw w.own-is (c.loop-part.invariant rest row more e h)
    ]
