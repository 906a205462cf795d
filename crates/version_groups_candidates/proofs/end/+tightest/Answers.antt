use Rattle.std.proofs.Common.{◌≡◌, ◌+◌, ◌-◌, ◌<◌, length, map, drop, sym, ap, ◌∙◌, arith}
use Rattle.cond_expr.specs.Seen.{test, tests_of}
use Rattle.cond_expr.specs.Parts.{parts, all_parts}
use Rattle.version_groups_candidates.specs.Ranges.{tightest}
use Rattle.version_groups_candidates.proofs.RangeEnds.{tightest_from}
use Rattle.version_groups_candidates.proofs.end.+tightest.Goals as goal

pub tightest_of_all-members-preserved : goal.tightest_of_all-members-preserved
tightest_of_all-members-preserved t c =
    let w = c.members.invariant in
    let side = c.args.side in
    let column = c.args.column.now in
    let members = c.args.members.now in
    let k = c.members.k - 1 in
    let next : k + 1 ≡ c.members.k = omega (arith, c.members-test.true) in
    let h : k < length members = omega (arith, w.within, c.members-test.true) in
    let ps = parts (test c.index-members-k.result) in
    record {
      within = omega (arith, h);
      same = c.tightest_of-tightest.ensures
          ∙ ap (tightest side column ps) (w.same
          ∙ ap (λ n. tightest side column (all_parts (tests_of (map test (drop n members))))
          c.args.end) (sym next))
          ∙ sym (tightest_from side column members k c.index-members-k.result c.args.end h
          c.index-members-k.is);
    }
