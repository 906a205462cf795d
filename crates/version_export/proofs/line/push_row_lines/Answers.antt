use Rattle.std.proofs.Common.{arith}
use Rattle.version_export.proofs.RunLaws.{run_passed, rest_fails, all_added}
use Rattle.version_export.proofs.line.push_row_lines.Goals as goal

pub moments-preserved : goal.moments-preserved
moments-preserved c =
    let within = c.in-Ok.ensures.within.1 in
    let rest = c.split_at.ensures.back_len in
    record {
      within = omega (arith, within, rest);
      lines = run_passed c.args.turns.now c.split_at.result.1.now c.args.lines.now.items
          c.moments.lines.items c.push_first_run.new.lines.items c.moments.start c.in-Ok.count
          c.moments.invariant.lines c.split_at.ensures.back c.in-Ok.ensures.added;
    }

pub moments-smaller : goal.moments-smaller
moments-smaller c =
    let some = c.in-Ok.ensures.within.0 in
    let within = c.in-Ok.ensures.within.1 in
    let rest = c.split_at.ensures.back_len in
    omega (arith, some, within, rest)

pub returns-in-Err : goal.returns-in-Err
returns-in-Err c = rest_fails c.args.turns.now c.split_at.result.1.now c.args.lines.now.items
    c.moments.lines.items c.push_first_run.new.lines.items c.moments.start c.in-Err.fault
    c.moments.invariant.lines c.split_at.ensures.back c.in-Err.ensures.added

pub returns : goal.returns
returns c = all_added c.args.turns.now c.args.lines.now.items c.moments.lines.items c.moments.start
    c.moments.invariant.lines c.moments-test.false
