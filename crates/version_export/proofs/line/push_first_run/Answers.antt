use Rattle.version_export.proofs.RunLaws.{run_added, run_fails, run_some}
use Rattle.version_export.proofs.line.push_first_run.Goals as goal

pub returns-in-Ok : goal.returns-in-Ok
returns-in-Ok c =
    let added = run_added c.args.turns.now c.args.lines.now.items c.push_moment.new.lines.items
    c.index-turns-0.result c.count_at-count.result c.split_at.result.0.now c.requires.some
    c.requires.rise c.count_at-count.ensures.value c.count_at-count.ensures.within
    c.split_at.ensures.front c.in-Ok.ensures in
    record {
      added = added;
      within = run_some c.args.turns.now c.args.lines.now.items c.push_moment.new.lines.items
          c.count_at-count.result added;
    }

pub returns-in-Err-clause-added : goal.returns-in-Err-clause-added
returns-in-Err-clause-added c = run_fails c.args.turns.now c.args.lines.now.items
    c.push_moment.new.lines.items c.index-turns-0.result c.count_at-count.result
    c.split_at.result.0.now c.in-Err.fault c.requires.some c.requires.rise
    c.count_at-count.ensures.value c.split_at.ensures.front c.in-Err.ensures
