use Rattle.std.proofs.Common.{◌∙◌, refl}
use Rattle.script_cli_statement.specs.ArchiveOnDisk.{below}
use Rattle.script_cli.proofs.Counts.{stop_after}
use Rattle.script_cli.proofs.Taking.{took_none, took_more, halted_more, left_none, left_some}
use Rattle.script_cli.proofs.script_run.ScriptRun.feed.Goals as goal

pub turns-init : goal.turns-init
turns-init g c = record {
  fed = λ limit same now represents. took_none limit now c.args.self.now c.args.archive.now
      c.args.chunk.now _ (g.met.D.Disk.valid c.args.archive.now.journal.disk) represents;
  ready = c.requires.ready;
  takes = c.requires.takes;
  kept = refl;
  disk = refl;
}

pub turns-preserved : goal.turns-preserved
turns-preserved g c = record {
  fed = λ limit same now represents.
      let before = c.turns.invariant.fed limit same now represents in
      took_more limit now _ _ _ _ _ _ _ _ _ _ _ _ before
      (left_some _ _ _ _ c.in-Some.is (c.in-Ok.ensures.fed limit same _ before.represents));
  ready = c.in-Ok.ensures.ready;
  takes = c.in-Ok.ensures.takes;
  kept = c.in-Ok.ensures.counts.0 ∙ c.turns.invariant.kept;
  disk = c.in-Ok.ensures.counts.1 ∙ c.turns.invariant.disk;
}

pub returns-in-None-clause-fed : goal.returns-in-None-clause-fed
returns-in-None-clause-fed g c = λ limit same now represents.
    let before = c.turns.invariant.fed limit same now represents in
    took_more limit now _ _ _ _ _ _ _ _ _ _ _ _ before
    (left_none _ _ _ c.in-None.is (c.in-Ok.ensures.fed limit same _ before.represents))

pub returns-in-Err-clause-halted : goal.returns-in-Err-clause-halted
returns-in-Err-clause-halted g c = λ limit same now represents.
    let before = c.turns.invariant.fed limit same now represents in
    halted_more limit now c.in-Err.reason _ _ _ _ _ _ _ _ _ _ before
    (c.in-Err.ensures.halted limit same _ before.represents)

pub returns-in-None-clause-counts : goal.returns-in-None-clause-counts
returns-in-None-clause-counts g c = (
  c.in-Ok.ensures.counts.0 ∙ c.turns.invariant.kept,
  c.in-Ok.ensures.counts.1 ∙ c.turns.invariant.disk,
)

pub returns-in-Err-clause-counts : goal.returns-in-Err-clause-counts
returns-in-Err-clause-counts g c =
    stop_after (Unit {0}) (Unit {0}) c.in-Err.reason (g.K.Sink.faults c.args.sink.now)
    (g.K.Sink.faults c.turns.sink) (g.K.Sink.faults c.turn.new.sink)
    (below c.args.archive.now).faults (below c.turns.archive).faults
    (below c.turn.new.archive).faults
    c.turns.invariant.kept c.turns.invariant.disk c.in-Err.ensures.counts
