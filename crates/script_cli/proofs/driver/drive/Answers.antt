use Rattle.std.proofs.Common.{◌≡◌, ◌+◌, ◌≤◌, arith, [], List, sym, ◌∙◌, take, ap, length, subst}
use Rattle.std.proofs.Common.{length-take, ℕ, refl}
use Rattle.std.specs.Prelude.{Option, Some, None}
use Rattle.std.specs.Io.KnownBytes.{Consumes}
use Rattle.script_cli_statement.specs.ArchiveOnDisk.{below, place_of}
use Rattle.script_cli.specs.Driving.{RanScript, CountsPuts}
use Rattle.script_cli.specs.Limits.{longest_script}
use Rattle.script_cli.specs.Runs.{SourceCounted, SinkCounted, DiskCounted}
use Rattle.script_cli.proofs.Reaching.{reach_start, reach, drove_read, drove_limit, ran_stopped}
use Rattle.script_cli.proofs.Reaching.{drove_end}
use Rattle.script_cli.proofs.Counts.{rose_after, sink_after, sink_stopped, disk_stopped}
use Rattle.script_cli.proofs.Counts.{source_stopped, source_at_end, disk_at_end}
use Rattle.script_cli.proofs.Counting.{counts_at_end, counts_stopped}
use Rattle.script_cli.proofs.driver.drive.Goals as goal

-- the length of what was taken
prefix_length : (chunk : List ℕ) (n : ℕ) → n ≤ length chunk → length (take n chunk) ≡ n
prefix_length chunk n h = omega (arith, length-take n chunk)

-- nothing was taken
none_taken : (a b : Option (List ℕ)) (chunk : List ℕ) (n : ℕ) → n ≡ 0 → Consumes a b (take n chunk)
    → Consumes a b []
none_taken a b chunk n e k = subst (λ m. Consumes a b (take m chunk)) e k

-- no byte was taken yet
nothing_taken : (a : Option (List ℕ)) → Consumes a a []
nothing_taken None = tt
nothing_taken (Some bytes) = refl

pub turns-init : goal.turns-init
turns-init g c =
    let fresh = c.new-script_run.ensures in record {
      reached = λ limit same start represents unbegun.
          reach_start limit start c.args.archive.now _ _
          c.new-script_run.result (g.met.D.Disk.valid c.args.archive.now.journal.disk)
          (record {
            splitter = fresh.splitter;
            sessions = fresh.sessions;
            refused = fresh.refused;
            puts = fresh.puts;
          })
          represents unbegun
          (nothing_taken _);
      ready = ap (λ s. s.spent) fresh.splitter;
      takes = c.requires.takes;
      within = omega arith;
      read = refl;
      wrote = refl;
      disk = refl;
    }

pub returns-in-Err-clause-ran_script : goal.returns-in-Err-clause-ran_script
returns-in-Err-clause-ran_script g c = λ limit same start represents unbegun.
    drove_read limit start c.args.archive.now c.turns.archive
    (c.turns.invariant.reached limit same start represents
    unbegun) c.turns.invariant.within
    c.in-Err.ensures.bytes

pub returns-then-taken-eq0-clause-ran_script : goal.returns-then-taken-eq0-clause-ran_script
returns-then-taken-eq0-clause-ran_script g c = λ limit same start represents unbegun.
    drove_end limit start c.args.archive.now c.turns.archive
    (c.turns.invariant.reached limit same start represents
    unbegun) c.turns.invariant.within
    (none_taken _ _ c.take_some.new.chunk _ c.if-taken-eq0.true c.in-Ok.ensures.bytes.0)
    (c.in-Ok.ensures.bytes.1 c.if-taken-eq0.true) c.finish-status.result
    c.finish-status.ensures.ends

pub returns-then-count-eq-SCRIPT_LIMIT-clause-ran_script :
    goal.returns-then-count-eq-SCRIPT_LIMIT-clause-ran_script
returns-then-count-eq-SCRIPT_LIMIT-clause-ran_script g c = λ limit same start represents unbegun.
    let l : length c.take_some.new.chunk ≡ 4096 = grind arith in
    let one : c.in-Ok.taken ≡ 1 = omega (
      arith,
      c.in-Ok.ensures.bound,
      c.room_for-room.ensures.last,
    ) in
    drove_limit limit start c.args.archive.now c.turns.archive
    (c.turns.invariant.reached limit same start represents
    unbegun)
    (take c.in-Ok.taken c.take_some.new.chunk) c.in-Ok.ensures.bytes.0
    c.if-count-eq-SCRIPT_LIMIT.true
    (prefix_length c.take_some.new.chunk c.in-Ok.taken (omega arith) ∙ one)

pub returns-then-taken-eq0-clause-counted : goal.returns-then-taken-eq0-clause-counted
returns-then-taken-eq0-clause-counted g c = λ limit same start represents unbegun.
    subst (λ n. CountsPuts c.finish-status.result limit start (g.S.Source.left c.args.source.now) n)
    (sym c.puts-puts.ensures)
    (counts_at_end limit start c.args.archive.now c.turns.archive _ _ _ _ _ c.turns.script_run
    c.turns.count c.finish-status.result (c.turns.invariant.reached limit same start represents
    unbegun)
    (none_taken _ _ c.take_some.new.chunk _ c.if-taken-eq0.true c.in-Ok.ensures.bytes.0)
    (c.in-Ok.ensures.bytes.1 c.if-taken-eq0.true))

pub turns-preserved : goal.turns-preserved
turns-preserved g c =
    let l : length c.take_some.new.chunk ≡ 4096 = grind arith in
    let n : c.in-Ok.taken ≤ length c.take_some.new.chunk = omega (arith, c.in-Ok.ensures.bound) in
    record {
      reached = λ limit same start represents unbegun.
          reach limit start c.args.archive.now c.turns.archive
          c.feed.new.archive (c.turns.invariant.reached limit same start represents
          unbegun)
          (take c.in-Ok.taken c.take_some.new.chunk) _ _ c.in-Ok.ensures.bytes.0
          (ap (λ k. c.turns.count + k) (sym (prefix_length c.take_some.new.chunk c.in-Ok.taken n)))
          (c.in-Ok-feed.ensures.fed limit same);
      ready = c.in-Ok-feed.ensures.ready;
      takes = c.in-Ok-feed.ensures.takes;
      within = omega (arith, c.in-Ok.ensures.bound, c.room_for-room.ensures.within);
      read = c.in-Ok.ensures.cause.kept ∙ c.turns.invariant.read;
      wrote = c.in-Ok-feed.ensures.counts.0 ∙ c.turns.invariant.wrote;
      disk = c.in-Ok-feed.ensures.counts.1 ∙ c.turns.invariant.disk;
    }

-- ---- the counts of faults

pub returns-in-Err-clause-source : goal.returns-in-Err-clause-source
returns-in-Err-clause-source g c =
    rose_after (g.S.Source.faults c.args.source.now) (g.S.Source.faults c.turns.source)
    (g.S.Source.faults c.take_some.new.source) c.turns.invariant.read
    c.in-Err.ensures.cause.later c.in-Err.ensures.cause.failed

pub returns-then-taken-eq0-clause-source : goal.returns-then-taken-eq0-clause-source
returns-then-taken-eq0-clause-source g c =
    source_at_end c.finish-status.result c.turns.script_run (g.K.Sink.written c.turns.sink)
    (g.K.Sink.written c.finish-status.new.sink) (g.S.Source.faults c.args.source.now)
    (g.S.Source.faults c.take_some.new.source)
    c.finish-status.ensures.ends (c.in-Ok.ensures.cause.kept ∙ c.turns.invariant.read)

pub returns-then-taken-eq0-clause-sink : goal.returns-then-taken-eq0-clause-sink
returns-then-taken-eq0-clause-sink g c =
    sink_after c.finish-status.result (g.K.Sink.faults c.args.sink.now)
    (g.K.Sink.faults c.turns.sink) (g.K.Sink.faults c.finish-status.new.sink)
    c.turns.invariant.wrote c.finish-status.ensures.sink

pub returns-then-taken-eq0-clause-disk : goal.returns-then-taken-eq0-clause-disk
returns-then-taken-eq0-clause-disk g c =
    disk_at_end c.finish-status.result c.turns.script_run (g.K.Sink.written c.turns.sink)
    (g.K.Sink.written c.finish-status.new.sink) (below c.args.archive.now).faults
    (below c.turns.archive).faults
    c.finish-status.ensures.ends c.turns.invariant.disk

pub returns-then-count-eq-SCRIPT_LIMIT-clause-source :
    goal.returns-then-count-eq-SCRIPT_LIMIT-clause-source
returns-then-count-eq-SCRIPT_LIMIT-clause-source g c = c.in-Ok.ensures.cause.kept
    ∙ c.turns.invariant.read

pub returns-then-count-eq-SCRIPT_LIMIT-clause-sink :
    goal.returns-then-count-eq-SCRIPT_LIMIT-clause-sink
returns-then-count-eq-SCRIPT_LIMIT-clause-sink g c = c.turns.invariant.wrote

pub returns-then-count-eq-SCRIPT_LIMIT-clause-disk :
    goal.returns-then-count-eq-SCRIPT_LIMIT-clause-disk
returns-then-count-eq-SCRIPT_LIMIT-clause-disk g c = c.turns.invariant.disk

-- ---- a run that stopped

pub returns-in-Err-feed-clause-ran_script : goal.returns-in-Err-feed-clause-ran_script
returns-in-Err-feed-clause-ran_script g c = λ limit same start represents unbegun.
    let l : length c.take_some.new.chunk ≡ 4096 = grind arith in
    let n : length (take c.in-Ok.taken c.take_some.new.chunk) ≡ c.in-Ok.taken =
    prefix_length c.take_some.new.chunk c.in-Ok.taken (omega (arith, c.in-Ok.ensures.bound)) in
    let within : c.turns.count + length (take c.in-Ok.taken c.take_some.new.chunk) ≤
    longest_script = omega (arith, c.in-Ok.ensures.bound, c.room_for-room.ensures.within) in
    subst (λ s. RanScript limit start s (g.S.Source.left c.args.source.now)
    (g.S.Source.left c.take_some.new.source) (g.K.Sink.written c.args.sink.now)
    (g.K.Sink.written c.feed.new.sink)
    (below c.args.archive.now) (below c.feed.new.archive) (place_of c.args.archive.now))
    (sym c.status_of.ensures)
    (ran_stopped limit start c.args.archive.now c.turns.archive c.feed.new.archive
    c.in-Err-feed.reason (c.turns.invariant.reached limit same start represents
    unbegun)
    (take c.in-Ok.taken c.take_some.new.chunk)
    (g.met.D.Disk.valid c.feed.new.archive.journal.disk) within c.in-Ok.ensures.bytes.0
    (c.in-Err-feed.ensures.halted limit same))

pub returns-in-Err-feed-clause-source : goal.returns-in-Err-feed-clause-source
returns-in-Err-feed-clause-source g c =
    subst (λ s. SourceCounted s (g.S.Source.faults c.args.source.now)
    (g.S.Source.faults c.take_some.new.source)) (sym c.status_of.ensures)
    (source_stopped c.in-Err-feed.reason _ _ (c.in-Ok.ensures.cause.kept ∙ c.turns.invariant.read))

pub returns-in-Err-feed-clause-sink : goal.returns-in-Err-feed-clause-sink
returns-in-Err-feed-clause-sink g c =
    subst (λ s. SinkCounted s (g.K.Sink.faults c.args.sink.now) (g.K.Sink.faults c.feed.new.sink))
    (sym c.status_of.ensures)
    (sink_stopped (Unit {0}) c.in-Err-feed.reason (g.K.Sink.faults c.args.sink.now)
    (g.K.Sink.faults c.turns.sink) (g.K.Sink.faults c.feed.new.sink)
    (below c.args.archive.now).faults (below c.turns.archive).faults
    (below c.feed.new.archive).faults
    c.turns.invariant.wrote c.in-Err-feed.ensures.counts)

pub returns-in-Err-feed-clause-disk : goal.returns-in-Err-feed-clause-disk
returns-in-Err-feed-clause-disk g c =
    subst (λ s. DiskCounted s (below c.args.archive.now).faults (below c.feed.new.archive).faults)
    (sym c.status_of.ensures)
    (disk_stopped (Unit {0}) c.in-Err-feed.reason (g.K.Sink.faults c.args.sink.now)
    (g.K.Sink.faults c.turns.sink) (g.K.Sink.faults c.feed.new.sink)
    (below c.args.archive.now).faults (below c.turns.archive).faults
    (below c.feed.new.archive).faults
    c.turns.invariant.disk c.in-Err-feed.ensures.counts)

pub returns-in-Err-feed-clause-counted : goal.returns-in-Err-feed-clause-counted
returns-in-Err-feed-clause-counted g c = λ limit same start represents unbegun.
    subst (λ s. CountsPuts s limit start (g.S.Source.left c.args.source.now) c.puts-puts.result)
    (sym c.status_of.ensures) (counts_stopped c.in-Err-feed.reason limit start _ _)
