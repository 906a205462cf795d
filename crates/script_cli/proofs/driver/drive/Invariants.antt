use Rattle.std.proofs.Common.{◌≡◌, ◌≤◌, ◌-◌, false}
use Rattle.piece_ir_spec.specs.Books.{book_of}
use Rattle.script_cli_statement.specs.ArchiveOnDisk.{below}
use Rattle.script_cli_statement.specs.Given.{Given}
use Rattle.script_cli_statement.specs.Replies.{Recorded, IsFresh}
use Rattle.script_cli_statement.specs.Responses.{RepresentsAt, TakesRecords}
use Rattle.script_cli.specs.Limits.{longest_script}
use Rattle.script_cli.proofs.Reaching.{Reached}
use Rattle.script_cli.proofs.driver.drive.Given as goal

abbrev pub invariant-turns : goal.invariant-turns
invariant-turns g l = record {
  reached : (limit : Given) → limit.book ≡ book_of
      g.R.Rule.handles g.R.Rule.answers l.book.rules.items
      → (start : Recorded) → RepresentsAt l.initial.archive limit start → IsFresh start
      → Reached limit start l.initial.archive l.archive (g.S.Source.left l.initial.source)
      (g.S.Source.left l.source) (g.K.Sink.written l.initial.sink) (g.K.Sink.written l.sink)
      l.script_run l.count;
  ready : l.script_run.splitter.spent ≡ false;
  takes : TakesRecords l.archive;
  within : l.count ≤ longest_script;
  read : g.S.Source.faults l.source ≡ g.S.Source.faults l.initial.source;
  wrote : g.K.Sink.faults l.sink ≡ g.K.Sink.faults l.initial.sink;
  disk : (below l.archive).faults ≡ (below l.initial.archive).faults;
}

abbrev pub decreases-turns : goal.decreases-turns
decreases-turns g l = longest_script - l.count
