use Rattle.std.proofs.Common.{◌≡◌, false, length}
use Rattle.piece_ir_spec.specs.Books.{book_of}
use Rattle.script_cli_statement.specs.ArchiveOnDisk.{below}
use Rattle.script_cli_statement.specs.Given.{Given}
use Rattle.script_cli_statement.specs.Replies.{Recorded}
use Rattle.script_cli.specs.Taking.{Fed, RepresentsRun}
use Rattle.script_cli_statement.specs.Responses.{TakesRecords}
use Rattle.script_cli.proofs.script_run.ScriptRun.feed.Given as goal

abbrev pub invariant-turns : goal.invariant-turns
invariant-turns g l = record {
  fed : (limit : Given) → limit.book ≡ book_of
      g.R.Rule.handles g.R.Rule.answers l.book.rules.items
      → (now : Recorded) → RepresentsRun l.initial.archive l.initial.self limit now
      → Fed limit now l.initial.self l.self l.initial.archive l.archive l.chunk l.rest
      (g.K.Sink.written l.initial.sink) (g.K.Sink.written l.sink);
  ready : l.self.splitter.spent ≡ false;
  takes : TakesRecords l.archive;
  kept : g.K.Sink.faults l.sink ≡ g.K.Sink.faults l.initial.sink;
  disk : (below l.archive).faults ≡ (below l.initial.archive).faults;
}

abbrev pub decreases-turns : goal.decreases-turns
decreases-turns g l = length l.rest
