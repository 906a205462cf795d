use Rattle.std.proofs.Common.{◌≤◌, length}
use Rattle.archive_core_replay.proofs.ReadRecords.{AreReadTo}
use Rattle.archive_core_replay.proofs.record_reader.read_all.Given as goal

abbrev pub invariant-loop-index : goal.invariant-loop-index
invariant-loop-index l = record {
  read : AreReadTo l.recs l.before l.index l.kept;
  few : length l.kept.commands.items ≤ l.index;
  count : l.kept.count ≤ l.index;
}
