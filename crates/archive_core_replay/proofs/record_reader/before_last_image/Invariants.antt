use Rattle.archive_core_replay.proofs.ReadRecords.{IsLastImage}
use Rattle.archive_core_replay.proofs.record_reader.before_last_image.Given as goal

abbrev pub invariant-loop-index : goal.invariant-loop-index
invariant-loop-index l = IsLastImage l.recs l.before
