use Rattle.std.proofs.Common.{◌≡◌, take}
use Rattle.journal.specs.Records.{header}
use Rattle.journal.proofs.reader.first_difference.Given as goal

abbrev pub invariant-loop-place : goal.invariant-loop-place
invariant-loop-place l = take l.place l.bytes ≡ take l.place header
