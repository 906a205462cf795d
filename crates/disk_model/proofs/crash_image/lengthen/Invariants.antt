use Rattle.std.proofs.Common.{◌≡◌, ◌++◌, replicate}
use Rattle.disk_model.proofs.crash_image.lengthen.Given as goal

abbrev pub invariant-loop : goal.invariant-loop
invariant-loop l = l.file.items ≡ l.initial.file.items ++ replicate l.counter l.byte
