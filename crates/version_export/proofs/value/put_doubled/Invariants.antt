use Rattle.std.proofs.Common.{◌≡◌, ◌++◌, drop}
use Rattle.smo_parse.specs.TreeTexts.{doubled}
use Rattle.version_export.proofs.value.put_doubled.Given as goal

abbrev pub invariant-loop-byte : goal.invariant-loop-byte
invariant-loop-byte l = l.out.items ++ doubled (drop l.byte-index l.bytes) ≡ l.initial.out.items
    ++ doubled l.bytes
