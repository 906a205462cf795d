use Rattle.std.proofs.Common.{◌≡◌, ◌++◌, take, drop, length}
use Rattle.smo_parse.specs.TreeTexts.{doubled}
use Rattle.smo_parse.proofs.tree_printer.put_doubled.Given as goal

abbrev pub invariant-loop-byte : goal.invariant-loop-byte
invariant-loop-byte l = (l.out.items ++ doubled (drop l.byte-index l.bytes) ≡ l.initial.out.items
    ++ doubled l.bytes) × (take (length l.initial.out.items) l.out.items ≡ l.initial.out.items)
