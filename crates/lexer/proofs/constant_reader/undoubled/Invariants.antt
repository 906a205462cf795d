use Rattle.std.proofs.Common.{length, ◌≡◌, ◌++◌, ◌≤◌, drop, ◌-◌}
use Rattle.lexer_spec.specs.Bytes as spec
use Rattle.lexer.proofs.constant_reader.undoubled.Given as goal

abbrev pub invariant-loop-i : goal.invariant-loop-i
invariant-loop-i l = (l.i ≤ length l.bytes) × (spec.text_value l.bytes ≡ l.out.items
    ++ spec.text_value (drop l.i l.bytes))

abbrev pub decreases-loop-i : goal.decreases-loop-i
decreases-loop-i l = length l.bytes - l.i
