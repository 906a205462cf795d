use Rattle.std.proofs.Common.{length, ◌≡◌, ◌+◌, ◌≤◌, drop, ◌-◌}
use Rattle.lexer_spec.specs.Bytes as spec
use Rattle.lexer.proofs.scanned.text_size.Given as goal

abbrev pub invariant-loop-i : goal.invariant-loop-i
invariant-loop-i l = (l.i ≤ length l.bytes) × (l.size ≤ l.i)
    × (length (spec.text_value l.bytes) ≡ l.size + length (spec.text_value (drop l.i l.bytes)))

abbrev pub decreases-loop-i : goal.decreases-loop-i
decreases-loop-i l = length l.bytes - l.i
