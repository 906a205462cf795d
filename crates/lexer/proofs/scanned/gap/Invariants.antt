use Rattle.std.proofs.Common.{length, ◌≡◌, ◌≤◌, drop, false, ◌-◌}
use Rattle.lexer_spec.specs.Bytes as spec
use Rattle.lexer.proofs.scanned.gap.Given as goal

abbrev pub invariant-loop-i : goal.invariant-loop-i
invariant-loop-i l = (l.i ≤ length l.bytes) × (spec.gap_len false 0 l.bytes
    ≡ spec.gap_len l.comment l.i (drop l.i l.bytes))

abbrev pub decreases-loop-i : goal.decreases-loop-i
decreases-loop-i l = length l.bytes - l.i
