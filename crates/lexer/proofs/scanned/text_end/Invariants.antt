use Rattle.std.proofs.Common.{length, ◌≡◌, ◌+◌, ◌≤◌, drop, ◌-◌}
use Rattle.lexer_spec.specs.Bytes as spec
use Rattle.lexer.proofs.scanned.text_end.Given as goal

abbrev pub invariant-loop-i : goal.invariant-loop-i
invariant-loop-i l = (l.i ≤ length l.bytes) × (spec.text_from 1 l.bytes
    ≡ spec.text_from (l.i + 1) (drop l.i l.bytes))

abbrev pub decreases-loop-i : goal.decreases-loop-i
decreases-loop-i l = length l.bytes - l.i
