use Rattle.std.proofs.Common.{◌≡◌, drop}
use Rattle.lexer_spec.specs.Bytes.{number, number_from}
use Rattle.lexer.proofs.scanned.magnitude.Given as goal

abbrev pub invariant-loop-digit : goal.invariant-loop-digit
invariant-loop-digit l = number l.digits ≡ number_from l.number (drop l.digit-index l.digits)
