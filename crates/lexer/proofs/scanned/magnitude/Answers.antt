use Rattle.std.proofs.Common.{arith}
use Rattle.lexer.proofs.Digits.{too_large}
use Rattle.lexer.proofs.scanned.magnitude.Goals as goal

pub returns-in-None : goal.returns-in-None
returns-in-None c = omega (
  arith,
  too_large c.args.digits.now c.loop-digit.digit-index
      c.loop-digit.number 18446744073709551616 c.loop-digit-test.true c.in-None.ensures,
)
