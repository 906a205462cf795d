use Rattle.std.proofs.Common.{◌≡◌, ◌+◌, ◌++◌, List, length, Option}
use Rattle.lexer_spec.specs.declared.token.Token.{Token}
use Rattle.lexer_spec.specs.declared.fault.LexFault.{LexFault}
use Rattle.lexer_spec.specs.Lexed.{Lexes}
use Rattle.lexer.proofs.token_list.tokens.Given as goal

abbrev pub invariant-loop-out : goal.invariant-loop-out
invariant-loop-out l = (l.at + length l.rest ≡ length l.fn.text)
    × ((ts : List Token) (e : Option LexFault) → Lexes l.at l.rest ts e
    → Lexes 0 l.fn.text (l.out.items ++ ts) e)

abbrev pub decreases-loop-out : goal.decreases-loop-out
decreases-loop-out l = length l.rest
