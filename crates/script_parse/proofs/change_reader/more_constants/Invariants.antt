use Rattle.std.proofs.Common.{◌≡◌, ◌++◌, List}
use Rattle.prima_base.specs.declared.value.Value.{Value}
use Rattle.lexer_combinators.specs.Reads.{ahead}
use Rattle.lexer_combinators.specs.Parsing.{prepend}
use Rattle.script_parse.specs.StatementReader as spec
use Rattle.script_parse.proofs.change_reader.more_constants.Given as goal

abbrev pub invariant-loop-left : goal.invariant-loop-left
invariant-loop-left l = (read : List Value) × (l.list.items ≡ l.fn.list.items ++ read)
    × (spec.more_constants l.more l.fn.c.nodes (ahead l.fn.c)
    ≡ prepend read (spec.more_constants l.left l.c.nodes (ahead l.c)))

abbrev pub decreases-loop-left : goal.decreases-loop-left
decreases-loop-left l = l.left
