use Rattle.std.proofs.Common.{◌≡◌, ◌++◌, List, length, codes}
use Rattle.prima_base.specs.Columns.{Column}
use Rattle.lexer_spec.specs.Lexemes.{is_sign}
use Rattle.lexer_combinators.specs.Reads.{ahead}
use Rattle.lexer_combinators.specs.Parsing.{many, prepend}
use Rattle.smo_parse.specs.OperatorReader.{column}
use Rattle.smo_parse.proofs.operator_reader.more_columns.Given as goal

abbrev pub invariant-loop-alloc : goal.invariant-loop-alloc
invariant-loop-alloc l = (read : List Column) × (l.list.items ≡ l.fn.list.items ++ read)
    × (many (is_sign (codes ",")) column l.fn.c.nodes (ahead l.fn.c)
    ≡ prepend read (many (is_sign (codes ",")) column l.c.nodes (ahead l.c)))

abbrev pub decreases-loop-alloc : goal.decreases-loop-alloc
decreases-loop-alloc l = length l.c.rest.now
