use Rattle.std.proofs.Common.{◌≡◌, ◌≤◌, ◌++◌, List, codes}
use Rattle.prima_base.specs.declared.refusal.What.TheVariants.{Inverse}
use Rattle.smo_ops_types.specs.Operators.{Operator, operators_of}
use Rattle.lexer_spec.specs.Lexemes.{is_word}
use Rattle.lexer_combinators.specs.Reads.{ahead}
use Rattle.lexer_combinators.specs.Parsing.{more, prepend}
use Rattle.script_parse.specs.StatementReader.{op}
use Rattle.script_parse.proofs.inverse_reader.more_ops.Given as goal

abbrev pub invariant-loop-alloc : goal.invariant-loop-alloc
invariant-loop-alloc l = (l.left ≤ 7) × (read : List Operator)
    × (operators_of l.list.items ≡ operators_of l.fn.list.items ++ read) ×
    (more (is_word (codes "THEN")) Inverse op 7 l.fn.c.nodes (ahead l.fn.c)
    ≡ prepend read (more (is_word (codes "THEN")) Inverse op l.left l.c.nodes (ahead l.c)))

abbrev pub decreases-loop-alloc : goal.decreases-loop-alloc
decreases-loop-alloc l = l.left
