use Rattle.std.proofs.Common.{◌≡◌, ◌++◌, List, length, codes}
use Rattle.std.proofs.Common.{ℕ}
use Rattle.cond_expr.specs.Trees.{Tree}
use Rattle.smo_ops_types.specs.Changes.{sets_of}
use Rattle.lexer_spec.specs.Lexemes.{is_sign}
use Rattle.lexer_combinators.specs.Reads.{ahead}
use Rattle.lexer_combinators.specs.Parsing.{many, prepend}
use Rattle.script_parse.specs.StatementReader.{setting}
use Rattle.script_parse.proofs.change_reader.more_settings.Given as goal

abbrev pub invariant-loop-alloc : goal.invariant-loop-alloc
invariant-loop-alloc l = (read : List (List ℕ × Tree))
    × (sets_of l.list.items ≡ sets_of l.fn.list.items ++ read)
    × (many (is_sign (codes ",")) setting l.fn.c.nodes (ahead l.fn.c)
    ≡ prepend read (many (is_sign (codes ",")) setting l.c.nodes (ahead l.c)))

abbrev pub decreases-loop-alloc : goal.decreases-loop-alloc
decreases-loop-alloc l = length l.c.rest.now
