use Rattle.std.proofs.Common.{◌≡◌, ◌++◌, List, length, codes}
use Rattle.smo_ops_types.specs.Changes.{PlainChange, changes_of}
use Rattle.lexer_spec.specs.Lexemes.{is_word}
use Rattle.lexer_combinators.specs.Reads.{ahead}
use Rattle.lexer_combinators.specs.Parsing.{many, prepend}
use Rattle.script_parse.specs.StatementReader.{change}
use Rattle.script_parse.proofs.change_reader.more_changes.Given as goal

abbrev pub invariant-loop-alloc : goal.invariant-loop-alloc
invariant-loop-alloc l = (read : List PlainChange)
    × (changes_of l.list.items ≡ changes_of l.fn.list.items ++ read)
    × (many (is_word (codes "THEN")) change l.fn.c.nodes (ahead l.fn.c)
    ≡ prepend read (many (is_word (codes "THEN")) change l.c.nodes (ahead l.c)))

abbrev pub decreases-loop-alloc : goal.decreases-loop-alloc
decreases-loop-alloc l = length l.c.rest.now
