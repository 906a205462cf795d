use Rattle.std.proofs.Common.{◌≡◌, ℕ, ◌++◌, List, length}
use Rattle.lexer_combinators.specs.Reads.{ahead}
use Rattle.lexer_combinators.specs.Parsing.{prepend}
use Rattle.lexer_trees_spec.specs.Constants.{more_names}
use Rattle.lexer.proofs.constant_reader.more_names.Given as goal

abbrev pub invariant-loop-alloc : goal.invariant-loop-alloc
invariant-loop-alloc l = (read : List (List ℕ)) × (l.list.items ≡ l.fn.list.items ++ read)
    × (more_names l.fn.c.nodes (ahead l.fn.c) ≡ prepend read (more_names l.c.nodes (ahead l.c)))

abbrev pub decreases-loop-alloc : goal.decreases-loop-alloc
decreases-loop-alloc l = length l.c.rest.now
