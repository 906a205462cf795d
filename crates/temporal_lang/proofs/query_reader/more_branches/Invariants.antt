use Rattle.std.proofs.Common.{◌≡◌, ◌≤◌, ◌++◌, List, codes}
use Rattle.prima_base.specs.declared.refusal.What.TheVariants.{Branches}
use Rattle.plain_answers_spec.specs.Branches.{PlainBranch}
use Rattle.temporal_lang_types.specs.Branches.{branches_of}
use Rattle.lexer_spec.specs.Lexemes.{is_word}
use Rattle.lexer_combinators.specs.Reads.{ahead}
use Rattle.lexer_combinators.specs.Parsing.{more, prepend}
use Rattle.temporal_lang_grammar_spec.specs.QueryReader.{branch}
use Rattle.temporal_lang.proofs.query_reader.more_branches.Given as goal

abbrev pub invariant-loop-alloc : goal.invariant-loop-alloc
invariant-loop-alloc l = (l.left ≤ 15) × (read : List PlainBranch)
    × (branches_of l.list.items ≡ branches_of l.fn.list.items ++ read) ×
    (more (is_word (codes "UNION")) Branches branch 15 l.fn.c.nodes (ahead l.fn.c)
    ≡ prepend read (more (is_word (codes "UNION")) Branches branch l.left l.c.nodes
    (ahead l.c)))

abbrev pub decreases-loop-alloc : goal.decreases-loop-alloc
decreases-loop-alloc l = l.left
