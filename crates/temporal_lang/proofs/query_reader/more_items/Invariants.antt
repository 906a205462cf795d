use Rattle.std.proofs.Common.{◌≡◌, ◌≤◌, ◌++◌, List, codes}
use Rattle.prima_base.specs.declared.refusal.What.TheVariants.{Tables}
use Rattle.plain_answers_spec.specs.Branches.{Item}
use Rattle.lexer_spec.specs.Lexemes.{is_sign}
use Rattle.lexer_combinators.specs.Reads.{ahead}
use Rattle.lexer_combinators.specs.Parsing.{more, prepend}
use Rattle.temporal_lang_grammar_spec.specs.QueryReader.{item}
use Rattle.temporal_lang.proofs.query_reader.more_items.Given as goal

abbrev pub invariant-loop-alloc : goal.invariant-loop-alloc
invariant-loop-alloc l = (l.left ≤ 7) × (read : List Item)
    × (l.list.items ≡ l.fn.list.items ++ read) ×
    (more (is_sign (codes ",")) Tables item 7 l.fn.c.nodes (ahead l.fn.c)
    ≡ prepend read (more (is_sign (codes ",")) Tables item l.left l.c.nodes (ahead l.c)))

abbrev pub decreases-loop-alloc : goal.decreases-loop-alloc
decreases-loop-alloc l = l.left
