use Rattle.std.proofs.Common.{◌≡◌, ◌≤◌, ◌++◌, List, codes}
use Rattle.prima_base.specs.declared.refusal.What.TheVariants.{Keeps}
use Rattle.prima_base.specs.declared.keep.Keep.{Keep}
use Rattle.lexer_spec.specs.Lexemes.{is_word}
use Rattle.lexer_combinators.specs.Reads.{ahead}
use Rattle.lexer_combinators.specs.Parsing.{more, prepend}
use Rattle.temporal_lang_grammar_spec.specs.QueryReader.{keep}
use Rattle.temporal_lang.proofs.when_reader.more_keeps.Given as goal

abbrev pub invariant-loop-left : goal.invariant-loop-left
invariant-loop-left l = (l.left ≤ 7) × (read : List Keep) × (l.list.items ≡ l.fn.list.items ++ read)
    ×
    (more (is_word (codes "AND")) Keeps keep 7 l.fn.c.nodes (ahead l.fn.c)
    ≡ prepend read (more (is_word (codes "AND")) Keeps keep l.left l.c.nodes (ahead l.c)))

abbrev pub decreases-loop-left : goal.decreases-loop-left
decreases-loop-left l = l.left
