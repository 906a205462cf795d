use Rattle.std.proofs.Common.{◌≡◌, ◌≤◌, ◌++◌, List, map, codes}
use Rattle.prima_base.specs.declared.refusal.What.TheVariants.{Outputs}
use Rattle.cond_expr.specs.Trees.{Tree}
use Rattle.cond_expr.specs.Seen.{tree}
use Rattle.lexer_spec.specs.Lexemes.{is_sign}
use Rattle.lexer_combinators.specs.Reads.{ahead}
use Rattle.lexer_combinators.specs.Parsing.{more, prepend}
use Rattle.temporal_lang_grammar_spec.specs.QueryReader.{output}
use Rattle.temporal_lang.proofs.query_reader.more_outputs.Given as goal

abbrev pub invariant-loop-alloc : goal.invariant-loop-alloc
invariant-loop-alloc l = (l.left ≤ 31) × (read : List Tree)
    × (map tree l.list.items ≡ map tree l.fn.list.items ++ read) ×
    (more (is_sign (codes ",")) Outputs output 31 l.fn.c.nodes (ahead l.fn.c)
    ≡ prepend read (more (is_sign (codes ",")) Outputs output l.left l.c.nodes (ahead l.c)))

abbrev pub decreases-loop-alloc : goal.decreases-loop-alloc
decreases-loop-alloc l = l.left
