-- What may stand after a statement's other parts: WHERE and a condition. What is missing is TRUE.
use Rattle.std.specs.Prelude.{Bool, ◌||◌, codes}
use Rattle.cond_expr.specs.Trees.{Test, always}
use Rattle.lexer_spec.specs.Lexemes.{Lexeme, word, is_word}
use Rattle.lexer_combinators.specs.Parsing.{Parser, Takes, option, fresh}
use Rattle.lexer_combinators.specs.Grammar.{Grammar}
use Rattle.lexer_combinators.specs.Grammar as grammar
use Rattle.lexer_combinators.specs.ListOverflows.{Overflow, option_overflow, fresh_overflow}
use Rattle.lexer_trees_spec.specs.Grammar.{IsCond}
use Rattle.lexer_trees_spec.specs.Reader.{outermost, follow_cond}
use Rattle.lexer_trees_spec.specs.TreeCounts.{cond_counts}

-- [ WHERE cond ]
abbrev pub where_grammar : Grammar Test → Grammar Test
where_grammar G = grammar.option always (word (codes "WHERE")) G

-- its counts go on from those before it
abbrev pub IsWhere : Bool → Grammar Test
IsWhere q = where_grammar (IsCond q)

-- its counts begin anew
abbrev pub IsFreshWhere : Bool → Grammar Test
IsFreshWhere q = where_grammar (grammar.fresh (IsCond q))

-- ---- reading

abbrev pub where_by : Parser Test → Parser Test
where_by condition = option (is_word (codes "WHERE")) (Takes condition) always

unfoldable pub outer_where : Bool → Parser Test
outer_where q = where_by (outermost q).cond

unfoldable pub fresh_where : Bool → Parser Test
fresh_where q = where_by (fresh (outermost q).cond)

-- what either goes on with
abbrev pub follow_where : Bool → Lexeme → Bool
follow_where q x = is_word (codes "WHERE") x || follow_cond q x

-- ---- at which of its tokens a count passes its limit

abbrev pub where_overflows : (q : Bool) → Overflow (IsFreshWhere q)
where_overflows q = option_overflow always (word (codes "WHERE")) (grammar.fresh (IsCond q))
    (fresh_overflow (IsCond q) (cond_counts q))
