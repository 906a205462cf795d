-- The readers of a WHERE are good for its grammar, and go along what is counted in it.
use Rattle.std.proofs.Common.{◌≡◌, Bool, false, ◌||◌, ap, codes}
use Rattle.cond_expr.specs.Trees.{always}
use Rattle.lexer_spec.specs.Lexemes.{Lexeme, word, is_word}
use Rattle.lexer_combinators.specs.Parsing.{IsCorrectParser, fresh}
use Rattle.lexer_combinators.specs.Grammar as grammar
use Rattle.lexer_combinators.specs.ListOverflows.{fresh_overflow}
use Rattle.lexer_trees_spec.specs.Grammar.{IsCond}
use Rattle.lexer_trees_spec.specs.Reader.{outermost, follow_cond}
use Rattle.lexer_trees_spec.specs.TreeCounts.{cond_counts}
use Rattle.lexer_trees_spec.specs.Where.{IsWhere, IsFreshWhere, outer_where, fresh_where}
use Rattle.lexer_trees_spec.specs.Where.{follow_where}
use Rattle.lexer_trees_spec.specs.Where.{where_overflows}
use Rattle.lexer_spec.proofs.LexemeTests.{word_exact, word_is}
use Rattle.lexer_combinators.proofs.Parsing.{correct_follow, option_takes_correct}
use Rattle.lexer_combinators.proofs.Alternatives.{or_left, or_right}
use Rattle.lexer_combinators.proofs.AlongParts.{GoesAlong, stops_along, option_follow}
use Rattle.lexer_combinators.proofs.AlongParts.{fresh_follow}
use Rattle.lexer_trees_spec.proofs.Correctness.{outermost_correct, fresh_cond_correct}
use Rattle.lexer_trees_spec.proofs.CountSizes.{cond_length}
use Rattle.lexer_trees_spec.proofs.CountsJoined.{cond_counted}

-- what stops a WHERE stops its condition
stops_cond : (q : Bool) (x : Lexeme) → follow_where q x ≡ false → follow_cond q x ≡ false
stops_cond q x h = or_right (is_word (codes "WHERE") x) (follow_cond q x) h

pub outer_where_correct : (q : Bool) → IsCorrectParser 0 32 (outer_where q) (IsWhere q)
    (follow_where q)
unfolding outer_where
outer_where_correct q = option_takes_correct (is_word (codes "WHERE")) (word (codes "WHERE"))
    (word_is (codes "WHERE")) (word_exact (codes "WHERE")) 0 32 (outermost q).cond always (IsCond q)
    (follow_where q)
    (λ x e. ap (λ b. b || follow_cond q x) e)
    (correct_follow 0 32 (outermost q).cond (IsCond q) (follow_cond q) (follow_where q)
    (stops_cond q) (outermost_correct q).cond)

pub fresh_where_correct : (q : Bool) → IsCorrectParser 0 32 (fresh_where q) (IsFreshWhere q)
    (follow_where q)
unfolding fresh_where
fresh_where_correct q = option_takes_correct (is_word (codes "WHERE")) (word (codes "WHERE"))
    (word_is (codes "WHERE")) (word_exact (codes "WHERE")) 0 32 (fresh (outermost q).cond) always
    (grammar.fresh (IsCond q)) (follow_where q)
    (λ x e. ap (λ b. b || follow_cond q x) e)
    (correct_follow 0 32 (fresh (outermost q).cond) (grammar.fresh (IsCond q)) (follow_cond q)
    (follow_where q) (stops_cond q) (fresh_cond_correct q 0))

pub fresh_where_along : (q : Bool) → GoesAlong (fresh_where q) (IsFreshWhere q) (follow_where q)
    (where_overflows q)
unfolding fresh_where
fresh_where_along q = option_follow (is_word (codes "WHERE")) (word (codes "WHERE"))
    (word_is (codes "WHERE")) (fresh (outermost q).cond) always (grammar.fresh (IsCond q))
    (follow_where q)
    (λ x h. or_left (is_word (codes "WHERE") x) (follow_cond q x) h)
    (fresh_overflow (IsCond q) (cond_counts q))
    (stops_along (fresh (outermost q).cond) (grammar.fresh (IsCond q)) (follow_cond q)
    (follow_where q) (fresh_overflow (IsCond q) (cond_counts q)) (stops_cond q)
    (fresh_follow (outermost q).cond (IsCond q) (follow_cond q) (outermost_correct q).cond
    (cond_counts q) (cond_length q) (cond_counted q)))
