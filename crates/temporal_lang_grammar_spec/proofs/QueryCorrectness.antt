-- The reader of queries is good for their grammar.
use Rattle.std.proofs.Common.{◌≡◌, ℕ, false, List, [], ◌++◌, refl, codes}
use Rattle.lexer_spec.specs.Lexemes.{Lexeme, word, is_word, is_name}
use Rattle.lexer_combinators.specs.Parsing.{IsCorrectParser, Stops, bind, map_to}
use Rattle.lexer_combinators.specs.Grammar.{Size}
use Rattle.lexer_combinators.specs.Grammar as grammar
use Rattle.lexer_trees_spec.specs.Constants.{small, small_grammar}
use Rattle.lexer_combinators.proofs.Parsing.{correct_follow, bind_correct, lead_correct}
use Rattle.lexer_combinators.proofs.Parsing.{map_correct}
use Rattle.lexer_spec.proofs.LexemeTests.{word_is, word_exact}
use Rattle.lexer_combinators.proofs.Alternatives.{stops_never, or_left, or_right, stops_fewer}
use Rattle.lexer_trees_spec.proofs.Singles.{small_correct}
use Rattle.plain_answers_spec.specs.Branches.{PlainBranch}
use Rattle.temporal_lang_types.specs.Queries.{PlainQuery, a_query}
use Rattle.temporal_lang_grammar_spec.specs.QueryGrammar.{AreBranches, IsWhen, IsAsk, IsMoments}
use Rattle.temporal_lang_grammar_spec.specs.QueryGrammar.{IsFullAsk}
use Rattle.temporal_lang_grammar_spec.specs.QueryReader.{branches, when_part, ask, follow_branches}
use Rattle.temporal_lang_grammar_spec.specs.QueryReader.{follow_when}
use Rattle.temporal_lang_grammar_spec.specs.QueryReader.{follow_ask, moments, full_ask}
use Rattle.temporal_lang_grammar_spec.specs.QueryReader.{follow_moments, follow_full_ask}
use Rattle.temporal_lang_grammar_spec.proofs.BranchCorrectness.{ends, branches_correct}
use Rattle.temporal_lang_grammar_spec.proofs.WhenCorrectness.{when_correct, when_prefix}
use Rattle.temporal_lang_grammar_spec.proofs.WhenCorrectness.{moments_correct, moments_prefix}

-- what stops a query stops its parts
fewer_branches : (x : Lexeme) → follow_ask x ≡ false → follow_branches x ≡ false
fewer_branches x h = or_left (follow_branches x) (follow_when x) h

pub fewer_when : (x : Lexeme) → follow_ask x ≡ false → follow_when x ≡ false
fewer_when x h = or_right (follow_branches x) (follow_when x) h

-- branches end before these
as_ends : follow_branches (word (codes "AS")) ≡ false
unfolding is_name
as_ends = refl

during_ends : follow_branches (word (codes "DURING")) ≡ false
unfolding is_name
during_ends = refl

keep_ends : follow_branches (word (codes "KEEP")) ≡ false
unfolding is_name
keep_ends = refl

module _ (version : ℕ) where
  pub when_then_correct : (l : List PlainBranch)
      → IsCorrectParser 0 32 (map_to (λ w. a_query version l w.0 w.1) when_part)
      (grammar.map (λ w. a_query version l w.0 w.1) IsWhen) follow_ask
  when_then_correct l = map_correct 0 32 (λ w. a_query version l w.0 w.1) when_part IsWhen
      follow_ask (correct_follow 0 32 when_part IsWhen follow_when follow_ask fewer_when
      when_correct)

  pub after_branches : (l : List PlainBranch) (q : PlainQuery) (s : Size) (ts rest : List Lexeme)
      → grammar.map (λ w. a_query version l w.0 w.1) IsWhen q s ts → Stops follow_ask rest
      → Stops follow_branches (ts ++ rest)
  after_branches l q s ts rest h stops = when_prefix follow_branches as_ends during_ends keep_ends
      h.0 s ts rest h.2 (stops_fewer follow_branches follow_ask fewer_branches rest stops)

  pub branches_then_correct : IsCorrectParser 0 32
      (bind branches (λ l. map_to (λ w. a_query version l w.0 w.1) when_part))
      (grammar.seq AreBranches (λ l. grammar.map (λ w. a_query version l w.0 w.1) IsWhen))
      follow_ask
  branches_then_correct = bind_correct 0 32 branches _ AreBranches _ follow_branches follow_ask
      branches_correct when_then_correct after_branches

pub ask_correct : IsCorrectParser 0 32 ask IsAsk follow_ask
unfolding ask
ask_correct = lead_correct (is_word (codes "VERSION")) (word (codes "VERSION"))
    (word_is (codes "VERSION")) (word_exact (codes "VERSION")) 0 32 _ _ follow_ask
    (bind_correct 0 32 small _ small_grammar _ ends follow_ask (small_correct 0 32 ends)
    branches_then_correct (λ a b s ts rest h stops. stops_never (ts ++ rest)))

-- ---- queries that keep each entry

fewer_full_branches : (x : Lexeme) → follow_full_ask x ≡ false → follow_branches x ≡ false
fewer_full_branches x h = or_left (follow_branches x) (follow_moments x) h

pub fewer_full_moments : (x : Lexeme) → follow_full_ask x ≡ false → follow_moments x ≡ false
fewer_full_moments x h = or_right (follow_branches x) (follow_moments x) h

module _ (version : ℕ) where
  moments_then_correct : (l : List PlainBranch)
      → IsCorrectParser 0 32 (map_to (λ w. a_query version l w []) moments)
      (grammar.map (λ w. a_query version l w []) IsMoments) follow_full_ask
  moments_then_correct l = map_correct 0 32 (λ w. a_query version l w []) moments IsMoments
      follow_full_ask (correct_follow 0 32 moments IsMoments follow_moments follow_full_ask
      fewer_full_moments moments_correct)

  pub after_full_branches : (l : List PlainBranch) (q : PlainQuery) (s : Size)
      (ts rest : List Lexeme) → grammar.map (λ w. a_query version l w []) IsMoments q s ts
      → Stops follow_full_ask rest → Stops follow_branches (ts ++ rest)
  after_full_branches l q s ts rest h stops = moments_prefix follow_branches as_ends during_ends
      h.0 s ts rest h.2 (stops_fewer follow_branches follow_full_ask fewer_full_branches rest
      stops)

  full_branches_correct : IsCorrectParser 0 32
      (bind branches (λ l. map_to (λ w. a_query version l w []) moments))
      (grammar.seq AreBranches (λ l. grammar.map (λ w. a_query version l w []) IsMoments))
      follow_full_ask
  full_branches_correct = bind_correct 0 32 branches _ AreBranches _ follow_branches
      follow_full_ask branches_correct moments_then_correct after_full_branches

pub full_ask_correct : IsCorrectParser 0 32 full_ask IsFullAsk follow_full_ask
unfolding full_ask
full_ask_correct = lead_correct (is_word (codes "VERSION")) (word (codes "VERSION"))
    (word_is (codes "VERSION")) (word_exact (codes "VERSION")) 0 32 _ _ follow_full_ask
    (bind_correct 0 32 small _ small_grammar _ ends follow_full_ask (small_correct 0 32 ends)
    full_branches_correct (λ a b s ts rest h stops. stops_never (ts ++ rest)))
