-- The readers of PAIRS and of AGGREGATE are good for their grammars, and go along the tokens at
-- which their counts pass limits.
use Rattle.std.proofs.Common.{◌≡◌, ℕ, Bool, false, List, ◌++◌, refl, sym, subst, codes}
use Rattle.lexer_spec.specs.Lexemes.{Lexeme, word, sign, is_word, is_sign, is_name}
use Rattle.lexer_combinators.specs.Grammar.{Grammar, Size}
use Rattle.lexer_combinators.specs.Grammar as grammar
use Rattle.lexer_combinators.specs.Parsing.{Parser, IsCorrectParser, Stops, bind, lead, pure}
use Rattle.lexer_combinators.specs.Parsing.{map_to}
use Rattle.lexer_combinators.specs.ListOverflows.{Overflow, none_overflow, lead_overflow}
use Rattle.lexer_combinators.specs.ListOverflows.{map_overflow, bind_overflow}
use Rattle.lexer_trees_spec.specs.Constants.{as_small, small, small_grammar}
use Rattle.lexer_spec.proofs.LexemeTests.{word_is, word_exact, sign_is, sign_exact}
use Rattle.lexer_trees_spec.proofs.Singles.{small_correct}
use Rattle.lexer_combinators.proofs.Parsing.{bind_correct, bind_lead, lead_correct, map_correct}
use Rattle.lexer_combinators.proofs.Parsing.{pure_correct}
use Rattle.lexer_combinators.proofs.Alternatives.{stops_never}
use Rattle.lexer_combinators.proofs.AlongParts.{GoesAlong, lead_follow, map_follow, bind_follow}
use Rattle.lexer_combinators.proofs.AlongParts.{pure_light, single_light, lead_light, light_follow}
use Rattle.temporal_lang_types.specs.declared.relation.Relation.{Relation}
use Rattle.temporal_lang_types.specs.declared.agg_item.AggItem.{AggItem}
use Rattle.temporal_lang_types.specs.Queries.{PlainQuery}
use Rattle.temporal_lang_grammar_spec.specs.QueryGrammar.{IsAsk, IsFullAsk}
use Rattle.temporal_lang_grammar_spec.specs.QueryReader as query
use Rattle.temporal_lang_grammar_spec.specs.QueryOverflows.{ask_overflows, full_ask_overflows}
use Rattle.temporal_lang_grammar_spec.specs.AggregateGrammar.{IsRelation, AreAggs}
use Rattle.temporal_lang_grammar_spec.specs.AggregateReader.{relation, aggs}
use Rattle.temporal_lang_grammar_spec.proofs.QueryCorrectness.{ask_correct, full_ask_correct}
use Rattle.temporal_lang_grammar_spec.proofs.QueryAlong.{ask_along, full_ask_along}
use Rattle.temporal_lang_grammar_spec.proofs.AggregateCorrectness.{relation_correct, relation_light}
use Rattle.temporal_lang_grammar_spec.proofs.AggregateCorrectness.{aggs_correct, aggs_light}
use Rattle.script_parse.specs.Statements.{PlainStatement, pairs, aggregate}
use Rattle.script_parse.specs.Productions.{IsInBrackets}
use Rattle.script_parse.specs.StatementReader.{in_brackets, pairs_rest, aggregate_rest}
use Rattle.script_parse.specs.StatementOverflows.{bracket_overflows}
use Rattle.script_parse.proofs.ChangeCorrectness.{ends}

-- ---- a query in brackets

module _ (p : Parser PlainQuery) (G : Grammar PlainQuery) (follow : Lexeme → Bool)
    (apart : follow (sign (codes ")")) ≡ false) (goes : Lexeme → Bool) where
  close_correct : (q : PlainQuery) → IsCorrectParser 0 32 (lead (is_sign (codes ")")) (pure q))
      (grammar.lead (sign (codes ")")) (grammar.pure q)) goes
  close_correct q = lead_correct (is_sign (codes ")")) (sign (codes ")")) (sign_is (codes ")"))
      (sign_exact (codes ")")) 0 32 (pure q) (grammar.pure q) goes (pure_correct 0 32 q goes)

  brackets_correct : IsCorrectParser 0 32 p G follow
      → IsCorrectParser 0 32 (in_brackets p) (IsInBrackets G) goes
  unfolding in_brackets
  brackets_correct correct = lead_correct (is_sign (codes "(")) (sign (codes "("))
      (sign_is (codes "(")) (sign_exact (codes "(")) 0 32 _ _ goes
      (bind_lead 0 32 p _ G (sign (codes ")")) (λ q. grammar.pure q) follow goes apart correct
      close_correct)

  brackets_along : (ps : Overflow G) → GoesAlong p G follow ps
      → GoesAlong (in_brackets p) (IsInBrackets G) goes (bracket_overflows G ps)
  unfolding in_brackets
  brackets_along ps along = lead_follow (is_sign (codes "(")) (sign (codes "("))
      (sign_is (codes "(")) _ _ goes _
      (bind_follow p (λ q. lead (is_sign (codes ")")) (pure q)) G
      (λ q. grammar.lead (sign (codes ")")) (grammar.pure q)) follow goes ps _ along
      (λ q. light_follow (lead (is_sign (codes ")")) (pure q))
      (grammar.lead (sign (codes ")")) (grammar.pure q)) goes (close_correct q)
      (lead_light _ _ (pure_light q)))
      (λ q b s ts rest h stops. let P : List Lexeme → Type 0 = λ l. Stops follow (l ++ rest) in
      subst P (sym h.1) apart))

-- no query goes on with a bracket
ask_ends : query.follow_ask (sign (codes ")")) ≡ false
unfolding is_name
ask_ends = refl

full_ask_ends : query.follow_full_ask (sign (codes ")")) ≡ false
unfolding is_name
full_ask_ends = refl

-- ---- PAIRS

abbrev pub PairsRest : Grammar PlainStatement
PairsRest = grammar.seq (IsInBrackets IsAsk) (λ left. grammar.seq IsRelation
    (λ relation. grammar.map (λ right. pairs left relation right) (IsInBrackets IsAsk)))

abbrev RelatedRest : PlainQuery → Grammar PlainStatement
RelatedRest left = grammar.seq IsRelation
    (λ relation. grammar.map (λ right. pairs left relation right) (IsInBrackets IsAsk))

module _ (goes : Lexeme → Bool) where
  related_correct : (left : PlainQuery) → IsCorrectParser 0 32
      (bind relation (λ r. map_to (λ right. pairs left r right) (in_brackets query.ask)))
      (RelatedRest left) goes
  related_correct left = bind_correct 0 32 relation _ IsRelation _ ends goes
      (relation_correct ends)
      (λ r. map_correct 0 32 (λ right. pairs left r right) (in_brackets query.ask)
      (IsInBrackets IsAsk) goes (brackets_correct query.ask IsAsk query.follow_ask ask_ends goes
      ask_correct)) (λ a b s ts rest h stops. stops_never (ts ++ rest))

  pub pairs_correct : IsCorrectParser 0 32 pairs_rest PairsRest goes
  unfolding pairs_rest
  pairs_correct = bind_correct 0 32 (in_brackets query.ask) _ (IsInBrackets IsAsk) _ ends goes
      (brackets_correct query.ask IsAsk query.follow_ask ask_ends ends ask_correct)
      related_correct (λ a b s ts rest h stops. stops_never (ts ++ rest))

  abbrev right_overflows : (left : PlainQuery) (r : Relation)
      → Overflow (grammar.map (λ right. pairs left r right) (IsInBrackets IsAsk))
  right_overflows left r = map_overflow (λ right. pairs left r right) (IsInBrackets IsAsk)
      (bracket_overflows IsAsk ask_overflows)

  related_along : (left : PlainQuery) → GoesAlong
      (bind relation (λ r. map_to (λ right. pairs left r right) (in_brackets query.ask)))
      (RelatedRest left) goes
      (bind_overflow IsRelation
      (λ r. grammar.map (λ right. pairs left r right) (IsInBrackets IsAsk))
      (none_overflow IsRelation) (right_overflows left))
  related_along left = bind_follow relation
      (λ r. map_to (λ right. pairs left r right) (in_brackets query.ask)) IsRelation
      (λ r. grammar.map (λ right. pairs left r right) (IsInBrackets IsAsk)) ends goes
      (none_overflow IsRelation) (right_overflows left)
      (light_follow relation IsRelation ends (relation_correct ends) relation_light)
      (λ r. map_follow (λ right. pairs left r right) (in_brackets query.ask) (IsInBrackets IsAsk)
      goes (bracket_overflows IsAsk ask_overflows)
      (brackets_along query.ask IsAsk query.follow_ask ask_ends goes ask_overflows ask_along))
      (λ a b s ts rest h stops. stops_never (ts ++ rest))

abbrev pub pairs_rest_overflows : Overflow PairsRest
pairs_rest_overflows = bind_overflow (IsInBrackets IsAsk) (λ left. grammar.seq IsRelation
    (λ relation. grammar.map (λ right. pairs left relation right) (IsInBrackets IsAsk)))
    (bracket_overflows IsAsk ask_overflows)
    (λ left. bind_overflow IsRelation
    (λ relation. grammar.map (λ right. pairs left relation right) (IsInBrackets IsAsk))
    (none_overflow IsRelation)
    (λ relation. map_overflow (λ right. pairs left relation right) (IsInBrackets IsAsk)
    (bracket_overflows IsAsk ask_overflows)))

pub pairs_along : (goes : Lexeme → Bool) → GoesAlong pairs_rest PairsRest goes pairs_rest_overflows
unfolding pairs_rest
pairs_along goes = bind_follow (in_brackets query.ask)
    (λ left. bind relation (λ r. map_to (λ right. pairs left r right) (in_brackets query.ask)))
    (IsInBrackets IsAsk) RelatedRest ends goes (bracket_overflows IsAsk ask_overflows) _
    (brackets_along query.ask IsAsk query.follow_ask ask_ends ends ask_overflows ask_along)
    (related_along goes) (λ a b s ts rest h stops. stops_never (ts ++ rest))

-- ---- AGGREGATE

abbrev GroupRest : List AggItem → Grammar PlainStatement
GroupRest items = grammar.seq small_grammar
    (λ group. grammar.map (λ q. aggregate items group q) (IsInBrackets IsFullAsk))

abbrev pub AggregateRest : Grammar PlainStatement
AggregateRest = grammar.seq AreAggs (λ items. grammar.lead (word (codes "BY"))
    (grammar.seq small_grammar
    (λ group. grammar.map (λ q. aggregate items group q) (IsInBrackets IsFullAsk))))

abbrev group_overflows : (items : List AggItem) → Overflow (GroupRest items)
group_overflows items = bind_overflow small_grammar
    (λ group. grammar.map (λ q. aggregate items group q) (IsInBrackets IsFullAsk))
    (none_overflow small_grammar)
    (λ group. map_overflow (λ q. aggregate items group q) (IsInBrackets IsFullAsk)
    (bracket_overflows IsFullAsk full_ask_overflows))

abbrev pub aggregate_rest_overflows : Overflow AggregateRest
aggregate_rest_overflows = bind_overflow AreAggs (λ items. grammar.lead (word (codes "BY"))
    (grammar.seq small_grammar
    (λ group. grammar.map (λ q. aggregate items group q) (IsInBrackets IsFullAsk))))
    (none_overflow AreAggs)
    (λ items. lead_overflow (word (codes "BY")) _ (group_overflows items))

module _ (goes : Lexeme → Bool) where
  group_correct : (items : List AggItem) → IsCorrectParser 0 32
      (bind small (λ group. map_to (λ q. aggregate items group q) (in_brackets query.full_ask)))
      (GroupRest items) goes
  group_correct items = bind_correct 0 32 small _ small_grammar _ ends goes
      (small_correct 0 32 ends)
      (λ group. map_correct 0 32 (λ q. aggregate items group q) (in_brackets query.full_ask)
      (IsInBrackets IsFullAsk) goes (brackets_correct query.full_ask IsFullAsk
      query.follow_full_ask full_ask_ends goes full_ask_correct))
      (λ a b s ts rest h stops. stops_never (ts ++ rest))

  by_correct : (items : List AggItem) → IsCorrectParser 0 32
      (lead (is_word (codes "BY"))
      (bind small (λ group. map_to (λ q. aggregate items group q) (in_brackets query.full_ask))))
      (grammar.lead (word (codes "BY")) (GroupRest items)) goes
  by_correct items = lead_correct (is_word (codes "BY")) (word (codes "BY"))
      (word_is (codes "BY")) (word_exact (codes "BY")) 0 32 _ (GroupRest items) goes
      (group_correct items)

  pub aggregate_correct : IsCorrectParser 0 32 aggregate_rest AggregateRest goes
  unfolding aggregate_rest
  aggregate_correct = bind_lead 0 32 aggs _ AreAggs (word (codes "BY")) GroupRest
      (is_sign (codes ",")) goes refl aggs_correct by_correct

  group_along : (items : List AggItem) → GoesAlong
      (bind small (λ group. map_to (λ q. aggregate items group q) (in_brackets query.full_ask)))
      (GroupRest items) goes (group_overflows items)
  group_along items = bind_follow small
      (λ group. map_to (λ q. aggregate items group q) (in_brackets query.full_ask)) small_grammar
      (λ group. grammar.map (λ q. aggregate items group q) (IsInBrackets IsFullAsk)) ends goes
      (none_overflow small_grammar) _
      (light_follow small small_grammar ends (small_correct 0 32 ends) (single_light as_small))
      (λ group. map_follow (λ q. aggregate items group q) (in_brackets query.full_ask)
      (IsInBrackets IsFullAsk) goes (bracket_overflows IsFullAsk full_ask_overflows)
      (brackets_along query.full_ask IsFullAsk query.follow_full_ask full_ask_ends goes
      full_ask_overflows full_ask_along))
      (λ a b s ts rest h stops. stops_never (ts ++ rest))

  pub aggregate_along : GoesAlong aggregate_rest AggregateRest goes aggregate_rest_overflows
  unfolding aggregate_rest
  aggregate_along = bind_follow aggs
      (λ items. lead (is_word (codes "BY"))
      (bind small (λ group. map_to (λ q. aggregate items group q) (in_brackets query.full_ask))))
      AreAggs (λ items. grammar.lead (word (codes "BY")) (GroupRest items)) (is_sign (codes ","))
      goes (none_overflow AreAggs) _
      (light_follow aggs AreAggs (is_sign (codes ",")) aggs_correct aggs_light)
      (λ items. lead_follow (is_word (codes "BY")) (word (codes "BY")) (word_is (codes "BY")) _
      (GroupRest items) goes (group_overflows items) (group_along items))
      (λ items b s ts rest h stops. let P : List Lexeme
      → Type 0 = λ l. Stops (is_sign (codes ",")) (l ++ rest) in subst P (sym h.1) refl)
