-- The readers of statements are good for their grammars.
use Rattle.std.proofs.Common.{◌≡◌, ℕ, Bool, false, cond, ◌||◌, List, [], ◌∷◌, ◌++◌, inl, inr, refl}
use Rattle.std.proofs.Common.{sym, ap, ◌∙◌, subst, codes}
use Rattle.prima_base.specs.declared.refusal.What.TheVariants.{Inverse}
use Rattle.smo_ops_types.specs.Operators.{Operator}
use Rattle.smo_ops_types.specs.Commands.{PlainBody, changing}
use Rattle.lexer_spec.specs.Lexemes.{Lexeme, word, is_word}
use Rattle.lexer_combinators.specs.Grammar.{Grammar}
use Rattle.lexer_combinators.specs.Parsing.{IsCorrectParser, Stops, Arm, No, Takes}
use Rattle.lexer_combinators.specs.Parsing.{Whole}
use Rattle.lexer_combinators.specs.Parsing.{pure}
use Rattle.lexer_combinators.specs.Parsing.{map_to, more}
use Rattle.lexer_combinators.specs.Grammar.{Size, AreMore, so_wide}
use Rattle.lexer_combinators.specs.Grammar as grammar
use Rattle.lexer_trees_spec.specs.Constants.{moment, moment_grammar, small, small_grammar}
use Rattle.lexer_combinators.proofs.Parsing.{correct_iff, correct_follow, bind_correct}
use Rattle.lexer_combinators.proofs.Parsing.{map_correct, lead_correct, pure_correct}
use Rattle.lexer_combinators.proofs.Parsing.{choose_correct, option_takes_correct, whole_correct}
use Rattle.lexer_combinators.proofs.Parsing.{more_correct, bind_more, ArmCorrect}
use Rattle.lexer_spec.proofs.LexemeTests.{word_is, word_exact}
use Rattle.lexer_trees_spec.proofs.Singles.{moment_correct, small_correct}
use Rattle.lexer_combinators.proofs.Fresh.{fresh_correct}
use Rattle.lexer_combinators.proofs.Alternatives.{or_left, or_right, stops_fewer, NotNone, NotFirst}
use Rattle.lexer_combinators.proofs.Alternatives.{lead_not_none, lead_not_first, either_not_none}
use Rattle.lexer_combinators.proofs.Alternatives.{either_not_first, list_not_none, list_not_first}
use Rattle.lexer_combinators.proofs.Alternatives.{last_arm, first_arm}
use Rattle.smo_parse.specs.Productions.{IsOperator}
use Rattle.smo_parse.specs.OperatorReader.{operator, follow_operator}
use Rattle.smo_parse.proofs.OperatorCorrectness.{operator_correct}
use Rattle.temporal_lang_grammar_spec.specs.QueryGrammar.{IsAsk}
use Rattle.temporal_lang_grammar_spec.specs.QueryReader as query
use Rattle.temporal_lang_grammar_spec.proofs.QueryCorrectness.{ask_correct}
use Rattle.script_parse.specs.Statements.{evolving_by, PlainStatement, write, ask, explain}
use Rattle.script_parse.specs.Statements.{show_versions}
use Rattle.script_parse.specs.Statements.{show_schema, show_sizes, show_cursors, checkpoint}
use Rattle.script_parse.specs.Productions.{IsChange, IsOp, AreOps, IsInverse, IsEvolve, AreChanges}
use Rattle.script_parse.specs.Productions.{IsBody, IsWrite, IsQuery, IsExplain, IsCheckpoint}
use Rattle.script_parse.specs.Productions.{IsListOfChanges, IsStatement}
use Rattle.script_parse.specs.StatementReader.{pairs_rest, aggregate_rest, session_rest}
use Rattle.script_parse.proofs.AnswerStatements.{PairsRest, AggregateRest, pairs_correct}
use Rattle.script_parse.proofs.AnswerStatements.{aggregate_correct}
use Rattle.script_parse.proofs.SessionStatements.{SessionRest, session_correct}
use Rattle.script_parse.specs.StatementReader.{changes, op, ops, inverse, evolve_rest, body_arm}
use Rattle.script_parse.specs.StatementReader.{body, write_rest, ask_rest, explain_rest}
use Rattle.script_parse.specs.StatementReader.{schema_rest, show_arm, show_rest, statement_arm}
use Rattle.script_parse.specs.StatementReader.{statement, follow_change, follow_changes, follow_ops}
use Rattle.script_parse.specs.StatementReader.{follow_evolve, follow_body, follow_statement}
use Rattle.script_parse.proofs.ChangeCorrectness.{ends, single_then, change_not_none}
use Rattle.script_parse.proofs.ChangeCorrectness.{change_not_first, changes_correct}

-- ---- operators

pub op_correct : IsCorrectParser 0 32 op IsOp follow_operator
unfolding op
op_correct = fresh_correct 32 operator IsOperator 0 follow_operator operator_correct

more_ops_correct : IsCorrectParser 0 32 (more (is_word (codes "THEN")) Inverse op 7)
    (AreMore (word (codes "THEN")) (so_wide Inverse) IsOp 1) follow_ops
more_ops_correct = more_correct (is_word (codes "THEN")) (word (codes "THEN"))
    (word_is (codes "THEN")) (word_exact (codes "THEN")) 32 op IsOp follow_operator op_correct refl
    Inverse (λ s n h. h) 7 1 refl

ops_correct : IsCorrectParser 0 32 ops AreOps follow_ops
unfolding ops
ops_correct = bind_more (is_word (codes "THEN")) (word (codes "THEN")) (word_is (codes "THEN"))
    (word_exact (codes "THEN")) 32 op IsOp follow_operator op_correct refl (so_wide Inverse) 0 1
    (more (is_word (codes "THEN")) Inverse op 7) (λ o l. o ∷ l) more_ops_correct

pub fewer_ops : (x : Lexeme) → follow_evolve x ≡ false → follow_ops x ≡ false
fewer_ops x h = or_right (is_word (codes "INVERSE") x) (follow_ops x) h

pub fewer_op : (x : Lexeme) → follow_evolve x ≡ false → follow_operator x ≡ false
fewer_op x h = or_right (is_word (codes "THEN") x) (follow_operator x) (fewer_ops x h)

inverse_correct : IsCorrectParser 0 32 inverse IsInverse follow_evolve
unfolding inverse
inverse_correct = option_takes_correct (is_word (codes "INVERSE")) (word (codes "INVERSE"))
    (word_is (codes "INVERSE")) (word_exact (codes "INVERSE")) 0 32 ops [] AreOps follow_evolve
    (λ x e. ap (λ b. b || follow_ops x) e)
    (correct_follow 0 32 ops AreOps follow_ops follow_evolve fewer_ops ops_correct)

-- an INVERSE, or what no EVOLVE goes on with
pub inverse_side : (l : List Operator) (s : Size) (ts rest : List Lexeme) → IsInverse l s ts
    → Stops follow_evolve rest → Stops follow_operator (ts ++ rest)
inverse_side l s ts rest (inl k) stops = let P : List Lexeme
    → Type 0 = λ u. Stops follow_operator (u ++ rest) in
    subst P (sym k.2) (stops_fewer follow_operator follow_evolve fewer_op rest stops)
inverse_side l s ts rest (inr k) stops = let P : List Lexeme
    → Type 0 = λ u. Stops follow_operator (u ++ rest) in subst P (sym k.1) refl

abbrev EvolveRest : Grammar PlainBody
EvolveRest = grammar.seq IsOp (λ o. grammar.map (λ l. evolving_by o l) IsInverse)

evolve_correct : IsCorrectParser 0 32 evolve_rest EvolveRest follow_evolve
unfolding evolve_rest
evolve_correct = bind_correct 0 32 op (λ o. map_to (λ l. evolving_by o l) inverse) IsOp
    (λ o. grammar.map (λ l. evolving_by o l) IsInverse) follow_operator follow_evolve op_correct
    (λ o. map_correct 0 32 (λ l. evolving_by o l) inverse IsInverse follow_evolve inverse_correct)
    (λ o b s ts rest h stops. inverse_side h.0 s ts rest h.2 stops)

-- ---- what a command does

pub fewer_evolve : (x : Lexeme) → follow_body x ≡ false → follow_evolve x ≡ false
fewer_evolve x h = or_left (follow_evolve x) (follow_change x) h

-- THEN is among what an inverse goes on with
pub fewer_changes : (x : Lexeme) → follow_body x ≡ false → follow_changes x ≡ false
fewer_changes x h = neither (is_word (codes "THEN") x) (follow_change x)
    (or_left (is_word (codes "THEN") x) (follow_operator x) (fewer_ops x (fewer_evolve x h)))
    (or_right (follow_evolve x) (follow_change x) h)
  where
    neither : (a b : Bool) → a ≡ false → b ≡ false → (a || b) ≡ false
    neither a b e f = ap (λ c. c || b) e ∙ f

evolve_then : IsCorrectParser 0 32 evolve_rest EvolveRest follow_body
evolve_then = correct_follow 0 32 evolve_rest EvolveRest follow_evolve follow_body fewer_evolve
    evolve_correct

changes_then : IsCorrectParser 0 32 (map_to (λ l. changing l) changes) AreChanges follow_body
changes_then = map_correct 0 32 (λ l. changing l) changes
    (grammar.list (word (codes "THEN")) IsChange) follow_body
    (correct_follow 0 32 changes (grammar.list (word (codes "THEN")) IsChange) follow_changes
    follow_body fewer_changes changes_correct)

body_correct : IsCorrectParser 0 32 body IsBody follow_body
unfolding body
body_correct = choose_correct 0 32 body_arm IsBody follow_body (live evolve_then.live)
    (either_not_none IsEvolve AreChanges (lead_not_none (word (codes "EVOLVE")) EvolveRest)
    (λ a s h. list_not_none (word (codes "THEN")) IsChange change_not_none h.0 s h.2))
    (λ x. first_arm (is_word (codes "EVOLVE")) (word (codes "EVOLVE")) (word_is (codes "EVOLVE"))
    (word_exact (codes "EVOLVE")) 32 evolve_rest EvolveRest follow_body evolve_then
    (λ y. Whole (map_to (λ l. changing l) changes)) AreChanges
    (λ a s l h. list_not_first (word (codes "EVOLVE")) (word (codes "THEN")) IsChange
    change_not_none (change_not_first (codes "EVOLVE") refl refl refl) h.0 s l h.2) x
    (whole_correct 0 32 (map_to (λ l. changing l) changes) AreChanges AreChanges x follow_body
    changes_then (λ a s l h. h) (λ a s l h. h)))
  where
    live : (a : PlainBody) × (s : Size) × (ts : List Lexeme) × EvolveRest a s ts → (a : PlainBody)
        × (s : Size) × (ts : List Lexeme) × IsBody a s ts
    live l = (l.0, l.1, word (codes "EVOLVE") ∷ l.2, inl (l.2, refl, l.3))

-- ---- statements

pub fewer_body : (x : Lexeme) → follow_statement x ≡ false → follow_body x ≡ false
fewer_body x h = or_left (follow_body x) (query.follow_ask x) h

pub fewer_ask : (x : Lexeme) → follow_statement x ≡ false → query.follow_ask x ≡ false
fewer_ask x h = or_right (follow_body x) (query.follow_ask x) h

abbrev WriteRest : Grammar PlainStatement
WriteRest = grammar.seq moment_grammar (λ m. grammar.map
    (λ b. write (record { stamp = m; body = b })) IsBody)

abbrev AskRest : Grammar PlainStatement
AskRest = grammar.map (λ q. ask q) IsAsk

abbrev Explained : Grammar PlainStatement
Explained = grammar.map (λ q. explain q) IsAsk

abbrev ExplainRest : Grammar PlainStatement
ExplainRest = grammar.lead (word (codes "QUERY")) Explained

abbrev VersionsRest : Grammar PlainStatement
VersionsRest = grammar.pure show_versions

abbrev SchemaRest : Grammar PlainStatement
SchemaRest = grammar.map (λ version. show_schema version) small_grammar

abbrev SizesRest : Grammar PlainStatement
SizesRest = grammar.pure show_sizes

abbrev CursorsRest : Grammar PlainStatement
CursorsRest = grammar.pure show_cursors

abbrev FromSizes : Grammar PlainStatement
FromSizes = grammar.alt (grammar.lead (word (codes "SIZES")) SizesRest)
    (grammar.lead (word (codes "CURSORS")) CursorsRest)

abbrev FromSchema : Grammar PlainStatement
FromSchema = grammar.alt (grammar.lead (word (codes "SCHEMA")) SchemaRest) FromSizes

abbrev ShowRest : Grammar PlainStatement
ShowRest = grammar.alt (grammar.lead (word (codes "VERSIONS")) VersionsRest) FromSchema

write_correct : IsCorrectParser 0 32 write_rest WriteRest follow_statement
unfolding write_rest
write_correct = single_then moment _ moment_grammar _ follow_statement (moment_correct 0 32 ends)
    (λ m. map_correct 0 32 (λ b. write (record { stamp = m; body = b })) body IsBody
    follow_statement (correct_follow 0 32 body IsBody follow_body follow_statement fewer_body
    body_correct))

ask_rest_correct : IsCorrectParser 0 32 ask_rest AskRest follow_statement
unfolding ask_rest
ask_rest_correct = map_correct 0 32 (λ q. ask q) query.ask IsAsk follow_statement
    (correct_follow 0 32 query.ask IsAsk query.follow_ask follow_statement fewer_ask ask_correct)

explain_correct : IsCorrectParser 0 32 explain_rest ExplainRest follow_statement
unfolding explain_rest
explain_correct = lead_correct (is_word (codes "QUERY")) (word (codes "QUERY"))
    (word_is (codes "QUERY")) (word_exact (codes "QUERY")) 0 32 _ Explained follow_statement
    (map_correct 0 32 (λ q. explain q) query.ask IsAsk follow_statement
    (correct_follow 0 32 query.ask IsAsk query.follow_ask follow_statement fewer_ask
    ask_correct))

schema_correct : (follow : Lexeme → Bool) → IsCorrectParser 0 32 schema_rest SchemaRest follow
unfolding schema_rest
schema_correct follow = map_correct 0 32 (λ version. show_schema version) small small_grammar follow
    (small_correct 0 32 follow)

-- the arms after that of VERSIONS
abbrev cursors_arms : Lexeme → Arm PlainStatement
cursors_arms y = cond (is_word (codes "CURSORS") y) (Takes (pure show_cursors)) No

abbrev sizes_arms : Lexeme → Arm PlainStatement
sizes_arms y = cond (is_word (codes "SIZES") y) (Takes (pure show_sizes)) (cursors_arms y)

abbrev schema_arms : Lexeme → Arm PlainStatement
schema_arms y = cond (is_word (codes "SCHEMA") y) (Takes schema_rest) (sizes_arms y)

sizes_first : (v : List ℕ) → is_word (codes "SIZES") (word v) ≡ false
    → is_word (codes "CURSORS") (word v) ≡ false → NotFirst FromSizes (word v)
sizes_first v no_sizes no_cursors = either_not_first (word v)
    (grammar.lead (word (codes "SIZES")) SizesRest)
    (grammar.lead (word (codes "CURSORS")) CursorsRest)
    (lead_not_first (is_word (codes "SIZES")) (word v) (word (codes "SIZES")) SizesRest no_sizes
    (word_is (codes "SIZES")))
    (lead_not_first (is_word (codes "CURSORS")) (word v) (word (codes "CURSORS")) CursorsRest
    no_cursors (word_is (codes "CURSORS")))

show_correct : (follow : Lexeme → Bool) → IsCorrectParser 0 32 show_rest ShowRest follow
unfolding show_rest
show_correct follow = choose_correct 0 32 show_arm ShowRest follow
    (live (pure_correct 0 32 show_versions follow).live)
    (either_not_none (grammar.lead (word (codes "VERSIONS")) VersionsRest) FromSchema
    (lead_not_none (word (codes "VERSIONS")) VersionsRest)
    (either_not_none (grammar.lead (word (codes "SCHEMA")) SchemaRest) FromSizes
    (lead_not_none (word (codes "SCHEMA")) SchemaRest)
    (either_not_none (grammar.lead (word (codes "SIZES")) SizesRest)
    (grammar.lead (word (codes "CURSORS")) CursorsRest)
    (lead_not_none (word (codes "SIZES")) SizesRest)
    (lead_not_none (word (codes "CURSORS")) CursorsRest))))
    (λ x. first_arm (is_word (codes "VERSIONS")) (word (codes "VERSIONS"))
    (word_is (codes "VERSIONS")) (word_exact (codes "VERSIONS")) 32 (pure show_versions)
    VersionsRest follow (pure_correct 0 32 show_versions follow) schema_arms FromSchema
    (either_not_first (word (codes "VERSIONS")) (grammar.lead (word (codes "SCHEMA")) SchemaRest)
    FromSizes
    (lead_not_first (is_word (codes "SCHEMA")) (word (codes "VERSIONS")) (word (codes "SCHEMA"))
    SchemaRest refl (word_is (codes "SCHEMA"))) (sizes_first (codes "VERSIONS") refl refl)) x
    (first_arm (is_word (codes "SCHEMA")) (word (codes "SCHEMA")) (word_is (codes "SCHEMA"))
    (word_exact (codes "SCHEMA")) 32 schema_rest SchemaRest follow (schema_correct follow)
    sizes_arms FromSizes (sizes_first (codes "SCHEMA") refl refl) x
    (first_arm (is_word (codes "SIZES")) (word (codes "SIZES")) (word_is (codes "SIZES"))
    (word_exact (codes "SIZES")) 32 (pure show_sizes) SizesRest follow
    (pure_correct 0 32 show_sizes follow) cursors_arms
    (grammar.lead (word (codes "CURSORS")) CursorsRest)
    (lead_not_first (is_word (codes "CURSORS")) (word (codes "SIZES")) (word (codes "CURSORS"))
    CursorsRest refl (word_is (codes "CURSORS"))) x
    (last_arm (is_word (codes "CURSORS")) (word (codes "CURSORS")) (word_is (codes "CURSORS"))
    (word_exact (codes "CURSORS")) 32 (pure show_cursors) CursorsRest follow
    (pure_correct 0 32 show_cursors follow) x))))
  where
    live : (a : PlainStatement) × (s : Size) × (ts : List Lexeme) × VersionsRest a s ts
        → (a : PlainStatement) × (s : Size) × (ts : List Lexeme) × ShowRest a s ts
    live l = (l.0, l.1, word (codes "VERSIONS") ∷ l.2, inl (l.2, refl, l.3))

-- the grammar by first words
abbrev Paired : Grammar PlainStatement
Paired = grammar.lead (word (codes "PAIRS")) PairsRest

abbrev Aggregated : Grammar PlainStatement
Aggregated = grammar.lead (word (codes "AGGREGATE")) AggregateRest

abbrev OfSession : Grammar PlainStatement
OfSession = grammar.lead (word (codes "SESSION")) SessionRest

abbrev FromSession : Grammar PlainStatement
FromSession = grammar.alt OfSession IsCheckpoint

abbrev FromAggregate : Grammar PlainStatement
FromAggregate = grammar.alt Aggregated FromSession

abbrev FromPairs : Grammar PlainStatement
FromPairs = grammar.alt Paired FromAggregate

abbrev Shown : Grammar PlainStatement
Shown = grammar.lead (word (codes "SHOW")) ShowRest

abbrev FromShow : Grammar PlainStatement
FromShow = grammar.alt Shown FromPairs

abbrev FromExplain : Grammar PlainStatement
FromExplain = grammar.alt IsExplain FromShow

abbrev FromQuery : Grammar PlainStatement
FromQuery = grammar.alt IsQuery FromExplain

abbrev FromAt : Grammar PlainStatement
FromAt = grammar.alt IsWrite FromQuery

-- what begins with one word does not begin with another
apart : (v u : List ℕ) (G : Grammar PlainStatement) → is_word u (word v) ≡ false
    → NotFirst (grammar.lead (word u) G) (word v)
apart v u G e = lead_not_first (is_word u) (word v) (word u) G e (word_is u)

module _ (v : List ℕ) (no_checkpoint : is_word (codes "CHECKPOINT") (word v) ≡ false) where
  checkpoint_first : NotFirst IsCheckpoint (word v)
  checkpoint_first = apart v (codes "CHECKPOINT") (grammar.pure checkpoint) no_checkpoint

  module _ (no_session : is_word (codes "SESSION") (word v) ≡ false) where
    session_first : NotFirst FromSession (word v)
    session_first = either_not_first (word v) OfSession IsCheckpoint
        (apart v (codes "SESSION") SessionRest no_session) checkpoint_first

    module _ (no_aggregate : is_word (codes "AGGREGATE") (word v) ≡ false) where
      aggregate_first : NotFirst FromAggregate (word v)
      aggregate_first = either_not_first (word v) Aggregated FromSession
          (apart v (codes "AGGREGATE") AggregateRest no_aggregate) session_first

      module _ (no_pairs : is_word (codes "PAIRS") (word v) ≡ false) where
        pairs_first : NotFirst FromPairs (word v)
        pairs_first = either_not_first (word v) Paired FromAggregate
            (apart v (codes "PAIRS") PairsRest no_pairs) aggregate_first

        module _ (no_show : is_word (codes "SHOW") (word v) ≡ false) where
          show_first : NotFirst FromShow (word v)
          show_first = either_not_first (word v) Shown FromPairs
              (apart v (codes "SHOW") ShowRest no_show) pairs_first

          explain_first : is_word (codes "EXPLAIN") (word v) ≡ false
              → NotFirst FromExplain (word v)
          explain_first e = either_not_first (word v) IsExplain FromShow
              (apart v (codes "EXPLAIN") ExplainRest e) show_first

          at_first : is_word (codes "QUERY") (word v) ≡ false
              → is_word (codes "EXPLAIN") (word v) ≡ false → NotFirst FromQuery (word v)
          at_first e f = either_not_first (word v) IsQuery FromExplain
              (apart v (codes "QUERY") AskRest e) (explain_first f)

by_words_not_none : NotNone FromAt
by_words_not_none = either_not_none IsWrite FromQuery (lead_not_none (word (codes "AT")) WriteRest)
    (either_not_none IsQuery FromExplain (lead_not_none (word (codes "QUERY")) AskRest)
    (either_not_none IsExplain FromShow (lead_not_none (word (codes "EXPLAIN")) ExplainRest)
    (either_not_none Shown FromPairs (lead_not_none (word (codes "SHOW")) ShowRest)
    (either_not_none Paired FromAggregate (lead_not_none (word (codes "PAIRS")) PairsRest)
    (either_not_none Aggregated FromSession
    (lead_not_none (word (codes "AGGREGATE")) AggregateRest)
    (either_not_none OfSession IsCheckpoint
    (lead_not_none (word (codes "SESSION")) SessionRest)
    (lead_not_none (word (codes "CHECKPOINT")) (grammar.pure checkpoint))))))))

-- the arms after that of AT, and so on
abbrev checkpoint_arms : Lexeme → Arm PlainStatement
checkpoint_arms y = cond (is_word (codes "CHECKPOINT") y) (Takes (pure checkpoint)) No

abbrev session_arms : Lexeme → Arm PlainStatement
session_arms y = cond (is_word (codes "SESSION") y) (Takes session_rest) (checkpoint_arms y)

abbrev aggregate_arms : Lexeme → Arm PlainStatement
aggregate_arms y = cond (is_word (codes "AGGREGATE") y) (Takes aggregate_rest) (session_arms y)

abbrev pairs_arms : Lexeme → Arm PlainStatement
pairs_arms y = cond (is_word (codes "PAIRS") y) (Takes pairs_rest) (aggregate_arms y)

abbrev show_arms : Lexeme → Arm PlainStatement
show_arms y = cond (is_word (codes "SHOW") y) (Takes show_rest) (pairs_arms y)

abbrev explain_arms : Lexeme → Arm PlainStatement
explain_arms y = cond (is_word (codes "EXPLAIN") y) (Takes explain_rest) (show_arms y)

abbrev query_arms : Lexeme → Arm PlainStatement
query_arms y = cond (is_word (codes "QUERY") y) (Takes ask_rest) (explain_arms y)

session_then : IsCorrectParser 0 32 session_rest SessionRest follow_statement
session_then = session_correct follow_statement
    (correct_follow 0 32 changes IsListOfChanges follow_changes follow_statement
    (λ x h. fewer_changes x (fewer_body x h)) changes_correct)
    (correct_follow 0 32 query.ask IsAsk query.follow_ask follow_statement fewer_ask ask_correct)

late_arms_correct : (x : Lexeme) → ArmCorrect 0 32 (pairs_arms x) x FromPairs follow_statement
late_arms_correct x = first_arm (is_word (codes "PAIRS")) (word (codes "PAIRS"))
    (word_is (codes "PAIRS")) (word_exact (codes "PAIRS")) 32 pairs_rest PairsRest follow_statement
    (pairs_correct follow_statement) aggregate_arms FromAggregate
    (aggregate_first (codes "PAIRS") refl refl refl) x
    (first_arm (is_word (codes "AGGREGATE")) (word (codes "AGGREGATE"))
    (word_is (codes "AGGREGATE")) (word_exact (codes "AGGREGATE")) 32 aggregate_rest AggregateRest
    follow_statement (aggregate_correct follow_statement) session_arms FromSession
    (session_first (codes "AGGREGATE") refl refl) x
    (first_arm (is_word (codes "SESSION")) (word (codes "SESSION")) (word_is (codes "SESSION"))
    (word_exact (codes "SESSION")) 32 session_rest SessionRest follow_statement session_then
    checkpoint_arms IsCheckpoint (checkpoint_first (codes "SESSION") refl) x
    (last_arm (is_word (codes "CHECKPOINT")) (word (codes "CHECKPOINT"))
    (word_is (codes "CHECKPOINT")) (word_exact (codes "CHECKPOINT")) 32 (pure checkpoint)
    (grammar.pure checkpoint) follow_statement
    (pure_correct 0 32 checkpoint follow_statement) x)))

by_words_correct : IsCorrectParser 0 32 statement FromAt follow_statement
unfolding statement
by_words_correct = choose_correct 0 32 statement_arm FromAt follow_statement
    (live write_correct.live) by_words_not_none
    (λ x. first_arm (is_word (codes "AT")) (word (codes "AT")) (word_is (codes "AT"))
    (word_exact (codes "AT")) 32 write_rest WriteRest follow_statement write_correct
    query_arms FromQuery (at_first (codes "AT") refl refl refl refl refl refl refl) x
    (first_arm (is_word (codes "QUERY")) (word (codes "QUERY")) (word_is (codes "QUERY"))
    (word_exact (codes "QUERY")) 32 ask_rest AskRest follow_statement ask_rest_correct
    explain_arms FromExplain (explain_first (codes "QUERY") refl refl refl refl refl refl) x
    (first_arm (is_word (codes "EXPLAIN")) (word (codes "EXPLAIN")) (word_is (codes "EXPLAIN"))
    (word_exact (codes "EXPLAIN")) 32 explain_rest ExplainRest follow_statement explain_correct
    show_arms FromShow (show_first (codes "EXPLAIN") refl refl refl refl refl) x
    (first_arm (is_word (codes "SHOW")) (word (codes "SHOW")) (word_is (codes "SHOW"))
    (word_exact (codes "SHOW")) 32 show_rest ShowRest follow_statement
    (show_correct follow_statement) pairs_arms FromPairs
    (pairs_first (codes "SHOW") refl refl refl refl) x (late_arms_correct x)))))
  where
    live : (a : PlainStatement) × (s : Size) × (ts : List Lexeme) × WriteRest a s ts
        → (a : PlainStatement) × (s : Size) × (ts : List Lexeme) × FromAt a s ts
    live l = (l.0, l.1, word (codes "AT") ∷ l.2, inl (l.2, refl, l.3))

up : (a : PlainStatement) (s : Size) (l : List Lexeme) → FromAt a s l → IsStatement a s l
up a s l (inl h) = inl h
up a s l (inr (inl h)) = inr (inl h)
up a s l (inr (inr (inl h))) = inr (inr (inl h))
up a s l (inr (inr (inr (inl (more, e, inl h))))) = inr (inr (inr (inl (inl (more, e, h)))))
up a s l (inr (inr (inr (inl (more, e, inr (inl h)))))) =
    inr (inr (inr (inl (inr (inl (more, e, h))))))
up a s l (inr (inr (inr (inl (more, e, inr (inr (inl h))))))) =
    inr (inr (inr (inl (inr (inr (inl (more, e, h)))))))
up a s l (inr (inr (inr (inl (more, e, inr (inr (inr h))))))) =
    inr (inr (inr (inl (inr (inr (inr (more, e, h)))))))
up a s l (inr (inr (inr (inr h)))) = inr (inr (inr (inr h)))

down : (a : PlainStatement) (s : Size) (l : List Lexeme) → IsStatement a s l → FromAt a s l
down a s l (inl h) = inl h
down a s l (inr (inl h)) = inr (inl h)
down a s l (inr (inr (inl h))) = inr (inr (inl h))
down a s l (inr (inr (inr (inl (inl h))))) = inr (inr (inr (inl (h.0, h.1, inl h.2))))
down a s l (inr (inr (inr (inl (inr (inl h)))))) = inr (inr (inr (inl (h.0, h.1, inr (inl h.2)))))
down a s l (inr (inr (inr (inl (inr (inr (inl h))))))) =
    inr (inr (inr (inl (h.0, h.1, inr (inr (inl h.2))))))
down a s l (inr (inr (inr (inl (inr (inr (inr h))))))) =
    inr (inr (inr (inl (h.0, h.1, inr (inr (inr h.2))))))
down a s l (inr (inr (inr (inr h)))) = inr (inr (inr (inr h)))

pub statement_correct : IsCorrectParser 0 32 statement IsStatement follow_statement
statement_correct = correct_iff 0 32 statement FromAt IsStatement follow_statement up down
    by_words_correct

pub statement_not_none : NotNone IsStatement
statement_not_none a s h = by_words_not_none a s (down a s [] h)
