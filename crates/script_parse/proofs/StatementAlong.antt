-- The reader of statements goes along the tokens at which their counts pass limits.
use Rattle.std.proofs.Common.{◌≡◌, ℕ, false, List, [], ◌∷◌, ◌++◌, length, inl, inr, refl, sym, ap}
use Rattle.std.proofs.Common.{◌∙◌, subst, append-nil, codes}
use Rattle.prima_base.specs.declared.refusal.What.TheVariants.{Inverse}
use Rattle.cond_expr.specs.Trees.{always}
use Rattle.smo_ops_types.specs.Changes.{PlainChange, deletion, update}
use Rattle.smo_ops_types.specs.Commands.{PlainBody, changing}
use Rattle.lexer_spec.specs.Lexemes.{Lexeme, word, sign, is_word, is_sign}
use Rattle.lexer_combinators.specs.Grammar.{Grammar}
use Rattle.lexer_combinators.specs.Parsing.{Parsed, map_to, more, fresh}
use Rattle.lexer_combinators.specs.Grammar.{Size, AreMore, so_wide}
use Rattle.lexer_combinators.specs.Grammar as grammar
use Rattle.lexer_trees_spec.specs.Grammar.{IsExpr, IsCond}
use Rattle.lexer_trees_spec.specs.Reader.{outermost, follow_expr, follow_cond}
use Rattle.lexer_combinators.specs.Reads.{sees}
use Rattle.lexer_trees_spec.specs.Constants.{as_name, as_moment, as_small, as_constant, name}
use Rattle.lexer_trees_spec.specs.Constants.{name_grammar, names_grammar, moment, moment_grammar}
use Rattle.lexer_trees_spec.specs.Constants.{small_grammar, constant_grammar}
use Rattle.lexer_trees_spec.specs.TreeCounts.{expr_counts, cond_counts}
use Rattle.lexer_combinators.specs.ListOverflows.{Overflow, none_overflow, fresh_overflow}
use Rattle.lexer_combinators.specs.ListOverflows.{lead_overflow, map_overflow, bind_overflow}
use Rattle.lexer_combinators.specs.ListOverflows.{list_overflow, counted_overflow}
use Rattle.lexer_spec.proofs.Cases.{by_test}
use Rattle.lexer_combinators.proofs.Parsing.{side, correct_follow}
use Rattle.lexer_spec.proofs.LexemeTests.{word_is, word_exact, sign_is, sign_exact}
use Rattle.lexer_trees_spec.proofs.Singles.{name_correct, moment_correct}
use Rattle.lexer_trees_spec.proofs.Correctness.{outermost_correct}
use Rattle.lexer_combinators.proofs.Alternatives.{stops_never, or_left, or_right, list_not_none}
use Rattle.lexer_combinators.proofs.Alternatives.{list_not_first}
use Rattle.lexer_trees_spec.proofs.CountSizes.{expr_length, cond_length}
use Rattle.lexer_trees_spec.proofs.CountsJoined.{expr_counted, cond_counted}
use Rattle.lexer_trees_spec.specs.Where.{IsFreshWhere, fresh_where, follow_where, where_overflows}
use Rattle.lexer_trees_spec.proofs.Where.{fresh_where_along}
use Rattle.lexer_combinators.proofs.OverflowSteps.{by_overflows}
use Rattle.lexer_combinators.proofs.AlongParts.{GoesAlong, Light, stops_along, lead_follow}
use Rattle.lexer_combinators.proofs.AlongParts.{after_follow, map_follow, bind_follow}
use Rattle.lexer_combinators.proofs.AlongParts.{option_follow, none_light, pure_light}
use Rattle.lexer_combinators.proofs.AlongParts.{single_light, lead_light, map_light, bind_light}
use Rattle.lexer_combinators.proofs.AlongParts.{list_light, light_along, light_follow}
use Rattle.lexer_combinators.proofs.AlongParts.{fresh_follow, list_follow, counted_follow}
use Rattle.smo_parse.specs.Productions.{IsOperator}
use Rattle.smo_parse.specs.OperatorReader.{operator, follow_operator}
use Rattle.smo_parse.specs.OperatorCounts.{operator_counts}
use Rattle.smo_parse.proofs.OperatorCorrectness.{operator_correct}
use Rattle.smo_parse.proofs.OperatorCounted.{operator_counted, operator_length}
use Rattle.temporal_lang_grammar_spec.specs.QueryGrammar.{IsAsk}
use Rattle.temporal_lang_grammar_spec.specs.QueryReader as query
use Rattle.temporal_lang_grammar_spec.specs.QueryOverflows.{ask_overflows}
use Rattle.temporal_lang_grammar_spec.proofs.QueryCorrectness.{ask_correct}
use Rattle.temporal_lang_grammar_spec.proofs.QueryAlong.{ask_along}
use Rattle.script_parse.specs.Statements.{evolving_by, PlainStatement, write, ask, explain}
use Rattle.script_parse.specs.Productions.{AreSoMany, IsRow, IsInsert, IsSetting, IsChange, IsOp}
use Rattle.script_parse.specs.Productions.{AreOps, IsInverse, AreChanges, IsBody, IsShowVersions}
use Rattle.script_parse.specs.Productions.{IsShowSchema, IsShowSizes, IsShowCursors, IsCheckpoint}
use Rattle.script_parse.specs.Productions.{IsListOfChanges, IsStatement}
use Rattle.script_parse.specs.StatementReader.{setting, settings, delete_rest, update_rest, change}
use Rattle.script_parse.specs.StatementReader.{changes, op, ops, inverse, evolve_rest, body}
use Rattle.script_parse.specs.StatementReader.{write_rest, ask_rest, explain_rest, statement}
use Rattle.script_parse.specs.StatementReader.{follow_settings, follow_change, follow_changes}
use Rattle.script_parse.specs.StatementReader.{follow_ops, follow_evolve, follow_body}
use Rattle.script_parse.specs.StatementReader.{follow_statement}
use Rattle.script_parse.specs.StatementOverflows.{setting_overflows, change_overflows}
use Rattle.script_parse.specs.StatementOverflows.{list_of_changes_overflows, changes_overflows}
use Rattle.script_parse.specs.StatementOverflows.{op_overflows, ops_overflows}
use Rattle.script_parse.specs.StatementOverflows.{inverse_overflows, body_overflows}
use Rattle.script_parse.specs.StatementOverflows.{statement_overflows}
use Rattle.script_parse.specs.StatementReader.{pairs_rest, aggregate_rest, session_rest}
use Rattle.script_parse.proofs.AnswerStatements.{PairsRest, AggregateRest, pairs_along}
use Rattle.script_parse.proofs.AnswerStatements.{aggregate_along, pairs_rest_overflows}
use Rattle.script_parse.proofs.AnswerStatements.{aggregate_rest_overflows}
use Rattle.script_parse.proofs.SessionStatements.{SessionRest, session_along}
use Rattle.script_parse.proofs.SessionStatements.{session_rest_overflows}
use Rattle.script_parse.proofs.BodySteps.{body_evolves, body_changes}
use Rattle.script_parse.proofs.ChangeCorrectness.{ends, setting_correct, change_correct}
use Rattle.script_parse.proofs.ChangeCorrectness.{changes_correct}
use Rattle.script_parse.proofs.ChangeCorrectness.{change_not_none, change_not_first, where_change}
use Rattle.script_parse.proofs.ChangeCorrectness.{where_side}
use Rattle.script_parse.proofs.StatementCorrectness.{op_correct, fewer_ops, fewer_evolve}
use Rattle.script_parse.proofs.StatementCorrectness.{fewer_changes, fewer_body, fewer_ask}
use Rattle.script_parse.proofs.StatementCorrectness.{inverse_side, statement_correct}

-- ---- changes

expr_along : GoesAlong (fresh (outermost false).expr) (grammar.fresh (IsExpr false))
    (follow_expr false) (fresh_overflow (IsExpr false) (expr_counts false))
expr_along = fresh_follow (outermost false).expr (IsExpr false) (follow_expr false)
    (outermost_correct false).expr (expr_counts false) (expr_length false) (expr_counted false)

where_then : GoesAlong (fresh_where false) (IsFreshWhere false) follow_change
    (where_overflows false)
where_then = stops_along (fresh_where false) (IsFreshWhere false) (follow_where false) follow_change
    (where_overflows false) where_change (fresh_where_along false)

name_along : GoesAlong name name_grammar ends (none_overflow name_grammar)
name_along = light_follow name name_grammar ends (name_correct 0 32 ends) (single_light as_name)

setting_along : GoesAlong setting IsSetting (follow_expr false) setting_overflows
unfolding setting
setting_along = bind_follow name _ name_grammar _ ends (follow_expr false)
    (none_overflow name_grammar) _ name_along
    (λ column. lead_follow (is_sign (codes "=")) (sign (codes "=")) (sign_is (codes "=")) _ _
    (follow_expr false) _ (map_follow (λ e. (column, e)) (fresh (outermost false).expr)
    (grammar.fresh (IsExpr false)) (follow_expr false) _ expr_along))
    (λ a b s ts rest h stops. stops_never (ts ++ rest))

settings_along : GoesAlong settings (grammar.list (sign (codes ",")) IsSetting) follow_settings
    (list_overflow (sign (codes ",")) IsSetting setting_overflows)
unfolding settings
settings_along = list_follow (is_sign (codes ",")) (sign (codes ",")) (sign_is (codes ","))
    (sign_exact (codes ",")) setting IsSetting (follow_expr false) setting_correct refl
    setting_overflows setting_along

-- after DELETE and UPDATE
delete_along : GoesAlong delete_rest (grammar.lead (word (codes "FROM"))
    (grammar.seq name_grammar (λ t. grammar.map (λ c. deletion t c) (IsFreshWhere false))))
    follow_change
    (lead_overflow (word (codes "FROM")) _ (bind_overflow name_grammar
    (λ t. grammar.map (λ c. deletion t c) (IsFreshWhere false)) (none_overflow name_grammar)
    (λ t. map_overflow (λ c. deletion t c) (IsFreshWhere false) (where_overflows false))))
unfolding delete_rest
delete_along = lead_follow (is_word (codes "FROM")) (word (codes "FROM")) (word_is (codes "FROM")) _
    _ follow_change _ (bind_follow name _ name_grammar _ ends follow_change
    (none_overflow name_grammar) _ name_along
    (λ t. map_follow (λ c. deletion t c) (fresh_where false) (IsFreshWhere false) follow_change
    (where_overflows false) where_then) (λ a b s ts rest h stops. stops_never (ts ++ rest)))

abbrev SetsRest : List ℕ → Grammar PlainChange
SetsRest t = grammar.seq (grammar.list (sign (codes ",")) IsSetting)
    (λ l. grammar.map (λ c. update t l c) (IsFreshWhere false))

update_along : GoesAlong update_rest (grammar.seq name_grammar
    (λ t. grammar.lead (word (codes "SET")) (SetsRest t))) follow_change
    (bind_overflow name_grammar (λ t. grammar.lead (word (codes "SET")) (SetsRest t))
    (none_overflow name_grammar)
    (λ t. lead_overflow (word (codes "SET")) (SetsRest t)
    (bind_overflow (grammar.list (sign (codes ",")) IsSetting)
    (λ l. grammar.map (λ c. update t l c) (IsFreshWhere false))
    (list_overflow (sign (codes ",")) IsSetting setting_overflows)
    (λ l. map_overflow (λ c. update t l c) (IsFreshWhere false) (where_overflows false)))))
unfolding update_rest
update_along = bind_follow name _ name_grammar _ ends follow_change (none_overflow name_grammar) _
    name_along
    (λ t. lead_follow (is_word (codes "SET")) (word (codes "SET")) (word_is (codes "SET")) _
    (SetsRest t) follow_change _
    (bind_follow settings (λ l. map_to (λ c. update t l c) (fresh_where false))
    (grammar.list (sign (codes ",")) IsSetting)
    (λ l. grammar.map (λ c. update t l c) (IsFreshWhere false)) follow_settings follow_change
    (list_overflow (sign (codes ",")) IsSetting setting_overflows) _ settings_along
    (λ l. map_follow (λ c. update t l c) (fresh_where false) (IsFreshWhere false) follow_change
    (where_overflows false) where_then)
    (λ l c s ts rest h stops. where_side h.0 s ts rest h.2 stops)))
    (λ a b s ts rest h stops. stops_never (ts ++ rest))

so_many_light : (n : ℕ) → Light (AreSoMany n)
so_many_light n [] s f h = none_light s h.1.0
so_many_light n (v ∷ l) s f h = list_light (sign (codes ",")) constant_grammar
    (single_light as_constant) (v ∷ l) s f h.1

row_light : (ns : List (List ℕ)) → Light (IsRow ns)
row_light ns = lead_light _ _ (bind_light _ _ (so_many_light (length ns))
    (λ l. lead_light _ _ (pure_light _)))

names_light : Light names_grammar
names_light = list_light (sign (codes ",")) name_grammar (single_light as_name)

insert_light : Light IsInsert
insert_light = lead_light _ _ (lead_light _ _
    (bind_light name_grammar _ (single_light as_name)
    (λ t. lead_light _ _ (bind_light names_grammar _ names_light
    (λ ns. lead_light _ _ (lead_light _ _ (map_light _ (IsRow ns) (row_light ns))))))))

change_along : GoesAlong change IsChange follow_change change_overflows
unfolding change
change_along a s f (inl h) us stops = light_along change IsChange follow_change change_correct a s f
    (inl h) (insert_light a s f h) us stops
change_along a s f (inr (inl h)) us stops = after_follow change delete_rest (word (codes "DELETE"))
    (λ ts. refl) _ follow_change _ delete_along a s f h us stops
change_along a s f (inr (inr h)) us stops = after_follow change update_rest (word (codes "UPDATE"))
    (λ ts. refl) _ follow_change _ update_along a s f h us stops

changes_along : GoesAlong changes (grammar.list (word (codes "THEN")) IsChange) follow_changes
    (list_overflow (word (codes "THEN")) IsChange change_overflows)
unfolding changes
changes_along = list_follow (is_word (codes "THEN")) (word (codes "THEN")) (word_is (codes "THEN"))
    (word_exact (codes "THEN")) change IsChange follow_change change_correct refl change_overflows
    change_along

-- ---- operators

op_along : GoesAlong op IsOp follow_operator op_overflows
unfolding op
op_along = fresh_follow operator IsOperator follow_operator operator_correct operator_counts
    operator_length operator_counted

ops_along : GoesAlong ops AreOps follow_ops ops_overflows
unfolding ops
ops_along = bind_follow op (λ o. map_to (λ l. o ∷ l) (more (is_word (codes "THEN")) Inverse op 7))
    IsOp (λ o. grammar.map (λ l. o ∷ l) (AreMore (word (codes "THEN")) (so_wide Inverse) IsOp 1))
    follow_operator follow_ops op_overflows _ op_along
    (λ o. map_follow (λ l. o ∷ l) (more (is_word (codes "THEN")) Inverse op 7)
    (AreMore (word (codes "THEN")) (so_wide Inverse) IsOp 1) follow_ops
    (counted_overflow Inverse (word (codes "THEN")) IsOp op_overflows 1)
    (counted_follow (is_word (codes "THEN")) (word (codes "THEN")) (word_is (codes "THEN"))
    (word_exact (codes "THEN")) op IsOp follow_operator op_correct refl op_overflows op_along
    Inverse 7 1 refl))
    (λ a b s ts rest h stops. side (is_word (codes "THEN")) (word (codes "THEN"))
    (word_is (codes "THEN")) (word_exact (codes "THEN")) 32 op IsOp follow_operator op_correct
    refl (so_wide Inverse) 1 h.0 s ts rest h.2 stops)

inverse_along : GoesAlong inverse IsInverse follow_evolve inverse_overflows
unfolding inverse
inverse_along = option_follow (is_word (codes "INVERSE")) (word (codes "INVERSE"))
    (word_is (codes "INVERSE")) ops [] AreOps follow_evolve
    (λ x h. or_left (is_word (codes "INVERSE") x) (follow_ops x) h) ops_overflows
    (stops_along ops AreOps follow_ops follow_evolve ops_overflows fewer_ops ops_along)

abbrev EvolveRest : Grammar PlainBody
EvolveRest = grammar.seq IsOp (λ o. grammar.map (λ l. evolving_by o l) IsInverse)

abbrev evolve_rest_overflows : Overflow EvolveRest
evolve_rest_overflows = bind_overflow IsOp (λ o. grammar.map (λ l. evolving_by o l) IsInverse)
    op_overflows (λ o. map_overflow (λ l. evolving_by o l) IsInverse inverse_overflows)

evolve_along : GoesAlong evolve_rest EvolveRest follow_evolve evolve_rest_overflows
unfolding evolve_rest
evolve_along = bind_follow op (λ o. map_to (λ l. evolving_by o l) inverse) IsOp
    (λ o. grammar.map (λ l. evolving_by o l) IsInverse) follow_operator follow_evolve op_overflows _
    op_along
    (λ o. map_follow (λ l. evolving_by o l) inverse IsInverse follow_evolve inverse_overflows
    inverse_along)
    (λ o b s ts rest h stops. inverse_side h.0 s ts rest h.2 stops)

evolve_then : GoesAlong evolve_rest EvolveRest follow_body evolve_rest_overflows
evolve_then = stops_along evolve_rest EvolveRest follow_evolve follow_body evolve_rest_overflows
    fewer_evolve evolve_along

-- ---- what a command does

changing_along : GoesAlong (map_to (λ l. changing l) changes) AreChanges follow_body
    changes_overflows
changing_along = map_follow (λ l. changing l) changes (grammar.list (word (codes "THEN")) IsChange)
    follow_body (list_overflow (word (codes "THEN")) IsChange change_overflows)
    (stops_along changes (grammar.list (word (codes "THEN")) IsChange) follow_changes follow_body
    (list_overflow (word (codes "THEN")) IsChange change_overflows) fewer_changes changes_along)

-- no changes begin with EVOLVE
no_evolve : (a : PlainBody) (s : Size) (f us : List Lexeme) → AreChanges a s f
    → sees (is_word (codes "EVOLVE")) (f ++ us) ≡ false
no_evolve a s [] us h = absurd (list_not_none (word (codes "THEN")) IsChange change_not_none h.0 s
    h.2)
no_evolve a s (x ∷ f) us h = by_test (is_word (codes "EVOLVE") x)
    (λ e. absurd (let P : Lexeme → Type 0 = λ y. AreChanges a s (y ∷ f) in let k =
    subst P (word_exact (codes "EVOLVE") x e) h in
    list_not_first (word (codes "EVOLVE")) (word (codes "THEN")) IsChange change_not_none
    (change_not_first (codes "EVOLVE") refl refl refl) k.0 s f k.2))
    (λ e. e)

body_along : GoesAlong body IsBody follow_body body_overflows
body_along a s f (inl h) us stops = after_follow body evolve_rest (word (codes "EVOLVE"))
    (λ ts. body_evolves 0 (word (codes "EVOLVE") ∷ ts) (word_is (codes "EVOLVE"))) EvolveRest
    follow_body evolve_rest_overflows evolve_then a s f h us stops
body_along a s f (inr h) us stops = let r = changing_along a s f h us stops in
    record { reads = body_changes 0 (f ++ us) (no_evolve a s f us h) ∙ r.reads; sized = r.sized }

-- ---- statements

abbrev WriteRest : Grammar PlainStatement
WriteRest = grammar.seq moment_grammar (λ m. grammar.map
    (λ b. write (record { stamp = m; body = b })) IsBody)

abbrev write_rest_overflows : Overflow WriteRest
write_rest_overflows = bind_overflow moment_grammar
    (λ m. grammar.map (λ b. write (record { stamp = m; body = b })) IsBody)
    (none_overflow moment_grammar) (λ m. map_overflow (λ b. write (record { stamp = m; body = b }))
    IsBody body_overflows)

write_along : GoesAlong write_rest WriteRest follow_statement write_rest_overflows
unfolding write_rest
write_along = bind_follow moment (λ m. map_to (λ b. write (record { stamp = m; body = b })) body)
    moment_grammar (λ m. grammar.map (λ b. write (record { stamp = m; body = b })) IsBody) ends
    follow_statement (none_overflow moment_grammar) _
    (light_follow moment moment_grammar ends (moment_correct 0 32 ends) (single_light as_moment))
    (λ m. map_follow (λ b. write (record { stamp = m; body = b })) body IsBody follow_statement
    body_overflows (stops_along body IsBody follow_body follow_statement body_overflows
    fewer_body body_along))
    (λ a b s ts rest h stops. stops_never (ts ++ rest))

abbrev query_rest_overflows : Overflow (grammar.map (λ q. ask q) IsAsk)
query_rest_overflows = map_overflow (λ q. ask q) IsAsk ask_overflows

query_along : GoesAlong ask_rest (grammar.map (λ q. ask q) IsAsk) follow_statement
    query_rest_overflows
unfolding ask_rest
query_along = map_follow (λ q. ask q) query.ask IsAsk follow_statement ask_overflows
    (stops_along query.ask IsAsk query.follow_ask follow_statement ask_overflows fewer_ask
    ask_along)

abbrev ExplainRest : Grammar PlainStatement
ExplainRest = grammar.lead (word (codes "QUERY")) (grammar.map (λ q. explain q) IsAsk)

abbrev explain_rest_overflows : Overflow ExplainRest
explain_rest_overflows = lead_overflow (word (codes "QUERY")) (grammar.map (λ q. explain q) IsAsk)
    (map_overflow (λ q. explain q) IsAsk ask_overflows)

explain_along : GoesAlong explain_rest ExplainRest follow_statement explain_rest_overflows
unfolding explain_rest
explain_along = lead_follow (is_word (codes "QUERY")) (word (codes "QUERY"))
    (word_is (codes "QUERY")) _ (grammar.map (λ q. explain q) IsAsk) follow_statement _
    (map_follow (λ q. explain q) query.ask IsAsk follow_statement ask_overflows
    (stops_along query.ask IsAsk query.follow_ask follow_statement ask_overflows fewer_ask
    ask_along))

-- what a session asks for
changes_to_end : (x : Lexeme) → follow_statement x ≡ false → follow_changes x ≡ false
changes_to_end x h = fewer_changes x (fewer_body x h)

session_then_along : GoesAlong session_rest SessionRest follow_statement session_rest_overflows
session_then_along = session_along follow_statement
    (correct_follow 0 32 changes IsListOfChanges follow_changes follow_statement changes_to_end
    changes_correct)
    (correct_follow 0 32 query.ask IsAsk query.follow_ask follow_statement fewer_ask ask_correct)
    (stops_along changes IsListOfChanges follow_changes follow_statement
    list_of_changes_overflows changes_to_end changes_along)
    (stops_along query.ask IsAsk query.follow_ask follow_statement ask_overflows fewer_ask
    ask_along)

versions_light : Light IsShowVersions
versions_light = lead_light _ _ (lead_light _ _ (pure_light _))

schema_light : Light IsShowSchema
schema_light = lead_light _ _ (lead_light _ _ (map_light _ small_grammar (single_light as_small)))

sizes_light : Light IsShowSizes
sizes_light = lead_light _ _ (lead_light _ _ (pure_light _))

cursors_light : Light IsShowCursors
cursors_light = lead_light _ _ (lead_light _ _ (pure_light _))

checkpoint_light : Light IsCheckpoint
checkpoint_light = lead_light _ _ (pure_light _)

pub statement_along : GoesAlong statement IsStatement follow_statement statement_overflows
unfolding statement
statement_along a s f (inl h) us stops = after_follow statement write_rest (word (codes "AT"))
    (λ ts. refl) WriteRest follow_statement write_rest_overflows write_along a s f h us stops
statement_along a s f (inr (inl h)) us stops =
    after_follow statement ask_rest (word (codes "QUERY")) (λ ts. refl)
    (grammar.map (λ q. ask q) IsAsk) follow_statement query_rest_overflows query_along a s f h us
    stops
statement_along a s f (inr (inr (inl h))) us stops =
    after_follow statement explain_rest (word (codes "EXPLAIN")) (λ ts. refl) ExplainRest
    follow_statement explain_rest_overflows explain_along a s f h us stops
statement_along a s f (inr (inr (inr (inl (inl h))))) us stops =
    light_along statement IsStatement follow_statement statement_correct a s f
    (inr (inr (inr (inl (inl h))))) (versions_light a s f h) us stops
statement_along a s f (inr (inr (inr (inl (inr (inl h)))))) us stops =
    light_along statement IsStatement follow_statement statement_correct a s f
    (inr (inr (inr (inl (inr (inl h)))))) (schema_light a s f h) us stops
statement_along a s f (inr (inr (inr (inl (inr (inr (inl h))))))) us stops =
    light_along statement IsStatement follow_statement statement_correct a s f
    (inr (inr (inr (inl (inr (inr (inl h))))))) (sizes_light a s f h) us stops
statement_along a s f (inr (inr (inr (inl (inr (inr (inr h))))))) us stops =
    light_along statement IsStatement follow_statement statement_correct a s f
    (inr (inr (inr (inl (inr (inr (inr h))))))) (cursors_light a s f h) us stops
statement_along a s f (inr (inr (inr (inr (inl h))))) us stops =
    after_follow statement pairs_rest (word (codes "PAIRS")) (λ ts. refl) PairsRest
    follow_statement pairs_rest_overflows (pairs_along follow_statement) a s f h us stops
statement_along a s f (inr (inr (inr (inr (inr (inl h)))))) us stops =
    after_follow statement aggregate_rest (word (codes "AGGREGATE")) (λ ts. refl) AggregateRest
    follow_statement aggregate_rest_overflows (aggregate_along follow_statement) a s f h us stops
statement_along a s f (inr (inr (inr (inr (inr (inr (inl h))))))) us stops =
    after_follow statement session_rest (word (codes "SESSION")) (λ ts. refl) SessionRest
    follow_statement session_rest_overflows session_then_along a s f h us stops
statement_along a s f (inr (inr (inr (inr (inr (inr (inr h))))))) us stops =
    light_along statement IsStatement follow_statement statement_correct a s f
    (inr (inr (inr (inr (inr (inr (inr h))))))) (checkpoint_light a s f h) us stops

-- a whole text
pub statement_reads : (a : PlainStatement) (s : Size) (f : List Lexeme) (h : IsStatement a s f)
    → statement 0 f ≡ by_overflows 0 (statement_overflows a s f h) f (Parsed a 0 [])
statement_reads a s f h = let r = statement_along a s f h [] tt in
    ap (statement 0) (sym (append-nil f)) ∙ r.reads
    ∙ ap (λ l. by_overflows 0 (statement_overflows a s f h) l (Parsed a 0 [])) (append-nil f)

pub statement_sized : (a : PlainStatement) (s : Size) (f : List Lexeme) (h : IsStatement a s f)
    → length (statement_overflows a s f h) ≡ length f
statement_sized a s f h = (statement_along a s f h [] tt).sized
