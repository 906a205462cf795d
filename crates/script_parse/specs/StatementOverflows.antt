-- At which tokens of a statement a count passes its limit: in each expression and condition counts
-- begin anew, an inverse has eight operators at most, a query has its own counts, and at each other
-- token nothing is counted.
use Rattle.std.specs.Prelude.{false, [], ◌∷◌, codes}
use Rattle.prima_base.specs.declared.refusal.What.TheVariants.{Inverse}
use Rattle.cond_expr.specs.Trees.{always}
use Rattle.smo_ops_types.specs.Changes.{deletion, update}
use Rattle.smo_ops_types.specs.Commands.{changing}
use Rattle.lexer_spec.specs.Lexemes.{word, sign}
use Rattle.lexer_combinators.specs.Grammar.{Grammar, AreMore, so_wide}
use Rattle.lexer_combinators.specs.Grammar as grammar
use Rattle.lexer_trees_spec.specs.Grammar.{IsExpr, IsCond}
use Rattle.lexer_trees_spec.specs.Constants.{name_grammar, moment_grammar, small_grammar}
use Rattle.lexer_trees_spec.specs.TreeCounts.{expr_counts, cond_counts}
use Rattle.lexer_trees_spec.specs.Where.{IsFreshWhere, where_overflows}
use Rattle.lexer_combinators.specs.ListOverflows.{Overflow, none_overflow, fresh_overflow}
use Rattle.lexer_combinators.specs.ListOverflows.{lead_overflow, map_overflow, bind_overflow}
use Rattle.lexer_combinators.specs.ListOverflows.{option_overflow, either_overflow, list_overflow}
use Rattle.lexer_combinators.specs.ListOverflows.{counted_overflow}
use Rattle.smo_parse.specs.Productions.{IsOperator}
use Rattle.smo_parse.specs.OperatorCounts.{operator_counts}
use Rattle.temporal_lang_grammar_spec.specs.QueryGrammar.{IsAsk, IsFullAsk}
use Rattle.temporal_lang_grammar_spec.specs.AggregateGrammar.{IsRelation, AreAggs}
use Rattle.temporal_lang_grammar_spec.specs.QueryOverflows.{ask_overflows, full_ask_overflows}
use Rattle.temporal_lang_types.specs.Queries.{PlainQuery}
use Rattle.sessions.specs.Requests.{buffering, opening}
use Rattle.script_parse.specs.Statements.{evolving_by, write, ask, explain, pairs, aggregate}
use Rattle.script_parse.specs.Statements.{session}
use Rattle.script_parse.specs.Productions.{IsInsert, IsDelete, IsSetting, IsUpdate, IsChange, IsOp}
use Rattle.script_parse.specs.Productions.{AreOps, IsInverse, IsEvolve, AreChanges, IsBody, IsWrite}
use Rattle.script_parse.specs.Productions.{IsQuery, IsExplain, IsShowVersions, IsShowSchema}
use Rattle.script_parse.specs.Productions.{IsShowSizes, IsShow, IsInBrackets, IsPairs, IsAggregate}
use Rattle.script_parse.specs.Productions.{IsShowCursors, IsListOfChanges, IsBegin, IsDo, IsCommit}
use Rattle.script_parse.specs.Productions.{IsAbort, IsOpen, IsFetch, IsClose, IsRequest, IsSession}
use Rattle.script_parse.specs.Productions.{IsCheckpoint, IsStatement}

-- ---- changes

abbrev pub setting_overflows : Overflow IsSetting
setting_overflows = bind_overflow name_grammar
    (λ column. grammar.lead (sign (codes "="))
    (grammar.map (λ e. (column, e)) (grammar.fresh (IsExpr false)))) (none_overflow name_grammar)
    (λ column. lead_overflow (sign (codes "="))
    (grammar.map (λ e. (column, e)) (grammar.fresh (IsExpr false)))
    (map_overflow (λ e. (column, e)) (grammar.fresh (IsExpr false))
    (fresh_overflow (IsExpr false) (expr_counts false))))

abbrev pub delete_overflows : Overflow IsDelete
delete_overflows = lead_overflow (word (codes "DELETE")) _
    (lead_overflow (word (codes "FROM")) _ (bind_overflow name_grammar
    (λ table. grammar.map (λ c. deletion table c) (IsFreshWhere false)) (none_overflow name_grammar)
    (λ table. map_overflow (λ c. deletion table c) (IsFreshWhere false) (where_overflows false))))

abbrev pub update_overflows : Overflow IsUpdate
update_overflows = lead_overflow (word (codes "UPDATE")) _
    (bind_overflow name_grammar (λ table. grammar.lead (word (codes "SET"))
    (grammar.seq (grammar.list (sign (codes ",")) IsSetting)
    (λ sets. grammar.map (λ c. update table sets c) (IsFreshWhere false))))
    (none_overflow name_grammar)
    (λ table. lead_overflow (word (codes "SET")) _
    (bind_overflow (grammar.list (sign (codes ",")) IsSetting)
    (λ sets. grammar.map (λ c. update table sets c) (IsFreshWhere false))
    (list_overflow (sign (codes ",")) IsSetting setting_overflows)
    (λ sets. map_overflow (λ c. update table sets c) (IsFreshWhere false)
    (where_overflows false)))))

abbrev pub change_overflows : Overflow IsChange
change_overflows = either_overflow IsInsert (grammar.alt IsDelete IsUpdate) (none_overflow IsInsert)
    (either_overflow IsDelete IsUpdate delete_overflows update_overflows)

abbrev pub list_of_changes_overflows : Overflow IsListOfChanges
list_of_changes_overflows = list_overflow (word (codes "THEN")) IsChange change_overflows

abbrev pub changes_overflows : Overflow AreChanges
changes_overflows = map_overflow (λ l. changing l) IsListOfChanges list_of_changes_overflows

-- ---- operators

abbrev pub op_overflows : Overflow IsOp
op_overflows = fresh_overflow IsOperator operator_counts

-- the first of an inverse is before its first THEN
abbrev pub ops_overflows : Overflow AreOps
ops_overflows = bind_overflow IsOp (λ op. grammar.map (λ l. op ∷ l)
    (AreMore (word (codes "THEN")) (so_wide Inverse) IsOp 1)) op_overflows
    (λ op. map_overflow (λ l. op ∷ l) (AreMore (word (codes "THEN")) (so_wide Inverse) IsOp 1)
    (counted_overflow Inverse (word (codes "THEN")) IsOp op_overflows 1))

abbrev pub inverse_overflows : Overflow IsInverse
inverse_overflows = option_overflow [] (word (codes "INVERSE")) AreOps ops_overflows

abbrev pub evolve_overflows : Overflow IsEvolve
evolve_overflows = lead_overflow (word (codes "EVOLVE")) _
    (bind_overflow IsOp (λ op. grammar.map (λ inverse. evolving_by op inverse) IsInverse)
    op_overflows
    (λ op. map_overflow (λ inverse. evolving_by op inverse) IsInverse inverse_overflows))

-- ---- statements

abbrev pub body_overflows : Overflow IsBody
body_overflows = either_overflow IsEvolve AreChanges evolve_overflows changes_overflows

abbrev pub write_overflows : Overflow IsWrite
write_overflows = lead_overflow (word (codes "AT")) _
    (bind_overflow moment_grammar (λ stamp. grammar.map
    (λ body. write (record { stamp = stamp; body = body })) IsBody) (none_overflow moment_grammar)
    (λ stamp. map_overflow (λ body. write (record { stamp = stamp; body = body })) IsBody
    body_overflows))

abbrev pub query_overflows : Overflow IsQuery
query_overflows = lead_overflow (word (codes "QUERY")) _
    (map_overflow (λ q. ask q) IsAsk ask_overflows)

abbrev pub explain_overflows : Overflow IsExplain
explain_overflows = lead_overflow (word (codes "EXPLAIN")) _
    (lead_overflow (word (codes "QUERY")) _ (map_overflow (λ q. explain q) IsAsk ask_overflows))

abbrev pub show_overflows : Overflow IsShow
show_overflows = either_overflow IsShowVersions
    (grammar.alt IsShowSchema (grammar.alt IsShowSizes IsShowCursors))
    (none_overflow IsShowVersions) (either_overflow IsShowSchema
    (grammar.alt IsShowSizes IsShowCursors) (none_overflow IsShowSchema)
    (either_overflow IsShowSizes IsShowCursors (none_overflow IsShowSizes)
    (none_overflow IsShowCursors)))

abbrev pub bracket_overflows : (G : Grammar PlainQuery) → Overflow G → Overflow (IsInBrackets G)
bracket_overflows G ps = lead_overflow (sign (codes "(")) _
    (bind_overflow G (λ q. grammar.lead (sign (codes ")")) (grammar.pure q)) ps
    (λ q. none_overflow (grammar.lead (sign (codes ")")) (grammar.pure q))))

abbrev pub pairs_overflows : Overflow IsPairs
pairs_overflows = lead_overflow (word (codes "PAIRS")) _
    (bind_overflow (IsInBrackets IsAsk) (λ left. grammar.seq IsRelation
    (λ relation. grammar.map (λ right. pairs left relation right) (IsInBrackets IsAsk)))
    (bracket_overflows IsAsk ask_overflows)
    (λ left. bind_overflow IsRelation
    (λ relation. grammar.map (λ right. pairs left relation right) (IsInBrackets IsAsk))
    (none_overflow IsRelation)
    (λ relation. map_overflow (λ right. pairs left relation right) (IsInBrackets IsAsk)
    (bracket_overflows IsAsk ask_overflows))))

abbrev pub aggregate_overflows : Overflow IsAggregate
aggregate_overflows = lead_overflow (word (codes "AGGREGATE")) _
    (bind_overflow AreAggs (λ items. grammar.lead (word (codes "BY")) (grammar.seq small_grammar
    (λ group. grammar.map (λ q. aggregate items group q) (IsInBrackets IsFullAsk))))
    (none_overflow AreAggs)
    (λ items. lead_overflow (word (codes "BY")) _
    (bind_overflow small_grammar
    (λ group. grammar.map (λ q. aggregate items group q) (IsInBrackets IsFullAsk))
    (none_overflow small_grammar)
    (λ group. map_overflow (λ q. aggregate items group q) (IsInBrackets IsFullAsk)
    (bracket_overflows IsFullAsk full_ask_overflows)))))

-- ---- sessions

abbrev pub do_overflows : Overflow IsDo
do_overflows = lead_overflow (word (codes "DO")) _
    (map_overflow (λ l. buffering l) IsListOfChanges list_of_changes_overflows)

abbrev pub open_overflows : Overflow IsOpen
open_overflows = lead_overflow (word (codes "OPEN")) _
    (bind_overflow name_grammar (λ name. grammar.map (λ q. opening name q) IsAsk)
    (none_overflow name_grammar)
    (λ name. map_overflow (λ q. opening name q) IsAsk ask_overflows))

-- the requests from OPEN on
abbrev pub cursor_overflows : Overflow (grammar.alt IsOpen (grammar.alt IsFetch IsClose))
cursor_overflows = either_overflow IsOpen (grammar.alt IsFetch IsClose) open_overflows
    (either_overflow IsFetch IsClose (none_overflow IsFetch) (none_overflow IsClose))

abbrev pub request_overflows : Overflow IsRequest
request_overflows = either_overflow IsBegin
    (grammar.alt IsDo (grammar.alt IsCommit (grammar.alt IsAbort
    (grammar.alt IsOpen (grammar.alt IsFetch IsClose))))) (none_overflow IsBegin)
    (either_overflow IsDo (grammar.alt IsCommit (grammar.alt IsAbort
    (grammar.alt IsOpen (grammar.alt IsFetch IsClose)))) do_overflows
    (either_overflow IsCommit (grammar.alt IsAbort
    (grammar.alt IsOpen (grammar.alt IsFetch IsClose))) (none_overflow IsCommit)
    (either_overflow IsAbort (grammar.alt IsOpen (grammar.alt IsFetch IsClose))
    (none_overflow IsAbort) cursor_overflows)))

abbrev pub session_overflows : Overflow IsSession
session_overflows = lead_overflow (word (codes "SESSION")) _
    (bind_overflow small_grammar (λ s. grammar.map (λ request. session s request) IsRequest)
    (none_overflow small_grammar)
    (λ s. map_overflow (λ request. session s request) IsRequest request_overflows))

-- ---- all statements

-- those from PAIRS on
abbrev pub late_overflows : Overflow (grammar.alt IsPairs (grammar.alt IsAggregate
    (grammar.alt IsSession IsCheckpoint)))
late_overflows = either_overflow IsPairs
    (grammar.alt IsAggregate (grammar.alt IsSession IsCheckpoint)) pairs_overflows
    (either_overflow IsAggregate (grammar.alt IsSession IsCheckpoint) aggregate_overflows
    (either_overflow IsSession IsCheckpoint session_overflows (none_overflow IsCheckpoint)))

abbrev pub statement_overflows : Overflow IsStatement
statement_overflows = either_overflow IsWrite
    (grammar.alt IsQuery (grammar.alt IsExplain (grammar.alt IsShow
    (grammar.alt IsPairs (grammar.alt IsAggregate (grammar.alt IsSession IsCheckpoint))))))
    write_overflows
    (either_overflow IsQuery (grammar.alt IsExplain (grammar.alt IsShow
    (grammar.alt IsPairs (grammar.alt IsAggregate (grammar.alt IsSession IsCheckpoint)))))
    query_overflows
    (either_overflow IsExplain (grammar.alt IsShow
    (grammar.alt IsPairs (grammar.alt IsAggregate (grammar.alt IsSession IsCheckpoint))))
    explain_overflows
    (either_overflow IsShow (grammar.alt IsPairs (grammar.alt IsAggregate
    (grammar.alt IsSession IsCheckpoint))) show_overflows late_overflows)))
