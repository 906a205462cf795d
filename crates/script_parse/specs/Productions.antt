-- The grammar of statements: which lexemes spell which statement, and of what size it is. It stands
-- on the grammars of expressions, conditions, names, operators and queries.
use Rattle.std.specs.Prelude.{◌≡◌, ℕ, false, List, [], ◌∷◌, length, zip, codes}
use Rattle.prima_base.specs.declared.refusal.What.TheVariants.{Inverse}
use Rattle.prima_base.specs.declared.value.Value.{Value}
use Rattle.cond_expr.specs.Trees.{Tree, Test, always}
use Rattle.smo_ops_types.specs.Operators.{Operator}
use Rattle.smo_ops_types.specs.Changes.{PlainChange, insertion, deletion, update}
use Rattle.smo_ops_types.specs.Commands.{PlainBody, changing}
use Rattle.lexer_spec.specs.Lexemes.{word, sign}
use Rattle.lexer_combinators.specs.Grammar.{Grammar, AreMore, so_wide, nothing_counted}
use Rattle.lexer_combinators.specs.Grammar as grammar
use Rattle.lexer_trees_spec.specs.Grammar.{IsExpr, IsCond}
use Rattle.lexer_trees_spec.specs.Constants.{name_grammar, names_grammar, moment_grammar}
use Rattle.lexer_trees_spec.specs.Constants.{small_grammar}
use Rattle.lexer_trees_spec.specs.Constants.{constant_grammar}
use Rattle.lexer_trees_spec.specs.Where.{IsFreshWhere}
use Rattle.smo_parse.specs.Productions.{IsOperator}
use Rattle.temporal_lang_types.specs.Queries.{PlainQuery}
use Rattle.temporal_lang_grammar_spec.specs.QueryGrammar.{IsAsk, IsFullAsk}
use Rattle.temporal_lang_grammar_spec.specs.AggregateGrammar.{IsRelation, AreAggs}
use Rattle.sessions.specs.Requests.{Request, beginning, buffering, committing, aborting, opening}
use Rattle.sessions.specs.Requests.{fetching, closing}
use Rattle.script_parse.specs.Statements.{evolving_by, PlainStatement, write, ask, explain}
use Rattle.script_parse.specs.Statements.{show_versions}
use Rattle.script_parse.specs.Statements.{show_schema, show_sizes, checkpoint}
use Rattle.script_parse.specs.Statements.{pairs, aggregate, session, show_cursors}

-- ---- changes

-- const { , const } (as there is a name at least, there is a constant)
abbrev pub AreConstants : Grammar (List Value)
AreConstants [] s ts = (s ≡ nothing_counted) × (ts ≡ [])
AreConstants (v ∷ values) s ts = grammar.list (sign (codes ",")) constant_grammar (v ∷ values) s ts

-- so many of them
abbrev pub AreSoMany : ℕ → Grammar (List Value)
AreSoMany n values s ts = (length values ≡ n) × AreConstants values s ts

-- ( const { , const } ): as many constants as there are names, each for the name in its place
abbrev pub IsRow : List (List ℕ) → Grammar (List (List ℕ × Value))
IsRow names = grammar.lead (sign (codes "("))
    (grammar.seq (AreSoMany (length names)) (λ values.
    grammar.lead (sign (codes ")")) (grammar.pure (zip names values))))

-- INSERT INTO name ( names ) VALUES ( const { , const } )
abbrev pub IsInsert : Grammar PlainChange
IsInsert = grammar.lead (word (codes "INSERT"))
    (grammar.lead (word (codes "INTO")) (grammar.seq name_grammar
    (λ table. grammar.lead (sign (codes "("))
    (grammar.seq names_grammar (λ names. grammar.lead (sign (codes ")"))
    (grammar.lead (word (codes "VALUES")) (grammar.map (λ cells. insertion table cells)
    (IsRow names))))))))

-- DELETE FROM name [ WHERE cond ]
abbrev pub IsDelete : Grammar PlainChange
IsDelete = grammar.lead (word (codes "DELETE"))
    (grammar.lead (word (codes "FROM")) (grammar.seq name_grammar
    (λ table. grammar.map (λ c. deletion table c) (IsFreshWhere false))))

-- name = expr: the counts of an expression begin anew
abbrev pub IsSetting : Grammar (List ℕ × Tree)
IsSetting = grammar.seq name_grammar (λ column.
    grammar.lead (sign (codes "=")) (grammar.map (λ e. (column, e)) (grammar.fresh (IsExpr false))))

-- UPDATE name SET name = expr { , name = expr } [ WHERE cond ]
abbrev pub IsUpdate : Grammar PlainChange
IsUpdate = grammar.lead (word (codes "UPDATE"))
    (grammar.seq name_grammar (λ table. grammar.lead (word (codes "SET"))
    (grammar.seq (grammar.list (sign (codes ",")) IsSetting)
    (λ sets. grammar.map (λ c. update table sets c) (IsFreshWhere false)))))

abbrev pub IsChange : Grammar PlainChange
IsChange = grammar.alt IsInsert (grammar.alt IsDelete IsUpdate)

-- change { THEN change }
abbrev pub IsListOfChanges : Grammar (List PlainChange)
IsListOfChanges = grammar.list (word (codes "THEN")) IsChange

abbrev pub AreChanges : Grammar PlainBody
AreChanges = grammar.map (λ l. changing l) IsListOfChanges

-- ---- operators

-- an operator, with counts of its own
abbrev pub IsOp : Grammar Operator
IsOp = grammar.fresh IsOperator

-- op { THEN op }: they are counted
abbrev pub AreOps : Grammar (List Operator)
AreOps = grammar.seq IsOp (λ op. grammar.map (λ l. op ∷ l)
    (AreMore (word (codes "THEN")) (so_wide Inverse) IsOp 1))

-- [ INVERSE op { THEN op } ]: what is missing has none
abbrev pub IsInverse : Grammar (List Operator)
IsInverse = grammar.option [] (word (codes "INVERSE")) AreOps

-- EVOLVE op [ INVERSE op { THEN op } ]
abbrev pub IsEvolve : Grammar PlainBody
IsEvolve = grammar.lead (word (codes "EVOLVE"))
    (grammar.seq IsOp (λ op. grammar.map (λ inverse. evolving_by op inverse) IsInverse))

-- ---- statements

abbrev pub IsBody : Grammar PlainBody
IsBody = grammar.alt IsEvolve AreChanges

-- AT moment body
abbrev pub IsWrite : Grammar PlainStatement
IsWrite = grammar.lead (word (codes "AT")) (grammar.seq moment_grammar
    (λ stamp. grammar.map (λ body. write (record { stamp = stamp; body = body })) IsBody))

-- QUERY ask
abbrev pub IsQuery : Grammar PlainStatement
IsQuery = grammar.lead (word (codes "QUERY")) (grammar.map (λ q. ask q) IsAsk)

-- EXPLAIN QUERY ask
abbrev pub IsExplain : Grammar PlainStatement
IsExplain = grammar.lead (word (codes "EXPLAIN"))
    (grammar.lead (word (codes "QUERY")) (grammar.map (λ q. explain q) IsAsk))

-- SHOW VERSIONS
abbrev pub IsShowVersions : Grammar PlainStatement
IsShowVersions = grammar.lead (word (codes "SHOW"))
    (grammar.lead (word (codes "VERSIONS")) (grammar.pure show_versions))

-- SHOW SCHEMA small
abbrev pub IsShowSchema : Grammar PlainStatement
IsShowSchema = grammar.lead (word (codes "SHOW"))
    (grammar.lead (word (codes "SCHEMA")) (grammar.map (λ version. show_schema version)
    small_grammar))

-- SHOW SIZES
abbrev pub IsShowSizes : Grammar PlainStatement
IsShowSizes = grammar.lead (word (codes "SHOW"))
    (grammar.lead (word (codes "SIZES")) (grammar.pure show_sizes))

-- SHOW CURSORS
abbrev pub IsShowCursors : Grammar PlainStatement
IsShowCursors = grammar.lead (word (codes "SHOW"))
    (grammar.lead (word (codes "CURSORS")) (grammar.pure show_cursors))

-- SHOW, and what of the archive or of the sessions
abbrev pub IsShow : Grammar PlainStatement
IsShow = grammar.alt IsShowVersions (grammar.alt IsShowSchema
    (grammar.alt IsShowSizes IsShowCursors))

-- ( ask )
abbrev pub IsInBrackets : Grammar PlainQuery → Grammar PlainQuery
IsInBrackets G = grammar.lead (sign (codes "("))
    (grammar.seq G (λ q. grammar.lead (sign (codes ")")) (grammar.pure q)))

-- PAIRS ( ask ) relation ( ask )
abbrev pub IsPairs : Grammar PlainStatement
IsPairs = grammar.lead (word (codes "PAIRS")) (grammar.seq (IsInBrackets IsAsk)
    (λ left. grammar.seq IsRelation (λ relation. grammar.map (λ right. pairs left relation right)
    (IsInBrackets IsAsk))))

-- AGGREGATE agg { , agg } BY small ( full_ask )
abbrev pub IsAggregate : Grammar PlainStatement
IsAggregate = grammar.lead (word (codes "AGGREGATE")) (grammar.seq AreAggs
    (λ items. grammar.lead (word (codes "BY")) (grammar.seq small_grammar
    (λ group. grammar.map (λ q. aggregate items group q) (IsInBrackets IsFullAsk)))))

-- ---- sessions

-- BEGIN
abbrev pub IsBegin : Grammar Request
IsBegin = grammar.lead (word (codes "BEGIN")) (grammar.pure beginning)

-- DO change { THEN change }
abbrev pub IsDo : Grammar Request
IsDo = grammar.lead (word (codes "DO")) (grammar.map (λ l. buffering l) IsListOfChanges)

-- COMMIT AT moment
abbrev pub IsCommit : Grammar Request
IsCommit = grammar.lead (word (codes "COMMIT")) (grammar.lead (word (codes "AT"))
    (grammar.map (λ stamp. committing stamp) moment_grammar))

-- ABORT
abbrev pub IsAbort : Grammar Request
IsAbort = grammar.lead (word (codes "ABORT")) (grammar.pure aborting)

-- OPEN name ask
abbrev pub IsOpen : Grammar Request
IsOpen = grammar.lead (word (codes "OPEN")) (grammar.seq name_grammar
    (λ name. grammar.map (λ q. opening name q) IsAsk))

-- FETCH name small
abbrev pub IsFetch : Grammar Request
IsFetch = grammar.lead (word (codes "FETCH")) (grammar.seq name_grammar
    (λ name. grammar.map (λ count. fetching name count) small_grammar))

-- CLOSE name
abbrev pub IsClose : Grammar Request
IsClose = grammar.lead (word (codes "CLOSE")) (grammar.map (λ name. closing name) name_grammar)

abbrev pub IsRequest : Grammar Request
IsRequest = grammar.alt IsBegin (grammar.alt IsDo (grammar.alt IsCommit (grammar.alt IsAbort
    (grammar.alt IsOpen (grammar.alt IsFetch IsClose)))))

-- SESSION small, and what it asks for
abbrev pub IsSession : Grammar PlainStatement
IsSession = grammar.lead (word (codes "SESSION")) (grammar.seq small_grammar
    (λ s. grammar.map (λ request. session s request) IsRequest))

-- CHECKPOINT
abbrev pub IsCheckpoint : Grammar PlainStatement
IsCheckpoint = grammar.lead (word (codes "CHECKPOINT")) (grammar.pure checkpoint)

abbrev pub IsStatement : Grammar PlainStatement
IsStatement = grammar.alt IsWrite (grammar.alt IsQuery
    (grammar.alt IsExplain (grammar.alt IsShow
    (grammar.alt IsPairs (grammar.alt IsAggregate (grammar.alt IsSession IsCheckpoint))))))
