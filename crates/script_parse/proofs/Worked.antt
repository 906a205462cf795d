-- Worked rows: what texts by hand are read as.
use Rattle.std.specs.Prelude.{◌≡◌, ℕ, ◌∷◌, [], List, pos, negsuc, codes, refl}
use Rattle.prima_base.specs.declared.refusal.Refusal.TheVariants.{Syntax, TooMany}
use Rattle.prima_base.specs.declared.refusal.What.TheVariants.{Depth, Parts, Inverse, Tables}
use Rattle.prima_base.specs.declared.refusal.What.TheVariants.{Outputs, Branches, Keeps}
use Rattle.relations_spec.specs.Spans.{forever}
use Rattle.prima_base.specs.declared.keep.Keep.TheVariants.{Lasting, Covering}
use Rattle.prima_base.specs.declared.value.Value.{Value}
use Rattle.prima_base.specs.declared.value.Value.TheVariants.{Int, Text}
use Rattle.prima_base.specs.declared.value.ColType.TheVariants.{Int as INT, Text as TEXT}
use Rattle.cond_expr.specs.declared.expr.Whose.TheVariants.{Alias, Atom, Free}
use Rattle.cond_expr.specs.declared.expr.CmpOp.TheVariants.{Eq, Gt}
use Rattle.cond_expr.specs.Trees.{Tree, column, constant, always, compared}
use Rattle.smo_ops_types.specs.Operators.{nop, create_table, drop_table, rename_table, join_table}
use Rattle.smo_ops_types.specs.Changes.{insertion, deletion, update}
use Rattle.smo_ops_types.specs.Commands.{PlainBody, changing, evolving}
use Rattle.lexer_spec.specs.Bytes.{gap_len, gap_dash, scanned_from, text_value, quote_value}
use Rattle.lexer_spec.specs.Bytes.{text_from, text_quote}
use Rattle.lexer_spec.specs.Lexemes.{is_name}
use Rattle.lexer_combinators.specs.Parsing.{as_many, more, nodes_more}
use Rattle.lexer_trees_spec.specs.Constants.{name, names, small, moment, constant as const}
use Rattle.lexer_trees_spec.specs.Reader.{ref_rest, concat_rest, expr, comparison, bracketed, fact}
use Rattle.lexer_trees_spec.specs.Reader.{facts, conj, conjs, cond, outermost}
use Rattle.lexer_trees_spec.specs.Where.{outer_where, fresh_where}
use Rattle.smo_parse.specs.OperatorReader as smo
use Rattle.temporal_lang_types.specs.declared.when.When.TheVariants.{Always, AsOf, During}
use Rattle.plain_answers_spec.specs.Branches.{a_branch}
use Rattle.temporal_lang_types.specs.Queries.{PlainQuery, a_query}
use Rattle.temporal_lang_grammar_spec.specs.QueryReader as query
use Rattle.script_parse.specs.Statements.{ask, explain, write, show_versions, show_schema}
use Rattle.temporal_lang_types.specs.declared.relation.Relation.TheVariants.{Before, Meets}
use Rattle.temporal_lang_types.specs.declared.agg_item.AggItem.TheVariants.{Count, Min, Max, Sum}
use Rattle.temporal_lang_grammar_spec.specs.AggregateReader.{relation, agg, aggs, more_aggs}
use Rattle.temporal_lang_grammar_spec.specs.AggregateReader.{of_output}
use Rattle.sessions.specs.Requests.{beginning, buffering, committing, aborting, opening, fetching}
use Rattle.sessions.specs.Requests.{closing}
use Rattle.script_parse.specs.Statements.{show_sizes, show_cursors, checkpoint, pairs, aggregate}
use Rattle.script_parse.specs.Statements.{session}
use Rattle.script_parse.specs.Lexing.{lexed_from}
use Rattle.script_parse.specs.StatementReader.{more_constants, constants, row, insert_rest}
use Rattle.script_parse.specs.StatementReader.{delete_rest, setting, settings, update_rest, change}
use Rattle.script_parse.specs.StatementReader.{changes, op, ops, inverse, evolve_rest, body}
use Rattle.script_parse.specs.StatementReader.{write_rest, ask_rest, explain_rest, schema_rest}
use Rattle.script_parse.specs.StatementReader.{show_rest, statement, in_brackets, pairs_rest}
use Rattle.script_parse.specs.StatementReader.{aggregate_rest, session_rest, request, do_rest}
use Rattle.script_parse.specs.StatementReader.{commit_rest, open_rest, fetch_rest, close_rest}
use Rattle.script_parse.specs.Reading.{Reading, Blank, Refused, Whole, reading}

-- text = reading
abbrev Reads : List ℕ → Reading → Type 0
Reads text r = reading text ≡ r

-- no token, and lexical faults, which come first
blanks : Reads (codes "") Blank × Reads (codes " -- AT 1") Blank
    × Reads (codes "AT $ 'b") (Refused (Syntax 3))
    × Reads (codes "QUERY foo 18446744073709551616") (Refused (Syntax 10))
unfolding reading lexed_from gap_len gap_dash scanned_from text_value quote_value text_from
    text_quote
blanks = (refl, refl, refl, refl)

-- ---- queries

abbrev a : List ℕ
a = codes "a"

abbrev b : List ℕ
b = codes "b"

abbrev t : List ℕ
t = codes "t"

-- one branch over one table
abbrev from_t : ℕ → List Tree → List ℕ → PlainQuery
from_t version outs named = a_query version (a_branch outs ((t, named) ∷ []) always ∷ []) Always []

queries :
    Reads (codes "QUERY VERSION 1 SELECT a FROM t") (Whole (ask (from_t 1 (column Free a ∷ []) t)))
    × Reads (codes "QUERY VERSION 007 SELECT b.a,b FROM t b ")
    (Whole (ask (from_t 7 (column (Alias b) a ∷ column Free b ∷ []) b)))
    × Reads (codes "QUERY VERSION 4294967296 SELECT a FROM t") (Refused (Syntax 14))
    × Reads (codes "QUERY VERSION 1 SELECT FROM t") (Refused (Syntax 23))
    × Reads (codes "QUERY VERSION 1 SELECT a ") (Refused (Syntax 25))
unfolding reading lexed_from gap_len gap_dash scanned_from is_name name small more statement
    ask_rest
    query.ask query.branches query.branch query.outputs query.output query.items query.item
    query.alias fresh_where expr ref_rest outermost query.when_part query.as_of query.range
    query.during query.keeping
queries = (refl, refl, refl, refl, refl)

-- several branches and items, and conditions of KEEP
wide_queries :
    Reads (codes
    "QUERY VERSION 2 SELECT a FROM t, t b UNION SELECT b FROM b DURING 1 TO now KEEP LASTING 2 TO 3 AND COVERING 1")
    (Whole (ask (a_query 2 (a_branch (column Free a ∷ []) ((t, t) ∷ (t, b) ∷ []) always
    ∷ a_branch (column Free b ∷ []) ((b, b) ∷ []) always ∷ []) (During 1 forever)
    (Lasting 2 3 ∷ Covering 1 ∷ []))))
    × Reads (codes "QUERY VERSION 1 SELECT a FROM t AS OF now")
    (Whole (ask (a_query 1 (a_branch (column Free a ∷ []) ((t, t) ∷ []) always ∷ [])
    (AsOf 18446744073709551614) [])))
    × Reads (codes "QUERY VERSION 1 SELECT a FROM t AS OF 1 KEEP COVERING 1") (Refused (Syntax 40))
    × Reads (codes "QUERY VERSION 1 SELECT a FROM t KEEP STARTING now TO now") (Refused (Syntax 46))
    × Reads (codes "QUERY VERSION 1 SELECT a FROM t,t,t,t,t,t,t,t,") (Refused (TooMany Tables 8))
    × Reads (codes
    "QUERY VERSION 1 SELECT 1,1,1,1,1,1,1,1,1,1,1,1,1,1,1,1,1,1,1,1,1,1,1,1,1,1,1,1,1,1,1,1,")
    (Refused (TooMany Outputs 32))
    × Reads (codes
    "QUERY VERSION 1 SELECT a FROM t KEEP COVERING 1 AND COVERING 1 AND COVERING 1 AND COVERING 1 AND COVERING 1 AND COVERING 1 AND COVERING 1 AND COVERING 1 AND")
    (Refused (TooMany Keeps 8))
unfolding reading lexed_from gap_len gap_dash scanned_from is_name name small moment more statement
    ask_rest query.ask query.branches query.branch query.outputs query.output query.items query.item
    query.alias fresh_where expr ref_rest outermost query.when_part query.as_of query.range
    query.during query.keeping query.keeps query.keep query.between query.covering query.bounds
    query.moment_or
wide_queries = (refl, refl, refl, refl, refl, refl, refl)

-- the UNION before a seventeenth branch
many_branches : Reads
    (codes
    "QUERY VERSION 1 SELECT 1 FROM t UNION SELECT 1 FROM t UNION SELECT 1 FROM t UNION SELECT 1 FROM t UNION SELECT 1 FROM t UNION SELECT 1 FROM t UNION SELECT 1 FROM t UNION SELECT 1 FROM t UNION SELECT 1 FROM t UNION SELECT 1 FROM t UNION SELECT 1 FROM t UNION SELECT 1 FROM t UNION SELECT 1 FROM t UNION SELECT 1 FROM t UNION SELECT 1 FROM t UNION SELECT 1 FROM t UNION")
    (Refused (TooMany Branches 16))
unfolding reading lexed_from gap_len gap_dash scanned_from is_name name small more statement
    ask_rest
    query.ask query.branches query.branch query.outputs query.output query.items query.item
    query.alias fresh_where expr ref_rest outermost
many_branches = refl

explained :
    Reads (codes "EXPLAIN QUERY VERSION 1 SELECT a FROM t")
    (Whole (explain (from_t 1 (column Free a ∷ []) t)))
    × Reads (codes "EXPLAIN VERSION 1 SELECT a FROM t") (Refused (Syntax 8))
    × Reads (codes "EXPLAIN EXPLAIN QUERY VERSION 1 SELECT a FROM t") (Refused (Syntax 8))
    × Reads (codes "EXPLAIN QUERY") (Refused (Syntax 13))
    × Reads (codes "EXPLAIN SHOW VERSIONS") (Refused (Syntax 8))
unfolding reading lexed_from gap_len gap_dash scanned_from is_name name small more statement
    explain_rest query.ask query.branches query.branch query.outputs query.output query.items
    query.item query.alias fresh_where expr ref_rest outermost query.when_part query.as_of
    query.range query.during query.keeping
explained = (refl, refl, refl, refl, refl)

-- a relation's word is a name elsewhere
paired :
    Reads (codes "PAIRS (VERSION 1 SELECT a FROM t) BEFORE (VERSION 2 SELECT b FROM t)")
    (Whole (pairs (from_t 1 (column Free a ∷ []) t) Before (from_t 2 (column Free b ∷ []) t)))
    × Reads (codes "PAIRS (VERSION 1 SELECT a FROM t BEFORE) MEETS (VERSION 1 SELECT a FROM t)")
    (Whole (pairs (from_t 1 (column Free a ∷ []) (codes "BEFORE")) Meets
    (from_t 1 (column Free a ∷ []) t)))
    × Reads (codes "PAIRS (VERSION 1 SELECT a FROM t) AFTER (VERSION 1 SELECT a FROM t)")
    (Refused (Syntax 34))
unfolding reading lexed_from gap_len gap_dash scanned_from is_name name small more statement
    pairs_rest in_brackets relation query.ask query.branches query.branch query.outputs query.output
    query.items query.item query.alias fresh_where expr ref_rest outermost query.when_part
    query.as_of query.range query.during query.keeping
paired = (refl, refl, refl)

-- a KEEP is refused at its word, and a ninth aggregate at its comma
aggregated :
    Reads (codes "AGGREGATE COUNT, MIN 1 BY 0 (VERSION 1 SELECT a FROM t DURING 1 TO now)")
    (Whole (aggregate (Count ∷ Min 1 ∷ []) 0 (a_query 1
    (a_branch (column Free a ∷ []) ((t, t) ∷ []) always ∷ []) (During 1 forever) [])))
    × Reads (codes "AGGREGATE MAX 2, SUM 1 BY 3 (VERSION 1 SELECT a FROM t)")
    (Whole (aggregate (Max 2 ∷ Sum 1 ∷ []) 3 (from_t 1 (column Free a ∷ []) t)))
    × Reads (codes "AGGREGATE COUNT BY 0 (VERSION 1 SELECT a FROM t KEEP COVERING 1)")
    (Refused (Syntax 48))
    × Reads (codes "AGGREGATE MIN BY 0 (VERSION 1 SELECT a FROM t)") (Refused (Syntax 14))
    × Reads (codes "AGGREGATE SUM 1 BY 2 (VERSION 1 SELECT a FROM t") (Refused (Syntax 47))
    × Reads (codes
    "AGGREGATE COUNT,COUNT,COUNT,COUNT,COUNT,COUNT,COUNT,COUNT,COUNT BY 0 (VERSION 1 SELECT a FROM t)")
    (Refused (Syntax 57))
unfolding reading lexed_from gap_len gap_dash scanned_from is_name name small moment more statement
    aggregate_rest in_brackets aggs more_aggs agg of_output query.full_ask query.branches
    query.branch query.outputs query.output query.items query.item query.alias fresh_where expr
    ref_rest outermost query.moments query.as_of query.during query.bounds query.moment_or
aggregated = (refl, refl, refl, refl, refl, refl)

shown :
    Reads (codes "SHOW VERSIONS") (Whole show_versions)
    × Reads (codes "SHOW SCHEMA 07") (Whole (show_schema 7))
    × Reads (codes "SHOW SCHEMA 4294967296") (Refused (Syntax 12))
    × Reads (codes "SHOW SIZES") (Whole show_sizes)
    × Reads (codes "SHOW CURSORS") (Whole show_cursors)
    × Reads (codes "SHOW TABLE") (Refused (Syntax 5))
    × Reads (codes "SHOW SIZES 1") (Refused (Syntax 11))
unfolding reading lexed_from gap_len gap_dash scanned_from small statement show_rest schema_rest
shown = (refl, refl, refl, refl, refl, refl, refl)

-- what sessions ask for; its words are names elsewhere
asked :
    Reads (codes "SESSION 1 BEGIN") (Whole (session 1 beginning))
    × Reads (codes "SESSION 2 DO DELETE FROM DO THEN DELETE FROM t")
    (Whole (session 2 (buffering (deletion (codes "DO") always ∷ deletion t always ∷ []))))
    × Reads (codes "SESSION 2 COMMIT AT 6") (Whole (session 2 (committing 6)))
    × Reads (codes "SESSION 0 ABORT") (Whole (session 0 aborting))
    × Reads (codes "SESSION 1 OPEN c VERSION 1 SELECT a FROM t")
    (Whole (session 1 (opening (codes "c") (from_t 1 (column Free a ∷ []) t))))
    × Reads (codes "SESSION 1 FETCH FETCH 5") (Whole (session 1 (fetching (codes "FETCH") 5)))
    × Reads (codes "SESSION 1 CLOSE c") (Whole (session 1 (closing (codes "c"))))
    × Reads (codes "SESSION 4294967296 BEGIN") (Refused (Syntax 8))
    × Reads (codes "SESSION 1 COMMIT AT now") (Refused (Syntax 20))
    × Reads (codes "SESSION 1 FETCH c") (Refused (Syntax 17))
    × Reads (codes "SESSION 1 DO EVOLVE NOP") (Refused (Syntax 13))
unfolding reading lexed_from gap_len gap_dash scanned_from is_name name small moment as_many more
    statement session_rest request do_rest commit_rest open_rest fetch_rest close_rest changes change
    delete_rest query.ask query.branches query.branch query.outputs query.output query.items
    query.item query.alias fresh_where expr ref_rest outermost query.when_part query.as_of
    query.range query.during query.keeping
asked = (refl, refl, refl, refl, refl, refl, refl, refl, refl, refl, refl)

-- the word alone, which no name spells
checkpoints :
    Reads (codes "CHECKPOINT") (Whole checkpoint)
    × Reads (codes "CHECKPOINT 1") (Refused (Syntax 11))
    × Reads (codes "checkpoint") (Refused (Syntax 0))
    × Reads (codes "AT 1 CHECKPOINT") (Refused (Syntax 5))
    × Reads (codes "SHOW CHECKPOINT") (Refused (Syntax 5))
unfolding reading lexed_from gap_len gap_dash scanned_from moment statement write_rest body changes
    change show_rest
checkpoints = (refl, refl, refl, refl, refl)

-- ---- commands

abbrev at : ℕ → PlainBody → Reading
at stamp does = Whole (write (record { stamp = stamp; body = does }))

abbrev number : ℕ → Value
number n = Int (pos n)

abbrev col : List ℕ → Tree
col n = column (Atom 0) n

evolutions :
    Reads (codes "AT 1EVOLVE CREATE TABLE t (a INT, b TEXT)")
    (at 1 (evolving (create_table t ((a, INT) ∷ (b, TEXT) ∷ []) ∷ []) []))
    × Reads (codes "AT -0 EVOLVE NOP INVERSE NOP") (at 0 (evolving (nop ∷ []) ((nop ∷ []) ∷ [])))
    × Reads (codes
    "AT 2 EVOLVE RENAME TABLE t INTO b INVERSE JOIN TABLE a, b INTO t THEN DROP TABLE a")
    (at 2 (evolving (rename_table t b ∷ []) ((join_table a b t always ∷ []) ∷ (drop_table a ∷ [])
    ∷ [])))
    × Reads (codes "AT 18446744073709551615 EVOLVE CREATE TABLE t (a INT)") (Refused (Syntax 3))
    × Reads (codes "AT 1 EVOLVE CREATE TABLE t ()") (Refused (Syntax 28))
    × Reads (codes "AT 1 EVOLVE NOP THEN NOP") (Refused (Syntax 16))
    × Reads (codes "AT 1 EVOLVE NOP INVERSE") (Refused (Syntax 23))
    × Reads (codes
    "AT 1 EVOLVE NOP INVERSE NOP THEN NOP THEN NOP THEN NOP THEN NOP THEN NOP THEN NOP THEN NOP THEN")
    (Refused (TooMany Inverse 8))
    × Reads (codes
    "AT 1 EVOLVE NOP INVERSE NOP THEN NOP THEN NOP THEN NOP THEN NOP THEN NOP THEN NOP THEN NOP NOP")
    (Refused (Syntax 91))
unfolding reading lexed_from gap_len gap_dash scanned_from is_name name moment as_many more
    statement
    write_rest body evolve_rest inverse ops op smo.operator smo.create_rest smo.columns smo.column
    smo.column_type smo.rename_rest smo.rename_table_rest smo.join_rest outer_where smo.drop_rest
    smo.drop_table_rest
evolutions = (refl, refl, refl, refl, refl, refl, refl, refl, refl)

insertions :
    Reads (codes "AT 5 INSERT INTO t (a, b) VALUES (1, 'it''s')")
    (at 5 (changing (insertion t ((a, number 1) ∷ (b, Text (codes "it's")) ∷ []) ∷ [])))
    × Reads (codes "AT 5 INSERT INTO t (a) VALUES (1) THEN DELETE FROM t")
    (at 5 (changing (insertion t ((a, number 1) ∷ []) ∷ deletion t always ∷ [])))
    × Reads (codes "AT 5 INSERT INTO t (a, b) VALUES (1)") (Refused (Syntax 35))
    × Reads (codes "AT 5 INSERT INTO t (a) VALUES (1, 2)") (Refused (Syntax 32))
unfolding reading lexed_from gap_len gap_dash scanned_from text_value quote_value text_from
    text_quote
    is_name name names moment const as_many statement write_rest body changes change insert_rest row
    constants more_constants delete_rest fresh_where
insertions = (refl, refl, refl, refl)

conditions :
    Reads (codes "AT 5 DELETE FROM t WHERE a > -1")
    (at 5 (changing (deletion t (compared Gt (col a) (constant (Int (negsuc 0)))) ∷ [])))
    × Reads (codes "AT 5 UPDATE t SET a = b, b = 2 WHERE a = b")
    (at 5 (changing (update t ((a, col b) ∷ (b, constant (number 2)) ∷ [])
    (compared Eq (col a) (col b)) ∷ [])))
    × Reads (codes "AT 5 UPDATE t SET a = 1")
    (at 5 (changing (update t ((a, constant (number 1)) ∷ []) always ∷ [])))
    × Reads (codes "AT 5 UPDATE t SET a = t.b") (Refused (Syntax 23))
    × Reads (codes "AT 5 DELETE FROM t WHERE ((((((((((((((((((((((((((((((((( x")
    (Refused (TooMany Depth 32))
    × Reads (codes "AT 5 UPDATE t SET a = CONCAT(1,2,3,4,5,6,7,8,9)") (Refused (TooMany Parts 8))
unfolding reading lexed_from gap_len gap_dash scanned_from is_name name moment as_many statement
    write_rest body changes change delete_rest update_rest settings setting fresh_where ref_rest
    concat_rest expr comparison bracketed fact facts conj conjs cond outermost more nodes_more
conditions = (refl, refl, refl, refl, refl, refl)
