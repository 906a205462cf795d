-- Reading statements, from left to right.
use Rattle.std.specs.Prelude.{ℕ, zero, suc, Bool, false, if◌then◌else◌, ◌||◌, List, [], ◌∷◌, length}
use Rattle.std.specs.Prelude.{zip, codes}
use Rattle.prima_base.specs.declared.refusal.What.TheVariants.{Inverse}
use Rattle.prima_base.specs.declared.value.Value.{Value}
use Rattle.cond_expr.specs.Trees.{Tree, Test, always}
use Rattle.smo_ops_types.specs.Operators.{Operator}
use Rattle.smo_ops_types.specs.Changes.{PlainChange, insertion, deletion, update}
use Rattle.smo_ops_types.specs.Commands.{PlainBody, changing}
use Rattle.lexer_spec.specs.Lexemes.{Lexeme, is_word, is_sign}
use Rattle.lexer_combinators.specs.Parsing.{Parser, Arm, No, Takes, Whole, bind, pure, map_to}
use Rattle.lexer_combinators.specs.Parsing.{lead, choose, option, more, many, fresh}
use Rattle.lexer_trees_spec.specs.Reader.{outermost, follow_expr, follow_cond}
use Rattle.lexer_trees_spec.specs.Constants.{name, names, moment, small, constant}
use Rattle.lexer_trees_spec.specs.Where.{fresh_where, follow_where}
use Rattle.smo_parse.specs.OperatorReader.{operator, follow_operator}
use Rattle.temporal_lang_types.specs.Queries.{PlainQuery}
use Rattle.temporal_lang_grammar_spec.specs.QueryReader as query
use Rattle.temporal_lang_grammar_spec.specs.AggregateReader.{relation, aggs}
use Rattle.sessions.specs.Requests.{Request, beginning, buffering, committing, aborting, opening}
use Rattle.sessions.specs.Requests.{fetching, closing}
use Rattle.script_parse.specs.Statements.{evolving_by, PlainStatement, write, ask, explain}
use Rattle.script_parse.specs.Statements.{show_versions}
use Rattle.script_parse.specs.Statements.{show_schema, show_sizes, checkpoint}
use Rattle.script_parse.specs.Statements.{pairs, aggregate, session, show_cursors}

-- ---- changes

-- so many more constants, after one
unfoldable pub more_constants : ℕ → Parser (List Value)
more_constants zero = pure []
more_constants (suc n) = lead (is_sign (codes ","))
    (bind constant (λ v. map_to (λ l. v ∷ l) (more_constants n)))

unfoldable pub constants : ℕ → Parser (List Value)
constants zero = pure []
constants (suc n) = bind constant (λ v. map_to (λ l. v ∷ l) (more_constants n))

-- a constant for each of these names
unfoldable pub row : List (List ℕ) → Parser (List (List ℕ × Value))
row ns = lead (is_sign (codes "(")) (bind (constants (length ns))
    (λ l. lead (is_sign (codes ")")) (pure (zip ns l))))

-- after INSERT
unfoldable pub insert_rest : Parser PlainChange
insert_rest = lead (is_word (codes "INTO")) (bind name
    (λ t. lead (is_sign (codes "(")) (bind names
    (λ ns. lead (is_sign (codes ")")) (lead (is_word (codes "VALUES"))
    (map_to (λ l. insertion t l) (row ns)))))))

-- after DELETE
unfoldable pub delete_rest : Parser PlainChange
delete_rest = lead (is_word (codes "FROM")) (bind name
    (λ t. map_to (λ c. deletion t c) (fresh_where false)))

unfoldable pub setting : Parser (List ℕ × Tree)
setting = bind name (λ n. lead (is_sign (codes "="))
    (map_to (λ e. (n, e)) (fresh (outermost false).expr)))

unfoldable pub settings : Parser (List (List ℕ × Tree))
settings = bind setting (λ s. map_to (λ l. s ∷ l) (many (is_sign (codes ",")) setting))

-- after UPDATE
unfoldable pub update_rest : Parser PlainChange
update_rest = bind name (λ t. lead (is_word (codes "SET"))
    (bind settings (λ l. map_to (λ c. update t l c) (fresh_where false))))

abbrev pub change_arm : Lexeme → Arm PlainChange
change_arm x =
    if is_word (codes "INSERT") x then Takes insert_rest
    else (if is_word (codes "DELETE") x then Takes delete_rest else
    (if is_word (codes "UPDATE") x then Takes update_rest else No))

unfoldable pub change : Parser PlainChange
change = choose change_arm

unfoldable pub changes : Parser (List PlainChange)
changes = bind change (λ c. map_to (λ l. c ∷ l) (many (is_word (codes "THEN")) change))

-- ---- operators

unfoldable pub op : Parser Operator
op = fresh operator

-- after INVERSE: eight at most
unfoldable pub ops : Parser (List Operator)
ops = bind op (λ o. map_to (λ l. o ∷ l) (more (is_word (codes "THEN")) Inverse op 7))

unfoldable pub inverse : Parser (List Operator)
inverse = option (is_word (codes "INVERSE")) (Takes ops) []

-- after EVOLVE
unfoldable pub evolve_rest : Parser PlainBody
evolve_rest = bind op (λ o. map_to (λ l. evolving_by o l) inverse)

-- ---- statements

abbrev pub body_arm : Lexeme → Arm PlainBody
body_arm x = if is_word (codes "EVOLVE") x then Takes evolve_rest
    else Whole (map_to (λ l. changing l) changes)

unfoldable pub body : Parser PlainBody
body = choose body_arm

-- after AT
unfoldable pub write_rest : Parser PlainStatement
write_rest = bind moment (λ m. map_to (λ b. write (record { stamp = m; body = b })) body)

-- after QUERY
unfoldable pub ask_rest : Parser PlainStatement
ask_rest = map_to (λ q. ask q) query.ask

-- after EXPLAIN
unfoldable pub explain_rest : Parser PlainStatement
explain_rest = lead (is_word (codes "QUERY")) (map_to (λ q. explain q) query.ask)

-- after SHOW SCHEMA
unfoldable pub schema_rest : Parser PlainStatement
schema_rest = map_to (λ version. show_schema version) small

abbrev pub show_arm : Lexeme → Arm PlainStatement
show_arm x =
    if is_word (codes "VERSIONS") x then Takes (pure show_versions)
    else (if is_word (codes "SCHEMA") x then Takes schema_rest else
    (if is_word (codes "SIZES") x then Takes (pure show_sizes)
    else (if is_word (codes "CURSORS") x then Takes (pure show_cursors) else No)))

-- after SHOW
unfoldable pub show_rest : Parser PlainStatement
show_rest = choose show_arm

unfoldable pub in_brackets : Parser PlainQuery → Parser PlainQuery
in_brackets p = lead (is_sign (codes "(")) (bind p (λ q. lead (is_sign (codes ")")) (pure q)))

-- after PAIRS
unfoldable pub pairs_rest : Parser PlainStatement
pairs_rest = bind (in_brackets query.ask) (λ left. bind relation
    (λ r. map_to (λ right. pairs left r right) (in_brackets query.ask)))

-- after AGGREGATE
unfoldable pub aggregate_rest : Parser PlainStatement
aggregate_rest = bind aggs (λ items. lead (is_word (codes "BY")) (bind small
    (λ group. map_to (λ q. aggregate items group q) (in_brackets query.full_ask))))

-- ---- sessions

-- after DO
unfoldable pub do_rest : Parser Request
do_rest = map_to (λ l. buffering l) changes

-- after COMMIT
unfoldable pub commit_rest : Parser Request
commit_rest = lead (is_word (codes "AT")) (map_to (λ m. committing m) moment)

-- after OPEN
unfoldable pub open_rest : Parser Request
open_rest = bind name (λ n. map_to (λ q. opening n q) query.ask)

-- after FETCH
unfoldable pub fetch_rest : Parser Request
fetch_rest = bind name (λ n. map_to (λ count. fetching n count) small)

-- after CLOSE
unfoldable pub close_rest : Parser Request
close_rest = map_to (λ n. closing n) name

abbrev pub request_arm : Lexeme → Arm Request
request_arm x =
    if is_word (codes "BEGIN") x then Takes (pure beginning)
    else (if is_word (codes "DO") x then Takes do_rest else
    (if is_word (codes "COMMIT") x then Takes commit_rest
    else (if is_word (codes "ABORT") x then Takes (pure aborting) else
    (if is_word (codes "OPEN") x then Takes open_rest
    else (if is_word (codes "FETCH") x then Takes fetch_rest else
    (if is_word (codes "CLOSE") x then Takes close_rest else No))))))

unfoldable pub request : Parser Request
request = choose request_arm

-- after SESSION
unfoldable pub session_rest : Parser PlainStatement
session_rest = bind small (λ s. map_to (λ r. session s r) request)

abbrev pub statement_arm : Lexeme → Arm PlainStatement
statement_arm x =
    if is_word (codes "AT") x then Takes write_rest
    else (if is_word (codes "QUERY") x then Takes ask_rest else
    (if is_word (codes "EXPLAIN") x then Takes explain_rest
    else (if is_word (codes "SHOW") x then Takes show_rest else
    (if is_word (codes "PAIRS") x then Takes pairs_rest
    else (if is_word (codes "AGGREGATE") x then Takes aggregate_rest else
    (if is_word (codes "SESSION") x then Takes session_rest
    else (if is_word (codes "CHECKPOINT") x then Takes (pure checkpoint) else No)))))))

unfoldable pub statement : Parser PlainStatement
statement = choose statement_arm

-- ---- what each goes on with

abbrev pub follow_settings : Lexeme → Bool
follow_settings x = is_sign (codes ",") x || follow_expr false x

abbrev pub follow_change : Lexeme → Bool
follow_change x = follow_settings x || follow_where false x

abbrev pub follow_changes : Lexeme → Bool
follow_changes x = is_word (codes "THEN") x || follow_change x

-- an operator alone, and with its inverse, whose last may be a JOIN
abbrev pub follow_ops : Lexeme → Bool
follow_ops x = is_word (codes "THEN") x || follow_operator x

abbrev pub follow_evolve : Lexeme → Bool
follow_evolve x = is_word (codes "INVERSE") x || follow_ops x

abbrev pub follow_body : Lexeme → Bool
follow_body x = follow_evolve x || follow_change x

abbrev pub follow_statement : Lexeme → Bool
follow_statement x = follow_body x || query.follow_ask x
