use Rattle.std.proofs.Common.{sym, ap, ◌∙◌, subst, map, length, List}
use Rattle.lexer_combinators.specs.Found.{lexemes_from}
use Rattle.lexer_combinators.proofs.OverflowSteps.{got_overflow, err_overflow, err_fault}
use Rattle.lexer_combinators.proofs.OverflowSteps.{back_reads}
use Rattle.temporal_lang_types.specs.declared.query.Query.{Query}
use Rattle.temporal_lang_types.specs.Queries.{query_of}
use Rattle.lexer_spec.specs.declared.token.Token.{Token}
use Rattle.lexer_spec.specs.Lexemes.{lexeme}
use Rattle.lexer_combinators.specs.Reads.{ahead, Fails}
use Rattle.lexer_combinators.proofs.Places.{length_map, got_fits, got_read, got_found, got_only}
use Rattle.lexer_combinators.proofs.Places.{got_exact, err_fits, err_found, err_only, err_exact}
use Rattle.temporal_lang_grammar_spec.specs.QueryGrammar.{IsAsk}
use Rattle.temporal_lang_grammar_spec.specs.QueryReader.{ask, follow_ask}
use Rattle.temporal_lang_grammar_spec.proofs.QueryCorrectness.{ask_correct}
use Rattle.temporal_lang_grammar_spec.specs.QueryOverflows.{ask_overflows}
use Rattle.temporal_lang_grammar_spec.proofs.QueryAlong.{ask_whole, ask_sized}
use Rattle.temporal_lang_grammar_spec.proofs.QueryLongest.{ask_longest}
use Rattle.temporal_lang.proofs.parse.parse_query.Goals as goal

pub overflow_sub-result : goal.overflow_sub-result
overflow_sub-result c = got_fits ask IsAsk follow_ask ask_correct c.args.list.now c.args.from
    c.requires (query_of c.in-Ok.found) c.ask.new.c.nodes (ahead c.ask.new.c)
    (length c.ask.new.c.rest.now) (length_map lexeme c.ask.new.c.rest.now)
    (ap (λ l. ask 0 (map lexeme l)) (sym c.tail.ensures) ∙ c.in-Ok.ensures)

pub fault_at-requires : goal.fault_at-requires
fault_at-requires c = err_fits ask IsAsk follow_ask ask_correct c.args.list.now c.args.from
    c.requires c.ask.new.c c.in-Err.stop (let P : List Token
    → Type 0 = λ l. Fails (ask 0 (map lexeme l)) c.in-Err.stop c.ask.new.c in
    subst P c.tail.ensures c.in-Err.ensures)

pub returns-in-Ok-clause-read : goal.returns-in-Ok-clause-read
returns-in-Ok-clause-read c = got_read ask IsAsk follow_ask ask_correct c.args.list.now c.args.from
    c.requires (query_of c.in-Ok.found) c.ask.new.c.nodes (ahead c.ask.new.c)
    (length c.ask.new.c.rest.now) (length_map lexeme c.ask.new.c.rest.now)
    (ap (λ l. ask 0 (map lexeme l)) (sym c.tail.ensures) ∙ c.in-Ok.ensures)

pub returns-in-Ok-clause-only : goal.returns-in-Ok-clause-only
returns-in-Ok-clause-only c = got_only ask IsAsk follow_ask ask_correct c.args.list.now c.args.from
    c.requires (query_of c.in-Ok.found) c.ask.new.c.nodes (ahead c.ask.new.c)
    (length c.ask.new.c.rest.now) (length_map lexeme c.ask.new.c.rest.now)
    (ap (λ l. ask 0 (map lexeme l)) (sym c.tail.ensures) ∙ c.in-Ok.ensures)

pub returns-in-Ok-clause-exact : goal.returns-in-Ok-clause-exact
returns-in-Ok-clause-exact c = (
  c.ask.new.c.nodes,
  got_exact ask IsAsk follow_ask ask_correct c.args.list.now c.args.from c.requires
      (query_of c.in-Ok.found) c.ask.new.c.nodes (ahead c.ask.new.c) (length c.ask.new.c.rest.now)
      (length_map lexeme c.ask.new.c.rest.now) (ap (λ l. ask 0 (map lexeme l)) (sym c.tail.ensures)
      ∙ c.in-Ok.ensures),
)

pub returns-in-Err-clause-only : goal.returns-in-Err-clause-only
returns-in-Err-clause-only c = err_only ask IsAsk follow_ask ask_correct c.args.list.now c.args.from
    c.requires c.ask.new.c query_of c.in-Err.stop c.fault_at.result (let P : List Token
    → Type 0 = λ l. Fails (ask 0 (map lexeme l)) c.in-Err.stop c.ask.new.c in
    subst P c.tail.ensures c.in-Err.ensures) c.fault_at.ensures

pub returns-in-Err-clause-exact : goal.returns-in-Err-clause-exact
returns-in-Err-clause-exact c = err_exact ask IsAsk follow_ask ask_correct c.args.list.now
    c.args.from c.requires c.ask.new.c query_of c.in-Err.stop c.fault_at.result (let P : List Token
    → Type 0 = λ l. Fails (ask 0 (map lexeme l)) c.in-Err.stop c.ask.new.c in
    subst P c.tail.ensures c.in-Err.ensures) c.fault_at.ensures

pub returns-in-Ok-clause-longest : goal.returns-in-Ok-clause-longest
returns-in-Ok-clause-longest c = λ o s prefix suffix w h ends.
    got_found ask IsAsk follow_ask ask_correct c.args.list.now c.args.from c.requires
    (query_of c.in-Ok.found) c.ask.new.c.nodes (ahead c.ask.new.c) (length c.ask.new.c.rest.now)
    (length_map lexeme c.ask.new.c.rest.now) (ap (λ l. ask 0 (map lexeme l)) (sym c.tail.ensures)
    ∙ c.in-Ok.ensures) o s prefix suffix w (ask_longest o s prefix suffix
    (lexemes_from c.args.list.now c.args.from) w h ends)

pub returns-in-Err-clause-longest : goal.returns-in-Err-clause-longest
returns-in-Err-clause-longest c = λ o s prefix suffix w h ends.
    err_found ask IsAsk follow_ask ask_correct c.args.list.now c.args.from c.requires c.ask.new.c
    query_of c.in-Err.stop c.fault_at.result (let P : List Token
    → Type 0 = λ l. Fails (ask 0 (map lexeme l)) c.in-Err.stop c.ask.new.c in
    subst P c.tail.ensures c.in-Err.ensures) c.fault_at.ensures o s prefix suffix
    (ask_longest o s prefix suffix (lexemes_from c.args.list.now c.args.from) w h ends)

pub returns-in-Err-clause-fault : goal.returns-in-Err-clause-fault
returns-in-Err-clause-fault c =
    let fails : Fails (ask 0 (lexemes_from c.args.list.now c.args.from)) c.in-Err.stop c.ask.new.c =
    (let P : List Token → Type 0 = λ l. Fails (ask 0 (map lexeme l)) c.in-Err.stop
    c.ask.new.c in subst P c.tail.ensures c.in-Err.ensures) in
    err_fault ask IsAsk follow_ask ask_correct ask_overflows
    (back_reads ask IsAsk ask_overflows ask_whole) ask_sized c.args.list.now c.args.from
    c.ask.new.c Query c.requires c.in-Err.stop c.fault_at.result fails c.fault_at.ensures

pub returns-in-Err-clause-over : goal.returns-in-Err-clause-over
returns-in-Err-clause-over c = err_overflow ask IsAsk follow_ask ask_correct ask_overflows
    (back_reads ask IsAsk ask_overflows ask_whole) ask_sized c.args.list.now c.args.from c.ask.new.c
    Query c.in-Err.stop c.fault_at.result (let P : List Token
    → Type 0 = λ l. Fails (ask 0 (map lexeme l)) c.in-Err.stop c.ask.new.c in
    subst P c.tail.ensures c.in-Err.ensures) c.fault_at.ensures

pub returns-in-Ok-clause-over : goal.returns-in-Ok-clause-over
returns-in-Ok-clause-over c = got_overflow ask IsAsk follow_ask ask_correct ask_overflows
    (back_reads ask IsAsk ask_overflows ask_whole) ask_sized c.args.list.now c.args.from
    (query_of c.in-Ok.found) c.ask.new.c.nodes (ahead c.ask.new.c)
    (ap (λ l. ask 0 (map lexeme l)) (sym c.tail.ensures) ∙ c.in-Ok.ensures)
