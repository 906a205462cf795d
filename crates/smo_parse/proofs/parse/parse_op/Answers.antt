use Rattle.std.proofs.Common.{sym, ap, ◌∙◌, subst, map, length, List}
use Rattle.smo_ops_types.specs.declared.op.Op.{Op}
use Rattle.smo_ops_types.specs.Operators.{operator_of}
use Rattle.lexer_combinators.specs.Found.{lexemes_from}
use Rattle.lexer_spec.specs.declared.token.Token.{Token}
use Rattle.lexer_spec.specs.Lexemes.{lexeme}
use Rattle.lexer_combinators.specs.Reads.{ahead, Fails}
use Rattle.lexer_combinators.proofs.Places.{length_map, got_fits, got_read, got_found, got_only}
use Rattle.lexer_combinators.proofs.Places.{got_exact, err_fits, err_found, err_only, err_exact}
use Rattle.lexer_combinators.proofs.OverflowSteps.{got_overflow, err_overflow, err_fault}
use Rattle.lexer_combinators.proofs.OverflowSteps.{counts_read}
use Rattle.lexer_combinators.proofs.OverflowSteps.{counts_sized}
use Rattle.smo_parse.specs.Productions.{IsOperator}
use Rattle.smo_parse.specs.OperatorReader.{operator, follow_operator}
use Rattle.smo_parse.specs.OperatorCounts.{operator_counts, operator_overflows}
use Rattle.smo_parse.proofs.OperatorCorrectness.{operator_correct}
use Rattle.smo_parse.proofs.OperatorCounted.{operator_counted, operator_length}
use Rattle.smo_parse.proofs.OperatorLongest.{operator_longest}
use Rattle.smo_parse.proofs.parse.parse_op.Goals as goal

pub overflow_sub-result : goal.overflow_sub-result
overflow_sub-result c = got_fits operator IsOperator follow_operator operator_correct
    c.args.list.now c.args.from c.requires (operator_of c.in-Ok.found) c.operator.new.c.nodes
    (ahead c.operator.new.c) (length c.operator.new.c.rest.now)
    (length_map lexeme c.operator.new.c.rest.now)
    (ap (λ l. operator 0 (map lexeme l)) (sym c.tail.ensures) ∙ c.in-Ok.ensures)

pub fault_at-requires : goal.fault_at-requires
fault_at-requires c = err_fits operator IsOperator follow_operator operator_correct c.args.list.now
    c.args.from c.requires c.operator.new.c c.in-Err.stop (let P : List Token
    → Type 0 = λ l. Fails (operator 0 (map lexeme l)) c.in-Err.stop c.operator.new.c in
    subst P c.tail.ensures c.in-Err.ensures)

pub returns-in-Ok-clause-read : goal.returns-in-Ok-clause-read
returns-in-Ok-clause-read c = got_read operator IsOperator follow_operator operator_correct
    c.args.list.now c.args.from c.requires (operator_of c.in-Ok.found) c.operator.new.c.nodes
    (ahead c.operator.new.c) (length c.operator.new.c.rest.now)
    (length_map lexeme c.operator.new.c.rest.now)
    (ap (λ l. operator 0 (map lexeme l)) (sym c.tail.ensures) ∙ c.in-Ok.ensures)

pub returns-in-Ok-clause-only : goal.returns-in-Ok-clause-only
returns-in-Ok-clause-only c = got_only operator IsOperator follow_operator operator_correct
    c.args.list.now c.args.from c.requires (operator_of c.in-Ok.found) c.operator.new.c.nodes
    (ahead c.operator.new.c) (length c.operator.new.c.rest.now)
    (length_map lexeme c.operator.new.c.rest.now)
    (ap (λ l. operator 0 (map lexeme l)) (sym c.tail.ensures) ∙ c.in-Ok.ensures)

pub returns-in-Ok-clause-exact : goal.returns-in-Ok-clause-exact
returns-in-Ok-clause-exact c = (
  c.operator.new.c.nodes,
  got_exact operator IsOperator follow_operator operator_correct c.args.list.now c.args.from
      c.requires (operator_of c.in-Ok.found) c.operator.new.c.nodes (ahead c.operator.new.c)
      (length c.operator.new.c.rest.now) (length_map lexeme c.operator.new.c.rest.now)
      (ap (λ l. operator 0 (map lexeme l)) (sym c.tail.ensures) ∙ c.in-Ok.ensures),
)

pub returns-in-Err-clause-only : goal.returns-in-Err-clause-only
returns-in-Err-clause-only c = err_only operator IsOperator follow_operator operator_correct
    c.args.list.now c.args.from c.requires c.operator.new.c operator_of c.in-Err.stop
    c.fault_at.result (let P : List Token → Type 0 = λ l.
    Fails (operator 0 (map lexeme l)) c.in-Err.stop c.operator.new.c in
    subst P c.tail.ensures c.in-Err.ensures) c.fault_at.ensures

pub returns-in-Err-clause-exact : goal.returns-in-Err-clause-exact
returns-in-Err-clause-exact c = err_exact operator IsOperator follow_operator operator_correct
    c.args.list.now c.args.from c.requires c.operator.new.c operator_of c.in-Err.stop
    c.fault_at.result (let P : List Token → Type 0 = λ l.
    Fails (operator 0 (map lexeme l)) c.in-Err.stop c.operator.new.c in
    subst P c.tail.ensures c.in-Err.ensures) c.fault_at.ensures

pub returns-in-Ok-clause-longest : goal.returns-in-Ok-clause-longest
returns-in-Ok-clause-longest c = λ o s prefix suffix w h ends.
    got_found operator IsOperator follow_operator operator_correct c.args.list.now c.args.from
    c.requires (operator_of c.in-Ok.found) c.operator.new.c.nodes (ahead c.operator.new.c)
    (length c.operator.new.c.rest.now) (length_map lexeme c.operator.new.c.rest.now)
    (ap (λ l. operator 0 (map lexeme l)) (sym c.tail.ensures) ∙ c.in-Ok.ensures) o s prefix suffix w
    (operator_longest o s prefix suffix (lexemes_from c.args.list.now c.args.from) w h ends)

pub returns-in-Err-clause-longest : goal.returns-in-Err-clause-longest
returns-in-Err-clause-longest c = λ o s prefix suffix w h ends.
    err_found operator IsOperator follow_operator operator_correct c.args.list.now c.args.from
    c.requires c.operator.new.c operator_of c.in-Err.stop c.fault_at.result (let P : List Token
    → Type 0 = λ l. Fails (operator 0 (map lexeme l)) c.in-Err.stop c.operator.new.c in
    subst P c.tail.ensures c.in-Err.ensures) c.fault_at.ensures o s prefix suffix
    (operator_longest o s prefix suffix (lexemes_from c.args.list.now c.args.from) w h ends)

pub returns-in-Err-clause-fault : goal.returns-in-Err-clause-fault
returns-in-Err-clause-fault c = err_fault operator IsOperator follow_operator operator_correct
    operator_overflows (counts_read operator IsOperator operator_counts operator_length
    operator_counted) (counts_sized operator IsOperator operator_counts operator_length)
    c.args.list.now c.args.from c.operator.new.c Op c.requires c.in-Err.stop c.fault_at.result
    (let P : List Token → Type 0 = λ l. Fails (operator 0 (map lexeme l)) c.in-Err.stop
    c.operator.new.c in subst P c.tail.ensures c.in-Err.ensures) c.fault_at.ensures

pub returns-in-Err-clause-over : goal.returns-in-Err-clause-over
returns-in-Err-clause-over c = err_overflow operator IsOperator follow_operator operator_correct
    operator_overflows (counts_read operator IsOperator operator_counts operator_length
    operator_counted) (counts_sized operator IsOperator operator_counts operator_length)
    c.args.list.now c.args.from c.operator.new.c Op c.in-Err.stop c.fault_at.result
    (let P : List Token → Type 0 = λ l. Fails (operator 0 (map lexeme l)) c.in-Err.stop
    c.operator.new.c in subst P c.tail.ensures c.in-Err.ensures) c.fault_at.ensures

pub returns-in-Ok-clause-over : goal.returns-in-Ok-clause-over
returns-in-Ok-clause-over c = got_overflow operator IsOperator follow_operator operator_correct
    operator_overflows (counts_read operator IsOperator operator_counts operator_length
    operator_counted) (counts_sized operator IsOperator operator_counts operator_length)
    c.args.list.now c.args.from (operator_of c.in-Ok.found) c.operator.new.c.nodes
    (ahead c.operator.new.c) (ap (λ l. operator 0 (map lexeme l)) (sym c.tail.ensures)
    ∙ c.in-Ok.ensures)
