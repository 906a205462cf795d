use Rattle.std.proofs.Common.{Err}
use Rattle.script_parse.proofs.AnswersRead.{given_reading, given_one, given_read, given_over}
use Rattle.script_parse.proofs.TokenReading.{text_answer, text_faulty}
use Rattle.script_parse.proofs.statement_reader.next_statement.Goals as goal

pub returns-in-Ok-clause-read : goal.returns-in-Ok-clause-read
returns-in-Ok-clause-read c = given_reading c.args.text.now c.read_tokens.result
    (text_answer c.args.text.now c.in-Ok.list.items c.deref.result.now c.read_tokens.result
    c.in-Ok.ensures.ok c.deref.ensures.value c.read_tokens.ensures)

pub returns-in-Ok-clause-one : goal.returns-in-Ok-clause-one
returns-in-Ok-clause-one c = given_one c.args.text.now c.read_tokens.result
    (text_answer c.args.text.now c.in-Ok.list.items c.deref.result.now c.read_tokens.result
    c.in-Ok.ensures.ok c.deref.ensures.value c.read_tokens.ensures)

pub returns-in-Ok-clause-only : goal.returns-in-Ok-clause-only
returns-in-Ok-clause-only c = given_read c.args.text.now c.read_tokens.result
    (text_answer c.args.text.now c.in-Ok.list.items c.deref.result.now c.read_tokens.result
    c.in-Ok.ensures.ok c.deref.ensures.value c.read_tokens.ensures)

pub returns-in-Ok-clause-exact : goal.returns-in-Ok-clause-exact
returns-in-Ok-clause-exact c = text_answer c.args.text.now c.in-Ok.list.items c.deref.result.now
    c.read_tokens.result c.in-Ok.ensures.ok c.deref.ensures.value c.read_tokens.ensures

pub returns-in-Err-clause-read : goal.returns-in-Err-clause-read
returns-in-Err-clause-read c = given_reading c.args.text.now (Err c.lexical.result)
    (text_faulty c.args.text.now c.in-Err.fault c.lexical.result c.in-Err.ensures.err
    c.lexical.ensures)

pub returns-in-Err-clause-one : goal.returns-in-Err-clause-one
returns-in-Err-clause-one c = given_one c.args.text.now (Err c.lexical.result)
    (text_faulty c.args.text.now c.in-Err.fault c.lexical.result c.in-Err.ensures.err
    c.lexical.ensures)

pub returns-in-Err-clause-only : goal.returns-in-Err-clause-only
returns-in-Err-clause-only c = given_read c.args.text.now (Err c.lexical.result)
    (text_faulty c.args.text.now c.in-Err.fault c.lexical.result c.in-Err.ensures.err
    c.lexical.ensures)

pub returns-in-Err-clause-exact : goal.returns-in-Err-clause-exact
returns-in-Err-clause-exact c = text_faulty c.args.text.now c.in-Err.fault c.lexical.result
    c.in-Err.ensures.err c.lexical.ensures

pub returns-in-Ok-clause-over : goal.returns-in-Ok-clause-over
returns-in-Ok-clause-over c = given_over c.args.text.now c.read_tokens.result
    (text_answer c.args.text.now c.in-Ok.list.items c.deref.result.now c.read_tokens.result
    c.in-Ok.ensures.ok c.deref.ensures.value c.read_tokens.ensures)

pub returns-in-Err-clause-over : goal.returns-in-Err-clause-over
returns-in-Err-clause-over c = given_over c.args.text.now (Err c.lexical.result)
    (text_faulty c.args.text.now c.in-Err.fault c.lexical.result c.in-Err.ensures.err
    c.lexical.ensures)
