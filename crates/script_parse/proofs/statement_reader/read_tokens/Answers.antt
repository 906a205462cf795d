use Rattle.std.proofs.Common.{◌<◌, length, map, subst, arith}
use Rattle.std.proofs.lemmas.Bool.Decides.{nat_tests}
use Rattle.lexer_combinators.specs.declared.cursor.Stop.{Stop}
use Rattle.lexer_spec.specs.Lexemes.{lexeme}
use Rattle.lexer_combinators.specs.Reads.{Fails}
use Rattle.script_parse.specs.Statements.{statement_of}
use Rattle.script_parse.specs.StatementReader.{statement}
use Rattle.script_parse.proofs.TokenReading.{got_fits, stuck_fits, got_whole, got_more, stuck_there}
use Rattle.script_parse.proofs.TokenReading.{over_there}
use Rattle.script_parse.proofs.statement_reader.read_tokens.Goals as goal

pub place_of-requires-clause-fits : goal.place_of-requires-clause-fits
place_of-requires-clause-fits c = got_fits c.args.list.now c.statement-found.new.c.rest.now
    c.args.end (statement_of c.in-Ok.whole) c.statement-found.new.c.nodes c.in-Ok.ensures

pub place_of-requires-in-Unexpected-clause-fits : goal.place_of-requires-in-Unexpected-clause-fits
place_of-requires-in-Unexpected-clause-fits c =
    let P : Stop → Type 0 = λ s. Fails (statement 0 (map lexeme c.args.list.now)) s
    c.statement-found.new.c in
    stuck_fits c.args.list.now c.statement-found.new.c.rest.now c.args.end
    c.statement-found.new.c.nodes (subst P c.in-Unexpected.is c.in-Err.ensures)

pub returns-then-left-eq0 : goal.returns-then-left-eq0
returns-then-left-eq0 c =
    let some : 0 < length c.args.list.now = grind (arith, nat_tests) in
    got_whole c.args.list.now c.statement-found.new.c.rest.now c.args.end some
    (statement_of c.in-Ok.whole) c.statement-found.new.c.nodes c.in-Ok.ensures
    c.if-left-eq0.true

pub returns-else-left-eq0 : goal.returns-else-left-eq0
returns-else-left-eq0 c =
    let some : 0 < length c.args.list.now = grind (arith, nat_tests) in
    let left : 0 < length c.statement-found.new.c.rest.now = omega arith in
    got_more c.args.list.now c.statement-found.new.c.rest.now c.args.end some
    (statement_of c.in-Ok.whole) c.statement-found.new.c.nodes c.in-Ok.ensures left
    c.place_of.result c.place_of.ensures

pub returns-in-Unexpected : goal.returns-in-Unexpected
returns-in-Unexpected c =
    let some : 0 < length c.args.list.now = grind (arith, nat_tests) in
    let P : Stop → Type 0 = λ s. Fails (statement 0 (map lexeme c.args.list.now)) s
    c.statement-found.new.c in
    stuck_there c.args.list.now c.statement-found.new.c.rest.now c.args.end some
    c.statement-found.new.c.nodes (subst P c.in-Unexpected.is c.in-Err.ensures)
    c.place_of-in-Unexpected.result c.place_of-in-Unexpected.ensures

pub returns-in-TooMany : goal.returns-in-TooMany
returns-in-TooMany c =
    let some : 0 < length c.args.list.now = grind (arith, nat_tests) in
    let P : Stop → Type 0 = λ s. Fails (statement 0 (map lexeme c.args.list.now)) s
    c.statement-found.new.c in
    over_there c.args.list.now c.statement-found.new.c.rest.now c.args.end some c.in-TooMany.what
    c.statement-found.new.c.nodes (subst P c.in-TooMany.is c.in-Err.ensures) c.limit_of.result
    c.limit_of.ensures
