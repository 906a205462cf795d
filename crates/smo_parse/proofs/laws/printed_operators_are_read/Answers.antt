use Rattle.smo_parse.proofs.PrintThenRead.{printed_is_read, given_is_read}
use Rattle.smo_parse.proofs.laws.printed_operators_are_read.Goals as goal

pub returns-clause-spelled : goal.returns-clause-spelled
returns-clause-spelled c = printed_is_read

pub returns-clause-given : goal.returns-clause-given
returns-clause-given c = given_is_read
