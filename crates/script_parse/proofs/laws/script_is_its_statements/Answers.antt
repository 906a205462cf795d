use Rattle.std.proofs.Common.{[], refl}
use Rattle.script_parse.specs.declared.mode.Mode.TheVariants.{Plain}
use Rattle.script_parse.proofs.Joins.{joined_again, statements_whole, tail_whole}
use Rattle.script_parse.proofs.laws.script_is_its_statements.Goals as goal

pub returns-clause-joined : goal.returns-clause-joined
returns-clause-joined c = λ script. joined_again script Plain []

pub returns-clause-statements : goal.returns-clause-statements
returns-clause-statements c = λ script. statements_whole script Plain [] refl refl

pub returns-clause-tail : goal.returns-clause-tail
returns-clause-tail c = λ script. tail_whole script Plain [] refl refl
