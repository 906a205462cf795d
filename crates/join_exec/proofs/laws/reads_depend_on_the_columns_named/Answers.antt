use Rattle.join_exec.proofs.ReadingLaws.{none_read, one_read, same_read}
use Rattle.join_exec.proofs.laws.reads_depend_on_the_columns_named.Goals as goal

pub returns-clause-none : goal.returns-clause-none
returns-clause-none c = none_read

pub returns-clause-one : goal.returns-clause-one
returns-clause-one c = one_read

pub returns-clause-same : goal.returns-clause-same
returns-clause-same c = same_read
