use Rattle.std.proofs.Common.{refl}
use Rattle.version_groups.proofs.LifelinesNamed.{names_with}
use Rattle.version_groups.proofs.size.sizes_are_of_lifelines.Goals as goal

pub returns-clause-beginning : goal.returns-clause-beginning
returns-clause-beginning c = refl

pub returns-clause-more : goal.returns-clause-more
returns-clause-more c = λ past command h. names_with past command.stamp command.body h
