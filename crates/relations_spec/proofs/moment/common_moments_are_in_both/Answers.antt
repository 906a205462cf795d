use Rattle.relations_spec.proofs.Held.{covers_is}
use Rattle.relations_spec.proofs.CommonMoments.{in_common, common_lasts, none_in_common}
use Rattle.relations_spec.proofs.moment.common_moments_are_in_both.Goals as goal

pub returns-clause-covers : goal.returns-clause-covers
returns-clause-covers c = covers_is

pub returns-clause-moments : goal.returns-clause-moments
returns-clause-moments c = in_common

pub returns-clause-lasting : goal.returns-clause-lasting
returns-clause-lasting c = common_lasts

pub returns-clause-none : goal.returns-clause-none
returns-clause-none c = none_in_common
