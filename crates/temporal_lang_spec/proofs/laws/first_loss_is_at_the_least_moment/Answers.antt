use Rattle.temporal_lang_spec.specs.Losing.{query_asked}
use Rattle.temporal_lang_spec.proofs.FirstLaws.{least_loss, no_loss}
use Rattle.temporal_lang_spec.proofs.laws.first_loss_is_at_the_least_moment.Goals as goal

pub returns-clause-some : goal.returns-clause-some
returns-clause-some c = λ past query. least_loss past (query_asked past query)

pub returns-clause-none : goal.returns-clause-none
returns-clause-none c = λ past query. no_loss past (query_asked past query)
