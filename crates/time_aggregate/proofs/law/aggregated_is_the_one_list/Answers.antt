use Rattle.time_aggregate.proofs.AggregatedLaws.{aggregated_lists}
use Rattle.time_aggregate.proofs.law.aggregated_is_the_one_list.Goals as goal

pub returns : goal.returns
returns c = aggregated_lists
