use Rattle.time_aggregate.specs.Aggregates.{groups}
use Rattle.time_aggregate.proofs.OneListing.{one_told}
use Rattle.time_aggregate.proofs.law.aggregates_are_one.Goals as goal

pub returns : goal.returns
returns c = λ g items relation slice a b p q.
    one_told (λ m. groups g items (relation m)) slice a b p q
