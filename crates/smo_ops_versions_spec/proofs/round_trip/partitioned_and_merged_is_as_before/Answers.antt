use Rattle.smo_ops_versions_spec.proofs.RoundTrips.{partition_inverse, partition_back}
use Rattle.smo_ops_versions_spec.proofs.round_trip.partitioned_and_merged_is_as_before.Goals as goal

pub returns-clause-inverse : goal.returns-clause-inverse
returns-clause-inverse c = λ tables r s test t e. partition_inverse tables r s t test e

pub returns-clause-database : goal.returns-clause-database
returns-clause-database c = λ tables r s test t database e h.
    partition_back tables r s t test e database h
