use Rattle.smo_ops_versions_spec.proofs.RoundTrips.{copy_inverse, copy_back}
use Rattle.smo_ops_versions_spec.proofs.round_trip.copied_and_dropped_is_as_before.Goals as goal

pub returns-clause-inverse : goal.returns-clause-inverse
returns-clause-inverse c = λ tables r t e. copy_inverse tables r t e

pub returns-clause-database : goal.returns-clause-database
returns-clause-database c = λ tables r t database e h. copy_back tables r t e database h
