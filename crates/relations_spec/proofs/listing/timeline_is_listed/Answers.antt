use Rattle.relations_spec.proofs.Runs.{timeline_listing}
use Rattle.relations_spec.proofs.listing.timeline_is_listed.Goals as goal

pub returns : goal.returns
returns g c = timeline_listing g.T.Ord.cmp
