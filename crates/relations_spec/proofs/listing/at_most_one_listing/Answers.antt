use Rattle.relations_spec.proofs.ListingLaws.{one_listing}
use Rattle.relations_spec.proofs.listing.at_most_one_listing.Goals as goal

pub returns : goal.returns
returns g c = λ exact relation slice a b p q. one_listing g.T.Ord.cmp exact relation slice a b p q
