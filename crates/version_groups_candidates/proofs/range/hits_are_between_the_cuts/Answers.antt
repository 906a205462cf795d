use Rattle.version_groups_candidates.proofs.RangeLaws.{hit_not_below, hit_not_above, low_narrow}
use Rattle.version_groups_candidates.proofs.RangeLaws.{high_narrow}
use Rattle.version_groups_candidates.proofs.range.hits_are_between_the_cuts.Goals as goal

pub returns : goal.returns
returns c = record {
  low = λ its t row a r m. hit_not_below its t row a r m;
  high = λ its t row a r m. hit_not_above its t row a r m;
  low_narrow = λ its t. low_narrow its t;
  high_narrow = λ its t. high_narrow its t;
}
