use Rattle.version_groups_candidates.proofs.RangeLaws.{hit_has_pinned}
use Rattle.version_groups_candidates.proofs.range.hits_have_pinned_values.Goals as goal

pub returns : goal.returns
returns c its t row k v a r m h e = hit_has_pinned its t row a r m k v h e
