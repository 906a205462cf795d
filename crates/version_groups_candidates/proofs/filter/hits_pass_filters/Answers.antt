use Rattle.version_groups_candidates.proofs.FilterLaws.{hit_passes}
use Rattle.version_groups_candidates.proofs.filter.hits_pass_filters.Goals as goal

pub returns : goal.returns
returns c its t tests row a r m f = hit_passes its t row a r m tests f
