use Rattle.std.proofs.Common.{length}
use Rattle.temporal_lang.proofs.node_place.+count_in_outputs.Given as goal

abbrev pub decreases-count_in_outputs : goal.decreases-count_in_outputs
decreases-count_in_outputs l = length l.outs.now
