use Rattle.script_parse_laws.proofs.CleanTails.{clean_is_gap, gap_is_clean}
use Rattle.script_parse_laws.proofs.laws.a_clean_tail_is_a_gap.Goals as goal

pub returns : goal.returns
returns c = λ tail. (clean_is_gap tail, gap_is_clean tail)
