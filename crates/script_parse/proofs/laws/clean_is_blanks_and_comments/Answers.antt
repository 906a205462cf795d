use Rattle.script_parse.proofs.Padding.{clean_is_pads, pads_are_clean}
use Rattle.script_parse.proofs.laws.clean_is_blanks_and_comments.Goals as goal

pub returns : goal.returns
returns c = λ tail. (clean_is_pads tail, pads_are_clean tail)
