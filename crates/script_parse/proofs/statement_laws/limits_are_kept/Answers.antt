use Rattle.script_parse.proofs.ReadingLaws.{are_kept}
use Rattle.script_parse.proofs.statement_laws.limits_are_kept.Goals as goal

pub returns : goal.returns
returns c = are_kept
