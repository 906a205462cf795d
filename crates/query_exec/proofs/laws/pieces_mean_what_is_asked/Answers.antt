use Rattle.query_exec.proofs.ToldMeaningLaws.{told_mean}
use Rattle.query_exec.proofs.laws.pieces_mean_what_is_asked.Goals as goal

pub returns : goal.returns
returns c = λ book valid past is holds query accepted list are.
    told_mean book valid past is holds query accepted list are
