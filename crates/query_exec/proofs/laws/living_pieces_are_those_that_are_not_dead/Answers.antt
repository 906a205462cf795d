use Rattle.query_exec.proofs.FoundDead.{are_pieces}
use Rattle.query_exec.proofs.laws.living_pieces_are_those_that_are_not_dead.Goals as goal

pub returns : goal.returns
returns c = λ book valid past is kept query accepted constants.
    are_pieces book valid past is kept query accepted constants
