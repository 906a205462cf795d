use Rattle.query_pieces_spec.proofs.OneVersion.{standing_read, living_read, one_branch_read}
use Rattle.query_pieces_spec.proofs.laws.one_version_is_read.Goals as goal

pub returns-clause-table : goal.returns-clause-table
returns-clause-table c = λ book past m q k table r ps e h.
    standing_read book past m q k table r ps e h

pub returns-clause-living : goal.returns-clause-living
returns-clause-living c = λ book past is holds m q k table r ps living e h a.
    living_read book past is holds m q k table r ps living e h a

pub returns-clause-branch : goal.returns-clause-branch
returns-clause-branch c = λ book past query b m e. one_branch_read book past query b m e
