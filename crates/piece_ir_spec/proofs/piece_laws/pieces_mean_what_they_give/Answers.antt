use Rattle.piece_ir_spec.proofs.GivenRows.{one_gives, some_gives}
use Rattle.piece_ir_spec.proofs.piece_laws.pieces_mean_what_they_give.Goals as goal

pub returns-clause-one : goal.returns-clause-one
returns-clause-one c = λ tables db p row. one_gives tables db p row

pub returns-clause-all : goal.returns-clause-all
returns-clause-all c = λ tables db ps row. some_gives tables db ps row
