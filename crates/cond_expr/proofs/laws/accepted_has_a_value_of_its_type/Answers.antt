use Rattle.cond_expr.proofs.KindLaws.{kept, row_fits}
use Rattle.cond_expr.proofs.laws.accepted_has_a_value_of_its_type.Goals as goal

pub returns-clause-kept : goal.returns-clause-kept
returns-clause-kept c = kept

pub returns-clause-row : goal.returns-clause-row
returns-clause-row c = row_fits
