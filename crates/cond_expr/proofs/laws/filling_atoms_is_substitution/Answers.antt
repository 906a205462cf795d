use Rattle.cond_expr.proofs.AtomLaws.{value_for_atoms, truth_for_atoms}
use Rattle.cond_expr.proofs.laws.filling_atoms_is_substitution.Goals as goal

pub returns-clause-value : goal.returns-clause-value
returns-clause-value c = value_for_atoms

pub returns-clause-truth : goal.returns-clause-truth
returns-clause-truth c = truth_for_atoms
