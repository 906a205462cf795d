use Rattle.lexer_trees_spec.proofs.CountSizes.{expr_adds_up, cond_adds_up}
use Rattle.lexer_trees_spec.proofs.laws.counts_add_up.Goals as goal

pub returns : goal.returns
returns c = record { expr = expr_adds_up; cond = cond_adds_up }
