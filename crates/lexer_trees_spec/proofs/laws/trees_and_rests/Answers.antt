use Rattle.lexer_trees_spec.proofs.Prefixes.{determine_expr, determine_cond}
use Rattle.lexer_trees_spec.proofs.laws.trees_and_rests.Goals as goal

pub returns : goal.returns
returns c = record { expr = determine_expr; cond = determine_cond }
