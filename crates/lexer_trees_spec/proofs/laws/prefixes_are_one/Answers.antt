use Rattle.lexer_trees_spec.proofs.Prefixes.{prefixes_expr, prefixes_cond}
use Rattle.lexer_trees_spec.proofs.laws.prefixes_are_one.Goals as goal

pub returns : goal.returns
returns c = record { expr = prefixes_expr; cond = prefixes_cond }
