use Rattle.lexer_trees_spec.specs.Grammar.{IsExpr, IsCond}
use Rattle.lexer_trees_spec.specs.Reader.{follow_expr, follow_cond}
use Rattle.lexer_trees_spec.proofs.Unambiguous.{once, only_expr, only_cond}
use Rattle.lexer_trees_spec.proofs.laws.trees_are_one.Goals as goal

pub returns : goal.returns
returns c = record {
  expr = λ q a b s t f h k. once (IsExpr q) (follow_expr q) a b s t f k (only_expr q a s f h);
  cond = λ q a b s t f h k. once (IsCond q) (follow_cond q) a b s t f k (only_cond q a s f h);
}
