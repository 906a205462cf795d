use Rattle.lexer_trees_spec.proofs.Correctness.{outermost_correct, fresh_expr_correct}
use Rattle.lexer_trees_spec.proofs.Correctness.{fresh_cond_correct}
use Rattle.lexer_trees_spec.proofs.laws.trees_are_read.Goals as goal

pub returns : goal.returns
returns c = record {
  expr = λ q. (outermost_correct q).expr;
  cond = λ q. (outermost_correct q).cond;
  fresh_expr = fresh_expr_correct;
  fresh_cond = fresh_cond_correct;
}
