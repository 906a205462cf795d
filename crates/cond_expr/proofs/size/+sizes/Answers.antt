use Rattle.std.proofs.Common.{arith, ap}
use Rattle.std.proofs.lemmas.Grind.{common_steps}
use Rattle.cond_expr.specs.Sizes.{longest_of}
use Rattle.cond_expr.proofs.SeenLaws.{tree_of_concat, count_is_length}
use Rattle.cond_expr.proofs.size.+sizes.Goals as goal

pub expr_size-returns-in-Concat-clause-parts : goal.expr_size-returns-in-Concat-clause-parts
expr_size-returns-in-Concat-clause-parts t c =
    let a = ap longest_of (tree_of_concat c.in-Concat.parts) in
    let b = count_is_length c.in-Concat.parts.items in
    grind (arith, common_steps, a, b)
