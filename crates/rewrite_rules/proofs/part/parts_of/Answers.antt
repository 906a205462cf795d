use Rattle.std.proofs.Common.{◌++◌, map, List, ap, ◌∙◌}
use Rattle.cond_expr.specs.declared.expr.Cond.{Cond}
use Rattle.cond_expr.specs.Trees.{column, fill_test}
use Rattle.cond_expr.specs.Seen.{test}
use Rattle.cond_expr.proofs.TreeLaws.{test_fill_itself}
use Rattle.cond_expr.specs.Parts.{parts_but_true as parts}
use Rattle.rewrite_rules.proofs.part.parts_of.Goals as goal

pub returns : goal.returns
returns c =
    c.in_ok-append_parts.ensures ∙ ap (λ (cs : List Cond).
    map test cs ++ parts (fill_test column (test c.args.cond.now))) c.new-parts.ensures.items
    ∙ ap parts (test_fill_itself (test c.args.cond.now))
