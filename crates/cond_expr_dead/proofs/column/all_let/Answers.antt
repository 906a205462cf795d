use Rattle.std.proofs.Common.{not, ap, ◌∙◌}
use Rattle.cond_expr.specs.Seen.{test}
use Rattle.cond_expr.specs.Parts.{parts, lets}
use Rattle.cond_expr_dead.specs.Shown.{tried_value}
use Rattle.cond_expr_dead.proofs.PartLists.{none_refuses}
use Rattle.cond_expr_dead.proofs.column.all_let.Goals as goal

pub returns : goal.returns
returns c = ap not c.some_part.ensures.value ∙ none_refuses
    (lets c.args.column.atom c.args.column.name.now (tried_value c.args.tried.now))
    (parts (test c.args.whole.now))
