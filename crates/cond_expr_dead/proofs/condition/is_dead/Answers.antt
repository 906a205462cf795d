use Rattle.std.proofs.Common.{◌≡◌, ap, ◌∙◌, List}
use Rattle.cond_expr.specs.Trees.{Test}
use Rattle.cond_expr.specs.Seen.{test}
use Rattle.cond_expr.specs.Parts.{parts}
use Rattle.cond_expr_dead.specs.Tried.{is_killed}
use Rattle.cond_expr_dead.specs.Earlier.{some_kills}
use Rattle.cond_expr_dead.proofs.PartLists.{dead_just}
use Rattle.cond_expr_dead.proofs.EarlierLaws.{each_once, nothing_before}
use Rattle.cond_expr_dead.proofs.condition.is_dead.Goals as goal

pub returns : goal.returns
returns c =
    let all = parts (test c.args.cond.now) in
    let told : c.some_kills.result ≡ is_killed (test c.args.cond.now) =
    c.some_kills.ensures.value ∙ ap (λ (before : List Test). some_kills all before all)
    nothing_before ∙ each_once all all in
    record {
      told = told;
      exact = λ of typed. dead_just of (test c.args.cond.now) c.some_kills.result typed told
          c.some_kills.ensures.valid;
    }
