use Rattle.std.proofs.Common.{◌∷◌, ◌++◌, List, ℕ, sym, subst}
use Rattle.std.specs.Prelude.{IfOk, map}
use Rattle.script_cli_sample.specs.Statements as spec
use Rattle.script_cli_sample.specs.Left.{NextIs}
use Rattle.script_cli_sample.proofs.Numbers.{none}
use Rattle.script_cli_sample.proofs.place.update.Goals as goal

-- no row of kind 0 is left to be updated
pub returns-then-i-size : goal.returns-then-i-size
returns-then-i-size c =
    let size = c.args.size in
    let P : List ℕ → Type 0 = λ l. IfOk c.checkpoint.result
    (λ it. NextIs size (map (spec.hot_updated size) l ++ spec.checkpoint_made
    ∷ (spec.retitlings size ++ spec.questions size)) it) in
    subst P (sym (none c.args.i size c.if-i-size.true)) (c.checkpoint.ensures size)

pub returns-else-i-size-2 : goal.returns-else-i-size-2
returns-else-i-size-2 c =
    let size = c.args.size in
    let P : List ℕ → Type 0 = λ l. IfOk c.checkpoint-else-i-size-2.result
    (λ it. NextIs size (map (spec.hot_updated size) l ++ spec.checkpoint_made
    ∷ (spec.retitlings size ++ spec.questions size)) it) in
    subst P (sym (c.next_hot-i.ensures.none c.if-i-size-2.false))
    (c.checkpoint-else-i-size-2.ensures size)
