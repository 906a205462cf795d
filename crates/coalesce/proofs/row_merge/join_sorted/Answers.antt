use Rattle.std.proofs.Common.{◌≡◌, ◌≤◌, sym, ◌∙◌, arith, length}
use Rattle.std.proofs.lemmas.Grind.{common_steps}
use Rattle.coalesce.specs.Joining.{touch_rows, join_rows}
use Rattle.coalesce.proofs.Places.{starts, ended}
use Rattle.coalesce.proofs.row_merge.join_sorted.Goals as goal

pub rows-init : goal.rows-init
rows-init c =
    let some : 1 ≤ length c.args.rows.now.items = grind (arith, common_steps) in
    (omega arith, some, starts touch_rows join_rows _ (grind (arith, common_steps)))

pub returns : goal.returns
returns c =
    let n : c.rows.next ≡ length c.rows.rows.items = grind (arith, common_steps) in
    c.truncate.ensures ∙ sym (ended touch_rows join_rows c.rows.rows.items c.rows.kept
    c.rows.next c.rows.invariant.0 n) ∙ sym c.rows.invariant.2
