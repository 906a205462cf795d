use Rattle.std.proofs.Common.{◌≡◌, sym, ◌∙◌, arith, length}
use Rattle.std.proofs.lemmas.Grind.{common_steps}
use Rattle.coalesce.specs.Cutting.{cut_row}
use Rattle.coalesce.proofs.Kept.{starts, ended}
use Rattle.coalesce.proofs.row_cut.cut_rows.Goals as goal

pub rows-init : goal.rows-init
rows-init c = (omega arith, omega arith, starts (cut_row c.args.slice) c.args.rows.now.items)

pub returns : goal.returns
returns c =
    let n : c.rows.next ≡ length c.rows.rows.items = grind (arith, common_steps) in
    c.truncate.ensures ∙ sym (ended (cut_row c.args.slice) c.rows.rows.items c.rows.kept c.rows.next
    n) ∙ sym c.rows.invariant.2
