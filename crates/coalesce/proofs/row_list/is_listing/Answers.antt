use Rattle.std.proofs.Common.{◌<◌, ◌&&◌, ap, sym, ◌∙◌, Bool, arith, get_or, drop, length}
use Rattle.std.proofs.lemmas.Grind.{common_steps}
use Rattle.prima_base_rows.proofs.Moves.{no_row}
use Rattle.coalesce.specs.Listed.{is_inside, are_after}
use Rattle.coalesce.proofs.Passes.{first_is}
use Rattle.coalesce.proofs.row_list.is_listing.Goals as goal

pub returns-then-is_inside : goal.returns-then-is_inside
returns-then-is_inside c =
    let xs = c.args.rows.now.items in
    let some : 0 < length c.args.rows.now.items = grind (arith, common_steps) in
    c.are_after.ensures no_row
    ∙ sym (first_is c.args.slice xs no_row some
    ∙ ap (λ (b : Bool). b && are_after c.args.slice (get_or xs 0 no_row) (drop 1 xs))
    (ap (is_inside c.args.slice) (sym (c.period.ensures.period no_row))
    ∙ sym c.is_inside.ensures ∙ c.if-is_inside.true))

pub returns-else-is_inside : goal.returns-else-is_inside
returns-else-is_inside c =
    let xs = c.args.rows.now.items in
    let some : 0 < length c.args.rows.now.items = grind (arith, common_steps) in
    c.if-is_inside.false
    ∙ sym (first_is c.args.slice xs no_row some
    ∙ ap (λ (b : Bool). b && are_after c.args.slice (get_or xs 0 no_row) (drop 1 xs))
    (ap (is_inside c.args.slice) (sym (c.period.ensures.period no_row))
    ∙ sym c.is_inside.ensures ∙ c.if-is_inside.false))
