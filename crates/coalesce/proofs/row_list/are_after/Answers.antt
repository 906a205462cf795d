use Rattle.std.proofs.Common.{◌≡◌, ◌<◌, ◌-◌, ◌+◌, ◌&&◌, ap, sym, ◌∙◌, Bool, arith, get_or, drop}
use Rattle.std.proofs.Common.{length}
use Rattle.prima_base.specs.declared.timed_row.TimedRow.{TimedRow}
use Rattle.coalesce.specs.Listed.{is_inside, is_after, are_after}
use Rattle.coalesce.proofs.Passes.{next_is}
use Rattle.coalesce.proofs.row_list.are_after.Goals as goal
use Rattle.coalesce.proofs.row_list.are_after.Goals.{After-is_inside}

inside_is : (c : After-is_inside) → (d : TimedRow) → (b : Bool) → c.is_inside.result ≡ b
    → is_inside c.args.slice (get_or c.args.rows.now.items c.rows.next d).period ≡ b
inside_is c d b is =
    ap (is_inside c.args.slice) (sym (c.period.ensures.period d)) ∙ sym c.is_inside.ensures ∙ is

pub returns-then-not-is_inside : goal.returns-then-not-is_inside
returns-then-not-is_inside c = λ d.
    let k = (goal.at.returns-then-not-is_inside c).After-is_inside in
    let xs = c.args.rows.now.items in
    let last = get_or xs (c.rows.next - 1) d in
    let next = get_or xs c.rows.next d in
    let within : c.rows.next < length c.args.rows.now.items =
    omega (arith, c.rows-test.true, c.len.ensures) in
    sym (c.rows.invariant.2 d ∙ next_is c.args.slice xs last d c.rows.next within
    ∙ ap (λ (b : Bool). b && is_after last next
    && are_after c.args.slice next (drop (c.rows.next + 1) xs))
    (inside_is k d _ c.if-not-is_inside.true))

pub returns-then-not-is_after : goal.returns-then-not-is_after
returns-then-not-is_after c = λ d.
    let k = (goal.at.returns-then-not-is_after c).After-is_inside in
    let xs = c.args.rows.now.items in
    let last = get_or xs (c.rows.next - 1) d in
    let next = get_or xs c.rows.next d in
    let within : c.rows.next < length c.args.rows.now.items =
    omega (arith, c.rows-test.true, c.len.ensures) in
    sym (c.rows.invariant.2 d ∙ next_is c.args.slice xs last d c.rows.next within
    ∙ (λ i. inside_is k d _ c.if-not-is_inside.false i
    && (sym (c.is_after.ensures d) ∙ c.if-not-is_after.true) i
    && are_after c.args.slice next (drop (c.rows.next + 1) xs)))
