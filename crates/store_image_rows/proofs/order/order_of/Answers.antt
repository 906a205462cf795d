use Rattle.std.proofs.Common.{◌≡◌, map, sym, ap, ◌∙◌}
use Rattle.std.specs.Ordering.{int_cmp}
use Rattle.std.proofs.lemmas.Result.{IfOk-weaker}
use Rattle.prima_base.specs.Order.{value_cmp, shown}
use Rattle.store_image_spec.proofs.ReadParts.{reads_columns}
use Rattle.store_image_rows.specs.Cells.{cell_seen, cells_seen}
use Rattle.store_image_rows.specs.Showing.{stretch_at, number_alone, alone, stretch_in}
use Rattle.store_image_rows.proofs.CheckedShowings.{told, some_seen, numbers_same, values_same}
use Rattle.store_image_rows.proofs.CheckedShowings.{rows_told_apart, rows_told_order}
use Rattle.store_image_rows.proofs.order.order_of.Goals as goal

pub returns-in-Some-3-clause-apart : goal.returns-in-Some-3-clause-apart
returns-in-Some-3-clause-apart c =
    let last = c.requires.0 in
    let kinds = c.requires.1 in
    let keys = c.args.keys.now in
    let cells = c.args.cells.now in
    let read = ((reads_columns last keys kinds).sound c.requires.2 (cells_seen cells) c.requires.3
    c.requires.4).0 in
    let item = c.in-Some.ensures.item in
    let is : map (stretch_at number_alone) c.in-Some-2.numbers.items
    ≡ map stretch_in (map cell_seen c.in-Some.first.now.items) =
    (rw c.in-Some-2.is at c.in_ok-numbers.ensures)
    ∙ ap (λ l. map stretch_in (map cell_seen l)) c.deref.ensures.value in
    sym (told number_alone int_cmp numbers_same last keys kinds cells read c.in-Some.first.now
    item.3.0 item.1 c.in-Some-2.numbers.items c.in-Some-3.order is
    (rw c.in-Some-3.is at c.in_ok-order.ensures)).apart

pub returns-in-Some-3-clause-order : goal.returns-in-Some-3-clause-order
returns-in-Some-3-clause-order c =
    let last = c.requires.0 in
    let kinds = c.requires.1 in
    let keys = c.args.keys.now in
    let cells = c.args.cells.now in
    let read = ((reads_columns last keys kinds).sound c.requires.2 (cells_seen cells) c.requires.3
    c.requires.4).0 in
    let item = c.in-Some.ensures.item in
    let is : map (stretch_at number_alone) c.in-Some-2.numbers.items
    ≡ map stretch_in (map cell_seen c.in-Some.first.now.items) =
    (rw c.in-Some-2.is at c.in_ok-numbers.ensures)
    ∙ ap (λ l. map stretch_in (map cell_seen l)) c.deref.ensures.value in
    λ some. (told number_alone int_cmp numbers_same last keys kinds cells read c.in-Some.first.now
    item.3.0 item.1 c.in-Some-2.numbers.items c.in-Some-3.order is
    (rw c.in-Some-3.is at c.in_ok-order.ensures)).order

pub returns-in-Some-4-clause-apart : goal.returns-in-Some-4-clause-apart
returns-in-Some-4-clause-apart c =
    let last = c.requires.0 in
    let kinds = c.requires.1 in
    let keys = c.args.keys.now in
    let cells = c.args.cells.now in
    let read = ((reads_columns last keys kinds).sound c.requires.2 (cells_seen cells) c.requires.3
    c.requires.4).0 in
    let item = c.in-Some.ensures.item in
    let is : map (stretch_at alone) c.in_ok-values_of.field-0.items
    ≡ map stretch_in (map cell_seen c.in-Some.first.now.items) = c.in_ok-values_of.ensures
    ∙ ap (λ l. map stretch_in (map cell_seen l)) c.deref-in_default-2.ensures.value in
    sym (told alone (λ x y. value_cmp (shown x) (shown y)) values_same last keys kinds cells read
    c.in-Some.first.now item.3.0 item.1 c.in_ok-values_of.field-0.items c.in-Some-4.order is
    (rw c.in-Some-4.is at c.in_ok-order-2.ensures)).apart

pub returns-in-Some-4-clause-order : goal.returns-in-Some-4-clause-order
returns-in-Some-4-clause-order c =
    let last = c.requires.0 in
    let kinds = c.requires.1 in
    let keys = c.args.keys.now in
    let cells = c.args.cells.now in
    let read = ((reads_columns last keys kinds).sound c.requires.2 (cells_seen cells) c.requires.3
    c.requires.4).0 in
    let item = c.in-Some.ensures.item in
    let is : map (stretch_at alone) c.in_ok-values_of.field-0.items
    ≡ map stretch_in (map cell_seen c.in-Some.first.now.items) = c.in_ok-values_of.ensures
    ∙ ap (λ l. map stretch_in (map cell_seen l)) c.deref-in_default-2.ensures.value in
    λ some. (told alone (λ x y. value_cmp (shown x) (shown y)) values_same last keys kinds cells
    read c.in-Some.first.now item.3.0 item.1 c.in_ok-values_of.field-0.items c.in-Some-4.order
    is (rw c.in-Some-4.is at c.in_ok-order-2.ensures)).order

pub returns-clause-apart : goal.returns-clause-apart
returns-clause-apart c =
    let last = c.requires.0 in
    let kinds = c.requires.1 in
    let keys = c.args.keys.now in
    let cells = c.args.cells.now in
    let read = ((reads_columns last keys kinds).sound c.requires.2 (cells_seen cells) c.requires.3
    c.requires.4).0 in
    let some = some_seen cells c.in-Some.ensures.item.3.0 in
    IfOk-weaker c.check-2.result _ _ (λ verdict j.
    rows_told_apart last keys kinds (cells_seen cells) some read c.in_ok-rows_of.field-0.items
    (c.in_ok-rows_of.ensures ∙ c.in_ok-stretches.ensures) verdict j) c.check-2.ensures

pub returns-clause-order : goal.returns-clause-order
returns-clause-order c =
    let last = c.requires.0 in
    let kinds = c.requires.1 in
    let keys = c.args.keys.now in
    let cells = c.args.cells.now in
    let read = ((reads_columns last keys kinds).sound c.requires.2 (cells_seen cells) c.requires.3
    c.requires.4).0 in
    let some = some_seen cells c.in-Some.ensures.item.3.0 in
    IfOk-weaker c.check-2.result _ _ (λ verdict j.
    rows_told_order last keys kinds (cells_seen cells) some read c.in_ok-rows_of.field-0.items
    (c.in_ok-rows_of.ensures ∙ c.in_ok-stretches.ensures) verdict j) c.check-2.ensures
