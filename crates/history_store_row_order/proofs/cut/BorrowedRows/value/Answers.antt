use Rattle.std.proofs.Common.{◌≡◌, ◌+◌, ◌-◌, ◌<◌, ◌≤◌, ℕ, List, sym, ap, ◌∙◌, length, subst, get_or}
use Rattle.std.proofs.Common.{[], ◌∷◌, arith}
use Rattle.std.specs.Prelude.{slice_get}
use Rattle.prima_base.specs.declared.value.Value.{Value}
use Rattle.prima_base.specs.Order.{shown}
use Rattle.history_store_columns.specs.Log.{Log, newest}
use Rattle.history_store_row_order.specs.Logs.{cells_of}
use Rattle.history_store_value_order.proofs.Places.{in_get}
use Rattle.history_store_row_order.proofs.Cutting.{length-part, get_or-part}
use Rattle.history_store_row_order.proofs.OneColumn.{value_there, none_there}
use Rattle.history_store_row_order.proofs.Cells.{length-cells_of, cells_at}
use Rattle.history_store_row_order.proofs.cut.BorrowedRows.value.Goals as goal

pub overflow_add-self-inside : goal.overflow_add-self-inside
overflow_add-self-inside g c =
    let a = c.self.inside in
    let b : c.args.at < a.end - a.start = subst (λ n. c.args.at < n)
    (ap length (sym c.self.view_is) ∙ length-part a.index.now.ids a.start a.end
    (cells_of a.columns.now) c.self.invariant.order c.self.invariant.within)
    c.requires.within in
    omega (arith, b)

pub id_near-id-requires : goal.id_near-id-requires
id_near-id-requires g c =
    let a = c.self.inside in
    let b : c.args.at < a.end - a.start = subst (λ n. c.args.at < n)
    (ap length (sym c.self.view_is) ∙ length-part a.index.now.ids a.start a.end
    (cells_of a.columns.now) c.self.invariant.order c.self.invariant.within)
    c.requires.within in
    omega (arith, b, c.self.invariant.order, c.self.invariant.within)

pub returns-then-column-columns-clause-value : goal.returns-then-column-columns-clause-value
returns-then-column-columns-clause-value g c =
    let a = c.self.inside in
    let b : c.args.at < a.end - a.start = subst (λ n. c.args.at < n)
    (ap length (sym c.self.view_is) ∙ length-part a.index.now.ids a.start a.end
    (cells_of a.columns.now) c.self.invariant.order c.self.invariant.within)
    c.requires.within in
    let l = length-cells_of a.columns.now in
    let past : length (cells_of a.columns.now) ≤ c.args.column =
    omega (arith, l, c.if-column-columns.true) in
    let row = ap (λ rows. get_or rows c.args.at []) (sym c.self.view_is)
    ∙ get_or-part a.index.now.ids a.start a.end (cells_of a.columns.now) c.args.at b
    c.self.invariant.order c.self.invariant.within in
    sym (ap (λ (vs : List Value). slice_get vs c.args.column) row
    ∙ none_there c.args.column (get_or a.index.now.ids (a.start + c.args.at) 0)
    (cells_of a.columns.now) past)

pub newest-requires : goal.newest-requires
newest-requires g c =
    let a = c.self.inside in
    let b : c.args.at < a.end - a.start = subst (λ n. c.args.at < n)
    (ap length (sym c.self.view_is) ∙ length-part a.index.now.ids a.start a.end
    (cells_of a.columns.now) c.self.invariant.order c.self.invariant.within)
    c.requires.within in
    let id = get_or a.index.now.ids (a.start + c.args.at) 0 in
    let there = in_get a.index.now.ids (a.start + c.args.at) 0
    (omega (arith, b, c.self.invariant.order, c.self.invariant.within)) in
    let one = c.index-columns-column.result in
    let inside : c.args.column < length a.columns.now = omega (arith, c.if-column-columns.false) in
    rw c.id_near-id.ensures (subst (λ (r : Log). id < r.ids) (sym c.index-columns-column.is)
    (c.self.invariant.known id there c.args.column one inside))

pub returns-clause-value : goal.returns-clause-value
returns-clause-value g c =
    let a = c.self.inside in
    let b : c.args.at < a.end - a.start = subst (λ n. c.args.at < n)
    (ap length (sym c.self.view_is) ∙ length-part a.index.now.ids a.start a.end
    (cells_of a.columns.now) c.self.invariant.order c.self.invariant.within)
    c.requires.within in
    let id = get_or a.index.now.ids (a.start + c.args.at) 0 in
    let there = in_get a.index.now.ids (a.start + c.args.at) 0
    (omega (arith, b, c.self.invariant.order, c.self.invariant.within)) in
    let cells = cells_of a.columns.now in
    let one = c.index-columns-column.result in
    let l = length-cells_of a.columns.now in
    let inside : c.args.column < length a.columns.now = omega (arith, c.if-column-columns.false) in
    let within : c.args.column < length cells = omega (arith, l, inside) in
    let row = ap (λ rows. get_or rows c.args.at []) (sym c.self.view_is)
    ∙ get_or-part a.index.now.ids a.start a.end cells c.args.at b c.self.invariant.order
    c.self.invariant.within in
    let is : newest id (get_or cells c.args.column []) ≡ shown c.newest.result ∷ [] =
    ap (newest id) (cells_at a.columns.now c.args.column one inside c.index-columns-column.is)
    ∙ ap (λ (n : ℕ). newest n one.cells) (sym c.id_near-id.ensures) ∙ c.newest.ensures.value in
    sym (ap (λ (vs : List Value). slice_get vs c.args.column) row
    ∙ value_there c.args.column id cells (shown c.newest.result) within
    (c.self.invariant.whole id there ∙ sym l) is)
