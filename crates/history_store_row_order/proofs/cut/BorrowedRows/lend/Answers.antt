use Rattle.std.proofs.Common.{◌+◌, ◌-◌, ◌<◌, sym, ap, ◌∙◌, length, subst, get_or, [], arith}
use Rattle.std.proofs.lemmas.Result.{on_ok_weaker}
use Rattle.history_store_row_order.specs.Logs.{cells_of}
use Rattle.history_store_value_order.proofs.Places.{in_get}
use Rattle.history_store_row_order.proofs.Cutting.{length-part, get_or-part}
use Rattle.history_store_row_order.proofs.cut.BorrowedRows.lend.Goals as goal

pub overflow_add-self-inside : goal.overflow_add-self-inside
overflow_add-self-inside g c =
    let a = c.self.inside in
    let b : c.args.at < a.end - a.start = subst (λ n. c.args.at < n)
    (ap length (sym c.self.view_is) ∙ length-part a.index.now.ids a.start a.end
    (cells_of a.columns.now) c.self.invariant.order c.self.invariant.within)
    c.requires.within in
    omega (arith, b)

pub id_near-id-requires : goal.id_near-id-requires
id_near-id-requires g c =
    let a = c.self.inside in
    let b : c.args.at < a.end - a.start = subst (λ n. c.args.at < n)
    (ap length (sym c.self.view_is) ∙ length-part a.index.now.ids a.start a.end
    (cells_of a.columns.now) c.self.invariant.order c.self.invariant.within)
    c.requires.within in
    omega (arith, b, c.self.invariant.order, c.self.invariant.within)

pub lend_now-requires : goal.lend_now-requires
lend_now-requires g c = λ k d h.
    let a = c.self.inside in
    let b : c.args.at < a.end - a.start = subst (λ n. c.args.at < n)
    (ap length (sym c.self.view_is) ∙ length-part a.index.now.ids a.start a.end
    (cells_of a.columns.now) c.self.invariant.order c.self.invariant.within)
    c.requires.within in
    rw c.id_near-id.ensures (c.self.invariant.known (get_or a.index.now.ids (a.start + c.args.at) 0)
    (in_get a.index.now.ids (a.start + c.args.at) 0
    (omega (arith, b, c.self.invariant.order, c.self.invariant.within))) k d h)

pub returns-clause-values : goal.returns-clause-values
returns-clause-values g c =
    let a = c.self.inside in
    let b : c.args.at < a.end - a.start = subst (λ n. c.args.at < n)
    (ap length (sym c.self.view_is) ∙ length-part a.index.now.ids a.start a.end
    (cells_of a.columns.now) c.self.invariant.order c.self.invariant.within)
    c.requires.within in
    let v = rw c.id_near-id.ensures at c.lend_now.ensures.values in
    on_ok_weaker c.lend_now.result (λ e. e ∙ sym
    (ap (λ rows. get_or rows c.args.at []) (sym c.self.view_is)
    ∙ get_or-part a.index.now.ids a.start a.end (cells_of a.columns.now) c.args.at b
    c.self.invariant.order c.self.invariant.within)) v

pub returns-clause-most : goal.returns-clause-most
returns-clause-most g c =
    let a = c.self.inside in
    let b : c.args.at < a.end - a.start = subst (λ n. c.args.at < n)
    (ap length (sym c.self.view_is) ∙ length-part a.index.now.ids a.start a.end
    (cells_of a.columns.now) c.self.invariant.order c.self.invariant.within)
    c.requires.within in
    let w = c.self.invariant.whole (get_or a.index.now.ids (a.start + c.args.at) 0)
    (in_get a.index.now.ids (a.start + c.args.at) 0
    (omega (arith, b, c.self.invariant.order, c.self.invariant.within))) in
    let r = ap length (ap (λ rows. get_or rows c.args.at []) (sym c.self.view_is)
    ∙ get_or-part a.index.now.ids a.start a.end (cells_of a.columns.now) c.args.at b
    c.self.invariant.order c.self.invariant.within) in
    let m = c.lend_now.ensures.most in
    omega (arith, w, r, m)
