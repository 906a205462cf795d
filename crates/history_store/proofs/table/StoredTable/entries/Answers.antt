use Rattle.std.proofs.Common.{rules, ◌≡◌, ◌<◌, Some, length, ap, sym, subst, ◌∙◌, vec_len}
use Rattle.std.specs.Prelude.{option_map}
use Rattle.history_store_row_order.specs.Logs.{cells_of}
use Rattle.history_store.specs.Store.{Cell}
use Rattle.history_store_row_order.proofs.Cells.{length-cells_of}
use Rattle.history_store_change_spec.proofs.Reading.{counted}
use Rattle.history_store_change_spec.proofs.Showing.{count_entries}
use Rattle.history_store.proofs.table.StoredTable.entries.Goals as goal

pub index-requires : goal.index-requires
index-requires c =
    let a = c.self.inside in
    let h : c.in-Some.column < length a.columns.items =
    subst (λ n. c.in-Some.column < n) (ap length c.deref.ensures.value)
    c.in-Some.ensures.within in
    let n : length a.columns.items ≡ vec_len a.logs = sym c.self.invariant.kept.width
    ∙ length-cells_of a.logs.items ∙ search rules in
    subst (λ n. c.in-Some.column < n) n h

pub returns-in-Some : goal.returns-in-Some
returns-in-Some c =
    let a = c.self.inside in
    let h : c.in-Some.column < length a.columns.items =
    subst (λ n. c.in-Some.column < n) (ap length c.deref.ensures.value)
    c.in-Some.ensures.within in
    let h' : c.in-Some.column < length a.logs.items =
    subst (λ n. c.in-Some.column < n) (sym c.self.invariant.kept.width
    ∙ length-cells_of a.logs.items) h in
    let p = rw c.deref.ensures.value at (c.in-Some.ensures.place _
    (count_entries a.keys.items (cells_of a.logs.items) ∙ c.self.invariant.kept.width
    ∙ ap length (sym c.deref.ensures.value))) in
    rw (← c.self.view_is) (
    ap Some (c.count.ensures ∙ sym (counted a.columns.items a.keys.items a.logs.items a.live.ids
    c.self.invariant.kept c.in-Some.column c.index.result.now h' c.index.ensures))
    ∙ sym (ap (option_map (length {A = Cell})) p)
    )

pub returns-in-None : goal.returns-in-None
returns-in-None c =
    let a = c.self.inside in
    let p = rw c.deref.ensures.value at (c.in-None.ensures.place _
    (count_entries a.keys.items (cells_of a.logs.items) ∙ c.self.invariant.kept.width
    ∙ ap length (sym c.deref.ensures.value))) in
    rw (← c.self.view_is) (sym (ap (option_map (length {A = Cell})) p))
