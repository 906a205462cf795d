use Rattle.std.proofs.Common.{rules, ◌≡◌, ◌<◌, Some, length, ap, sym, subst, ◌∙◌, vec_len}
use Rattle.history_store_row_order.specs.Logs.{cells_of}
use Rattle.history_store_columns.specs.Entries.{IsHistory}
use Rattle.history_store_row_order.proofs.Cells.{length-cells_of}
use Rattle.history_store_change_spec.proofs.Reading.{here, history}
use Rattle.history_store_change_spec.proofs.Showing.{count_entries}
use Rattle.history_store_change_spec.proofs.Valid.{is_store}
use Rattle.history_store.proofs.table.StoredTable.scan_column.Goals as goal

pub index-requires : goal.index-requires
index-requires c =
    let a = c.self.inside in
    let h : c.in-Some.column < length a.columns.items =
    subst (λ n. c.in-Some.column < n) (ap length c.deref.ensures.value)
    c.in-Some.ensures.within in
    let n : length a.columns.items ≡ vec_len a.logs = sym c.self.invariant.kept.width
    ∙ length-cells_of a.logs.items ∙ search rules in
    subst (λ n. c.in-Some.column < n) n h

pub scan-requires-clause-ids : goal.scan-requires-clause-ids
scan-requires-clause-ids c =
    let a = c.self.inside in
    let h : c.in-Some.column < length a.columns.items =
    subst (λ n. c.in-Some.column < n) (ap length c.deref.ensures.value)
    c.in-Some.ensures.within in
    let h' : c.in-Some.column < length a.logs.items =
    subst (λ n. c.in-Some.column < n) (sym c.self.invariant.kept.width
    ∙ length-cells_of a.logs.items) h in
    ap (λ l. l.ids) c.index.ensures ∙ c.self.invariant.ids c.in-Some.column c.index.result.now h'
    ∙ ap length (sym c.deref-in-Some.ensures.value)

pub scan-requires-clause-history : goal.scan-requires-clause-history
scan-requires-clause-history c =
    let a = c.self.inside in
    let h : c.in-Some.column < length a.columns.items =
    subst (λ n. c.in-Some.column < n) (ap length c.deref.ensures.value)
    c.in-Some.ensures.within in
    let h' : c.in-Some.column < length a.logs.items =
    subst (λ n. c.in-Some.column < n) (sym c.self.invariant.kept.width
    ∙ length-cells_of a.logs.items) h in
    subst (λ ks. IsHistory ks c.index.result.now.cells) (sym c.deref-in-Some.ensures.value)
    (history a.columns.items a.keys.items a.logs.items a.live.ids c.self.invariant.kept
    c.in-Some.column c.index.result.now h' c.index.ensures)

pub returns-in-Some-clause-entries : goal.returns-in-Some-clause-entries
returns-in-Some-clause-entries c =
    let a = c.self.inside in
    let h : c.in-Some.column < length a.columns.items =
    subst (λ n. c.in-Some.column < n) (ap length c.deref.ensures.value)
    c.in-Some.ensures.within in
    let h' : c.in-Some.column < length a.logs.items =
    subst (λ n. c.in-Some.column < n) (sym c.self.invariant.kept.width
    ∙ length-cells_of a.logs.items) h in
    let p = rw c.deref.ensures.value at (c.in-Some.ensures.place _
    (count_entries a.keys.items (cells_of a.logs.items) ∙ c.self.invariant.kept.width
    ∙ ap length (sym c.deref.ensures.value))) in
    rw (← c.self.view_is) (
    ap Some (c.scan.ensures ∙ rw c.deref-in-Some.ensures.value
    (sym (here a.columns.items a.keys.items a.logs.items a.live.ids c.self.invariant.kept
    c.in-Some.column c.index.result.now h' c.index.ensures))) ∙ sym p
    )

pub returns-in-Some-clause-valid : goal.returns-in-Some-clause-valid
returns-in-Some-clause-valid c = let a = c.self.inside in
    rw (← c.self.view_is) (is_store a.columns.items a.keys.items (cells_of a.logs.items) a.live.ids
    _ c.self.invariant.kept)

pub returns-in-None-clause-entries : goal.returns-in-None-clause-entries
returns-in-None-clause-entries c =
    let a = c.self.inside in
    let p = rw c.deref.ensures.value at (c.in-None.ensures.place _
    (count_entries a.keys.items (cells_of a.logs.items) ∙ c.self.invariant.kept.width
    ∙ ap length (sym c.deref.ensures.value))) in
    rw (← c.self.view_is) (sym p)

pub returns-in-None-clause-valid : goal.returns-in-None-clause-valid
returns-in-None-clause-valid c = let a = c.self.inside in
    rw (← c.self.view_is) (is_store a.columns.items a.keys.items (cells_of a.logs.items) a.live.ids
    _ c.self.invariant.kept)
