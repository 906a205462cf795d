use Rattle.std.proofs.Common.{rules, ◌≡◌, ◌<◌, length, ap, sym, subst, ◌∙◌, vec_len}
use Rattle.history_store_columns.specs.Entries.{IsHistory}
use Rattle.history_store_row_order.proofs.Cells.{length-cells_of}
use Rattle.history_store_change_spec.proofs.Reading.{here, history}
use Rattle.history_store.proofs.table.StoredTable.scan_at.Goals as goal

pub index-requires : goal.index-requires
index-requires c =
    let a = c.self.inside in
    let h : c.args.column < length a.columns.items = rw (← c.self.view_is) at c.requires in
    let n : length a.columns.items ≡ vec_len a.logs = sym c.self.invariant.kept.width
    ∙ length-cells_of a.logs.items ∙ search rules in
    subst (λ n. c.args.column < n) n h

pub scan-requires-clause-ids : goal.scan-requires-clause-ids
scan-requires-clause-ids c =
    let a = c.self.inside in
    let h : c.args.column < length a.columns.items = rw (← c.self.view_is) at c.requires in
    let h' : c.args.column < length a.logs.items =
    subst (λ n. c.args.column < n) (sym c.self.invariant.kept.width
    ∙ length-cells_of a.logs.items) h in
    ap (λ l. l.ids) c.index.ensures ∙ c.self.invariant.ids c.args.column c.index.result.now h'
    ∙ ap length (sym c.deref.ensures.value)

pub scan-requires-clause-history : goal.scan-requires-clause-history
scan-requires-clause-history c =
    let a = c.self.inside in
    let h : c.args.column < length a.columns.items = rw (← c.self.view_is) at c.requires in
    let h' : c.args.column < length a.logs.items =
    subst (λ n. c.args.column < n) (sym c.self.invariant.kept.width
    ∙ length-cells_of a.logs.items) h in
    subst (λ ks. IsHistory ks c.index.result.now.cells) (sym c.deref.ensures.value)
    (history a.columns.items a.keys.items a.logs.items a.live.ids c.self.invariant.kept
    c.args.column c.index.result.now h' c.index.ensures)

pub returns : goal.returns
returns c =
    let a = c.self.inside in
    let h : c.args.column < length a.columns.items = rw (← c.self.view_is) at c.requires in
    let h' : c.args.column < length a.logs.items =
    subst (λ n. c.args.column < n) (sym c.self.invariant.kept.width
    ∙ length-cells_of a.logs.items) h in
    rw (← c.self.view_is) (c.scan.ensures ∙ rw c.deref.ensures.value
    (sym (here a.columns.items a.keys.items a.logs.items a.live.ids c.self.invariant.kept
    c.args.column c.index.result.now h' c.index.ensures)))
