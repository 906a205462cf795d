use Rattle.std.proofs.Common.{rules, ◌≡◌, length, sym, ◌∙◌}
use Rattle.history_store_columns.specs.StoredValues.{values_in}
use Rattle.history_store_columns.proofs.ColumnWrites.{length-writes_in}
use Rattle.history_store_columns.proofs.column.Column.count.Goals as goal

pub returns : goal.returns
returns c =
    let a = c.self.inside in
    let n : c.len.result ≡ length a.writes.items = search rules in
    rw (← c.self.view_is) (n ∙ sym (length-writes_in (values_in a.values) a.writes.items
    c.self.invariant.each))
