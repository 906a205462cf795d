use Rattle.std.proofs.Common.{◌≡◌, true, nat_le, sym, ◌∙◌}
use Rattle.std.specs.List.{list_all}
use Rattle.history_store_columns.specs.declared.column.StoredWrite.{StoredWrite}
use Rattle.history_store_columns.specs.StoredValues.{values_in}
use Rattle.history_store_columns.proofs.ColumnWrites.{none_later}
use Rattle.history_store_columns.proofs.column.Column.starts_by.Goals as goal

pub returns : goal.returns
returns c = λ t.
    let a = c.self.inside in
    let e : list_all (λ (w : StoredWrite). nat_le w.start c.args.moment) c.deref.result.now ≡ true =
    sym c.start_by.ensures ∙ t in
    rw (← c.self.view_is) (none_later c.args.moment (values_in a.values) a.writes.items
    (rw c.deref.ensures.value at e))
