use Rattle.std.proofs.Common.{◌≡◌, length, refl, sym, ap, subst, ◌∙◌}
use Rattle.std.specs.Prelude.{Option}
use Rattle.history_store.specs.Change.{PreparedChange}
use Rattle.version_groups_tables.specs.declared.made_table.MadeTable.{MadeTable}
use Rattle.version_groups_tables.specs.Becoming.{IsMade}
use Rattle.version_groups_tables.proofs.ColumnCounts.{as_many_columns}
use Rattle.version_groups_tables.proofs.changed_table.install_one.Goals as goal

pub returns-in-Some : goal.returns-in-Some
returns-in-Some c =
    let old = c.args.table.now in
    let new : MadeTable = record {
      name = old.name;
      first = old.first;
      last = old.last;
      store =
          c.install.new.self;
    } in
    let made = c.install.ensures in
    let count : length new.store.cells ≡ length old.store.cells = ap length made.cells
    ∙ as_many_columns old.store c.in-Some.prepared in
    subst (λ (p : Option PreparedChange). IsMade old p new) (sym c.in-Some.is) (record {
      name = refl;
      first = refl;
      last = refl;
      becomes = record {
        columns = made.columns;
        before = made.before;
        from = made.from;
        later =
            made.later;
      };
      keys = made.key_count;
      wide = sym count ∙ made.valid.width ∙ ap length made.columns;
      count = count;
      written = made.written;
    })
