use Rattle.std.proofs.Common.{◌∙◌, None, subst}
use Rattle.std.specs.Vec.Iter.{into_iter_items}
use Rattle.version_groups_tables.specs.declared.made_table.MadeTable.{MadeTable}
use Rattle.version_groups_tables.specs.Evolving.{IsNextTable}
use Rattle.version_groups_tables.specs.Restoring.{HasColumns}
use Rattle.version_groups_tables.proofs.NextPlaces.{begins_last}
use Rattle.version_groups_tables.proofs.RestoredTables.{first_columns}
use Rattle.version_groups_tables.proofs.restoration.begin_over.Goals as goal

pub returns-clause-next : goal.returns-clause-next
returns-clause-next c =
    let tables = c.args.stored.now in
    let table = c.args.table.now in
    let has = HasColumns table.0 table.1 in
    let old = c.args.begun.now.items in
    let made : MadeTable = record {
      name = c.in_ok-copy.field-0;
      first = c.args.version;
      last =
          None;
      store = c.in-Some.store;
    } in
    subst (λ n. IsNextTable tables old c.put_begun.new.begun.items c.in_ok-place.place n has)
    (c.in_ok-copy.ensures ∙ c.name.ensures.value)
    (begins_last tables old c.put_begun.new.begun.items made c.in_ok-place.place has
    c.in_ok-place.ensures.grown c.in_ok-place.ensures.place
    (first_columns (into_iter_items c.args.stores.now) (into_iter_items c.next.new.self)
    c.in-Some.store table c.requires.due.0 c.in-Some.ensures.cases.0 c.requires.due.1))
