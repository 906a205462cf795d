use Rattle.std.proofs.Common.{subst}
use Rattle.version_groups_tables.specs.Becoming.{Begins}
use Rattle.version_groups_tables.specs.Evolving.{IsNextTable}
use Rattle.version_groups_tables.proofs.NextPlaces.{begins_last}
use Rattle.version_groups_tables.proofs.evolution.begin_after.Goals as goal

pub returns-clause-next : goal.returns-clause-next
returns-clause-next c =
    let tables = c.args.stored.now in
    let has = Begins c.args.table.now.1 c.args.stamp c.args.rows.now in
    let old = c.args.begun.now.items in
    subst (λ n. IsNextTable tables old c.put_begun.new.begun.items c.in_ok-place.place n has)
    c.in_ok-made.ensures.size.name
    (begins_last tables old c.put_begun.new.begun.items c.in_ok-made.made c.in_ok-place.place has
    c.in_ok-place.ensures.grown c.in_ok-place.ensures.place c.in_ok-made.ensures.begins)

pub returns-clause-begun : goal.returns-clause-begun
returns-clause-begun c = record {
  table = c.in_ok-made.made;
  grown = c.in_ok-place.ensures.grown;
  last = c.in_ok-place.ensures.place;
  begins = c.in_ok-made.ensures.size;
}
