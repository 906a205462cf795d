use Rattle.std.proofs.Common.{◌+◌, ◌++◌, ◌∙◌, ℕ, drop}
use Rattle.std.specs.Prelude.{List, Bool}
use Rattle.std.specs.List.{filter}
use Rattle.std.specs.FinMap.{entries}
use Rattle.std.specs.Vec.Iter.{into_iter_items}
use Rattle.prima_base.specs.Columns.{Column}
use Rattle.version_groups_tables.specs.Places.{at_places}
use Rattle.smo_ops_operators.specs.Names.{is_one_of}
use Rattle.version_groups_tables.specs.Restoring.{BeginsOver, HasColumns}
use Rattle.version_groups_tables.proofs.BegunTables.{listed_there, next_begun, all_begun}
use Rattle.version_groups_tables.proofs.BegunTables.{begun_ordered}
use Rattle.version_groups_tables.proofs.BegunTables.{begun_each}
use Rattle.version_groups_tables.proofs.NextPlaces.{placed_more, within_more}
use Rattle.version_groups_tables.proofs.PlacedTables.{next_coming, all_coming, all_placed}
use Rattle.version_groups_tables.proofs.RestoredTables.{due_now}
use Rattle.version_groups_tables.proofs.restoration.restored_tables.Goals as goal

pub restored_place-requires-clause-due : goal.restored_place-requires-clause-due
restored_place-requires-clause-due c =
    let made : List ℕ × List Column → Bool = λ e. is_one_of c.args.names e.0 in
    let es = entries c.args.next.now in (
      filter made (drop (c.loop-i.i + 1) es),
      due_now made (into_iter_items c.loop-i.stores) es
          c.loop-i.i c.at-table.result.now c.at-table.ensures.table c.loop-i.invariant.due,
    )

pub restored_place-requires-clause-others : goal.restored_place-requires-clause-others
restored_place-requires-clause-others c =
    c.requires.others c.at-table.result.now.0 c.at-table.result.now.1
    (listed_there HasColumns c.args.next.now c.loop-i.i c.at-table.result.now
    c.at-table.ensures.table)

pub loop-i-preserved : goal.loop-i-preserved
loop-i-preserved c =
    let table = c.at-table.result.now in
    let has = HasColumns table.0 table.1 in
    let made : List ℕ × List Column → Bool = λ e. is_one_of c.args.names e.0 in
    let es = entries c.args.next.now in
    let h = c.in_ok-place.ensures.next in
    record {
      begun = next_begun HasColumns es c.loop-i.i table
          (at_places (c.args.tables.now ++ c.loop-i.begun.items) c.loop-i.own.items)
          (at_places (c.args.tables.now ++ c.restored_place.new.begun.items) c.push.new.self.items)
          h.table c.at-table.ensures.table c.loop-i.invariant.begun
          (placed_more c.args.tables.now c.loop-i.begun.items c.restored_place.new.begun.items
          c.loop-i.own.items c.push.new.self.items c.in_ok-place.place table.0 has
          c.loop-i.invariant.there h c.in_ok-push.ensures.items) h.named h.has;
      there = within_more c.args.tables.now c.loop-i.begun.items c.restored_place.new.begun.items
          c.loop-i.own.items c.push.new.self.items c.in_ok-place.place table.0 has
          c.loop-i.invariant.there h c.in_ok-place.ensures.there c.in_ok-push.ensures.items;
      coming = next_coming c.args.tables.now c.args.places.now (is_one_of c.args.names)
          (BeginsOver c.args.version) c.requires.there c.requires.ordered es c.loop-i.i table
          c.loop-i.begun.items c.restored_place.new.begun.items c.loop-i.own.items
          c.push.new.self.items c.in_ok-place.place c.at-table.ensures.table
          c.loop-i.invariant.coming c.in_ok-place.ensures.comes
          c.in_ok-push.ensures.items;
      due = c.in_ok-place.ensures.due (filter made (drop (c.loop-i.i + 1) es))
          (due_now made (into_iter_items c.loop-i.stores) es c.loop-i.i table
          c.at-table.ensures.table c.loop-i.invariant.due);
      taken = c.in_ok-place.ensures.taken ∙ c.loop-i.invariant.taken;
    }

pub returns-clause-next : goal.returns-clause-next
returns-clause-next c =
    let group = at_places (c.args.tables.now ++ c.loop-i.begun.items) c.loop-i.own.items in
    let all = all_begun HasColumns c.args.next.now c.loop-i.i c.len-i-end.result group
    c.len-i-end.ensures.count c.loop-i.auto.i-end c.loop-i-test.false
    c.loop-i.invariant.begun in
    let coming = all_coming c.args.tables.now c.args.places.now (is_one_of c.args.names)
    (BeginsOver c.args.version) c.args.next.now c.loop-i.i c.len-i-end.result
    c.loop-i.begun.items c.loop-i.own.items c.len-i-end.ensures.count
    c.loop-i.auto.i-end c.loop-i-test.false c.loop-i.invariant.coming in
    record {
      begin = coming.begin;
      placed = all_placed c.args.tables.now c.args.places.now (is_one_of c.args.names)
          (BeginsOver c.args.version) c.args.next.now c.loop-i.begun.items c.loop-i.own.items
          coming;
      there = c.loop-i.invariant.there;
      ordered = begun_ordered HasColumns c.args.next.now group all;
      tables = begun_each HasColumns c.args.next.now group all;
    }
