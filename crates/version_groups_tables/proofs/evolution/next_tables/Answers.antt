use Rattle.std.proofs.Common.{◌++◌, ℕ, []}
use Rattle.std.specs.Prelude.{List}
use Rattle.std.specs.FinMap.{entries}
use Rattle.prima_base.specs.Columns.{Column}
use Rattle.history_store.specs.Store.{Store}
use Rattle.version_groups_tables.specs.Becoming.{Begins}
use Rattle.version_groups_tables.specs.MadeRows.{made_rows}
use Rattle.version_groups_tables.specs.Places.{at_places}
use Rattle.version_groups_tables.specs.Beginning.{BeginsWith}
use Rattle.version_groups_tables.specs.NewestTables.{is_made, next_rows}
use Rattle.version_groups_tables.proofs.BegunTables.{listed_there, next_begun, all_begun}
use Rattle.version_groups_tables.proofs.BegunTables.{begun_ordered}
use Rattle.version_groups_tables.proofs.BegunTables.{begun_each}
use Rattle.version_groups_tables.proofs.NextPlaces.{placed_more, within_more}
use Rattle.version_groups_tables.proofs.PlacedTables.{comes_under, next_coming, all_coming}
use Rattle.version_groups_tables.proofs.PlacedTables.{all_placed}
use Rattle.version_groups_tables.proofs.evolution.next_tables.Goals as goal

pub next_place-requires-clause-relation : goal.next_place-requires-clause-relation
next_place-requires-clause-relation c =
    c.requires.relations c.at-table.result.now.0 c.at-table.result.now.1
    (listed_there (λ name columns store. Begins columns c.args.stamp [] store) c.args.next.now
    c.loop-i.i c.at-table.result.now c.at-table.ensures.table)

pub next_place-requires-clause-others : goal.next_place-requires-clause-others
next_place-requires-clause-others c =
    c.requires.others c.at-table.result.now.0 c.at-table.result.now.1
    (listed_there (λ name columns store. Begins columns c.args.stamp [] store) c.args.next.now
    c.loop-i.i c.at-table.result.now c.at-table.ensures.table)

pub loop-i-preserved : goal.loop-i-preserved
loop-i-preserved c =
    let group = at_places c.args.tables.now c.args.places.now in
    let rows = next_rows (made_rows c.args.names c.args.rows.now) c.args.stamp group in
    let table = c.at-table.result.now in
    let has : Store → Type 0 = Begins table.1 c.args.stamp (rows table.0) in
    let made = is_made (made_rows c.args.names c.args.rows.now) in
    let h = c.in_ok-place.ensures.next in
    record {
      begun = next_begun (λ name columns store. Begins columns c.args.stamp (rows name) store)
          (entries c.args.next.now) c.loop-i.i table
          (at_places (c.args.tables.now ++ c.loop-i.begun.items) c.loop-i.own.items)
          (at_places (c.args.tables.now ++ c.next_place.new.begun.items) c.push.new.self.items)
          h.table c.at-table.ensures.table c.loop-i.invariant.begun
          (placed_more c.args.tables.now c.loop-i.begun.items c.next_place.new.begun.items
          c.loop-i.own.items c.push.new.self.items c.in_ok-place.place table.0 has
          c.loop-i.invariant.there h c.in_ok-push.ensures.items) h.named h.has;
      there = within_more c.args.tables.now c.loop-i.begun.items c.next_place.new.begun.items
          c.loop-i.own.items c.push.new.self.items c.in_ok-place.place table.0 has
          c.loop-i.invariant.there h c.in_ok-place.ensures.there c.in_ok-push.ensures.items;
      coming = next_coming c.args.tables.now c.args.places.now made
          (BeginsWith c.args.version c.args.stamp rows) c.requires.there c.requires.ordered
          (entries c.args.next.now) c.loop-i.i table
          c.loop-i.begun.items c.next_place.new.begun.items c.loop-i.own.items c.push.new.self.items
          c.in_ok-place.place c.at-table.ensures.table c.loop-i.invariant.coming
          (comes_under c.args.version c.args.stamp rows (made table.0) c.args.tables.now
          c.loop-i.begun.items c.next_place.new.begun.items c.args.places.now
          c.in_ok-place.place table c.in_ok-place.ensures.comes)
          c.in_ok-push.ensures.items;
    }

pub returns : goal.returns
returns c =
    let rows = next_rows (made_rows c.args.names c.args.rows.now) c.args.stamp
    (at_places c.args.tables.now c.args.places.now) in
    let has : List ℕ → List Column → Store → Type 0 = λ name columns store.
    Begins columns c.args.stamp (rows name) store in
    let is = BeginsWith c.args.version c.args.stamp rows in
    let group = at_places (c.args.tables.now ++ c.loop-i.begun.items) c.loop-i.own.items in
    let all = all_begun has c.args.next.now c.loop-i.i c.len-i-end.result group
    c.len-i-end.ensures.count c.loop-i.auto.i-end c.loop-i-test.false
    c.loop-i.invariant.begun in
    let made = is_made (made_rows c.args.names c.args.rows.now) in
    let coming = all_coming c.args.tables.now c.args.places.now made is c.args.next.now c.loop-i.i
    c.len-i-end.result c.loop-i.begun.items c.loop-i.own.items c.len-i-end.ensures.count
    c.loop-i.auto.i-end c.loop-i-test.false c.loop-i.invariant.coming in
    record {
      begin = coming.begin;
      placed = all_placed c.args.tables.now c.args.places.now made is c.args.next.now
          c.loop-i.begun.items c.loop-i.own.items coming;
      there = c.loop-i.invariant.there;
      ordered = begun_ordered has c.args.next.now group all;
      tables = begun_each has c.args.next.now group all;
    }
