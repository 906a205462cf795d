use Rattle.std.proofs.Common.{◌≡◌, ◌<◌, ◌+◌, ◌∙◌, [], List, length, get_or, refl, rules, sym, subst}
use Rattle.std.proofs.Common.{arith, get_or-set_other}
use Rattle.std.specs.Prelude.{Option}
use Rattle.std.proofs.lemmas.Grind.{common_steps}
use Rattle.std.proofs.lemmas.List.{nil_from_length}
use Rattle.std.proofs.Math.ListN.{set}
use Rattle.std.specs.Vec.Iter.{into_iter_items}
use Rattle.history_store.specs.Change.{PreparedChange}
use Rattle.version_groups_tables.specs.declared.made_table.MadeTable.{MadeTable}
use Rattle.relations_spec.specs.Sets.{In}
use Rattle.version_groups_tables.specs.Becoming.{HasRoom}
use Rattle.version_groups_tables.specs.Places.{at_places}
use Rattle.version_groups_tables.proofs.MadeBy.{none_by, one_by, among_at}
use Rattle.version_groups_tables.proofs.Places.{at_count, at_get, at_set, place_in, place_within}
use Rattle.version_groups_tables.proofs.Places.{places_within, apart_by_names}
use Rattle.version_groups_tables.proofs.TablesInTurn.{MadeTo, none_made, one_made, next_left}
use Rattle.version_groups_tables.proofs.TablesInTurn.{no_more}
use Rattle.version_groups_tables.proofs.TablesInTurn.{room_before}
use Rattle.version_groups_tables.proofs.changed_table.install_tables.Goals as goal

pub bounds-places-i : goal.bounds-places-i
bounds-places-i c =
    let next = next_left c.args.prepared.items (into_iter_items c.next.new.self) c.in-Some.change
    c.loop-change.i (sym c.loop-change.invariant.left ∙ c.in-Some.ensures.steps.0) in
    let within = next.within in
    let count = c.requires.room.count in
    let n = at_count c.args.tables.now.items c.args.places.now c.requires.there in
    omega (arith, within, count, n)

pub index_mut-requires : goal.index_mut-requires
index_mut-requires c =
    let next = next_left c.args.prepared.items (into_iter_items c.next.new.self) c.in-Some.change
    c.loop-change.i (sym c.loop-change.invariant.left ∙ c.in-Some.ensures.steps.0) in
    let within = next.within in
    let count = c.requires.room.count in
    let n = at_count c.args.tables.now.items c.args.places.now c.requires.there in
    let under : c.loop-change.i < length c.args.places.now = omega (arith, within, count, n) in
    let there = place_within c.args.places.now (length c.args.tables.now.items) c.loop-change.i 0
    c.requires.there under in
    let long = c.loop-change.invariant.each.count in
    omega (arith, there, long)

pub install_one-requires : goal.install_one-requires
install_one-requires c =
    let next = next_left c.args.prepared.items (into_iter_items c.next.new.self) c.in-Some.change
    c.loop-change.i (sym c.loop-change.invariant.left ∙ c.in-Some.ensures.steps.0) in
    let within = next.within in
    let count = c.requires.room.count in
    let places = c.args.places.now in
    let all = c.loop-change.tables.items in
    let n = at_count c.args.tables.now.items places c.requires.there in
    let under : c.loop-change.i < length places = omega (arith, within, count, n) in
    let there = places_within places (length c.args.tables.now.items) (length all)
    (let long = c.loop-change.invariant.each.count in omega (arith, long)) c.requires.there in
    let m = at_count all places there in
    room_before (at_places c.args.tables.now.items places) (at_places all places)
    c.args.prepared.items
    c.loop-change.i c.loop-change.invariant.made
    (λ (t : MadeTable) (p : Option PreparedChange). HasRoom t.store p) c.requires.room.each
    c.index_mut.result.now c.in-Some.change (omega (arith, under, m))
    (c.index_mut.ensures.value ∙ sym (at_get all places c.loop-change.i 0 c.index_mut.result.now
    there under)) (next.is _)

pub loop-change-init : goal.loop-change-init
loop-change-init c = record {
  left = search rules;
  within = omega arith;
  made = none_made (at_places c.args.tables.now.items c.args.places.now) c.args.prepared.items;
  each = none_by c.args.prepared.items c.args.tables.now.items;
  others = λ p d n. refl;
}

pub loop-change-preserved : goal.loop-change-preserved
loop-change-preserved c =
    let next = next_left c.args.prepared.items (into_iter_items c.next.new.self) c.in-Some.change
    c.loop-change.i (sym c.loop-change.invariant.left ∙ c.in-Some.ensures.steps.0) in
    let within = next.within in
    let count = c.requires.room.count in
    let places = c.args.places.now in
    let all = c.loop-change.tables.items in
    let i = c.loop-change.i in
    let q = get_or places i 0 in
    let t = c.index_mut.result.now in
    let u = c.install_one.new.table in
    let n = at_count c.args.tables.now.items places c.requires.there in
    let under : i < length places = omega (arith, within, count, n) in
    let there = places_within places (length c.args.tables.now.items) (length all)
    (let long = c.loop-change.invariant.each.count in omega (arith, long)) c.requires.there in
    let m = at_count all places there in
    let is : t ≡ get_or (at_places all places) i t = c.index_mut.ensures.value
    ∙ sym (at_get all places i 0 t there under) in
    let placed : at_places (set all q u) places ≡ set (at_places all places) i u =
    at_set all places i 0 u there (apart_by_names c.args.tables.now.items places
    c.requires.there c.requires.ordered) under in
    let first : get_or c.args.tables.now.items q t ≡ t =
    sym (at_get c.args.tables.now.items places i 0 t c.requires.there under)
    ∙ sym (c.loop-change.invariant.made.others i t (omega arith)) ∙ sym is in
    record {
      left = next.more;
      within = omega (arith, within);
      made = subst (λ (ts : List MadeTable). MadeTo (at_places c.args.tables.now.items places) ts
          c.args.prepared.items (i + 1)) (sym placed)
          (one_made (at_places c.args.tables.now.items places) (at_places all places)
          c.args.prepared.items i c.loop-change.invariant.made t u c.in-Some.change
          (omega (arith, under, m)) is (next.is _) c.install_one.ensures);
      each = one_by c.args.prepared.items c.args.tables.now.items all q t u c.in-Some.change
          c.loop-change.invariant.each (place_within places (length all) i 0 there under)
          c.index_mut.ensures.value first
          (among_at c.args.prepared.items i c.in-Some.change within (next.is _))
          c.install_one.ensures;
      others = λ p d n. get_or-set_other all q p u d
          (λ e. n (subst (λ j. In j places) (sym e) (place_in places i 0 under)))
          ∙ c.loop-change.invariant.others p d n;
    }

pub returns-clause-made : goal.returns-clause-made
returns-clause-made c =
    let none : into_iter_items c.loop-change.change-iterator ≡ [] =
    nil_from_length _ (grind (arith, common_steps)) in
    let all = no_more c.args.prepared.items c.loop-change.i
    (sym c.loop-change.invariant.left ∙ none) in
    let count = c.requires.room.count in
    record {
      count = c.loop-change.invariant.made.long;
      each = λ k d l.
          c.loop-change.invariant.made.made k d (omega (arith, l, all, count));
    }

pub returns-clause-each : goal.returns-clause-each
returns-clause-each c = c.loop-change.invariant.each

pub returns-clause-others : goal.returns-clause-others
returns-clause-others c = c.loop-change.invariant.others
