use Rattle.std.proofs.Common.{◌≡◌, ◌<◌, ◌+◌, ◌++◌, ◌∷◌, [], ◌∙◌, List, length, get_or, sym, ap}
use Rattle.std.proofs.Common.{subst, arith}
use Rattle.std.specs.Prelude.{Option}
use Rattle.std.proofs.Math.ListN.{set, length-set}
use Rattle.history_store.specs.Change.{PreparedChange}
use Rattle.smo_ops_types.specs.Changes.{PlainChange, changes_of}
use Rattle.smo_ops_spec.specs.Effects.{gained_rows}
use Rattle.version_groups_tables.specs.declared.made_table.MadeTable.{MadeTable}
use Rattle.version_groups_tables.specs.Becoming.{Leads}
use Rattle.version_groups_tables.specs.Changing.{IsChangeable, rows_now, rows_after_own}
use Rattle.version_groups_tables.specs.Grouping.{of_table, by_table}
use Rattle.version_groups_tables.specs.Places.{at_places}
use Rattle.version_groups_tables.proofs.ChangeGroups.{as_many_tables, own_changes}
use Rattle.version_groups_tables.proofs.Places.{at_count, at_get, at_set, place_within}
use Rattle.version_groups_tables.proofs.Places.{places_within}
use Rattle.version_groups_tables.proofs.Places.{apart_by_names, none_same, set_again}
use Rattle.version_groups_tables.proofs.SchemaTables.{same_names, as_many_as, columns_at}
use Rattle.version_groups_tables.proofs.TablesInTurn.{ReadyTo, none_ready, one_ready, was}
use Rattle.version_groups_tables.proofs.TablesInTurn.{gained_is}
use Rattle.version_groups_tables.proofs.TablesInTurn.{lost_is, are_ready}
use Rattle.version_groups_tables.proofs.changed_table.prepare_tables.Goals as goal

pub index_mut-requires : goal.index_mut-requires
index_mut-requires c =
    let within = place_within c.args.places.now (length c.args.tables.now.items) c.loop-i.i 0
    c.requires.there c.loop-i-test.true in
    let count = c.loop-i.invariant.same.count in
    omega (arith, within, count)

pub at-requires : goal.at-requires
at-requires c =
    let old = at_places c.args.tables.now.items c.args.places.now in
    let many = as_many_as c.args.schema.now old c.requires.schema in
    let count = at_count c.args.tables.now.items c.args.places.now c.requires.there in
    let under = c.loop-i-test.true in
    omega (arith, many, count, under)

pub index-requires : goal.index-requires
index-requires c =
    let places = c.args.places.now in
    let old = at_places c.args.tables.now.items places in
    let many = as_many_tables old c.in_ok-groups.groups.items (changes_of c.args.changes.now)
    (c.in_ok-groups.ensures ∙ ap (λ names. by_table names (changes_of c.args.changes.now))
    (same_names c.args.schema.now old c.requires.schema)) in
    let count = at_count c.args.tables.now.items places c.requires.there in
    let under = c.loop-i-test.true in
    omega (arith, many, count, under)

pub prepare_one-requires-clause-own : goal.prepare_one-requires-clause-own
prepare_one-requires-clause-own c =
    let old = c.args.tables.now.items in
    let places = c.args.places.now in
    let now = at_places c.loop-i.tables.items places in
    let t = c.index_mut.result.now in
    let there = places_within places (length old) (length c.loop-i.tables.items)
    (let count = c.loop-i.invariant.same.count in omega (arith, count)) c.requires.there in
    let n = at_count c.loop-i.tables.items places there in
    let under = c.loop-i-test.true in
    let is : t ≡ get_or now c.loop-i.i t = c.index_mut.ensures.value
    ∙ sym (at_get c.loop-i.tables.items places c.loop-i.i 0 t there c.loop-i-test.true) in
    let first : get_or (at_places old places) c.loop-i.i t ≡ t =
    was c.args.stamp (changes_of c.args.changes.now) (at_places old places) now
    c.loop-i.prepared.items c.loop-i.gained c.loop-i.lost c.loop-i.i c.loop-i.invariant.turn t
    (omega (arith, n, under)) is t in
    let m = at_count old places c.requires.there in
    columns_at c.args.schema.now (at_places old places) c.requires.schema c.loop-i.i t
    c.at.result.now (omega (arith, m, under)) first c.at.ensures.table
    ∙ sym c.columns-columns.ensures.value

pub prepare_one-requires-clause-changeable : goal.prepare_one-requires-clause-changeable
prepare_one-requires-clause-changeable c =
    let old = c.args.tables.now.items in
    let places = c.args.places.now in
    let its = changes_of c.args.changes.now in
    let now = at_places c.loop-i.tables.items places in
    let t = c.index_mut.result.now in
    let there = places_within places (length old) (length c.loop-i.tables.items)
    (let count = c.loop-i.invariant.same.count in omega (arith, count)) c.requires.there in
    let n = at_count c.loop-i.tables.items places there in
    let under = c.loop-i-test.true in
    let is : t ≡ get_or now c.loop-i.i t = c.index_mut.ensures.value
    ∙ sym (at_get c.loop-i.tables.items places c.loop-i.i 0 t there c.loop-i-test.true) in
    let first : get_or (at_places old places) c.loop-i.i t ≡ t =
    was c.args.stamp its (at_places old places) now c.loop-i.prepared.items c.loop-i.gained
    c.loop-i.lost c.loop-i.i c.loop-i.invariant.turn t (omega (arith, n, under)) is t in
    let m = at_count old places c.requires.there in
    let within : c.loop-i.i < length (at_places old places) = omega (arith, m, under) in
    let own = own_changes (at_places old places) c.in_ok-groups.groups.items its c.loop-i.i t
    c.index.result.now c.deref.result.now
    (c.in_ok-groups.ensures ∙ ap (λ names. by_table names its)
    (same_names c.args.schema.now (at_places old places) c.requires.schema)) within first
    c.index.ensures c.deref.ensures.value in
    subst (λ (cs : List PlainChange). IsChangeable c.args.stamp cs t) (sym own)
    (subst (λ (x : MadeTable). IsChangeable c.args.stamp (of_table x.name its) x)
    first (c.requires.changeable c.loop-i.i t within))

pub loop-i-init : goal.loop-i-init
loop-i-init c =
    let old = at_places c.args.tables.now.items c.args.places.now in
    record {
      turn = subst (λ (prepared : List (Option PreparedChange)).
          ReadyTo c.args.stamp (changes_of c.args.changes.now) old old prepared 0 0 0)
          (sym c.in_ok-prepared.ensures.items)
          (none_ready c.args.stamp (changes_of c.args.changes.now)
          old);
      same = none_same c.args.tables.now.items;
      room = omega arith;
    }

pub loop-i-preserved : goal.loop-i-preserved
loop-i-preserved c =
    let all = c.loop-i.tables.items in
    let places = c.args.places.now in
    let i = c.loop-i.i in
    let q = get_or places i 0 in
    let t = c.index_mut.result.now in
    let u = c.prepare_one.new.table in
    let old = at_places c.args.tables.now.items places in
    let now = at_places all places in
    let stamp = c.args.stamp in
    let changes = changes_of c.args.changes.now in
    let under = c.loop-i-test.true in
    let there = places_within places (length c.args.tables.now.items) (length all)
    (let count = c.loop-i.invariant.same.count in omega (arith, count)) c.requires.there in
    let n = at_count all places there in
    let is : t ≡ get_or now i t = c.index_mut.ensures.value
    ∙ sym (at_get all places i 0 t there c.loop-i-test.true) in
    let placed : at_places (set all q u) places ≡ set now i u =
    at_set all places i 0 u there (apart_by_names c.args.tables.now.items places
    c.requires.there c.requires.ordered) c.loop-i-test.true in
    let first : get_or old i t ≡ t = was stamp changes old now c.loop-i.prepared.items
    c.loop-i.gained
    c.loop-i.lost i c.loop-i.invariant.turn t (omega (arith, n, under)) is t in
    let m = at_count c.args.tables.now.items places c.requires.there in
    let own = own_changes old c.in_ok-groups.groups.items changes i t c.index.result.now
    c.deref.result.now (c.in_ok-groups.ensures ∙ ap (λ names. by_table names changes)
    (same_names c.args.schema.now old c.requires.schema)) (omega (arith, m, under)) first
    c.index.ensures c.deref.ensures.value in
    let more = one_ready stamp changes old now c.loop-i.prepared.items c.loop-i.gained c.loop-i.lost
    i
    c.loop-i.invariant.turn t u c.in_ok-change.change c.gained_by.result c.lost_by.result
    (omega (arith, n, under)) is c.prepare_one.ensures.same
    (subst (λ (cs : List PlainChange). Leads u.store stamp (rows_after_own stamp cs t)
    c.in_ok-change.change) own c.in_ok-change.ensures.leads)
    (c.gained_by.ensures ∙ c.in_ok-change.ensures.gained
    ∙ ap (λ cs. length (gained_rows (rows_now stamp t) (rows_after_own stamp cs t))) own)
    (c.lost_by.ensures ∙ c.in_ok-change.ensures.lost
    ∙ ap (λ cs. length (gained_rows (rows_after_own stamp cs t) (rows_now stamp t))) own) in
    record {
      turn = subst (λ (ts : List MadeTable). ReadyTo stamp changes old ts c.push.new.self.items
          c.in_ok-gained.gained c.in_ok-lost.lost (i + 1)) (sym placed)
          (subst (λ (prepared : List (Option PreparedChange)).
          ReadyTo stamp changes old (set now i u) prepared c.in_ok-gained.gained c.in_ok-lost.lost
          (i + 1)) (sym c.in_ok-push.ensures.items)
          (subst (λ g. ReadyTo stamp changes old (set now i u)
          (c.loop-i.prepared.items ++ c.in_ok-change.change ∷ []) g c.in_ok-lost.lost (i + 1))
          (sym c.in_ok-gained.ensures)
          (subst (λ l. ReadyTo stamp changes old (set now i u)
          (c.loop-i.prepared.items ++ c.in_ok-change.change ∷ [])
          (c.loop-i.gained + c.gained_by.result) l (i + 1)) (sym c.in_ok-lost.ensures) more)));
      same = set_again c.args.tables.now.items all q t u c.loop-i.invariant.same
          (place_within places (length all) i 0 there c.loop-i-test.true) c.index_mut.ensures.value
          c.prepare_one.ensures.same;
      room = (let before = c.loop-i.invariant.room in let long = length-set all q u in
          omega (arith, before, long));
    }

pub returns-clause-same : goal.returns-clause-same
returns-clause-same c = c.loop-i.invariant.same

pub returns-clause-ready : goal.returns-clause-ready
returns-clause-ready c =
    let places = c.args.places.now in
    let all = c.loop-i.tables.items in
    let there = places_within places (length c.args.tables.now.items) (length all)
    (let count = c.loop-i.invariant.same.count in omega (arith, count)) c.requires.there in
    let n = at_count all places there in
    let m = at_count c.args.tables.now.items places c.requires.there in
    let past = c.loop-i-test.false in
    let few = c.loop-i.auto.i-end in
    are_ready c.args.stamp (changes_of c.args.changes.now)
    (at_places c.args.tables.now.items places) (at_places all places) c.loop-i.prepared.items
    c.loop-i.gained c.loop-i.lost c.loop-i.i c.loop-i.invariant.turn
    (omega (arith, m, past)) (omega (arith, n, few))

pub returns-clause-gained : goal.returns-clause-gained
returns-clause-gained c =
    let places = c.args.places.now in
    let m = at_count c.args.tables.now.items places c.requires.there in
    let past = c.loop-i-test.false in
    gained_is c.args.stamp (changes_of c.args.changes.now)
    (at_places c.args.tables.now.items places) (at_places c.loop-i.tables.items places)
    c.loop-i.prepared.items c.loop-i.gained c.loop-i.lost c.loop-i.i
    c.loop-i.invariant.turn (omega (arith, m, past))

pub returns-clause-lost : goal.returns-clause-lost
returns-clause-lost c =
    let places = c.args.places.now in
    let m = at_count c.args.tables.now.items places c.requires.there in
    let past = c.loop-i-test.false in
    lost_is c.args.stamp (changes_of c.args.changes.now) (at_places c.args.tables.now.items places)
    (at_places c.loop-i.tables.items places) c.loop-i.prepared.items c.loop-i.gained c.loop-i.lost
    c.loop-i.i
    c.loop-i.invariant.turn (omega (arith, m, past))

pub returns-in_err-gained-clause-same : goal.returns-in_err-gained-clause-same
returns-in_err-gained-clause-same c =
    let places = c.args.places.now in
    let all = c.loop-i.tables.items in
    let there = places_within places (length c.args.tables.now.items) (length all)
    (let count = c.loop-i.invariant.same.count in omega (arith, count)) c.requires.there in
    set_again c.args.tables.now.items all (get_or places c.loop-i.i 0) c.index_mut.result.now
    c.prepare_one.new.table c.loop-i.invariant.same
    (place_within places (length all) c.loop-i.i 0 there c.loop-i-test.true)
    c.index_mut.ensures.value c.prepare_one.ensures.same

pub returns-in_err-lost-clause-same : goal.returns-in_err-lost-clause-same
returns-in_err-lost-clause-same c =
    let places = c.args.places.now in
    let all = c.loop-i.tables.items in
    let there = places_within places (length c.args.tables.now.items) (length all)
    (let count = c.loop-i.invariant.same.count in omega (arith, count)) c.requires.there in
    set_again c.args.tables.now.items all (get_or places c.loop-i.i 0) c.index_mut.result.now
    c.prepare_one.new.table c.loop-i.invariant.same
    (place_within places (length all) c.loop-i.i 0 there c.loop-i-test.true)
    c.index_mut.ensures.value c.prepare_one.ensures.same
