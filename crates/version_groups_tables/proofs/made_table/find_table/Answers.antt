use Rattle.std.proofs.Common.{◌+◌, ◌∙◌, arith, drop, get_or, length, refl, sym}
use Rattle.std.proofs.lemmas.Bool.Decides.{nat_tests}
use Rattle.std.proofs.lemmas.Option.{slice_get_read, slice_get_past}
use Rattle.version_groups_tables.proofs.NextPlaces.{found_here, found_after, none_here}
use Rattle.version_groups_tables.proofs.NextPlaces.{next_in_turn}
use Rattle.version_groups_tables.proofs.Places.{place_in}
use Rattle.version_groups_tables.proofs.made_table.find_table.Goals as goal
use Rattle.version_groups_tables.proofs.made_table.find_table.Goals.{in-Some+else-eq, in_default}

pub returns-then-eq : goal.returns-then-eq
returns-then-eq c =
    let places = c.args.places.now in
    let i = c.loop-place.place-index in
    let p = get_or places i 0 in
    let look = c.in-Some.ensures.lookup in
    found_here c.args.tables.now places (drop (i + 1) places) p c.args.name.now c.in-Some.table.now
    (next_in_turn c.args.tables.now places i c.args.name.now c.loop-place-test.true
    c.loop-place.invariant)
    (slice_get_read c.args.tables.now (length c.args.tables.now) p c.in-Some.table.now refl look.3.0
    look.1) (sym c.eq.ensures ∙ c.if-eq.true)
    (place_in places i 0 c.loop-place-test.true)

pub loop-place-preserved : goal.loop-place-preserved
loop-place-preserved c =
    let places = c.args.places.now in
    let i = c.loop-place.place-index in
    let p = get_or places i 0 in
    let before = next_in_turn c.args.tables.now places i c.args.name.now c.loop-place-test.true
    c.loop-place.invariant in
    elim c.match-get.branch [
      | in-Some+else-eq w ↦
          found_after c.args.tables.now places (drop (i + 1) places) p c.args.name.now
          w.in-Some.table.now before
          (slice_get_read c.args.tables.now (length c.args.tables.now) p w.in-Some.table.now refl
          w.in-Some.ensures.lookup.3.0 w.in-Some.ensures.lookup.1)
          (sym w.eq.ensures ∙ w.if-eq.false)
      | in_default w ↦ none_here c.args.tables.now places (drop (i + 1) places) p c.args.name.now
          before
          (slice_get_past c.args.tables.now p
          (let look = w.in_default.ensures.lookup.0 in grind (arith, nat_tests, look)))
    ]
