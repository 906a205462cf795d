use Rattle.std.proofs.Common.{◌≡◌, ◌∙◌, ℕ, ◌+◌, ◌^◌, ◌<◌, ◌≤◌, List, [], ◌∷◌, ◌++◌, sym}
use Rattle.std.proofs.Common.{ap, subst, map, take, length, get_or, arith}
use Rattle.std.specs.Prelude.{slice_range}
use Rattle.std.proofs.lemmas.List.{take_more, length-take}
use Rattle.relations_spec.specs.Timed.{held_at}
use Rattle.prima_base.specs.declared.timed_row.TimedRow.{TimedRow}
use Rattle.prima_base.specs.declared.value.Val.{Val}
use Rattle.prima_base.specs.declared.value.Value.{Value}
use Rattle.prima_base.specs.Order.{shown}
use Rattle.prima_base.specs.Timed.{entries_of}
use Rattle.time_aggregate.specs.declared.turn.Turn.{Turn}
use Rattle.prima_base.specs.declared.agg_row.AggRow.{AggRow}
use Rattle.time_aggregate.specs.Aggregates.{groups}
use Rattle.prima_base.specs.Groups.{groups_shown}
use Rattle.time_aggregate.specs.Listed.{IsTold}
use Rattle.time_aggregate.specs.Turns.{rows_shown, row_at}
use Rattle.time_aggregate.specs.Tallies.{IsHeld}
use Rattle.time_aggregate.proofs.Defaults.{no_row}
use Rattle.time_aggregate.proofs.ShownRows.{shown_at, part_at}
use Rattle.time_aggregate.proofs.TurnSteps.{slice_length}
use Rattle.time_aggregate.proofs.Rooms.{held_room, held_few, all_places}
use Rattle.time_aggregate.proofs.Sweeping.{Swept, nothing_listed, swept_more, swept_all}
use Rattle.time_aggregate.proofs.Sweeping.{few_held, told_since}
use Rattle.time_aggregate.proofs.sweep.told_of.Goals as goal

pub loop-i-init : goal.loop-i-init
loop-i-init c = (
  omega arith,
  record {
    tallies = c.in_ok-held.ensures (rows_shown c.args.rows.now.items);
    past = λ k d a b. absurd (omega arith);
    later = λ k d a b. omega arith;
    lists = subst (λ (w : List AggRow). Rattle.relations_spec.specs.Listing.IsListing
        Rattle.time_aggregate.specs.Aggregates.group_cmp (λ (m : ℕ). groups c.args.group
        c.args.items.now (held_at (entries_of (slice_range c.args.rows.now.items c.args.start
        c.args.end)) m)) (Rattle.relations_spec.specs.Spans.span 0 0) (groups_shown w))
        (sym c.new-listed.ensures.items) (nothing_listed (λ (m : ℕ). groups c.args.group
        c.args.items.now (held_at (entries_of (slice_range c.args.rows.now.items c.args.start
        c.args.end)) m)));
  },
)

pub turn-requires-clause-within : goal.turn-requires-clause-within
turn-requires-clause-within c =
    let r = c.requires.order in
    let w = c.requires.within in
    let n = slice_length c.args.rows.now.items c.args.start c.args.end (omega arith)
    (omega arith) in
    let a = all_places c.args.start (slice_range c.args.rows.now.items c.args.start c.args.end)
    c.in_ok-turns.turns.items (length c.args.rows.now.items) (omega arith)
    c.in_ok-turns.ensures.same in
    let p = a c.loop-i.i c.index-turn.result.now (omega arith) in
    subst (λ (t : Turn). t.place < length c.args.rows.now.items) (sym c.index-turn.ensures) p

pub turn-requires-clause-few : goal.turn-requires-clause-few
turn-requires-clause-few c =
    let l = length-take c.loop-i.i c.in_ok-turns.turns.items in
    let s = c.in_ok-turns.turns.small in
    let k = c.in_ok-turns.turns.ok.0 in
    held_few c.args.items.now (rows_shown c.args.rows.now.items)
    (take c.loop-i.i c.in_ok-turns.turns.items) c.loop-i.held (omega arith)
    c.loop-i.invariant.1.tallies

pub turn-requires-clause-room : goal.turn-requires-clause-room
turn-requires-clause-room c =
    let l = length-take c.loop-i.i c.in_ok-turns.turns.items in
    let s = c.in_ok-turns.turns.small in
    let k = c.in_ok-turns.turns.ok.0 in
    held_room c.args.items.now (rows_shown c.args.rows.now.items)
    (take c.loop-i.i c.in_ok-turns.turns.items) c.loop-i.held (omega arith)
    c.loop-i.invariant.1.tallies

pub loop-i-preserved : goal.loop-i-preserved
loop-i-preserved c =
    let rows = c.args.rows.now.items in
    let run = slice_range rows c.args.start c.args.end in
    let all = rows_shown rows in
    let turns = c.in_ok-turns.turns.items in
    let key = take c.args.group (row_at all c.args.start) in
    let x = c.index-turn.result.now in
    let r = c.requires.order in
    let w = c.requires.within in
    let n = slice_length rows c.args.start c.args.end (omega arith) (omega arith) in
    let few = c.values.ensures.few in
    let e : x ≡ get_or turns c.loop-i.i x = c.index-turn.ensures in
    let fits : x.moment < 2 ^ 64 = c.tell.ensures.few in
    let same = λ (k : ℕ) (d : TimedRow) (b : k < length run).
    part_at rows c.args.start c.args.end k d (omega arith) w b in
    let first : map shown c.first_values-first.result.now ≡ key = c.first_values-first.ensures
    ∙ ap (λ (v : List Val). take c.args.group (map shown v)) (c.values.ensures.values no_row)
    ∙ ap (λ (v : List Value). take c.args.group v)
    (sym (shown_at rows c.args.start no_row (omega arith))) in
    let more = swept_more c.args.group c.args.items.now key c.args.start run all turns
    c.requires.lasting c.requires.one same c.in_ok-turns.ensures.same
    c.in_ok-turns.ensures.order c.loop-i.i c.loop-i.since c.loop-i.held
    (groups_shown c.loop-i.listed.items) c.loop-i.invariant.1 x (omega arith) c.turn.new.self
    (groups_shown c.tell.new.listed.items)
    (subst (λ (v : List Turn). IsHeld c.args.items.now all v c.turn.new.self)
    (ap (λ (v : Turn). take c.loop-i.i turns ++ v ∷ []) e
    ∙ sym (take_more turns c.loop-i.i x (omega arith)))
    (c.in_ok-turn.ensures c.args.items.now (take c.loop-i.i turns)
    c.loop-i.invariant.1.tallies))
    (λ h. ap groups_shown (c.in_ok-tell.ensures.same (subst (λ (v : Turn).
    v.moment ≤ c.loop-i.since) (sym e) h)))
    (λ h. subst (λ (v : List Value). IsTold (groups_shown c.loop-i.listed.items) v
    c.args.items.now (held_at (entries_of run) c.loop-i.since) c.loop-i.since
    (get_or turns c.loop-i.i x).moment (groups_shown c.tell.new.listed.items)) first
    (subst (λ (v : Turn). IsTold (groups_shown c.loop-i.listed.items)
    (map shown c.first_values-first.result.now) c.args.items.now
    (held_at (entries_of run) c.loop-i.since) c.loop-i.since v.moment
    (groups_shown c.tell.new.listed.items)) e
    (c.in_ok-tell.ensures.told (subst (λ (v : Turn). c.loop-i.since < v.moment) (sym e) h)
    c.args.items.now (held_at (entries_of run) c.loop-i.since)
    (told_since c.args.group c.args.items.now key c.args.start run all turns
    c.requires.lasting c.requires.one same c.in_ok-turns.ensures.same
    c.in_ok-turns.ensures.order c.loop-i.i c.loop-i.since c.loop-i.held
    (groups_shown c.loop-i.listed.items) c.loop-i.invariant.1 x h)
    (few_held c.args.group c.args.items.now key c.args.start run all turns
    c.requires.lasting c.requires.one same c.in_ok-turns.ensures.same
    c.in_ok-turns.ensures.order c.loop-i.i c.loop-i.since c.loop-i.held
    (groups_shown c.loop-i.listed.items) c.loop-i.invariant.1 c.loop-i.since (omega arith))))) in (
      fits,
      subst (λ (v : Turn). Swept (λ (m : ℕ). groups c.args.group c.args.items.now
          (held_at (entries_of run) m)) c.args.items.now all turns (c.loop-i.i + 1) v.moment
          c.turn.new.self (groups_shown c.tell.new.listed.items)) (sym e) more,
    )

pub returns : goal.returns
returns c =
    let rows = c.args.rows.now.items in
    let run = slice_range rows c.args.start c.args.end in
    let r = c.requires.order in
    let w = c.requires.within in
    let same = λ (k : ℕ) (d : TimedRow) (b : k < length run).
    part_at rows c.args.start c.args.end k d (omega arith) w b in
    swept_all c.args.group c.args.items.now (take c.args.group (row_at (rows_shown rows)
    c.args.start)) c.args.start run (rows_shown rows) c.in_ok-turns.turns.items
    c.requires.lasting c.requires.one same c.in_ok-turns.ensures.same c.in_ok-turns.ensures.order
    c.loop-i.i c.loop-i.since c.loop-i.held (groups_shown c.loop-i.listed.items)
    c.loop-i.invariant.1 (omega arith) (let f = c.loop-i.invariant.0 in omega arith)
