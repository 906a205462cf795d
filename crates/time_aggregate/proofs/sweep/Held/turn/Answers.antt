use Rattle.std.proofs.Common.{◌≡◌, ◌∙◌, sym, ap, subst, map, [], List, rules}
use Rattle.std.specs.Prelude.{ℤ, pos, ◌+ℤ◌}
use Rattle.std.specs.Int.{w128}
use Rattle.std.specs.Vec.{with_items}
use Rattle.time_aggregate.proofs.WithItems.{with_same}
use mir.Val.{SFits, to_z, of_z}
use Rattle.std.proofs.lemmas.Int.{to_z-of_z}
use Rattle.std.proofs.lemmas.List.{get_or-map}
use Rattle.prima_base.specs.declared.timed_row.TimedRow.{TimedRow}
use Rattle.prima_base.specs.declared.value.Val.{Val}
use Rattle.prima_base.specs.Order.{shown}
use Rattle.time_aggregate.specs.declared.tally.Tally.{Tally}
use Rattle.time_aggregate.specs.Aggregates.{Row}
use Rattle.time_aggregate.specs.Turns.{rows_shown, row_at, signed}
use Rattle.time_aggregate.specs.Tallies.{AreTurned}
use Rattle.time_aggregate.proofs.Defaults.{no_row}
use Rattle.time_aggregate.proofs.TallySteps.{held_more}
use Rattle.time_aggregate.proofs.sweep.Held.turn.Goals as goal

pub returns : goal.returns
returns c = λ items done h.
    let f : SFits w128 c.args.self.now.count = search rules in
    let k : SFits w128 c.turned-self.result = search rules in
    let a = to_z-of_z w128 c.args.self.now.count f in
    let v : row_at (rows_shown c.args.rows.now.items) c.args.turn.place
    ≡ map shown c.values.result.now = get_or-map (λ (r : TimedRow). map shown r.values.items)
    c.args.rows.now.items c.args.turn.place no_row [] c.requires.within
    ∙ ap (λ (w : List Val). map shown w) (sym (c.values.ensures.values no_row)) in
    let t = subst (λ (w : List Tally). AreTurned (map shown c.values.result.now)
    c.args.turn.opens w c.turn_all.new.tallies) c.deref_mut.ensures.value
    c.in_ok-turn_all.ensures in
    held_more items (rows_shown c.args.rows.now.items) done c.args.turn c.args.self.now
    (record {
      count = to_z w128 (of_z w128 c.turned-self.result);
      tallies = with_items c.args.self.now.tallies c.turn_all.new.tallies;
    }) h
    (to_z-of_z w128 c.turned-self.result k ∙ c.turned-self.ensures
    ∙ ap (λ (n : ℤ). n +ℤ signed c.args.turn.opens (pos 1)) a)
    (subst (λ (w : Row). AreTurned w c.args.turn.opens c.args.self.now.tallies.items
    (with_items c.args.self.now.tallies c.turn_all.new.tallies).items) (sym v)
    (subst (λ (w : List Tally). AreTurned (map shown c.values.result.now) c.args.turn.opens
    c.args.self.now.tallies.items w) (sym (with_same c.args.self.now.tallies
    c.turn_all.new.tallies t.0)) t))
