use Rattle.std.proofs.Common.{◌≡◌, ◌∙◌, ◌-◌, ℕ, true, false, ap, arith}
use Rattle.relations_spec.specs.Spans.{Span}
use Rattle.time_aggregate.proofs.TurnSteps.{more_turns}
use Rattle.time_aggregate.proofs.Defaults.{no_row}
use Rattle.time_aggregate.proofs.turn.unsorted_turns.Goals as goal

pub loop-place-init : goal.loop-place-init
loop-place-init c =
    let e : c.args.start - c.args.start ≡ 0 = omega arith in rw e c.new-turns.ensures.items

pub loop-place-preserved : goal.loop-place-preserved
loop-place-preserved c =
    let p = c.period-period.ensures.period no_row in
    let s = c.start.ensures.start ∙ ap (λ (w : Span). w.start) p in
    let e = c.end.ensures.end ∙ ap (λ (w : Span). w.end) p in
    more_turns c.args.start c.loop-place.place c.args.rows.now.items c.loop-place.turns.items
    c.push.new.self.items c.push-in-loop-place.new.self.items
    (record { moment = c.start.result; opens = true; place = c.loop-place.place })
    (record { moment = c.end.result; opens = false; place = c.loop-place.place }) no_row
    (omega arith) (omega arith) c.loop-place.invariant c.in_ok-push.ensures.items
    c.in_ok-push-2.ensures.items
    (ap (λ (m : ℕ). record { moment = m; opens = true; place = c.loop-place.place }) s)
    (ap (λ (m : ℕ). record { moment = m; opens = false; place = c.loop-place.place }) e)

pub returns : goal.returns
returns c =
    let e : c.loop-place.place ≡ c.args.end = omega arith in
    rw e at c.loop-place.invariant
