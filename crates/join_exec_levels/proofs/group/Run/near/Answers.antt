use Rattle.std.proofs.Common.{◌≡◌, ◌≤◌, ◌<◌, ◌-◌, ℕ, List, length, take, drop, get_or, ap, ◌∙◌}
use Rattle.std.proofs.Common.{subst}
use Rattle.relations_spec.specs.Sets.{In}
use Rattle.prima_base.specs.declared.timed_row.TimedRow.{TimedRow}
use Rattle.join_exec_levels.specs.Grouping.{IsNear}
use Rattle.join_exec_levels.proofs.NearRows.{first_ended, rest_later, all_left, near_live}
use Rattle.join_exec_levels.proofs.NearRows.{near_both}
use Rattle.join_exec_levels.proofs.group.Run.near.Goals as goal
use Rattle.join_exec_levels.proofs.group.Run.near.Goals.{After-deref-2, After-count_earlier-earlier}

module _ (c : After-deref-2) where
  within : c.count_ended-ended.result ≤ length c.self.inside.ends.items
  within = subst (λ (es : List ℕ). c.count_ended-ended.result ≤ length es) c.deref.ensures.value
      c.count_ended-ended.ensures.within

  among : c.count_ended-ended.result ≤ length c.self.inside.rows.items
  among = subst (λ n. c.count_ended-ended.result ≤ n) c.self.invariant.count within

  are_ended : (t : TimedRow) → In t (take c.count_ended-ended.result c.self.inside.rows.items)
      → t.period.end ≤ c.args.period.start
  are_ended = first_ended c.self.inside.rows.items c.self.inside.ends.items
      c.count_ended-ended.result c.args.period.start c.self.invariant.ends c.self.invariant.count
      within
      (subst (λ (es : List ℕ). 0 < c.count_ended-ended.result
      → get_or es (c.count_ended-ended.result - 1) 0 ≤ c.args.period.start)
      c.deref.ensures.value
      (subst (λ m. 0 < c.count_ended-ended.result
      → get_or c.deref.result.now (c.count_ended-ended.result - 1) 0 ≤ m) c.start.ensures.start
      c.count_ended-ended.ensures.ended))

  live_is : take (length c.deref-2.result.now - c.count_ended-ended.result)
      (drop c.count_ended-ended.result c.deref-2.result.now)
      ≡ drop c.count_ended-ended.result c.self.inside.rows.items
  live_is = ap (λ (rows : List TimedRow). take (length rows - c.count_ended-ended.result)
      (drop c.count_ended-ended.result rows)) c.deref-2.ensures.value
      ∙ all_left c.count_ended-ended.result c.self.inside.rows.items among

pub returns-then-not-self : goal.returns-then-not-self
returns-then-not-self c =
    let d = (goal.at.returns-then-not-self c).After-deref-2 in
    subst (λ (rows : List TimedRow). IsNear c.args.period rows
    (take (length c.deref-2.result.now - c.count_ended-ended.result)
    (drop c.count_ended-ended.result c.deref-2.result.now))) c.self.view_is
    (near_live c.args.period c.self.inside.rows.items
    (take (length c.deref-2.result.now - c.count_ended-ended.result)
    (drop c.count_ended-ended.result c.deref-2.result.now)) c.count_ended-ended.result
    (live_is d) (are_ended d))

module _ (c : After-count_earlier-earlier) where
  are_later : (t : TimedRow) → In t (drop c.count_earlier-earlier.result
      (drop c.count_ended-ended.result c.self.inside.rows.items))
      → c.args.period.end ≤ t.period.start
  are_later =
      let d = (goal.at.returns c).After-deref-2 in
      rest_later c.self.inside.rows.items c.count_ended-ended.result c.count_earlier-earlier.result
      c.args.period.end (c.self.invariant.turn c.if-not-self.false) (among d)
      (subst (λ (live : List TimedRow). c.count_earlier-earlier.result ≤ length live) (live_is d)
      c.count_earlier-earlier.ensures.within)
      (subst (λ m. (x : TimedRow) → c.count_earlier-earlier.result < length
      (drop c.count_ended-ended.result c.self.inside.rows.items)
      → m ≤ (get_or (drop c.count_ended-ended.result c.self.inside.rows.items)
      c.count_earlier-earlier.result x).period.start) c.end.ensures.end
      (subst (λ (live : List TimedRow). (x : TimedRow)
      → c.count_earlier-earlier.result < length live
      → c.end.result ≤ (get_or live c.count_earlier-earlier.result x).period.start) (live_is d)
      c.count_earlier-earlier.ensures.later))

pub returns : goal.returns
returns c =
    let d = (goal.at.returns c).After-deref-2 in
    let live : List TimedRow = take (length c.deref-2.result.now - c.count_ended-ended.result)
    (drop c.count_ended-ended.result c.deref-2.result.now) in
    subst (λ (rows : List TimedRow). IsNear c.args.period rows
    (take c.count_earlier-earlier.result live)) c.self.view_is
    (near_both c.args.period c.self.inside.rows.items (take c.count_earlier-earlier.result live)
    c.count_ended-ended.result c.count_earlier-earlier.result
    (ap (take c.count_earlier-earlier.result) (live_is d)) (are_ended d) (are_later c))
