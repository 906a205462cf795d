use Rattle.std.proofs.Common.{◌≡◌, ◌≤◌, ◌<◌, ◌-◌, ℕ, true, List, [], ◌∷◌, ◌++◌, length}
use Rattle.std.proofs.Common.{length-append, get_or, sym, ap, ◌∙◌, subst, arith}
use Rattle.std.specs.Prelude.{max}
use Rattle.prima_base.specs.declared.timed_row.TimedRow.{TimedRow}
use Rattle.join_exec_levels.specs.Grouping.{EndBy, AreInTurn}
use Rattle.join_exec_levels.proofs.NearRows.{more_ends, more_turn}
use Rattle.join_exec_levels.proofs.group.Run.push.Goals as goal
use Rattle.join_exec_levels.proofs.group.Run.push.Goals.{After-push_reserved-2, then-self}
use Rattle.join_exec_levels.proofs.group.Run.push.Goals.{else-self}

module _ (c : After-push_reserved-2) where
  rows_new : c.push_reserved-2.new.self.items ≡ c.self.inside.rows.items ++ c.args.row ∷ []
  rows_new = c.push_reserved-2.ensures.items ∙ ap
      (λ (rows : List TimedRow). rows ++ c.args.row ∷ []) c.reserve.ensures.items

  ends_new : c.push_reserved.new.self.items ≡ c.self.inside.ends.items
      ++ max c.last_end.result c.args.row.period.end ∷ []
  ends_new = c.push_reserved.ensures.items ∙ ap (λ (ends : List ℕ). ends ++ c.max-end.result ∷ [])
      c.reserve-2.ensures.items ∙ ap (λ n. c.self.inside.ends.items ++ n ∷ [])
      (c.max-end.ensures ∙ ap (max c.last_end.result) c.end.ensures.end)

  last_is : 0 < length c.self.inside.ends.items
      → c.last_end.result ≡ get_or c.self.inside.ends.items (length c.self.inside.ends.items - 1) 0
  last_is = subst (λ (es : List ℕ). 0 < length es → c.last_end.result ≡ get_or es (length es - 1) 0)
      (c.deref.ensures.value ∙ c.reserve-2.ensures.items) c.last_end.ensures

  in_turn : c.if-self.self ≡ true → AreInTurn (c.self.inside.rows.items ++ c.args.row ∷ [])
  in_turn e = elim c.if-self.branch [
    | then-self w ↦ more_turn c.self.inside.rows.items c.self.inside.ends.items c.args.row
        (c.self.invariant.turn w.if-self.true)
        (λ d some.
        subst (λ n. (get_or c.self.inside.rows.items (length c.self.inside.rows.items - 1)
        d).period.start ≤ n) w.start.ensures.start
        (subst (λ (rows : List TimedRow). 0 < length rows
        → (get_or rows (length rows - 1) d).period.start ≤ w.start.result)
        (w.deref-then-self.ensures.value ∙ c.reserve.ensures.items)
        (w.is_next-self-inside.ensures d (sym w.self-is ∙ e)) some))
    | else-self w ↦ absurd (cc)
  ]

pub invariant_of-self-2 : goal.invariant_of-self-2
invariant_of-self-2 c =
    let d = (goal.at.invariant_of-self-2 c).After-push_reserved-2 in
    record {
      count = (let h = c.self.invariant.count in let a = ap length (rows_new d) in let b =
          ap length (ends_new d) in omega (
            arith,
            h,
            simp length-append at a,
            simp length-append at b,
          ));
      ends = subst (λ (rows : List TimedRow). EndBy rows c.push_reserved.new.self.items)
          (sym (rows_new d)) (subst (λ (ends : List ℕ).
          EndBy (c.self.inside.rows.items ++ c.args.row ∷ []) ends) (sym (ends_new d))
          (more_ends c.self.inside.rows.items c.self.inside.ends.items c.args.row c.last_end.result
          c.self.invariant.ends c.self.invariant.count (last_is d)));
      turn = λ e. subst AreInTurn (sym (rows_new d)) (in_turn d e);
    }
