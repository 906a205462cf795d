use Rattle.std.proofs.Common.{◌≡◌, ◌+◌, ◌++◌, ◌∷◌, [], ◌≤◌, drop, set, sym, ap, ◌∙◌, append_assoc}
use Rattle.std.proofs.Common.{arith}
use Rattle.prima_base.specs.Order.{shown}
use Rattle.store_image_rows.specs.declared.stretch.Stretch.{Stretch}
use Rattle.store_image_rows.specs.Cells.{cell_seen}
use Rattle.store_image_rows.specs.Stretches.{stretch_of, row_stretches, longer, begun, ended_by}
use Rattle.store_image_rows.specs.Stretches.{given}
use Rattle.store_image_rows.specs.Stretches.{left_by}
use Rattle.store_image_rows.proofs.ListPlaces.{same_got, dropped_set, dropped_after}
use Rattle.store_image_rows.proofs.Walking.{splits_given, splits_left, meets_given, meets_left}
use Rattle.store_image_rows.proofs.Walking.{passes_given, passes_left}
use Rattle.store_image_rows.proofs.stretch.take_in.Goals as goal

pub returns-then-end-clause-done : goal.returns-then-end-clause-done
returns-then-end-clause-done c =
    let s = c.index-stretches-at-then-end.result in
    let same = same_got c.walk.stretches c.walk.at c.index-stretches-at.result s c.walk-test.true
    c.index-stretches-at.is c.index-stretches-at-then-end.is in
    let a = c.end.ensures.end in
    let b = c.end-end.ensures.end ∙ ap (λ (x : Stretch). x.period.end)
    (sym c.index-stretches-at.is ∙ same) in
    let t = c.if-end.true in
    c.in_ok-split.ensures.done ∙ ap (λ (x : Stretch).
    row_stretches c.walk.done.items ++ begun (stretch_of x) (cell_seen c.args.cell.now))
    (sym c.index-stretches-at-then-end.is)
    ∙ ap (λ l. row_stretches c.walk.done.items ++ l)
    (sym (splits_given c.walk.stretches c.walk.at s (cell_seen c.args.cell.now) c.walk-test.true
    c.index-stretches-at-then-end.is (omega (arith, a, b, t))))
    ∙ c.walk.invariant.done

pub returns-then-end-clause-left : goal.returns-then-end-clause-left
returns-then-end-clause-left c =
    let s = c.index-stretches-at-then-end.result in
    let same = same_got c.walk.stretches c.walk.at c.index-stretches-at.result s c.walk-test.true
    c.index-stretches-at.is c.index-stretches-at-then-end.is in
    let a = c.end.ensures.end in
    let b = c.end-end.ensures.end ∙ ap (λ (x : Stretch). x.period.end)
    (sym c.index-stretches-at.is ∙ same) in
    let t = c.if-end.true in
    dropped_set stretch_of c.walk.stretches c.walk.at c.split.new.stretch c.walk-test.true
    ∙ ap (λ p. p ∷ drop (c.walk.at + 1) (row_stretches c.walk.stretches))
    (c.in_ok-split.ensures.left ∙ ap (λ (x : Stretch).
    ended_by (stretch_of x) (cell_seen c.args.cell.now)) (sym c.index-stretches-at-then-end.is))
    ∙ sym (splits_left c.walk.stretches c.walk.at s (cell_seen c.args.cell.now) c.walk-test.true
    c.index-stretches-at-then-end.is (omega (arith, a, b, t)))
    ∙ c.walk.invariant.left

pub returns-then-end-2-clause-done : goal.returns-then-end-2-clause-done
returns-then-end-2-clause-done c =
    let s = c.index-stretches-at-in-walk.result in
    let same = same_got c.walk.stretches c.walk.at c.index-stretches-at.result s c.walk-test.true
    c.index-stretches-at.is c.index-stretches-at-in-walk.is in
    let a = c.end.ensures.end in
    let b = c.end-end.ensures.end ∙ ap (λ (x : Stretch). x.period.end)
    (sym c.index-stretches-at.is ∙ same) in
    let d = c.end-in-walk.ensures.end in
    let t = c.if-end.false in
    let u = c.if-end-2.true in
    c.in_ok-finish.ensures ∙ ap (λ (x : Stretch).
    row_stretches c.walk.done.items ++ longer (stretch_of x) (shown c.args.cell.now.value)
    x.period ∷ []) (sym c.index-stretches-at-in-walk.is)
    ∙ ap (λ l. row_stretches c.walk.done.items ++ l)
    (sym (meets_given c.walk.stretches c.walk.at s (cell_seen c.args.cell.now) c.walk-test.true
    c.index-stretches-at-in-walk.is (omega (arith, a, b, t)) (sym b ∙ u ∙ d)))
    ∙ c.walk.invariant.done

pub returns-then-end-2-clause-left : goal.returns-then-end-2-clause-left
returns-then-end-2-clause-left c =
    let s = c.index-stretches-at-in-walk.result in
    let same = same_got c.walk.stretches c.walk.at c.index-stretches-at.result s c.walk-test.true
    c.index-stretches-at.is c.index-stretches-at-in-walk.is in
    let a = c.end.ensures.end in
    let b = c.end-end.ensures.end ∙ ap (λ (x : Stretch). x.period.end)
    (sym c.index-stretches-at.is ∙ same) in
    let d = c.end-in-walk.ensures.end in
    let t = c.if-end.false in
    let u = c.if-end-2.true in
    dropped_after stretch_of c.walk.stretches c.walk.at c.finish.new.stretch
    ∙ sym (meets_left c.walk.stretches c.walk.at s (cell_seen c.args.cell.now) c.walk-test.true
    c.index-stretches-at-in-walk.is (omega (arith, a, b, t)) (sym b ∙ u ∙ d))
    ∙ c.walk.invariant.left

pub walk-preserved : goal.walk-preserved
walk-preserved c =
    let s = c.index-stretches-at-in-walk.result in
    let cell = cell_seen c.args.cell.now in
    let same = same_got c.walk.stretches c.walk.at c.index-stretches-at.result s c.walk-test.true
    c.index-stretches-at.is c.index-stretches-at-in-walk.is in
    let a = c.end.ensures.end in
    let b = c.end-end.ensures.end ∙ ap (λ (x : Stretch). x.period.end)
    (sym c.index-stretches-at.is ∙ same) in
    let d = c.end-in-walk.ensures.end in
    let t = c.if-end.false in
    let l : s.period.end ≤ cell.period.end = omega (arith, a, b, t) in
    let q : s.period.end ≡ cell.period.end → ⊥ = (λ e. c.if-end-2.false (b ∙ e ∙ sym d)) in
    let after = dropped_after stretch_of c.walk.stretches c.walk.at c.finish.new.stretch in
    let one = longer (stretch_of s) cell.value s.period in
    record {
      done =
          ap (λ ps. ps ++ given (drop (c.walk.at + 1)
          (row_stretches (set c.walk.stretches c.walk.at c.finish.new.stretch))) cell)
          (c.in_ok-finish.ensures ∙ ap (λ (x : Stretch).
          row_stretches c.walk.done.items ++ longer (stretch_of x) cell.value x.period ∷ [])
          (sym c.index-stretches-at-in-walk.is))
          ∙ append_assoc (row_stretches c.walk.done.items) (one ∷ [])
          (given (drop (c.walk.at + 1) (row_stretches
          (set c.walk.stretches c.walk.at c.finish.new.stretch))) cell)
          ∙ ap (λ ps. row_stretches c.walk.done.items ++ one ∷ given ps cell) after
          ∙ ap (λ ps. row_stretches c.walk.done.items ++ ps)
          (sym (passes_given c.walk.stretches c.walk.at s cell c.walk-test.true
          c.index-stretches-at-in-walk.is l q))
          ∙ c.walk.invariant.done;
      left =
          ap (λ ps. left_by ps cell) after
          ∙ sym (passes_left c.walk.stretches c.walk.at s cell c.walk-test.true
          c.index-stretches-at-in-walk.is l q)
          ∙ c.walk.invariant.left;
    }
