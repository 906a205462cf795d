use Rattle.std.proofs.Common.{◌≡◌, ◌<◌, ◌+◌, true, false, List, map, length, drop, get_or, refl}
use Rattle.std.proofs.Common.{sym, ap, ◌∙◌, arith}
use Rattle.std.proofs.lemmas.Grind.{common_steps}
use Rattle.prima_base.specs.declared.timed_row.TimedRow.{TimedRow}
use Rattle.prima_base.specs.declared.value.Val.{Val}
use Rattle.prima_base.specs.Order.{shown}
use Rattle.prima_base.specs.Timed.{entry_of}
use Rattle.join_exec_spec.specs.Keeping.{meets_all, borrowed_tests}
use Rattle.join_exec_spec.proofs.Tests.{are_valid}
use Rattle.prima_base_rows.proofs.Moves.{no_row}
use Rattle.join_exec_engine.proofs.KeptRows.{rest_valid, rest_same, as_many, kept_one, dropped_one}
use Rattle.join_exec_engine.proofs.RowPlaces.{read_valid}
use Rattle.join_exec_engine.proofs.own_part.passing.Goals as goal
use Rattle.join_exec_engine.proofs.own_part.passing.Goals.{then-branch, else-branch}

pub all_met-requires : goal.all_met-requires
all_met-requires c =
    let here : c.rows.next < length c.rows.rows.items = grind (arith, common_steps) in
    are_valid c.values.result.now
    (read_valid c.rows.rows.items c.rows.next c.values.result.now c.rows.invariant.valid here
    (c.values.ensures.values no_row))

pub rows-preserved : goal.rows-preserved
rows-preserved c =
    let xs = c.rows.rows.items in
    let row = get_or xs c.rows.next no_row in
    let here : c.rows.next < length c.rows.rows.items = grind (arith, common_steps) in
    let met = λ (t : TimedRow).
    meets_all c.args.columns.now (borrowed_tests c.args.conds.now) (entry_of t).item in
    let told : met row ≡ c.in_ok-all_met.field-0 = ap (λ (vs : List Val).
    meets_all c.args.columns.now (borrowed_tests c.args.conds.now) (map shown vs))
    (sym (c.values.ensures.values no_row)) ∙ sym c.in_ok-all_met.ensures in
    elim c.if-branch.branch [
      | then-branch w ↦
          let ys = w.swap.new.self.items in
          let same : drop (c.rows.next + 1) ys ≡ drop (c.rows.next + 1) xs =
          rest_same met xs ys c.rows.kept c.rows.next row c.rows.invariant.kept here
          w.swap.ensures in
          record {
            kept = rw w.kept-is (omega (arith, c.rows.invariant.kept));
            next = rw w.rows-is
                (as_many met xs ys c.rows.kept c.rows.next here w.swap.ensures);
            valid = rw w.rows-is
                (rest_valid xs ys c.rows.next row c.rows.invariant.valid here same);
            stands = rw (w.rows-is, w.kept-is) (sym (kept_one met xs ys c.rows.kept c.rows.next
                no_row c.rows.invariant.kept here (told ∙ w.if-branch.true) w.swap.ensures)
                ∙ c.rows.invariant.stands);
          }
      | else-branch w ↦ record {
        kept = rw w.kept-is (omega (arith, c.rows.invariant.kept));
        next = rw w.rows-is (grind (arith, common_steps));
        valid = rw w.rows-is (rest_valid xs xs c.rows.next row c.rows.invariant.valid here refl);
        stands = rw (w.rows-is, w.kept-is) (sym (dropped_one met xs c.rows.kept c.rows.next no_row
            here (told ∙ w.if-branch.false)) ∙ c.rows.invariant.stands);
      }
    ]
