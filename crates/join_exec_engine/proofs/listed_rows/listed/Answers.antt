use Rattle.std.proofs.Common.{◌<◌, length, sym, ap, ◌∙◌, subst, arith, get_or}
use Rattle.std.proofs.lemmas.List.{take_all}
use Rattle.prima_base.specs.Timed.{entry_of, entries_of}
use Rattle.join_exec_spec.specs.BorrowedOutputs.{RowBorrows}
use Rattle.join_exec_spec.proofs.BorrowedLaws.{each_more, each_at}
use Rattle.prima_base_rows.proofs.Moves.{no_row}
use Rattle.prima_base_rows.proofs.ReadRows.{stands_there, copied_entry, made_more}
use Rattle.join_exec_engine.proofs.RowPlaces.{copies_borrow}
use Rattle.join_exec_engine.proofs.listed_rows.listed.Goals as goal

pub loop-i-preserved : goal.loop-i-preserved
loop-i-preserved c =
    let rows = c.args.rows.now.items in
    let i = c.loop-i.i in
    let here : i < length rows = omega arith in
    record {
      entries = made_more entry_of rows c.loop-i.list.items c.push.new.self.items i _ here
          c.loop-i.invariant.entries c.in_ok-push.ensures.items
          (copied_entry rows i c.in_ok-copy_vals.field-0.items c.values.result.now c.period.result
          c.in_ok-copy_vals.ensures.values (c.values.ensures.values no_row)
          (c.period.ensures.period no_row));
      borrowed = λ which columns l.
          each_more (RowBorrows which columns) c.loop-i.list.items c.push.new.self.items _
          c.in_ok-push.ensures.items (c.loop-i.invariant.borrowed which columns l)
          (copies_borrow which columns c.values.result.now c.in_ok-copy_vals.field-0.items
          c.in_ok-copy_vals.ensures.values c.in_ok-copy_vals.ensures.same
          (subst (RowBorrows which columns) (sym (c.values.ensures.values no_row))
          (each_at (RowBorrows which columns) rows i (get_or rows i no_row) here
          (stands_there rows i) l)));
    }

pub returns-clause-entries : goal.returns-clause-entries
returns-clause-entries c = c.loop-i.invariant.entries
    ∙ ap entries_of (take_all c.loop-i.i c.args.rows.now.items (omega arith))
