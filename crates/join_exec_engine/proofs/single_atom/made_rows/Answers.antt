use Rattle.std.proofs.Common.{◌≡◌, ◌<◌, ◌++◌, List, map, length, take, get_or, sym, ap, ◌∙◌}
use Rattle.std.proofs.Common.{subst, arith}
use Rattle.std.proofs.lemmas.List.{take_all}
use Rattle.relations_spec.specs.Timed.{Entry}
use Rattle.prima_base.specs.declared.timed_row.TimedRow.{TimedRow}
use Rattle.prima_base.specs.declared.value.Value.{Value}
use Rattle.prima_base.specs.Timed.{entries_of}
use Rattle.cond_expr.specs.Seen.{tree, test}
use Rattle.join_exec_spec.specs.Answering.{answers}
use Rattle.join_exec_spec.specs.BorrowedOutputs.{RowBorrows, AllStayBorrowed}
use Rattle.join_exec_spec.proofs.BorrowedLaws.{each_at}
use Rattle.prima_base_rows.proofs.Moves.{no_row}
use Rattle.prima_base_rows.proofs.ReadRows.{read_entry, rows_more, stands_there}
use Rattle.join_exec_engine.specs.InSlice.{in_slice, all_in_slice}
use Rattle.join_exec_engine.proofs.RowPlaces.{valid_at}
use Rattle.join_exec_engine.proofs.SingleAtoms.{row_more}
use Rattle.join_exec_engine.proofs.single_atom.made_rows.Goals as goal

pub put_in_slice-requires : goal.put_in_slice-requires
put_in_slice-requires c = valid_at c.args.rows.now.items c.loop-i.i c.values.result.now c.requires
    (omega arith) (c.values.ensures.values no_row)

pub loop-i-preserved : goal.loop-i-preserved
loop-i-preserved c =
    let xs = c.args.rows.now.items in
    let i = c.loop-i.i in
    let here : i < length xs = omega arith in
    let cs = c.args.columns.now in
    let outs = map tree c.args.outs.now in
    let cond = test c.args.cond.now in
    let row = get_or xs i no_row in
    let is = read_entry xs i c.values.result.now c.period.result (c.values.ensures.values no_row)
    (c.period.ensures.period no_row) in
    record {
      rows = subst (λ (rows : List TimedRow). entries_of c.put_in_slice.new.rows.items
          ≡ answers cs outs cond (all_in_slice c.args.slice (entries_of rows)))
          (sym (rows_more xs i here))
          (row_more cs outs cond c.args.slice (take i xs) row (entries_of c.loop-i.made.items)
          (entries_of c.put_in_slice.new.rows.items) c.loop-i.invariant.rows
          (c.in_ok-put_in_slice.ensures.rows
          ∙ ap (λ (e : Entry (List Value)). entries_of c.loop-i.made.items
          ++ answers cs outs cond (in_slice c.args.slice e)) is));
      borrowed = λ which h. c.in_ok-put_in_slice.ensures.borrowed which
          (c.loop-i.invariant.borrowed which h)
          (subst (RowBorrows which cs) (sym (c.values.ensures.values no_row))
          (each_at (RowBorrows which cs) xs i row here (stands_there xs i) h));
    }

pub loop-i-init : goal.loop-i-init
loop-i-init c = record {
  rows = ap (λ (rows : List TimedRow). entries_of rows) c.in_ok-made.ensures;
  borrowed = λ which h. subst (AllStayBorrowed which (map tree c.args.outs.now))
      (sym c.in_ok-made.ensures) tt;
}

pub returns-clause-rows : goal.returns-clause-rows
returns-clause-rows c = c.loop-i.invariant.rows
    ∙ ap (λ (rows : List TimedRow). answers c.args.columns.now (map tree c.args.outs.now)
    (test c.args.cond.now) (all_in_slice c.args.slice (entries_of rows)))
    (take_all c.loop-i.i c.args.rows.now.items (omega arith))
