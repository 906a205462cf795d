use Rattle.std.proofs.Common.{◌<◌, length, map, ap, ◌∙◌, arith}
use Rattle.std.proofs.lemmas.List.{take_all}
use Rattle.prima_base.specs.Order.{is_borrowed}
use Rattle.prima_base.specs.Timed.{entry_of, entries_of}
use Rattle.prima_base_rows.specs.Rows.{row_of, borrowed_of}
use Rattle.prima_base_rows.proofs.Moves.{no_row}
use Rattle.prima_base_rows.proofs.ReadRows.{copied_entry, made_more}
use Rattle.prima_base_rows.proofs.rows.TimedRows.packed_rows.Goals as goal

pub loop-index-preserved : goal.loop-index-preserved
loop-index-preserved c =
    let rows = c.args.self.now.items in
    let i = c.loop-index.index in
    let here : i < length rows = omega arith in
    let row = row_of c.in_ok-copies.copies c.period.result in
    record {
      rows = made_more entry_of rows c.loop-index.rows.items c.push_from.new.self.items i row here
          c.loop-index.invariant.rows c.in_ok-push_from.ensures.rows
          (copied_entry rows i c.in_ok-copies.copies.items c.values.result.now c.period.result
          c.in_ok-copies.ensures.values (c.values.ensures.values no_row)
          (c.period.ensures.period no_row));
      borrowed = made_more borrowed_of rows c.loop-index.rows.items c.push_from.new.self.items i row
          here c.loop-index.invariant.borrowed c.in_ok-push_from.ensures.rows
          (c.in_ok-copies.ensures.same ∙ ap (map is_borrowed) (c.values.ensures.values no_row));
    }

pub returns-clause-rows : goal.returns-clause-rows
returns-clause-rows c = c.loop-index.invariant.rows
    ∙ ap entries_of (take_all c.loop-index.index c.args.self.now.items (omega arith))

pub returns-clause-borrowed : goal.returns-clause-borrowed
returns-clause-borrowed c = c.loop-index.invariant.borrowed
    ∙ ap (map borrowed_of) (take_all c.loop-index.index c.args.self.now.items (omega arith))
