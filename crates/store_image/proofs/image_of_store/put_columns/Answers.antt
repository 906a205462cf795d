use Rattle.std.proofs.Common.{◌<◌, ◌^◌, length, get_or, [], sym, ap, subst, ◌∙◌, arith}
use Rattle.std.proofs.lemmas.List.{get_or_default}
use Rattle.store_image.specs.ImageIn.{AreValid, ColumnHolds}
use Rattle.store_image.proofs.KeptTables.{all_next}
use Rattle.store_image.proofs.WrittenParts.{column_more}
use Rattle.store_image.proofs.image_of_store.put_columns.Goals as goal

pub loop-column-preserved : goal.loop-column-preserved
loop-column-preserved g c =
    let columns = c.args.store.now.cells in
    let k = c.loop-column.column in
    let inside : k < length columns = grind (
      arith,
      c.loop-column-test.true,
      c.width-column-end.ensures.cells,
    ) in
    let holds : ColumnHolds (get_or columns k []) = record {
      values = subst AreValid c.scan_at.ensures c.in_ok-put_each_cell.ensures.valid;
      few = subst (λ n. n < 2 ^ 64) c.entries_at.ensures c.entries_at.type_inv;
    } in
    record {
      written = column_more c.loop-column.out.items c.put_u64.new.out.items
          c.put_each_cell.new.out.items columns k c.entries_at.result c.scan_at.result inside
          (c.entries_at.ensures ∙ ap (λ l. length l) (sym c.scan_at.ensures)) c.scan_at.ensures
          c.in_ok-put_u64.ensures.ok c.in_ok-put_each_cell.ensures.bytes
          ∙ c.loop-column.invariant.written;
      holds = all_next ColumnHolds columns k (get_or columns k []) inside
          (sym (get_or_default columns k [] (get_or columns k []) inside)) holds
          c.loop-column.invariant.holds;
    }
