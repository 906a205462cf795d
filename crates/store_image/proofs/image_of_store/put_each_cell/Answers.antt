use Rattle.std.proofs.Common.{sym, subst, ◌∙◌}
use Rattle.history_store.specs.Scans.{seen_cell}
use Rattle.store_image_spec.specs.Encoding.{cell_bytes}
use Rattle.store_image.specs.ImageIn.{AreValid}
use Rattle.store_image.proofs.WrittenParts.{part_more, valid_more}
use Rattle.store_image.proofs.image_of_store.put_each_cell.Goals as goal

pub cells-preserved : goal.cells-preserved
cells-preserved g c =
    let cell = seen_cell c.in-Some.cell in
    let next = c.in-Some.ensures.entries in
    record {
      written = part_more cell_bytes c.cells.out.items c.put_cell.new.out.items cell c.cells.cells
          c.next_cell.new.self next c.in_ok-put_cell.ensures ∙ c.cells.invariant.written;
      valid = λ rest. c.cells.invariant.valid
          (valid_more cell c.cells.cells c.next_cell.new.self next c.in-Some.ensures.valid rest);
    }

pub returns-clause-valid : goal.returns-clause-valid
returns-clause-valid g c = c.cells.invariant.valid
    (subst AreValid (sym c.in_default.ensures.all) (λ d i. absurd i))
