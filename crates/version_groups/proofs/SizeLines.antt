-- The cells of all columns, by what is written of each.
use Rattle.std.proofs.Common.{◌≡◌, suc, List, [], ◌∷◌, refl, arith}
use Rattle.history_store.specs.Store.{Cell, cells_in as cells_stored}
use Rattle.smo_ops_spec.specs.Sizes.{Written, cells_in}
use Rattle.version_groups.specs.Sizes.{AreWritten}

pub all_cells : (columns : List Written) (cells : List (List Cell)) → AreWritten columns cells
    → cells_stored cells ≡ cells_in columns
all_cells [] [] h = refl
all_cells [] (c ∷ cells) h = (let n = h.count in absurd (omega (arith, n)))
all_cells (w ∷ columns) [] h = (let n = h.count in absurd (omega (arith, n)))
all_cells (w ∷ columns) (c ∷ cells) h =
    let first = (h.each 0 (omega arith)).count in
    let rest = all_cells columns cells (record {
      count = (let n = h.count in omega (arith, n));
      each = λ k l.
          h.each (suc k) (omega (arith, l));
    }) in
    omega (arith, first, rest)
