use Rattle.std.proofs.Common.{◌≡◌, ◌++◌, drop, length, map}
use Rattle.cond_expr.specs.Seen.{test}
use Rattle.piece_ir_spec.specs.Unfolding.{atoms_of, parts_from}
use Rattle.piece_ir.specs.Shown.{borrowed_views}
use Rattle.piece_ir.specs.Placing.{places_from}
use Rattle.piece_ir.proofs.unfolded.place_views.Given as goal

abbrev pub invariant-loop-view : goal.invariant-loop-view
invariant-loop-view l = record {
  atoms : l.atoms.items ++ atoms_of (borrowed_views (drop l.view-index l.views))
      ≡ atoms_of (borrowed_views l.views);
  places : l.places.items ++ places_from (length l.atoms.items)
      (borrowed_views (drop l.view-index l.views)) ≡ places_from 0 (borrowed_views l.views);
  parts : map test l.parts.items ++ parts_from (length l.atoms.items)
      (borrowed_views (drop l.view-index l.views)) ≡ parts_from 0 (borrowed_views l.views);
}
