-- The pieces and the views that those of the code stand for.
use Rattle.std.specs.Prelude.{ℕ, List, map}
use Rattle.std.specs.Borrow.{Bor}
use Rattle.cond_expr.specs.Seen.{test}
use Rattle.smo_ops_types.specs.Changes.{sets_of}
use Rattle.piece_ir_spec.specs.Pieces.{PlainPiece}
use Rattle.piece_ir_spec.specs.Views.{PlainView, Views}
use Rattle.piece_ir.specs.declared.piece.Piece.{Piece}
use Rattle.piece_ir.specs.declared.view.View.{View}
use Rattle.piece_ir.specs.declared.view.TableViews.{TableViews}

abbrev pub piece_of : Piece → PlainPiece
piece_of p = record { atoms = p.atoms.items; cond = test p.cond; outs = sets_of p.outs.items }

abbrev pub shown_pieces : List Piece → List PlainPiece
shown_pieces ps = map piece_of ps

abbrev pub view_of : View → PlainView
view_of v = record {
  atoms = v.atoms.items;
  parts = map test v.parts.items;
  outs =
      sets_of v.outs.items;
}

abbrev pub table_views_of : TableViews → List ℕ × List PlainView
table_views_of t = (t.table, map view_of t.views.items)

abbrev pub all_views_of : List TableViews → Views
all_views_of ts = map table_views_of ts

-- the views that are borrowed
abbrev pub borrowed_views : List (Bor View) → List PlainView
borrowed_views views = map (λ (v : Bor View). view_of v.now) views
