-- What a test in turn keeps of the pieces of code are those that live.
use Rattle.std.proofs.Common.{◌≡◌, Bool, true, false, List, [], ◌∷◌, length, refl, ap, subst, ◌∙◌}
use Rattle.std.proofs.Common.{arith}
use Rattle.std.specs.Prelude.{cond}
use Rattle.std.specs.List.{filter, items_where_true}
use Rattle.std.specs.List.Retain.{ReturnsInTurn, IsFiltered}
use Rattle.piece_ir_spec.specs.Pieces.{PlainPiece}
use Rattle.piece_ir.specs.declared.piece.Piece.{Piece}
use Rattle.piece_ir.specs.Shown.{piece_of, shown_pieces}
use Rattle.piece_prune.specs.DeadPieces.{lives}

module _ {F : Type 0} (R : F → Piece → Bool → F → Type 0) (f : F)
    (h : (x : Piece) (b : Bool) (g : F) → R f x b g → (b ≡ lives (piece_of x)) × (g ≡ f)) where
  abbrev kept : Piece → List Piece → Bool → List PlainPiece
  kept x xs b = cond b (piece_of x ∷ filter lives (shown_pieces xs))
      (filter lives (shown_pieces xs))

  one_kept : (x : Piece) (xs : List Piece) (bs : List Bool) (b : Bool) → b ≡ lives (piece_of x)
      → shown_pieces (items_where_true bs xs) ≡ filter lives (shown_pieces xs)
      → shown_pieces (items_where_true (b ∷ bs) (x ∷ xs)) ≡ filter lives (shown_pieces (x ∷ xs))
  one_kept x xs bs true e more = ap (λ (ps : List PlainPiece). piece_of x ∷ ps) more
      ∙ ap (kept x xs) e
  one_kept x xs bs false e more = more ∙ ap (kept x xs) e

  kept_told : (bs : List Bool) (xs : List Piece) (q : F) → length bs ≡ length xs
      → ReturnsInTurn R f bs xs q
      → shown_pieces (items_where_true bs xs) ≡ filter lives (shown_pieces xs)
  kept_told [] [] q e r = refl
  kept_told [] (x ∷ xs) q e r = absurd (omega arith)
  kept_told (b ∷ bs) [] q e r = absurd r
  kept_told (b ∷ bs) (x ∷ xs) q e r =
      let one = h x b r.0 r.1 in
      one_kept x xs bs b one.0 (kept_told bs xs q (omega arith)
      (subst (λ (y : F). ReturnsInTurn R y bs xs q) one.1 r.2))

  pub filtered_told : (xs ys : List Piece) → IsFiltered R f xs ys
      → shown_pieces ys ≡ filter lives (shown_pieces xs)
  filtered_told xs ys k = ap shown_pieces k.4 ∙ kept_told k.0 xs k.1 k.2 k.3
