-- A dead piece answers nothing, and so what lives means the same.
use Rattle.std.proofs.Common.{◌≡◌, Bool, true, false, List, [], ◌∷◌, ◌++◌, map, length, refl, sym}
use Rattle.std.proofs.Common.{ap, subst, ◌∙◌, inl, inr, arith}
use Rattle.std.specs.List.{filter, flat_map, items_where_true}
use Rattle.std.specs.List.Retain.{ReturnsInTurn, IsFiltered}
use Rattle.std.proofs.lemmas.Bool.{cond-false}
use Rattle.relations_spec.specs.Sets.{In, set_of}
use Rattle.relations_spec.specs.Choices.{choices}
use Rattle.relations_spec.proofs.ChoiceLaws.{from_choices}
use Rattle.prima_base.specs.Order.{row_cmp}
use Rattle.schema_catalog.specs.Tables.{Tables}
use Rattle.schema_catalog.specs.Databases.{Database}
use Rattle.smo_ops_spec.specs.OneRow.{Row}
use Rattle.smo_ops_spec.specs.ValidValues.{IsValidDatabase}
use Rattle.cond_expr_dead.proofs.DeadLaws.{dead_holds_of_nothing}
use Rattle.plain_answers_spec.specs.Choosing.{answered, choice_meets, chosen_cells}
use Rattle.piece_ir_spec.specs.Pieces.{PlainPiece, out_trees, atom_columns, atom_rows}
use Rattle.piece_ir_spec.specs.Pieces.{piece_answers, means, all_mean}
use Rattle.piece_ir_spec.specs.Typed.{IsTyped, AllTyped, atom_kinds}
use Rattle.piece_ir.specs.declared.piece.Piece.{Piece}
use Rattle.piece_ir.specs.Shown.{piece_of, shown_pieces}
use Rattle.piece_prune.specs.DeadPieces.{IsDeadPiece, LeavesLiving, none_left, a_dead_one}
use Rattle.piece_prune.specs.DeadPieces.{a_living_one, Decides}
use Rattle.piece_prune.proofs.ValidCells.{cells_fit, cells_valid}

none_passes : {X : Type 0} (p : X → Bool) (xs : List X) → ((x : X) → In x xs → p x ≡ false)
    → filter p xs ≡ []
none_passes p [] h = refl
none_passes p (x ∷ xs) h = cond-false (p x) (x ∷ filter p xs) (filter p xs) (h x (inl refl))
    ∙ none_passes p xs (λ y m. h y (inr m))

nothing : set_of row_cmp [] ≡ []
unfolding set_of
nothing = refl

module _ (tables : Tables) (db : Database) (d : IsValidDatabase tables db) where
  none_met : (p : PlainPiece) → IsDeadPiece tables p → (choice : List Row)
      → In choice (choices (atom_rows db p.atoms))
      → choice_meets (atom_columns tables p.atoms) p.cond choice ≡ false
  none_met p h choice m =
      let c = from_choices choice (atom_rows db p.atoms) m in
      dead_holds_of_nothing (atom_kinds tables p.atoms)
      (chosen_cells (atom_columns tables p.atoms) choice) p.cond
      (cells_fit tables db d p.atoms choice c) (cells_valid tables db d p.atoms choice c) h

  pub answers_nothing : (p : PlainPiece) → IsDeadPiece tables p → piece_answers tables db p ≡ []
  answers_nothing p h =
      ap (map (answered (atom_columns tables p.atoms) (out_trees p.outs)))
      (none_passes (choice_meets (atom_columns tables p.atoms) p.cond)
      (choices (atom_rows db p.atoms))
      (none_met p h))

  pub means_nothing : (p : PlainPiece) → IsDeadPiece tables p → means tables db p ≡ []
  means_nothing p h = ap (set_of row_cmp) (answers_nothing p h) ∙ nothing

  same_answers : (ps living : List PlainPiece) → LeavesLiving tables ps living
      → flat_map (piece_answers tables db) living ≡ flat_map (piece_answers tables db) ps
  same_answers ps living none_left = refl
  same_answers ps living (a_dead_one p rest left h a) =
      same_answers rest left a ∙ sym (ap (λ (rows : List Row).
      rows ++ flat_map (piece_answers tables db) rest) (answers_nothing p h))
  same_answers ps living (a_living_one p rest left h a) =
      ap (λ (rows : List Row). piece_answers tables db p ++ rows) (same_answers rest left a)

  pub mean_the_same : (ps living : List PlainPiece) → LeavesLiving tables ps living
      → all_mean tables db living ≡ all_mean tables db ps
  mean_the_same ps living a = ap (set_of row_cmp) (same_answers ps living a)

-- ---- what a test in turn keeps

module _ {F : Type 0} (R : F → Piece → Bool → F → Type 0) (tables : Tables) (f : F)
    (h : (x : Piece) (b : Bool) (g : F) → R f x b g → Decides b (piece_of x) × (g ≡ f)) where
  one_kept : (x : Piece) (xs : List Piece) (bs : List Bool) (b : Bool) → Decides b (piece_of x)
      → IsTyped tables (piece_of x)
      → LeavesLiving tables (shown_pieces xs) (shown_pieces (items_where_true bs xs))
      → LeavesLiving tables (shown_pieces (x ∷ xs))
      (shown_pieces (items_where_true (b ∷ bs) (x ∷ xs)))
  one_kept x xs bs true d t a = a_living_one (piece_of x) (shown_pieces xs)
      (shown_pieces (items_where_true bs xs)) (d tables t) a
  one_kept x xs bs false d t a = a_dead_one (piece_of x) (shown_pieces xs)
      (shown_pieces (items_where_true bs xs)) (d tables t) a

  kept_live : (bs : List Bool) (xs : List Piece) (q : F) → length bs ≡ length xs
      → AllTyped tables (shown_pieces xs) → ReturnsInTurn R f bs xs q
      → LeavesLiving tables (shown_pieces xs) (shown_pieces (items_where_true bs xs))
  kept_live [] [] q e t r = none_left
  kept_live [] (x ∷ xs) q e t r = absurd (omega arith)
  kept_live (b ∷ bs) [] q e t r = absurd r
  kept_live (b ∷ bs) (x ∷ xs) q e t r =
      let one = h x b r.0 r.1 in
      one_kept x xs bs b one.0 (t (piece_of x) (inl refl))
      (kept_live bs xs q (omega arith) (λ p m. t p (inr m))
      (subst (λ (y : F). ReturnsInTurn R y bs xs q) one.1 r.2))

  pub filtered_live : (xs ys : List Piece) → AllTyped tables (shown_pieces xs)
      → IsFiltered R f xs ys
      → LeavesLiving tables (shown_pieces xs) (shown_pieces ys)
  filtered_live xs ys t k = subst (λ (l : List Piece).
      LeavesLiving tables (shown_pieces xs) (shown_pieces l)) (sym k.4)
      (kept_live k.0 xs k.1 k.2 t k.3)
