-- Of pieces that are known to live, all are left.
use Rattle.std.proofs.Common.{◌≡◌, true, List, [], ◌∷◌, refl, sym, ap, ◌∙◌, inl, inr}
use Rattle.std.specs.Prelude.{not}
use Rattle.std.specs.List.{filter}
use Rattle.std.proofs.lemmas.Bool.{cond-true, cases_Bool}
use Rattle.schema_catalog.specs.Tables.{Tables}
use Rattle.piece_ir_spec.specs.Pieces.{PlainPiece}
use Rattle.cond_expr_dead.specs.Tried.{is_killed}
use Rattle.cond_expr_dead.proofs.DeadLaws.{killed_is_dead}
use Rattle.piece_ir_spec.specs.Typed.{IsTyped, AllTyped, atom_kinds}
use Rattle.piece_prune.specs.DeadPieces.{LeavesLiving, none_left, a_living_one, lives, IsLiving}
use Rattle.rewrite_rules_book.specs.LivingPieces.{AllLiving}

pub all_left : (tables : Tables) (ps : List PlainPiece) → AllTyped tables ps → AllLiving ps
    → LeavesLiving tables ps ps
all_left tables [] typed live = none_left
all_left tables (p ∷ ps) typed live =
    a_living_one p ps ps (live p (inl refl) tables (typed p (inl refl)))
    (all_left tables ps (λ q m. typed q (inr m)) (λ q m. live q (inr m)))

-- a piece that lives is not found dead
found_living : (tables : Tables) (p : PlainPiece) → IsTyped tables p → IsLiving p → lives p ≡ true
found_living tables p typed live = elim (cases_Bool (is_killed p.cond)) [
  | inl killed ↦ absurd (live tables typed
      (killed_is_dead (atom_kinds tables p.atoms) p.cond typed.cond killed))
  | inr spared ↦ ap not spared
]

pub all_told : (tables : Tables) (ps : List PlainPiece) → AllTyped tables ps → AllLiving ps
    → ps ≡ filter lives ps
all_told tables [] typed live = refl
all_told tables (p ∷ ps) typed live =
    ap (λ (qs : List PlainPiece). p ∷ qs)
    (all_told tables ps (λ q m. typed q (inr m)) (λ q m. live q (inr m)))
    ∙ sym (cond-true (lives p) (p ∷ filter lives ps) (filter lives ps)
    (found_living tables p (typed p (inl refl)) (live p (inl refl))))
