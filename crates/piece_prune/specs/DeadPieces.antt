-- Dead pieces, and the pieces that live.
use Rattle.std.specs.Prelude.{List, [], ◌∷◌, Bool, true, false, not}
use Rattle.schema_catalog.specs.Tables.{Tables}
use Rattle.cond_expr.specs.Parts.{IsDead}
use Rattle.cond_expr_dead.specs.Tried.{is_killed}
use Rattle.piece_ir_spec.specs.Pieces.{PlainPiece}
use Rattle.piece_ir_spec.specs.Typed.{IsTyped, atom_kinds}

-- A top-level part of its condition is FALSE, or for some column of some atom no value of the
-- column's type meets all the top-level parts that compare just this column with a constant.
abbrev pub IsDeadPiece : Tables → PlainPiece → Type 0
IsDeadPiece tables p = IsDead (atom_kinds tables p.atoms) p.cond

-- the few values that are tried do not find it dead
abbrev pub lives : PlainPiece → Bool
lives p = not (is_killed p.cond)

-- of these pieces just those that are not dead are left, in their order
pub data LeavesLiving (tables : Tables) : List PlainPiece → List PlainPiece → Type 0 where
  none_left : LeavesLiving tables [] []
  a_dead_one : (p : PlainPiece) (ps living : List PlainPiece) → IsDeadPiece tables p
      → LeavesLiving tables ps living → LeavesLiving tables (p ∷ ps) living
  a_living_one : (p : PlainPiece) (ps living : List PlainPiece) → ¬ IsDeadPiece tables p
      → LeavesLiving tables ps living → LeavesLiving tables (p ∷ ps) (p ∷ living)

-- the piece is not dead, over any tables over which it is well-typed
abbrev pub IsLiving : PlainPiece → Type 0
IsLiving p = (tables : Tables) → IsTyped tables p → ¬ IsDeadPiece tables p

-- whether a piece lives, over all tables over which it is well-typed
abbrev pub Decides : Bool → PlainPiece → Type 0
Decides true p = IsLiving p
Decides false p = (tables : Tables) → IsTyped tables p → IsDeadPiece tables p
