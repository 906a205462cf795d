-- Pieces none of which is dead. That they are is no data: there is at most one proof of it.
use Rattle.std.specs.Prelude.{◌≡◌, List, Bool, true}
use Rattle.std.proofs.Props.{props}
use Rattle.relations_spec.specs.Sets.{In}
use Rattle.piece_ir_spec.specs.Pieces.{PlainPiece}
use Rattle.piece_prune.specs.DeadPieces.{IsLiving}

abbrev pub AllLiving : List PlainPiece → Type 0
AllLiving ps = (p : PlainPiece) → In p ps → IsLiving p

-- they are, where it is known
abbrev pub AreKnownToLive : Bool → List PlainPiece → Type 0
AreKnownToLive known ps = known ≡ true → AllLiving ps

pub living_once : (known : Bool) (ps : List PlainPiece) → IsProp (AreKnownToLive known ps)
living_once known ps = hlevel props
