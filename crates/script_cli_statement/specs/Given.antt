-- What a run is given besides its script and its file.
use Rattle.std.specs.Prelude.{ℕ}
use Rattle.piece_ir_spec.specs.Rules.{Book}

-- how many bytes the journal may have, and how the book takes queries over operators
pub record Given : Type 0 where
  pub limit : ℕ
  pub book : Book
