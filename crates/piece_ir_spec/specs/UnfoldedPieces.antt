-- Pieces that stand at one version for what is asked of a table of another one.
use Rattle.std.specs.Prelude.{◌≡◌, ℕ, List, [], ◌∷◌, None}
use Rattle.std.specs.FinMap.{get}
use Rattle.smo_ops_types.specs.Commands.{PlainVersion}
use Rattle.smo_ops_spec.specs.Past.{no_tables, tables_from}
use Rattle.smo_ops_spec.specs.ValidPast.{AreVersions}
use Rattle.smo_ops_versions_spec.specs.LostTables.{lost_tables}
use Rattle.plain_answers_spec.specs.Reading.{Read}
use Rattle.piece_ir_spec.specs.Pieces.{PlainPiece}
use Rattle.piece_ir_spec.specs.Rules.{Book}
use Rattle.piece_ir_spec.specs.Chains.{unfolded_to}
use Rattle.piece_ir_spec.specs.Beginnings.{IsQuestion, first_piece}

-- each version has evolved from the one before, and something is asked of the table of version q
pub record MayBeAsked (versions : List PlainVersion) (q : ℕ) (table : List ℕ) (r : Read) :
    Type 0 where
  pub valid : AreVersions None no_tables versions
  pub question : IsQuestion (tables_from no_tables versions q) table r

-- the table is not lost on the way, and the pieces are the first one, unfolded to version v
pub record StandFor (book : Book) (versions : List PlainVersion) (v q : ℕ) (table : List ℕ)
    (r : Read)
    (ps : List PlainPiece) : Type 0 where
  pub kept : get (lost_tables versions v q) table ≡ None
  pub unfolded : ps ≡ unfolded_to book versions v q (first_piece table r ∷ [])
