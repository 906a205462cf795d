-- The pieces that are unfolded to a version mean over each of its databases what the pieces mean
-- over the migrated one.
use Rattle.std.proofs.Common.{◌≡◌, ℕ, List, ◌∙◌}
use Rattle.std.specs.Prelude.{None}
use Rattle.std.specs.FinMap.{empty}
use Rattle.schema_catalog.specs.Databases.{Database}
use Rattle.smo_ops_types.specs.Commands.{PlainVersion}
use Rattle.smo_ops_spec.specs.Past.{no_tables, tables_from}
use Rattle.smo_ops_spec.specs.ValidPast.{AreVersions}
use Rattle.smo_ops_versions_spec.specs.Ways.{way}
use Rattle.smo_ops_versions_spec.specs.Migration.{migrated_from}
use Rattle.smo_ops_versions_spec.specs.LostTables.{lost_tables}
use Rattle.smo_ops_versions_spec.proofs.WayDatabases.{none_is_lost}
use Rattle.smo_ops_versions_spec.proofs.LossesByName.{losses_are, no_losses}
use Rattle.piece_ir_spec.specs.Pieces.{PlainPiece, all_mean}
use Rattle.piece_ir_spec.specs.Typed.{AllTyped}
use Rattle.piece_ir_spec.specs.Constants.{ValidInPieces, ValidInVersions}
use Rattle.piece_ir_spec.specs.Rules.{Book, IsValidBook, IsValidDatabase}
use Rattle.piece_ir_spec.specs.Chains.{unfolded_to, NoneLost, NoneNamed}
use Rattle.smo_ops_spec.specs.ValidValues.{VersionsHold}
use Rattle.piece_ir_spec.proofs.EmptyDatabases.{no_rows_of, is_valid}
use Rattle.piece_ir_spec.proofs.ChainSteps.{Outputs, AllOutput}
use Rattle.piece_ir_spec.proofs.Chains.{the_way}

module _ (versions : List PlainVersion) (are : AreVersions None no_tables versions) (v q : ℕ) where
  none_lost : (ps : List PlainPiece) → NoneNamed (lost_tables versions v q) ps → (db : Database)
      → IsValidDatabase (tables_from no_tables versions v) db
      → NoneLost (migrated_from versions v q db) ps
  none_lost ps n db h = λ p m name i. losses_are (way versions v q) empty db
      (no_losses (tables_from no_tables versions v) db h.database) name ∙ n p m name i

  module _ (book : Book) (valid : IsValidBook book) (ps : List PlainPiece)
      (typed : AllTyped (tables_from no_tables versions q) ps)
      (none : NoneNamed (lost_tables versions v q) ps) where
    pub pieces_mean : VersionsHold versions → (db : Database)
        → IsValidDatabase (tables_from no_tables versions v) db
        → all_mean (tables_from no_tables versions v) db (unfolded_to book versions v q ps)
        ≡ all_mean (tables_from no_tables versions q) (migrated_from versions v q db) ps
    pieces_mean hold db h = (the_way book valid versions are v q).law hold db ps
        (none_is_lost (tables_from no_tables versions v) db h.database) h.values typed
        (none_lost ps none db h)

    pub pieces_typed : AllTyped (tables_from no_tables versions v)
        (unfolded_to book versions v q ps)
    pieces_typed =
        let db = no_rows_of (tables_from no_tables versions v) in
        let h = is_valid (tables_from no_tables versions v) in
        (the_way book valid versions are v q).typed db ps
        (none_is_lost (tables_from no_tables versions v) db h.database) typed
        (none_lost ps none db h)

    pub pieces_output : (outs : Outputs) → AllOutput (tables_from no_tables versions q) outs ps
        → AllOutput (tables_from no_tables versions v) outs (unfolded_to book versions v q ps)
    pieces_output outs o =
        let db = no_rows_of (tables_from no_tables versions v) in
        let h = is_valid (tables_from no_tables versions v) in
        (the_way book valid versions are v q).outputs db ps outs
        (none_is_lost (tables_from no_tables versions v) db h.database) typed
        (none_lost ps none db h) o

    pub pieces_valid : ValidInVersions versions → ValidInPieces ps
        → ValidInPieces (unfolded_to book versions v q ps)
    pieces_valid kept c =
        let db = no_rows_of (tables_from no_tables versions v) in
        let h = is_valid (tables_from no_tables versions v) in
        (the_way book valid versions are v q).constants kept db ps
        (none_is_lost (tables_from no_tables versions v) db h.database) typed
        (none_lost ps none db h) c
