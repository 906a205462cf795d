-- The way of pieces along the versions, whatever the way.
use Rattle.std.proofs.Common.{ℕ, List}
use Rattle.std.specs.Prelude.{None}
use Rattle.smo_ops_types.specs.Commands.{PlainVersion}
use Rattle.smo_ops_spec.specs.Past.{no_tables, tables_from}
use Rattle.smo_ops_spec.specs.ValidPast.{AreVersions}
use Rattle.smo_ops_spec.specs.ValidValues.{VersionsHold}
use Rattle.smo_ops_versions_spec.specs.Ways.{way}
use Rattle.smo_ops_versions_spec.specs.Migration.{migrated_from}
use Rattle.smo_ops_versions_spec.proofs.WayLeads.{way_leads}
use Rattle.smo_ops_versions_spec.proofs.WayValues.{way_holds}
use Rattle.piece_ir_spec.specs.Constants.{ValidInVersions}
use Rattle.piece_ir_spec.specs.Rules.{Book, IsValidBook}
use Rattle.piece_ir_spec.specs.Chains.{unfolded_to}
use Rattle.piece_ir_spec.proofs.HeldValues.{way_valid}
use Rattle.piece_ir_spec.proofs.ChainSteps.{IsStep, steps_step}

module _ (book : Book) (valid : IsValidBook book) (versions : List PlainVersion)
    (are : AreVersions None no_tables versions) where
  pub the_way : (v q : ℕ) → IsStep (VersionsHold versions) (ValidInVersions versions)
      (tables_from no_tables versions v) (tables_from no_tables versions q)
      (migrated_from versions v q) (unfolded_to book versions v q)
  the_way v q = steps_step book valid (VersionsHold versions) (ValidInVersions versions)
      (tables_from no_tables versions v) (tables_from no_tables versions q) (way versions v q)
      (way_leads versions are v q) (λ h. way_holds versions h v q)
      (λ h. way_valid versions h v q)
