use Rattle.std.specs.FinMap.{empty}
use Rattle.smo_ops_spec.specs.Past.{no_tables, tables_from}
use Rattle.smo_ops_versions_spec.specs.Ways.{way}
use Rattle.smo_ops_versions_spec.proofs.LossesByName.{losses_are, no_losses}
use Rattle.smo_ops_versions_spec.proofs.MappedTables.{not_mapped}
use Rattle.smo_ops_versions_spec.proofs.way_laws.names_tell_what_is_lost.Goals as goal

pub returns-clause-database : goal.returns-clause-database
returns-clause-database c = λ versions v q database h. losses_are (way versions v q) empty database
    (no_losses (tables_from no_tables versions v) database h)

pub returns-clause-mapped : goal.returns-clause-mapped
returns-clause-mapped c = not_mapped
