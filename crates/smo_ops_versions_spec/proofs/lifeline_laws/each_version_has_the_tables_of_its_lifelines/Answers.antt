use Rattle.smo_ops_versions_spec.proofs.VersionsCovered.{each_covered}
use Rattle.smo_ops_versions_spec.proofs.lifeline_laws.each_version_has_the_tables_of_its_lifelines.Goals as goal

pub returns : goal.returns
returns c = each_covered
