use Rattle.schema_catalog.proofs.Valid.{with_table}
use Rattle.schema_catalog.proofs.laws.database_with_table.Goals as goal

pub returns : goal.returns
returns c = with_table
