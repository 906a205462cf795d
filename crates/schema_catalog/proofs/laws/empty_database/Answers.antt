use Rattle.schema_catalog.proofs.Valid.{only_empty, empty_is}
use Rattle.schema_catalog.proofs.laws.empty_database.Goals as goal

pub returns : goal.returns
returns c = λ database. (only_empty database, empty_is database)
