use Rattle.schema_catalog.proofs.Valid.{none_is_empty}
use Rattle.schema_catalog.proofs.schema.Schema.empty.Goals as goal

pub returns : goal.returns
returns c = none_is_empty c.new.result.items c.new.ensures.items
