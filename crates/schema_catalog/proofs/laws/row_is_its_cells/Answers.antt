use Rattle.schema_catalog.proofs.Cells.{cells_again}
use Rattle.schema_catalog.proofs.laws.row_is_its_cells.Goals as goal

pub returns : goal.returns
returns c = cells_again
