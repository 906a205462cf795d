-- What a rule answers: the unfoldings of a piece that are not found dead.
use Rattle.std.specs.List.{filter}
use Rattle.schema_catalog.specs.Tables.{Tables}
use Rattle.smo_ops_types.specs.Operators.{Operator}
use Rattle.piece_ir_spec.specs.Views.{Views}
use Rattle.piece_ir_spec.specs.Unfolding.{unfoldings}
use Rattle.piece_ir_spec.specs.Rules.{Book}
use Rattle.piece_prune.specs.DeadPieces.{lives}

-- the rule that unfolds by the views of each operator, and keeps of the unfoldings those that live
abbrev pub living_by_views : (Tables → Operator → Views) → Book
living_by_views views op tables p = filter lives (unfoldings (views tables op) p)
