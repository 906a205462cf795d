-- Changes of one table's rows that are all INSERTs, and the rows that they give.
use Rattle.std.specs.Prelude.{List, [], ◌∷◌, Option, Some, None}
use Rattle.std.specs.Option.{option_map}
use Rattle.prima_base.specs.Columns.{Column}
use Rattle.smo_ops_types.specs.Changes.{PlainChange, insertion, deletion, update}
use Rattle.smo_ops_spec.specs.OneRow.{Row, Relation, row_of}
use Rattle.smo_ops_spec.specs.Effects.{relation_after}

-- the changes apply in order
abbrev pub relation_after_each : List Column → List PlainChange → Relation → Relation
relation_after_each columns [] rows = rows
relation_after_each columns (c ∷ changes) rows =
    relation_after_each columns changes (relation_after columns c rows)

-- the rows that are given, in order; none where one of the changes is no INSERT
abbrev pub insertions : List Column → List PlainChange → Option (List Row)
insertions columns [] = Some []
insertions columns (insertion t cells ∷ changes) =
    option_map (λ rows. row_of columns cells ∷ rows) (insertions columns changes)
insertions columns (deletion t c ∷ changes) = None
insertions columns (update t sets c ∷ changes) = None
