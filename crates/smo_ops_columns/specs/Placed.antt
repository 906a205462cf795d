-- Where a column goes among columns in the order of their names.
use Rattle.std.specs.Prelude.{◌≡◌, ◌≤◌, ℕ, List, length, Option, Some, None}
use Rattle.std.specs.List.{insert}
use Rattle.relations_spec.specs.Sets.{put_in}
use Rattle.prima_base.specs.declared.value.ColType.{ColType}
use Rattle.prima_base.specs.Columns.{Column}
use Rattle.smo_ops_spec.specs.Making.{column_cmp}

-- the place of a new column, or none where one has its name and stays
abbrev pub IsGap : List Column → List ℕ → Option ℕ → Type 0
IsGap columns name (Some i) = (i ≤ length columns)
    × ((kind : ColType) → put_in column_cmp (name, kind) columns ≡ insert columns i (name, kind))
IsGap columns name None = (kind : ColType) → put_in column_cmp (name, kind) columns ≡ columns
