-- The losses of a branch's items, over its references.
use Rattle.std.specs.Prelude.{ℕ, ◌+◌, List, [], ◌∷◌, Option}
use Rattle.std.specs.List.{filter}
use Rattle.std.specs.Option.{option_or}
use Rattle.cond_expr.specs.declared.expr.ColRef.{ColRef}
use Rattle.cond_expr.specs.References.{is_to}
use Rattle.smo_ops_spec.specs.Losses.{Loss}
use Rattle.smo_ops_versions_spec.specs.ColumnLosses.{Losses, table_loss, column_loss}
use Rattle.smo_ops_versions_spec.specs.LostNames.{first_named}
use Rattle.plain_answers_spec.specs.Branches.{Item}

abbrev pub losses_named : Losses → List ColRef → ℕ → List Item → List (Option Loss)
losses_named losses references i [] = []
losses_named losses references i (item ∷ from) = option_or (table_loss losses item.0)
    (first_named (column_loss losses item.0) (filter (is_to i) references))
    ∷ losses_named losses references (i + 1) from
