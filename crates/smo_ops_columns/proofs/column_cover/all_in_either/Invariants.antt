use Rattle.std.proofs.Common.{◌≡◌, drop}
use Rattle.std.specs.Prelude.{◌||◌}
use Rattle.std.specs.List.{list_all}
use Rattle.prima_base.specs.Columns.{names_of}
use Rattle.smo_ops_spec.specs.Preconditions.{among}
use Rattle.smo_ops_columns.proofs.column_cover.all_in_either.Given as goal

abbrev pub invariant-loop-name : goal.invariant-loop-name
invariant-loop-name l =
    list_all (λ n. among n l.left || among n l.right) (names_of l.columns)
    ≡ list_all (λ n. among n l.left || among n l.right) (names_of (drop l.name-index l.columns))
