use Rattle.std.proofs.Common.{◌≡◌, drop}
use Rattle.std.specs.Prelude.{◌||◌, Some, is_none}
use Rattle.std.specs.List.{list_all}
use Rattle.prima_base.specs.Columns.{Column}
use Rattle.cond_expr.specs.Kinds.{same_kind}
use Rattle.smo_ops_spec.specs.Preconditions.{type_in}
use Rattle.smo_ops_columns.proofs.column_join.are_joinable.Given as goal

abbrev pub invariant-loop-name : goal.invariant-loop-name
invariant-loop-name l =
    list_all (λ (c : Column). is_none (type_in l.others c.0)
    || same_kind (type_in l.others c.0) (Some c.1)) l.columns
    ≡ list_all (λ (c : Column). is_none (type_in l.others c.0)
    || same_kind (type_in l.others c.0) (Some c.1)) (drop l.name-index l.columns)
