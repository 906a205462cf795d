use Rattle.std.proofs.Common.{◌≡◌, drop}
use Rattle.std.specs.List.{list_any}
use Rattle.smo_ops_spec.specs.Preconditions.{among}
use Rattle.smo_ops_columns.proofs.name_list.share_a_name.Given as goal

abbrev pub invariant-loop-name : goal.invariant-loop-name
invariant-loop-name l = list_any (λ n. among n l.others) l.names
    ≡ list_any (λ n. among n l.others) (drop l.name-index l.names)
