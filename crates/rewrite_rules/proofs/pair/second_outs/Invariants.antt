use Rattle.std.proofs.Common.{◌≡◌, map, take}
use Rattle.smo_ops_types.specs.Changes.{sets_of}
use Rattle.piece_ir_spec.specs.OperatorViews.{second_names, from_second}
use Rattle.rewrite_rules.proofs.pair.second_outs.Given as goal

abbrev pub invariant-loop-name : goal.invariant-loop-name
invariant-loop-name l = sets_of l.outs.items ≡ map from_second
    (second_names l.first (take l.name-index l.second))
