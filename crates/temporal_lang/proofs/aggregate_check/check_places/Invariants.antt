use Rattle.std.proofs.Common.{◌≡◌, map, drop}
use Rattle.smo_ops_spec.specs.First.{first_refusal}
use Rattle.temporal_lang_spec.specs.AggregateFaults.{item_fault}
use Rattle.temporal_lang.proofs.aggregate_check.check_places.Given as goal

abbrev pub invariant-loop-item : goal.invariant-loop-item
invariant-loop-item l = first_refusal (map (item_fault l.outputs) l.items)
    ≡ first_refusal (map (item_fault l.outputs) (drop l.item-index l.items))
