use Rattle.std.proofs.Common.{◌≡◌, map, drop}
use Rattle.std.specs.Prelude.{Some}
use Rattle.smo_ops_spec.specs.First.{first_refusal}
use Rattle.temporal_lang_spec.specs.AggregateFaults.{sum_fault}
use Rattle.temporal_lang.proofs.aggregate_check.check_sums.Given as goal

abbrev pub invariant-loop-item : goal.invariant-loop-item
invariant-loop-item l = first_refusal (map (sum_fault (map Some l.kinds)) l.items)
    ≡ first_refusal (map (sum_fault (map Some l.kinds)) (drop l.item-index l.items))
