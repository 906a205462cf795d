use Rattle.std.proofs.Common.{◌≡◌, map, drop}
use Rattle.smo_ops_spec.specs.First.{first_refusal}
use Rattle.temporal_lang_spec.specs.Checking.{keep_fault}
use Rattle.temporal_lang.proofs.period.check_keeps.Given as goal

abbrev pub invariant-loop-condition : goal.invariant-loop-condition
invariant-loop-condition l = first_refusal (map keep_fault l.keep)
    ≡ first_refusal (map keep_fault (drop l.condition-index l.keep))
