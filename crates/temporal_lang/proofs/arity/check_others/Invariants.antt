use Rattle.std.proofs.Common.{◌≡◌, ◌+◌, map, drop}
use Rattle.std.specs.Prelude.{Some}
use Rattle.smo_ops_spec.specs.First.{first_refusal}
use Rattle.temporal_lang_spec.specs.Checking.{arities_from}
use Rattle.temporal_lang.specs.Typings.{kind_lists}
use Rattle.temporal_lang.proofs.arity.check_others.Given as goal

abbrev pub invariant-loop-i : goal.invariant-loop-i
invariant-loop-i l = first_refusal (arities_from (map Some l.first) 2 (kind_lists l.others))
    ≡ first_refusal (arities_from (map Some l.first) (2 + l.i) (kind_lists (drop l.i l.others)))
