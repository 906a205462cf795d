use Rattle.std.proofs.Common.{◌≡◌, take}
use Rattle.std.specs.Prelude.{nat_lt}
use Rattle.std.specs.List.{filter}
use Rattle.period_split.specs.Splitting.{Part}
use Rattle.query_exec.proofs.route.on_from.Given as goal

abbrev pub invariant-loop-part : goal.invariant-loop-part
invariant-loop-part l = l.later.items ≡ filter (λ (p : Part). nat_lt l.asked p.1)
    (take l.part-index l.parts)
