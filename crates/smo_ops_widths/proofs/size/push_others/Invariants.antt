use Rattle.std.proofs.Common.{◌≡◌, ◌++◌, ℕ, List, drop}
use Rattle.smo_ops_widths.specs.Counted.{size_in}
use Rattle.smo_ops_widths.proofs.size.push_others.Given as goal

abbrev pub invariant-loop-name : goal.invariant-loop-name
invariant-loop-name l = (n : List ℕ) → size_in (l.into.items ++ drop l.name-index l.others) n
    ≡ size_in (l.initial.into.items ++ l.others) n
