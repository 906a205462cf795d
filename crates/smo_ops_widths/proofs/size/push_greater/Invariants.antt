use Rattle.std.proofs.Common.{◌≡◌, ◌++◌, ℕ, List, map, max, take}
use Rattle.smo_ops_widths.specs.Counted.{size_in}
use Rattle.smo_ops_widths.proofs.size.push_greater.Given as goal

abbrev pub invariant-loop-name : goal.invariant-loop-name
invariant-loop-name l = l.into.items ≡ l.initial.into.items
    ++ map (λ (e : List ℕ × ℕ). (e.0, max e.1 (size_in l.others e.0))) (take l.name-index l.sizes)
