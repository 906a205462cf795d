use Rattle.std.proofs.Common.{◌≡◌, ◌++◌, map, take}
use Rattle.prima_base.specs.Columns.{Column}
use Rattle.smo_ops_widths.specs.Counted.{size_in}
use Rattle.smo_ops_widths.proofs.size.push_sized.Given as goal

abbrev pub invariant-loop-name : goal.invariant-loop-name
invariant-loop-name l = l.into.items ≡ l.initial.into.items
    ++ map (λ (c : Column). (c.0, size_in l.sizes c.0)) (take l.name-index l.columns)
