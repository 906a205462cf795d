use Rattle.std.proofs.Common.{◌≡◌, ◌≤◌, ◌+◌, drop, min}
use Rattle.smo_ops_widths.specs.Widths.{sum_of_sizes}
use Rattle.smo_ops_widths.specs.Counted.{size_in}
use Rattle.smo_ops_widths.proofs.measure.sum_of_sizes.Given as goal

abbrev pub invariant-loop-name : goal.invariant-loop-name
invariant-loop-name l = record {
  sum : min (sum_of_sizes l.columns (size_in l.sizes)) 18446744073709551615
      ≡ min (l.sum + sum_of_sizes (drop l.name-index l.columns) (size_in l.sizes))
      18446744073709551615;
  fit : l.sum ≤ 18446744073709551615;
}
