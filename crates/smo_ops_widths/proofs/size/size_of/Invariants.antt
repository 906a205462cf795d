use Rattle.std.proofs.Common.{◌≡◌, drop}
use Rattle.smo_ops_widths.specs.Counted.{size_in}
use Rattle.smo_ops_widths.proofs.size.size_of.Given as goal

abbrev pub invariant-loop-column : goal.invariant-loop-column
invariant-loop-column l = size_in l.sizes l.name ≡ size_in (drop l.column-index l.sizes) l.name
