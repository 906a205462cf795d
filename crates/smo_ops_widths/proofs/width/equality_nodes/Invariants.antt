use Rattle.std.proofs.Common.{◌≡◌, ◌≤◌, ◌+◌, drop, min}
use Rattle.smo_ops_widths.specs.Widths.{equalities}
use Rattle.smo_ops_widths.specs.Counted.{size_in}
use Rattle.smo_ops_widths.proofs.width.equality_nodes.Given as goal

abbrev pub invariant-loop-name : goal.invariant-loop-name
invariant-loop-name l = record {
  nodes : min (equalities l.columns l.others (size_in l.left) (size_in l.right))
      18446744073709551615
      ≡ min (l.nodes + equalities (drop l.name-index l.columns) l.others (size_in l.left)
      (size_in l.right)) 18446744073709551615;
  fit : l.nodes ≤ 18446744073709551615;
}
