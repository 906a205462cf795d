use Rattle.std.proofs.Common.{◌≡◌, ◌≤◌, ◌+◌, map, drop, min}
use Rattle.cond_expr.specs.Seen.{tree, test, trees_of, tests_of}
use Rattle.smo_ops_widths.specs.Widths.{trees_sized, tests_sized}
use Rattle.smo_ops_widths.specs.Counted.{size_in}
use Rattle.smo_ops_widths.proofs.size.+nodes.Given as goal

abbrev pub invariant-exprs_nodes-loop-part : goal.invariant-exprs_nodes-loop-part
invariant-exprs_nodes-loop-part l = record {
  nodes : min (trees_sized (size_in l.sizes) (trees_of (map tree l.list))) 18446744073709551615
      ≡ min (l.nodes + trees_sized (size_in l.sizes)
      (trees_of (map tree (drop l.part-index l.list)))) 18446744073709551615;
  fit : l.nodes ≤ 18446744073709551615;
}

abbrev pub invariant-conds_nodes-loop-part : goal.invariant-conds_nodes-loop-part
invariant-conds_nodes-loop-part l = record {
  nodes : min (tests_sized (size_in l.sizes) (tests_of (map test l.list))) 18446744073709551615
      ≡ min (l.nodes + tests_sized (size_in l.sizes)
      (tests_of (map test (drop l.part-index l.list)))) 18446744073709551615;
  fit : l.nodes ≤ 18446744073709551615;
}
