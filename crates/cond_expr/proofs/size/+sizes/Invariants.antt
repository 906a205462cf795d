use Rattle.std.proofs.Common.{◌≡◌, ◌≤◌, ◌+◌, map, drop, min, max}
use Rattle.cond_expr.specs.Seen.{tree, test, trees_of, tests_of}
use Rattle.cond_expr.specs.Constants.{HaveValid}
use Rattle.cond_expr.specs.Sizes.{trees_nodes, tests_nodes, trees_depth, tests_depth, trees_longest}
use Rattle.cond_expr.specs.Sizes.{tests_longest}
use Rattle.cond_expr.proofs.size.+sizes.Given as goal

abbrev pub invariant-conds_size-loop-part : goal.invariant-conds_size-loop-part
invariant-conds_size-loop-part l = record {
  nodes : min (tests_nodes (tests_of (map test l.list))) 18446744073709551615
      ≡ min (l.size.nodes + tests_nodes (tests_of (map test (drop l.part-index l.list))))
      18446744073709551615;
  depth : min (tests_depth (tests_of (map test l.list))) 18446744073709551615
      ≡ min (max l.size.depth (tests_depth (tests_of (map test (drop l.part-index l.list)))))
      18446744073709551615;
  parts : min (tests_longest (tests_of (map test l.list))) 18446744073709551615
      ≡ min (max l.size.parts (tests_longest (tests_of (map test (drop l.part-index l.list)))))
      18446744073709551615;
  nodes_fit : l.size.nodes ≤ 18446744073709551615;
  depth_fits : l.size.depth ≤ 18446744073709551615;
  parts_fit : l.size.parts ≤ 18446744073709551615;
}

abbrev pub invariant-exprs_size-loop-part : goal.invariant-exprs_size-loop-part
invariant-exprs_size-loop-part l = record {
  constants : HaveValid (trees_of (map tree (drop l.part-index l.list)))
      → HaveValid (trees_of (map tree l.list));
  nodes : min (trees_nodes (trees_of (map tree l.list))) 18446744073709551615
      ≡ min (l.size.nodes + trees_nodes (trees_of (map tree (drop l.part-index l.list))))
      18446744073709551615;
  depth : min (trees_depth (trees_of (map tree l.list))) 18446744073709551615
      ≡ min (max l.size.depth (trees_depth (trees_of (map tree (drop l.part-index l.list)))))
      18446744073709551615;
  parts : min (trees_longest (trees_of (map tree l.list))) 18446744073709551615
      ≡ min (max l.size.parts (trees_longest (trees_of (map tree (drop l.part-index l.list)))))
      18446744073709551615;
  nodes_fit : l.size.nodes ≤ 18446744073709551615;
  depth_fits : l.size.depth ≤ 18446744073709551615;
  parts_fit : l.size.parts ≤ 18446744073709551615;
}
