use Rattle.std.proofs.Common.{◌≡◌, ◌+◌, ◌&&◌, map, drop}
use Rattle.cond_expr.specs.Seen.{tree, test, trees_of, tests_of}
use Rattle.cond_expr.specs.Sizes.{trees_nodes, tests_nodes}
use Rattle.cond_expr.specs.Kinds.{kinds_of, all_text, all_typed}
use Rattle.cond_expr.specs.Faults.{trees_untyped, tests_untyped}
use Rattle.cond_expr.proofs.expr_type.+types.Given as goal

abbrev pub invariant-list_at-loop-part : goal.invariant-list_at-loop-part
invariant-list_at-loop-part l = record {
  kind : all_text (kinds_of l.columns) (trees_of (map tree l.list))
      ≡ (l.walked.texts && all_text (kinds_of l.columns)
      (trees_of (map tree (drop l.part-index l.list))));
  next : l.walked.next + trees_nodes (trees_of (map tree (drop l.part-index l.list)))
      ≡ l.at + trees_nodes (trees_of (map tree l.list));
  places : trees_untyped (kinds_of l.columns) l.at (trees_of (map tree l.list))
      ≡ trees_untyped (kinds_of l.columns) l.walked.next
      (trees_of (map tree (drop l.part-index l.list)));
}

abbrev pub invariant-conds_at-loop-part : goal.invariant-conds_at-loop-part
invariant-conds_at-loop-part l = record {
  kind : all_typed (kinds_of l.columns) (tests_of (map test l.list))
      ≡ all_typed (kinds_of l.columns) (tests_of (map test (drop l.part-index l.list)));
  next : l.next + tests_nodes (tests_of (map test (drop l.part-index l.list)))
      ≡ l.at + tests_nodes (tests_of (map test l.list));
  places : tests_untyped (kinds_of l.columns) l.at (tests_of (map test l.list))
      ≡ tests_untyped (kinds_of l.columns) l.next (tests_of (map test (drop l.part-index l.list)));
}
