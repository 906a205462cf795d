use Rattle.std.proofs.Common.{◌≡◌, ◌++◌, map, drop, take}
use Rattle.prima_base.specs.Bytes.{IsTxt}
use Rattle.cond_expr.specs.Values.{texts, all_true, some_true}
use Rattle.cond_expr.specs.Seen.{tree, test, trees_of, tests_of}
use Rattle.cond_expr.specs.Rows.{flat}
use Rattle.cond_expr.proofs.evaluation.+eval.Given as goal

abbrev pub invariant-all_hold-loop-part : goal.invariant-all_hold-loop-part
invariant-all_hold-loop-part l = all_true (flat l.columns l.values) (tests_of (map test l.parts))
    ≡ all_true (flat l.columns l.values) (tests_of (map test (drop l.part-index l.parts)))

abbrev pub invariant-some_hold-loop-part : goal.invariant-some_hold-loop-part
invariant-some_hold-loop-part l = some_true (flat l.columns l.values) (tests_of (map test l.parts))
    ≡ some_true (flat l.columns l.values) (tests_of (map test (drop l.part-index l.parts)))

abbrev pub invariant-join-loop-part : goal.invariant-join-loop-part
invariant-join-loop-part l = record {
  value : take 4096 (texts (flat l.columns l.values) (trees_of (map tree l.parts)))
      ≡ take 4096 (l.joined.items ++ texts (flat l.columns l.values)
      (trees_of (map tree (drop l.part-index l.parts))));
  valid : IsTxt l.joined.items;
}
