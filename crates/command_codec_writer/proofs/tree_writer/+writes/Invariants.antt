use Rattle.std.proofs.Common.{◌≡◌, ◌++◌, map, drop}
use Rattle.cond_expr.specs.Seen.{tree, test, trees_of, tests_of}
use Rattle.command_codec_spec.specs.Encoding.{trees_bytes, tests_bytes}
use Rattle.command_codec_spec.specs.Valid.{TreesFit, TestsFit, TreesNamed, TestsNamed}
use Rattle.command_codec_writer.proofs.tree_writer.+writes.Given as goal

abbrev pub invariant-write_exprs-loop-part : goal.invariant-write_exprs-loop-part
invariant-write_exprs-loop-part l = record {
  written : l.out.items ++ trees_bytes (trees_of (map tree (drop l.part-index l.parts)))
      ≡ l.initial.out.items ++ trees_bytes (trees_of (map tree l.parts));
  named : TreesNamed (trees_of (map tree (drop l.part-index l.parts)))
      → TreesNamed (trees_of (map tree l.parts));
  fit : TreesFit (trees_of (map tree (drop l.part-index l.parts)));
}

abbrev pub invariant-write_conds-loop-part : goal.invariant-write_conds-loop-part
invariant-write_conds-loop-part l = record {
  written : l.out.items ++ tests_bytes (tests_of (map test (drop l.part-index l.parts)))
      ≡ l.initial.out.items ++ tests_bytes (tests_of (map test l.parts));
  named : TestsNamed (tests_of (map test (drop l.part-index l.parts)))
      → TestsNamed (tests_of (map test l.parts));
  fit : TestsFit (tests_of (map test (drop l.part-index l.parts)));
}
