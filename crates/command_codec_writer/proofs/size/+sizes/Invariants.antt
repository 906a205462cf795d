use Rattle.std.proofs.Common.{◌≡◌, ◌+◌, ◌≤◌, length, min, map, drop}
use Rattle.cond_expr.specs.Seen.{tree, test, trees_of, tests_of}
use Rattle.command_codec_spec.specs.Encoding.{trees_bytes, tests_bytes}
use Rattle.command_codec_writer.proofs.size.+sizes.Given as goal

abbrev pub invariant-exprs_size-loop-part : goal.invariant-exprs_size-loop-part
invariant-exprs_size-loop-part l = record {
  counted : min (length (trees_bytes (trees_of (map tree l.list)))) 18446744073709551615
      ≡ min (l.size + length (trees_bytes (trees_of (map tree (drop l.part-index l.list)))))
      18446744073709551615;
  fits : l.size ≤ 18446744073709551615;
}

abbrev pub invariant-conds_size-loop-part : goal.invariant-conds_size-loop-part
invariant-conds_size-loop-part l = record {
  counted : min (length (tests_bytes (tests_of (map test l.list)))) 18446744073709551615
      ≡ min (l.size + length (tests_bytes (tests_of (map test (drop l.part-index l.list)))))
      18446744073709551615;
  fits : l.size ≤ 18446744073709551615;
}
