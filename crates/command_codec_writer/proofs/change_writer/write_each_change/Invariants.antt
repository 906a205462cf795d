use Rattle.std.proofs.Common.{◌≡◌, ◌++◌, drop}
use Rattle.std.specs.List.{flat_map, AllByRecursion}
use Rattle.smo_ops_types.specs.Changes.{changes_of}
use Rattle.command_codec_spec.specs.Encoding.{change_bytes}
use Rattle.command_codec_spec.specs.Valid.{IsWritableChange, ChangeNamed}
use Rattle.command_codec_writer.proofs.change_writer.write_each_change.Given as goal

abbrev pub invariant-loop-change : goal.invariant-loop-change
invariant-loop-change l = record {
  written : l.out.items ++ flat_map change_bytes (changes_of (drop l.change-index l.changes))
      ≡ l.initial.out.items ++ flat_map change_bytes (changes_of l.changes);
  named : AllByRecursion ChangeNamed (changes_of (drop l.change-index l.changes))
      → AllByRecursion ChangeNamed (changes_of l.changes);
  fit : AllByRecursion IsWritableChange (changes_of (drop l.change-index l.changes));
}
