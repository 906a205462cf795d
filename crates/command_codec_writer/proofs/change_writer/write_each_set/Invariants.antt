use Rattle.std.proofs.Common.{◌≡◌, ◌++◌, drop}
use Rattle.std.specs.List.{flat_map, AllByRecursion}
use Rattle.prima_base.specs.Bytes.{IsName}
use Rattle.smo_ops_types.specs.Changes.{sets_of}
use Rattle.command_codec_spec.specs.Encoding.{set_bytes}
use Rattle.command_codec_spec.specs.Valid.{IsWritableTree, TreeNamed}
use Rattle.command_codec_writer.proofs.change_writer.write_each_set.Given as goal

abbrev pub invariant-loop-set : goal.invariant-loop-set
invariant-loop-set l = record {
  written : l.out.items ++ flat_map set_bytes (sets_of (drop l.set-index l.sets))
      ≡ l.initial.out.items ++ flat_map set_bytes (sets_of l.sets);
  named : AllByRecursion (λ s. IsName s.0 × TreeNamed s.1) (sets_of (drop l.set-index l.sets))
      → AllByRecursion (λ s. IsName s.0 × TreeNamed s.1) (sets_of l.sets);
  fit : AllByRecursion (λ s. IsWritableTree s.1) (sets_of (drop l.set-index l.sets));
}
