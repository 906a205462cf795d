use Rattle.std.proofs.Common.{◌≡◌, ◌++◌, drop}
use Rattle.std.specs.List.{flat_map, AllByRecursion}
use Rattle.prima_base.specs.Bytes.{IsName}
use Rattle.command_codec_spec.specs.Encoding.{column_bytes}
use Rattle.command_codec_writer.proofs.operator_writer.write_each_column.Given as goal

abbrev pub invariant-loop-column : goal.invariant-loop-column
invariant-loop-column l = record {
  written : l.out.items ++ flat_map column_bytes (drop l.column-index l.columns)
      ≡ l.initial.out.items ++ flat_map column_bytes l.columns;
  named : AllByRecursion (λ c. IsName c.0) (drop l.column-index l.columns)
      → AllByRecursion (λ c. IsName c.0) l.columns;
}
