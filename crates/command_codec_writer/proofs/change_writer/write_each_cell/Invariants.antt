use Rattle.std.proofs.Common.{◌≡◌, ◌++◌, drop}
use Rattle.std.specs.List.{flat_map, AllByRecursion}
use Rattle.prima_base.specs.Bytes.{IsName}
use Rattle.prima_base.specs.Columns.{IsValid}
use Rattle.command_codec_spec.specs.Encoding.{cell_bytes}
use Rattle.command_codec_writer.proofs.change_writer.write_each_cell.Given as goal

abbrev pub invariant-loop-cell : goal.invariant-loop-cell
invariant-loop-cell l = record {
  written : l.out.items ++ flat_map cell_bytes (drop l.cell-index l.cells) ≡ l.initial.out.items
      ++ flat_map cell_bytes l.cells;
  named : AllByRecursion (λ c. IsName c.0 × IsValid c.1) (drop l.cell-index l.cells)
      → AllByRecursion (λ c. IsName c.0 × IsValid c.1) l.cells;
}
