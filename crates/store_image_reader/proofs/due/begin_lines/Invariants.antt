use Rattle.std.proofs.Common.{◌≡◌, ◌++◌, List, ℕ, map, take}
use Rattle.std.specs.List.{filter}
use Rattle.std.specs.FinMap.{entries}
use Rattle.prima_base.specs.Columns.{Column}
use Rattle.smo_ops_versions_spec.specs.Lifelines.{line_begun}
use Rattle.smo_ops_operators.specs.Names.{is_one_of}
use Rattle.store_image_reader.specs.Seen.{line_seen}
use Rattle.store_image_reader.proofs.due.begin_lines.Given as goal

abbrev pub invariant-loop-place : goal.invariant-loop-place
invariant-loop-place l = map line_seen l.lines.items ≡ map line_seen l.initial.lines.items
    ++ map (line_begun l.version) (filter (λ (t : List ℕ × List Column). is_one_of l.names t.0)
    (take l.place (entries l.schema)))
