-- What a tally and the bytes to come tell together.
use Rattle.std.specs.Prelude.{ℕ, ◌+◌, List, ◌++◌}
use Rattle.script_cli_sample.specs.declared.tally.Tally.{Tally}
use Rattle.script_cli_sample.specs.Summary.{lines_after, error_count, end_lines}

abbrev pub errors_in : Tally → List ℕ → ℕ
errors_in tally rest = tally.errors + error_count (lines_after tally.line.items rest)

abbrev pub ends_in : Tally → List ℕ → List ℕ
ends_in tally rest = tally.ends.items ++ end_lines (lines_after tally.line.items rest)
