-- What a source of a sample script has left, and how often it has failed.
use Rattle.std.specs.Prelude.{ℕ, List, ◌++◌}
use Rattle.std.specs.List.{concat}
use Rattle.prima_io.specs.Memory.{sure_left}
use Rattle.script_cli_sample.specs.declared.source.SampleSource.{SampleSource}

abbrev pub left_of : SampleSource → List ℕ
left_of s = sure_left s.line ++ concat s.script

abbrev pub faults_of : SampleSource → ℕ
faults_of s = s.faults
