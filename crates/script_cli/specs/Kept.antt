-- What a sink keeps in memory, and how often it has failed.
use Rattle.std.specs.Prelude.{ℕ, List}
use Rattle.script_cli.specs.declared.kept_reply.RepliesKept.{RepliesKept}

abbrev pub kept_by : RepliesKept → List ℕ
kept_by s = s.bytes.items

abbrev pub failures_of : RepliesKept → ℕ
failures_of s = s.faults
