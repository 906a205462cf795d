use Rattle.std.proofs.Common.{◌≡◌, length, take}
use Rattle.std.specs.List.{flat_map}
use Rattle.std.specs.Io.KnownBytes.{Appends}
use Rattle.smo_ops_spec.specs.Past.{Past}
use Rattle.version_groups.specs.Representation.{Represents}
use Rattle.answer_text.specs.Texts.{lifeline_text}
use Rattle.script_cli_statement.proofs.response.put_lifelines.Given as goal

abbrev pub invariant-loop-i : goal.invariant-loop-i
invariant-loop-i g l = (g.K.Sink.faults l.sink ≡ g.K.Sink.faults l.initial.sink)
    × ((past : Past) → Represents l.groups past → l.count ≡ length past.sizes
    → Appends (g.K.Sink.written l.initial.sink) (g.K.Sink.written l.sink)
    (flat_map (lifeline_text (length past.versions)) (take l.i past.sizes)))
