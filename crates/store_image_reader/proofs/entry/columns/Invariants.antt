use Rattle.std.proofs.Common.{◌≡◌, drop}
use Rattle.command_codec_spec.specs.Reading.{prepend}
use Rattle.store_image_spec.specs.Reader as spec
use Rattle.store_image_reader.specs.Seen.{cells_seen}
use Rattle.store_image_reader.proofs.entry.columns.Given as goal

abbrev pub invariant-loop-kind : goal.invariant-loop-kind
invariant-loop-kind l = spec.columns l.last l.keys l.columns l.initial.reader.rest.now
    ≡ prepend (cells_seen l.list.items) (spec.columns l.last l.keys (drop l.kind-index l.columns)
    l.reader.rest.now)
