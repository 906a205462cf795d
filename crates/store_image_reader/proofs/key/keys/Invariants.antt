use Rattle.std.proofs.Common.{◌≡◌, ◌-◌}
use Rattle.command_codec_spec.specs.Reading.{items, prepend}
use Rattle.store_image_spec.specs.Reader.{key}
use Rattle.store_image_reader.proofs.key.keys.Given as goal

abbrev pub invariant-loop : goal.invariant-loop
invariant-loop l = items (key l.last) l.count l.initial.reader.rest.now
    ≡ prepend l.list.items (items (key l.last) (l.count - l.counter) l.reader.rest.now)
