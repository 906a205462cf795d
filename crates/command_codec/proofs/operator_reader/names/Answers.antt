use Rattle.command_codec_spec.specs.Reader.{names}
use Rattle.command_codec.proofs.ListedItems.{seen_as_they_are}
use Rattle.command_codec.proofs.operator_reader.names.Goals as goal

pub returns : goal.returns
unfolding names
returns c = seen_as_they_are (λ v. v.items) (names c.args.reader.now.rest.now) c.read_list.result
    c.read_list.new.reader.rest.now c.read_list.ensures
