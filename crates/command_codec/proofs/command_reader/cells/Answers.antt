use Rattle.command_codec_spec.specs.Reader.{cells}
use Rattle.command_codec.proofs.ListedItems.{seen_as_they_are}
use Rattle.command_codec.proofs.command_reader.cells.Goals as goal

pub returns : goal.returns
unfolding cells
returns c = seen_as_they_are (λ v. v.items) (cells c.args.reader.now.rest.now) c.read_list.result
    c.read_list.new.reader.rest.now c.read_list.ensures
