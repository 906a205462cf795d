use Rattle.command_codec.proofs.FieldSteps.{length_taken, name_valid}
use Rattle.command_codec.proofs.field.borrowed_name.Goals as goal

pub name_text-requires : goal.name_text-requires
name_text-requires c = length_taken c.in_ok-count.count c.args.reader.now.rest.now
    c.name_length.new.self.rest.now c.in_ok-count.ensures

pub returns-clause-valid : goal.returns-clause-valid
returns-clause-valid c = name_valid c.in_ok-count.count c.args.reader.now.rest.now
    c.name_length.new.self.rest.now c.in_ok-bytes.bytes.now c.name_text.new.reader.rest.now
    c.in_ok-count.ensures c.in_ok-bytes.ensures
