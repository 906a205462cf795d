use Rattle.command_codec.proofs.FieldSteps.{text_valid}
use Rattle.command_codec.proofs.value_reader.borrowed_text.Goals as goal

pub returns-clause-valid : goal.returns-clause-valid
returns-clause-valid c = text_valid c.in_ok-count.count c.args.reader.now.rest.now
    c.number.new.self.rest.now c.in_ok-bytes.bytes.now c.run.new.self.rest.now
    c.in_ok-count.ensures c.in_ok-bytes.ensures
