use Rattle.command_codec_spec.specs.Reader.{command}
use Rattle.command_codec.proofs.ReadSteps.{of_stuck}
use Rattle.command_codec.proofs.Answering.{command_fits, alone_answers, stuck_answers}
use Rattle.command_codec.proofs.decoder.decode.Goals as goal

pub alone-requires : goal.alone-requires
alone-requires c = command_fits c.in-Ok.command c.args.bytes.now c.command.new.reader.rest.now
    c.in-Ok.ensures

pub returns-in-Ok-clause-right : goal.returns-in-Ok-clause-right
returns-in-Ok-clause-right c = (alone_answers c.in-Ok.command c.args.bytes.now
    c.command.new.reader.rest.now c.alone.result c.in-Ok.ensures c.alone.ensures.whole
    c.alone.ensures.more).0

pub returns-in-Ok-clause-exact : goal.returns-in-Ok-clause-exact
returns-in-Ok-clause-exact c = (alone_answers c.in-Ok.command c.args.bytes.now
    c.command.new.reader.rest.now c.alone.result c.in-Ok.ensures c.alone.ensures.whole
    c.alone.ensures.more).1

pub overflow_sub-result : goal.overflow_sub-result
overflow_sub-result c = (stuck_answers c.args.bytes.now c.command.new.reader.rest.now
    (of_stuck (command c.args.bytes.now) c.in-Err-Unexpected.field-0 c.command.new.reader.rest.now
    c.in-Err-Unexpected.field-0-is c.in-Err-Unexpected.ensures)).0

pub returns-in-Err-Unexpected-clause-right : goal.returns-in-Err-Unexpected-clause-right
returns-in-Err-Unexpected-clause-right c = (stuck_answers c.args.bytes.now
    c.command.new.reader.rest.now (of_stuck (command c.args.bytes.now) c.in-Err-Unexpected.field-0
    c.command.new.reader.rest.now c.in-Err-Unexpected.field-0-is c.in-Err-Unexpected.ensures)).1.0

pub returns-in-Err-Unexpected-clause-exact : goal.returns-in-Err-Unexpected-clause-exact
returns-in-Err-Unexpected-clause-exact c = (stuck_answers c.args.bytes.now
    c.command.new.reader.rest.now (of_stuck (command c.args.bytes.now) c.in-Err-Unexpected.field-0
    c.command.new.reader.rest.now c.in-Err-Unexpected.field-0-is c.in-Err-Unexpected.ensures)).1.1
