use Rattle.command_codec_checker.proofs.Answering.{command_fits, alone_answers, stuck_answers}
use Rattle.command_codec_checker.proofs.checker.check.Goals as goal

pub alone-requires : goal.alone-requires
alone-requires c = command_fits c.args.bytes.now c.check_command.new.reader.rest.now c.in-Ok.ensures

pub returns-in-Ok-clause-right : goal.returns-in-Ok-clause-right
returns-in-Ok-clause-right c = (alone_answers c.args.bytes.now c.check_command.new.reader.rest.now
    c.alone.result c.in-Ok.ensures c.alone.ensures.whole c.alone.ensures.more).right

pub returns-in-Ok-clause-exact : goal.returns-in-Ok-clause-exact
returns-in-Ok-clause-exact c = (alone_answers c.args.bytes.now c.check_command.new.reader.rest.now
    c.alone.result c.in-Ok.ensures c.alone.ensures.whole c.alone.ensures.more).exact

pub overflow_sub-result : goal.overflow_sub-result
overflow_sub-result c = (stuck_answers c.args.bytes.now c.check_command.new.reader.rest.now
    c.in-Err.ensures).0

pub returns-in-Err-clause-right : goal.returns-in-Err-clause-right
returns-in-Err-clause-right c = (stuck_answers c.args.bytes.now
    c.check_command.new.reader.rest.now c.in-Err.ensures).1.right

pub returns-in-Err-clause-exact : goal.returns-in-Err-clause-exact
returns-in-Err-clause-exact c = (stuck_answers c.args.bytes.now
    c.check_command.new.reader.rest.now c.in-Err.ensures).1.exact
