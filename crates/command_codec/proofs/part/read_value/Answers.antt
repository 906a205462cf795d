use Rattle.prima_base.specs.Columns.{IsValid}
use Rattle.command_codec_spec.specs.Encoding.{value_bytes}
use Rattle.command_codec_spec.specs.Reader.{value}
use Rattle.command_codec_spec.proofs.PartFormats.{value_correct}
use Rattle.command_codec.proofs.ReadSteps.{of_stuck}
use Rattle.command_codec_spec.proofs.Deciding.{got_at, stuck_at}
use Rattle.command_codec.proofs.part.read_value.Goals as goal

pub overflow_sub-result : goal.overflow_sub-result
overflow_sub-result c = (got_at value IsValid value_bytes value_correct c.args.bytes.now c.args.from
    c.requires c.reader_at-reader.result.rest.now c.in-Ok.value c.value.new.reader.rest.now
    c.reader_at-reader.ensures c.in-Ok.ensures).0

pub overflow_sub-result-in-Err-Unexpected : goal.overflow_sub-result-in-Err-Unexpected
overflow_sub-result-in-Err-Unexpected c = (stuck_at value IsValid value_bytes value_correct
    c.args.bytes.now c.args.from c.requires c.reader_at-reader.result.rest.now
    c.value.new.reader.rest.now c.reader_at-reader.ensures
    (of_stuck (value c.reader_at-reader.result.rest.now) c.in-Err-Unexpected.field-0
    c.value.new.reader.rest.now c.in-Err-Unexpected.field-0-is c.in-Err-Unexpected.ensures)).0

pub returns-in-Ok-clause-right : goal.returns-in-Ok-clause-right
returns-in-Ok-clause-right c = (got_at value IsValid value_bytes value_correct c.args.bytes.now
    c.args.from c.requires c.reader_at-reader.result.rest.now c.in-Ok.value
    c.value.new.reader.rest.now c.reader_at-reader.ensures c.in-Ok.ensures).1

pub returns-in-Ok-clause-exact : goal.returns-in-Ok-clause-exact
returns-in-Ok-clause-exact c = (got_at value IsValid value_bytes value_correct c.args.bytes.now
    c.args.from c.requires c.reader_at-reader.result.rest.now c.in-Ok.value
    c.value.new.reader.rest.now c.reader_at-reader.ensures c.in-Ok.ensures).2

pub returns-in-Err-Unexpected-clause-right : goal.returns-in-Err-Unexpected-clause-right
returns-in-Err-Unexpected-clause-right c = (stuck_at value IsValid value_bytes value_correct
    c.args.bytes.now c.args.from c.requires c.reader_at-reader.result.rest.now
    c.value.new.reader.rest.now c.reader_at-reader.ensures
    (of_stuck (value c.reader_at-reader.result.rest.now) c.in-Err-Unexpected.field-0
    c.value.new.reader.rest.now c.in-Err-Unexpected.field-0-is c.in-Err-Unexpected.ensures)).1

pub returns-in-Err-Unexpected-clause-exact : goal.returns-in-Err-Unexpected-clause-exact
returns-in-Err-Unexpected-clause-exact c = (stuck_at value IsValid value_bytes value_correct
    c.args.bytes.now c.args.from c.requires c.reader_at-reader.result.rest.now
    c.value.new.reader.rest.now c.reader_at-reader.ensures
    (of_stuck (value c.reader_at-reader.result.rest.now) c.in-Err-Unexpected.field-0
    c.value.new.reader.rest.now c.in-Err-Unexpected.field-0-is c.in-Err-Unexpected.ensures)).2
