use Rattle.command_codec_spec.proofs.PartFormats.{name_correct, value_correct}
use Rattle.command_codec_spec.proofs.CommandFormats.{operator_correct, command_correct}
use Rattle.command_codec_spec.proofs.laws.parts_are_read.Goals as goal

pub returns : goal.returns
returns c = record {
  name = name_correct;
  value = value_correct;
  operator = operator_correct;
  command = command_correct;
}
