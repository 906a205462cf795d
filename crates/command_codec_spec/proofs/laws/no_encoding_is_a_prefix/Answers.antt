use Rattle.prima_base.specs.Bytes.{IsName}
use Rattle.prima_base.specs.Columns.{IsValid}
use Rattle.command_codec_spec.specs.Encoding.{name_bytes, value_bytes, operator_bytes}
use Rattle.command_codec_spec.specs.Encoding.{command_bytes}
use Rattle.command_codec_spec.specs.Valid.{IsOperator, IsCommand}
use Rattle.command_codec_spec.specs.Reader.{name, value, operator, command}
use Rattle.command_codec_spec.proofs.PartFormats.{name_correct, value_correct}
use Rattle.command_codec_spec.proofs.CommandFormats.{operator_correct, command_correct}
use Rattle.command_codec_spec.proofs.Deciding.{no_prefix}
use Rattle.command_codec_spec.proofs.laws.no_encoding_is_a_prefix.Goals as goal

pub returns : goal.returns
returns c = record {
  command = no_prefix command IsCommand command_bytes command_correct;
  name = no_prefix name IsName name_bytes name_correct;
  value = no_prefix value IsValid value_bytes value_correct;
  operator = no_prefix operator IsOperator operator_bytes operator_correct;
}
