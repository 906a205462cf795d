use Rattle.command_codec_spec.specs.Encoding.{command_bytes}
use Rattle.command_codec_spec.specs.Valid.{IsCommand}
use Rattle.command_codec_spec.proofs.Deciding.{one_encoding, its_own}
use Rattle.command_codec_spec.proofs.laws.a_command_has_one_encoding.Goals as goal

pub returns : goal.returns
returns c = record { one = one_encoding IsCommand command_bytes; its_own = its_own }
