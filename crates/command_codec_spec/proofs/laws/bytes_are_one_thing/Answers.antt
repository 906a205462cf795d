use Rattle.command_codec_spec.proofs.Deciding.{decoded, decoding_once}
use Rattle.command_codec_spec.proofs.laws.bytes_are_one_thing.Goals as goal

pub returns : goal.returns
returns c = record { some = decoded; one = decoding_once }
