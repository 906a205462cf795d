use Rattle.std.proofs.Common.{rules}
use Rattle.command_codec.proofs.NumbersAtOnce.{read_at_once}
use Rattle.command_codec.proofs.reader.number_of.Goals as goal

pub returns : goal.returns
returns c = λ rest. read_at_once c.args.bytes.now (search rules) (search rules)
    c.from_be_bytes.result (search rules) c.from_be_bytes.ensures rest
