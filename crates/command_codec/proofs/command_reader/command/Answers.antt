use Rattle.std.proofs.Common.{arith}
use Rattle.command_codec.proofs.FieldSteps.{number_small}
use Rattle.command_codec.proofs.command_reader.command.Goals as goal

pub of-requires : goal.of-requires
of-requires c =
    let small = number_small 18446744073709551614 8 c.in_ok-stamp.stamp c.args.reader.now.rest.now
    c.number.new.self.rest.now (omega arith) c.in_ok-stamp.ensures in
    omega (arith, small)
