use Rattle.std.proofs.Common.{◌≡◌, ◌*◌, ◌/◌, ◌≤◌, ◌^◌}
use Rattle.command_codec_spec.specs.Reading.{digits}
use Rattle.command_codec.proofs.reader.Reader.number.Given as goal

abbrev pub invariant-loop-left : goal.invariant-loop-left
invariant-loop-left l = record {
  few : l.left ≤ 8;
  small : l.number ≤ l.most / 2 ^ (8 * l.left);
  so_far : digits l.most l.width 0 l.fn.self.rest.now
      ≡ digits l.most l.left l.number l.self.rest.now;
}

abbrev pub decreases-loop-left : goal.decreases-loop-left
decreases-loop-left l = l.left
