use Rattle.std.proofs.Common.{◌≡◌, ◌≤◌, drop}
use Rattle.script_cli_sample.specs.Tallied.{errors_in, ends_in}
use Rattle.script_cli_sample.proofs.tally.tally_of.Given as goal

abbrev pub invariant-loop-byte : goal.invariant-loop-byte
invariant-loop-byte l = record {
  errors : errors_in l.initial.tally l.replies ≡ errors_in l.tally (drop l.byte-index l.replies);
  ends : ends_in l.initial.tally l.replies ≡ ends_in l.tally (drop l.byte-index l.replies);
  few : l.tally.errors ≤ l.byte-index;
}
