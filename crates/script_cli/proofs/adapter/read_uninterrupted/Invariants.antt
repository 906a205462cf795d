use Rattle.std.proofs.Common.{◌≡◌, length}
use Rattle.std.specs.Io.KnownBytes.{Keeps}
use Rattle.script_cli.proofs.adapter.read_uninterrupted.Given as goal

abbrev pub invariant-tries : goal.invariant-tries
invariant-tries g l = record {
  kept : Keeps (g.R.Read.remaining l.initial.reader) (g.R.Read.remaining l.reader);
  len : length l.buf ≡ length l.initial.buf;
}
