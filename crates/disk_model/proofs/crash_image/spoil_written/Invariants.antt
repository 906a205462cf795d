use Rattle.std.proofs.Common.{◌≡◌, ◌<◌, ℕ, if◌then◌else◌, length, get_or, drop}
use Rattle.disk_model.specs.Calls.{has_written}
use Rattle.disk_model.proofs.crash_image.spoil_written.Given as goal

abbrev pub invariant-loop-call : goal.invariant-loop-call
invariant-loop-call l = record {
  len : length l.file ≡ length l.initial.file;
  bytes : (i : ℕ) → i < length l.initial.file
      → (if has_written (drop l.call-index l.calls) i then l.byte else get_or l.file i 0)
      ≡ (if has_written l.calls i then l.byte else get_or l.initial.file i 0);
}
