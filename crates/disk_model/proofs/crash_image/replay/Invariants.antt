use Rattle.std.proofs.Common.{◌≡◌, ◌+◌, IsTrue, drop}
use Rattle.disk_model.specs.Calls.{total, steps_of}
use Rattle.disk_model.specs.Images.{begun, run, all_fit}
use Rattle.disk_model.proofs.crash_image.replay.Given as goal

abbrev pub invariant-loop-call : goal.invariant-loop-call
invariant-loop-call l =
    let calls = drop l.call-index l.calls in
    let steps = steps_of calls (drop l.used l.written) in
    record {
      used : l.used + total calls ≡ total l.calls;
      fit : IsTrue (all_fit (begun l.file.items) steps);
      seen : (run (begun l.file.items) steps).seen
          ≡ (run (begun l.initial.file.items) (steps_of l.calls l.written)).seen;
    }
