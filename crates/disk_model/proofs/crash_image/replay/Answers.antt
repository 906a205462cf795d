use Rattle.std.proofs.Common.{◌≡◌, ◌+◌, ◌-◌, IsTrue, take, drop, ◌∙◌, ap, subst, sym, arith}
use Rattle.disk_model.specs.Calls.{total, steps_of}
use Rattle.disk_model.specs.DeviceCalls.{with_bytes}
use Rattle.disk_model.specs.Images.{begun, run, all_fit}
use Rattle.disk_model.specs.declared.call.Call.TheVariants as call
use Rattle.disk_model.proofs.Replaying.{used_step, fit_step, seen_step}
use Rattle.disk_model.proofs.Replaying.{sync_total, fit_sync, seen_sync}
use Rattle.disk_model.proofs.crash_image.replay.Goals as goal
use Rattle.disk_model.proofs.crash_image.replay.Goals.{in-Write+in_ok-write_over, in_default}

pub loop-call-preserved : goal.loop-call-preserved
loop-call-preserved c =
    let calls = c.args.calls.now in
    let written = c.args.written.now in
    let k = c.loop-call.call-index in
    let used = c.loop-call.used in
    let file = c.loop-call.file.items in
    let lt = c.loop-call-test.true in
    let i = c.loop-call.invariant in
    elim c.match-call.branch [
      | in-Write+in_ok-write_over w ↦
          let at = w.in-Write.at in
          let len = w.in-Write.len in
          let part : used + len - used ≡ len = omega arith in
          let put : c.match-call.file.items ≡ with_bytes file at (take len (drop used written)) =
          ap (λ v. v.items) w.file-is ∙ w.in_ok-write_over.ensures.items
          ∙ ap (λ n. with_bytes file at (take n (drop used written))) part in
          let next = w.used-is in
          record {
            used = ap (λ n. n + total (drop (k + 1) calls)) next
                ∙ used_step calls (call.Write 0 0) k used at len file c.match-call.file.items
                written
                lt w.in-Write.is i.fit (total calls) i.used;
            fit = subst (λ n. IsTrue (all_fit (begun c.match-call.file.items)
                (steps_of (drop (k + 1) calls) (drop n written)))) (sym next)
                (fit_step calls (call.Write 0 0) k used at len file c.match-call.file.items written
                lt w.in-Write.is i.fit put);
            seen = ap (λ n. (run (begun c.match-call.file.items)
                (steps_of (drop (k + 1) calls) (drop n written))).seen) next
                ∙ seen_step calls (call.Write 0 0) k used at len file c.match-call.file.items
                written lt w.in-Write.is i.fit put ∙ i.seen;
          }
      | in_default w ↦
          let is = w.in_default.is in
          let d = call.Write 0 0 in
          let steps = steps_of (drop (k + 1) calls) (drop used written) in
          record {
            used = ap (λ n. n + total (drop (k + 1) calls)) w.used-is
                ∙ ap (λ n. used + n) (sync_total calls d k file (drop used written) lt is) ∙ i.used;
            fit = subst (λ n. IsTrue (all_fit (begun c.match-call.file.items)
                (steps_of (drop (k + 1) calls) (drop n written)))) (sym w.used-is)
                (subst (λ v. IsTrue (all_fit (begun v.items) steps)) (sym w.file-is)
                (fit_sync calls d k file (drop used written) lt is i.fit));
            seen = ap (λ n. (run (begun c.match-call.file.items)
                (steps_of (drop (k + 1) calls) (drop n written))).seen) w.used-is
                ∙ ap (λ v. (run (begun v.items) steps).seen) w.file-is
                ∙ seen_sync calls d k file (drop used written) lt is ∙ i.seen;
          }
    ]
