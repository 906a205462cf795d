use Rattle.std.proofs.Common.{◌≡◌, ◌≤◌, IsTrue, List, ℕ, length, take, sym, ◌∙◌, ap, subst, arith}
use Rattle.std.proofs.lemmas.List.{length-take}
use Rattle.disk_model.specs.Calls.{total, steps_of}
use Rattle.disk_model.specs.CrashImages.{crash_image}
use Rattle.disk_model.specs.Images.{State, begun, run, all_fit}
use Rattle.disk_model.specs.declared.call.Call.{Call}
use Rattle.disk_model.proofs.Pushing.{length-steps}
use Rattle.disk_model.proofs.ImagesAfter.{prefix_total, prefix_fit, image_is, is_image, is_left}
use Rattle.disk_model.proofs.ImagesAfter.{is_left_now, if_ok}
use Rattle.disk_model.proofs.mem_disk.MemDisk.crash_image.Goals as goal

-- the same of copies
same_state : (m : ℕ) (first a : List ℕ) (calls b : List Call) (written d : List ℕ) → a ≡ first
    → b ≡ calls → d ≡ written
    → run (begun a) (steps_of (take m b) d) ≡ run (begun first) (steps_of (take m calls) written)
same_state m first a calls b written d one two three =
    ap (λ (l : List ℕ). run (begun l) (steps_of (take m b) d)) one
    ∙ ap (λ (l : List Call). run (begun first) (steps_of (take m l) d)) two
    ∙ ap (λ (l : List ℕ). run (begun first) (steps_of (take m calls) l)) three

pub slice_bounds-calls-end : goal.slice_bounds-calls-end
slice_bounds-calls-end c =
    let d = c.args.self.now in
    omega (
      arith,
      c.requires.past,
      length-steps d.calls.items d.written.items,
      ap (λ (l : List Call). length l) c.deref.ensures.value,
      length-take c.args.moment c.deref.result.now,
    )

pub image_after-requires-clause-total : goal.image_after-requires-clause-total
image_after-requires-clause-total c =
    let d = c.args.self.now in
    let m = c.args.moment in
    subst (λ (l : List Call). total (take m l) ≤ length c.deref-3.result.now)
    (sym c.deref.ensures.value)
    (subst (λ (l : List ℕ). total (take m d.calls.items) ≤ length l) (sym c.deref-3.ensures.value)
    (prefix_total d.first.items d.calls.items d.written.items m d.total d.fit))

pub image_after-requires-clause-fit : goal.image_after-requires-clause-fit
image_after-requires-clause-fit c =
    let d = c.args.self.now in
    let m = c.args.moment in
    subst (λ (l : List Call). IsTrue (all_fit (begun c.deref-2.result.now)
    (steps_of (take m l) c.deref-3.result.now))) (sym c.deref.ensures.value)
    (subst (λ (l : List ℕ). IsTrue (all_fit (begun l)
    (steps_of (take m d.calls.items) c.deref-3.result.now))) (sym c.deref-2.ensures.value)
    (subst (λ (l : List ℕ). IsTrue (all_fit (begun d.first.items)
    (steps_of (take m d.calls.items) l))) (sym c.deref-3.ensures.value)
    (prefix_fit d.first.items d.calls.items d.written.items m d.total d.fit)))

pub returns-clause-exact : goal.returns-clause-exact
returns-clause-exact c =
    let d = c.args.self.now in
    let m = c.args.moment in
    let same = same_state m d.first.items c.deref-2.result.now d.calls.items c.deref.result.now
    d.written.items c.deref-3.result.now c.deref-2.ensures.value c.deref.ensures.value
    c.deref-3.ensures.value in
    if_ok c.image_after.result (λ image is.
    image_is d.first.items d.calls.items d.written.items m d.total d.fit image.items c.args.pick
    (is ∙ ap (λ (s : State). crash_image s c.args.pick) same)) c.image_after.ensures

pub returns-clause-image : goal.returns-clause-image
returns-clause-image c =
    let d = c.args.self.now in
    let m = c.args.moment in
    let same = same_state m d.first.items c.deref-2.result.now d.calls.items c.deref.result.now
    d.written.items c.deref-3.result.now c.deref-2.ensures.value c.deref.ensures.value
    c.deref-3.ensures.value in
    if_ok c.image_after.result (λ image is.
    is_image d.first.items d.calls.items d.written.items m d.total d.fit image.items c.args.pick
    (is ∙ ap (λ (s : State). crash_image s c.args.pick) same)) c.image_after.ensures

pub returns-clause-left : goal.returns-clause-left
returns-clause-left c =
    let d = c.args.self.now in
    let m = c.args.moment in
    let same = same_state m d.first.items c.deref-2.result.now d.calls.items c.deref.result.now
    d.written.items c.deref-3.result.now c.deref-2.ensures.value c.deref.ensures.value
    c.deref-3.ensures.value in
    if_ok c.image_after.result (λ image is.
    is_left d.first.items d.calls.items d.written.items m d.total d.fit image.items c.args.pick
    (is ∙ ap (λ (s : State). crash_image s c.args.pick) same) c.requires.past) c.image_after.ensures

pub returns-clause-now : goal.returns-clause-now
returns-clause-now c =
    let d = c.args.self.now in
    let m = c.args.moment in
    let same = same_state m d.first.items c.deref-2.result.now d.calls.items c.deref.result.now
    d.written.items c.deref-3.result.now c.deref-2.ensures.value c.deref.ensures.value
    c.deref-3.ensures.value in
    if_ok c.image_after.result (λ image is.
    is_left_now d.first.items d.calls.items d.written.items m d.total d.fit image.items c.args.pick
    (is ∙ ap (λ (s : State). crash_image s c.args.pick) same)) c.image_after.ensures
