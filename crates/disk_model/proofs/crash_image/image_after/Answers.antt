use Rattle.std.proofs.Common.{[], sym, ◌∙◌}
use Rattle.disk_model.specs.Calls.{steps_of}
use Rattle.disk_model.specs.Images.{State, begun, run}
use Rattle.disk_model.proofs.ImagesAfter.{total_front, fit_front, used_within, left_is, total_back}
use Rattle.disk_model.proofs.ImagesAfter.{fit_back, seen_is, no_shorter, spoiled_is, first_pick}
use Rattle.disk_model.proofs.ImagesAfter.{second_pick, other_pick, both_ok}
use Rattle.disk_model.proofs.crash_image.image_after.Goals as goal

pub replay-requires-clause-total : goal.replay-requires-clause-total
replay-requires-clause-total c =
    let first = c.args.first.now in
    let calls = c.args.calls.now in
    let written = c.args.written.now in
    let k = c.synced_calls-last.result in
    let whole = c.synced_calls-last.ensures in
    let front = c.split_at.result.0.now in
    let back = c.split_at.result.1.now in
    let start = c.in_ok-left.left.items in
    total_front first calls front back written start k c.requires.total c.requires.fit whole.len
    whole.since whole.sync c.split_at.ensures.front c.split_at.ensures.back c.in_ok-left.ensures

pub replay-requires-clause-fit : goal.replay-requires-clause-fit
replay-requires-clause-fit c =
    let first = c.args.first.now in
    let calls = c.args.calls.now in
    let written = c.args.written.now in
    let k = c.synced_calls-last.result in
    let whole = c.synced_calls-last.ensures in
    let front = c.split_at.result.0.now in
    let back = c.split_at.result.1.now in
    let start = c.in_ok-left.left.items in
    fit_front first calls front back written start k c.requires.total c.requires.fit whole.len
    whole.since whole.sync c.split_at.ensures.front c.split_at.ensures.back c.in_ok-left.ensures

pub returns-then-pick-eq1 : goal.returns-then-pick-eq1
returns-then-pick-eq1 c =
    let first = c.args.first.now in
    let calls = c.args.calls.now in
    let written = c.args.written.now in
    let k = c.synced_calls-last.result in
    let whole = c.synced_calls-last.ensures in
    let front = c.split_at.result.0.now in
    let back = c.split_at.result.1.now in
    let start = c.in_ok-left.left.items in
    let s : State = run (begun first) (steps_of calls written) in
    left_is first calls front back written start k c.requires.total c.requires.fit whole.len
    whole.since whole.sync c.split_at.ensures.front c.split_at.ensures.back c.in_ok-left.ensures
    c.replay.new.file.items [] [] c.in_ok-used.used c.in_ok-used.ensures.seen
    c.in_ok-used.ensures.used
    ∙ sym (second_pick s c.args.pick c.if-pick-eq1.true)

pub split_at-requires-2 : goal.split_at-requires-2
split_at-requires-2 c =
    let first = c.args.first.now in
    let calls = c.args.calls.now in
    let written = c.args.written.now in
    let k = c.synced_calls-last.result in
    let whole = c.synced_calls-last.ensures in
    let front = c.split_at.result.0.now in
    let back = c.split_at.result.1.now in
    let start = c.in_ok-left.left.items in
    used_within first calls front back written start k c.requires.total c.requires.fit whole.len
    whole.since whole.sync c.split_at.ensures.front c.split_at.ensures.back c.in_ok-left.ensures
    c.replay.new.file.items [] [] c.in_ok-used.used c.in_ok-used.ensures.seen
    c.in_ok-used.ensures.used

pub replay-requires-2-clause-total : goal.replay-requires-2-clause-total
replay-requires-2-clause-total c =
    let first = c.args.first.now in
    let calls = c.args.calls.now in
    let written = c.args.written.now in
    let k = c.synced_calls-last.result in
    let whole = c.synced_calls-last.ensures in
    let front = c.split_at.result.0.now in
    let back = c.split_at.result.1.now in
    let start = c.in_ok-left.left.items in
    let copy = c.in_ok-seen.seen.items in
    let is_copy = c.in_ok-seen.ensures ∙ c.deref.ensures.value in
    total_back first calls front back written start k c.requires.total c.requires.fit whole.len
    whole.since whole.sync c.split_at.ensures.front c.split_at.ensures.back c.in_ok-left.ensures
    c.replay.new.file.items c.split_at-2.result.1.now copy c.in_ok-used.used
    c.in_ok-used.ensures.seen c.in_ok-used.ensures.used
    c.split_at-2.ensures.back is_copy

pub replay-requires-2-clause-fit : goal.replay-requires-2-clause-fit
replay-requires-2-clause-fit c =
    let first = c.args.first.now in
    let calls = c.args.calls.now in
    let written = c.args.written.now in
    let k = c.synced_calls-last.result in
    let whole = c.synced_calls-last.ensures in
    let front = c.split_at.result.0.now in
    let back = c.split_at.result.1.now in
    let start = c.in_ok-left.left.items in
    let copy = c.in_ok-seen.seen.items in
    let is_copy = c.in_ok-seen.ensures ∙ c.deref.ensures.value in
    fit_back first calls front back written start k c.requires.total c.requires.fit whole.len
    whole.since whole.sync c.split_at.ensures.front c.split_at.ensures.back c.in_ok-left.ensures
    c.replay.new.file.items c.split_at-2.result.1.now copy c.in_ok-used.used
    c.in_ok-used.ensures.seen c.in_ok-used.ensures.used
    c.split_at-2.ensures.back is_copy

pub returns-then-pick-eq0 : goal.returns-then-pick-eq0
returns-then-pick-eq0 c =
    let first = c.args.first.now in
    let calls = c.args.calls.now in
    let written = c.args.written.now in
    let k = c.synced_calls-last.result in
    let whole = c.synced_calls-last.ensures in
    let front = c.split_at.result.0.now in
    let back = c.split_at.result.1.now in
    let start = c.in_ok-left.left.items in
    let copy = c.in_ok-seen.seen.items in
    let is_copy = c.in_ok-seen.ensures ∙ c.deref.ensures.value in
    let s : State = run (begun first) (steps_of calls written) in
    seen_is first calls front back written start k c.requires.total c.requires.fit whole.len
    whole.since whole.sync c.split_at.ensures.front c.split_at.ensures.back c.in_ok-left.ensures
    c.replay.new.file.items c.split_at-2.result.1.now copy c.in_ok-used.used
    c.in_ok-used.ensures.seen c.in_ok-used.ensures.used
    c.split_at-2.ensures.back is_copy c.replay-2.new.file.items c.in_ok-_used.ensures.seen
    ∙ sym (first_pick s c.args.pick c.if-pick-eq0.true)

pub spoil_all-requires : goal.spoil_all-requires
spoil_all-requires c =
    let first = c.args.first.now in
    let calls = c.args.calls.now in
    let written = c.args.written.now in
    let k = c.synced_calls-last.result in
    let whole = c.synced_calls-last.ensures in
    let front = c.split_at.result.0.now in
    let back = c.split_at.result.1.now in
    let start = c.in_ok-left.left.items in
    let copy = c.in_ok-seen.seen.items in
    let is_copy = c.in_ok-seen.ensures ∙ c.deref.ensures.value in
    record {
      grown = no_shorter first calls front back written start k c.requires.total c.requires.fit
          whole.len
          whole.since whole.sync c.split_at.ensures.front c.split_at.ensures.back
          c.in_ok-left.ensures
          c.replay.new.file.items c.split_at-2.result.1.now copy c.in_ok-used.used
          c.in_ok-used.ensures.seen c.in_ok-used.ensures.used
          c.split_at-2.ensures.back is_copy c.deref-2.result.now
          (c.deref-2.ensures.value ∙ c.in_ok-_used.ensures.seen);
    }

pub returns : goal.returns
returns c =
    let first = c.args.first.now in
    let calls = c.args.calls.now in
    let written = c.args.written.now in
    let k = c.synced_calls-last.result in
    let whole = c.synced_calls-last.ensures in
    let front = c.split_at.result.0.now in
    let back = c.split_at.result.1.now in
    let start = c.in_ok-left.left.items in
    let copy = c.in_ok-seen.seen.items in
    let is_copy = c.in_ok-seen.ensures ∙ c.deref.ensures.value in
    let s : State = run (begun first) (steps_of calls written) in
    both_ok c.spoil_all.result (λ image len bytes.
    spoiled_is first calls front back written start k c.requires.total c.requires.fit whole.len
    whole.since whole.sync c.split_at.ensures.front c.split_at.ensures.back c.in_ok-left.ensures
    c.replay.new.file.items c.split_at-2.result.1.now copy c.in_ok-used.used
    c.in_ok-used.ensures.seen c.in_ok-used.ensures.used
    c.split_at-2.ensures.back is_copy c.deref-2.result.now
    (c.deref-2.ensures.value ∙ c.in_ok-_used.ensures.seen) c.args.pick image.items len bytes
    ∙ sym (other_pick s c.args.pick c.if-pick-eq0.false c.if-pick-eq1.false))
    c.spoil_all.ensures.len c.spoil_all.ensures.bytes
