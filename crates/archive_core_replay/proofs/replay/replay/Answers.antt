use Rattle.std.proofs.Common.{◌≡◌, take, map, length, ap, sym, subst, ◌∙◌, arith}
use Rattle.std.proofs.lemmas.Iterator.{YieldsList-from_slice, YieldsList-from_zip}
use Rattle.std.proofs.lemmas.Iterator.Adapters.{YieldsList-from_vec}
use Rattle.std.proofs.lemmas.Iterator.Consumers.{YieldsList-turn, YieldsList-end}
use Rattle.std.proofs.lemmas.List.{length_push}
use Rattle.std.specs.Iterator.Adapters.{zip_first, zip_second}
use Rattle.std.specs.Slice.Iter.{iter_rest}
use Rattle.std.specs.Vec.Iter.{into_iter_items, into_iter_len}
use Rattle.std.proofs.lemmas.Result.{err_from_is_err_and}
use Rattle.journal.specs.declared.rec.Rec.{Rec}
use Rattle.smo_ops_types.specs.Commands.{command_of}
use Rattle.smo_ops_spec.specs.History.{past_after}
use Rattle.archive_core_replay.specs.declared.fault.RestoreFault.TheVariants.{Damaged}
use Rattle.archive_core_replay.specs.Replaying.{IsReplayed}
use Rattle.archive_core_replay.proofs.Replayed.{one_more_replayed, stopped, told_damage}
use Rattle.archive_core_replay.proofs.Replayed.{all_replayed}
use Rattle.archive_core_replay.proofs.Replayed.{pair_at, pairs}
use Rattle.archive_core_replay.proofs.replay.replay.Goals as goal

pub loop-command-preserved : goal.loop-command-preserved
loop-command-preserved L c =
    let commands = c.args.commands.items in
    let recs = c.args.recs.now in
    let n = length c.loop-command.yielded in
    let first : zip_first c.into_iter-command-iterator.result ≡ c.into_iter.result = cc in
    let items = ap into_iter_items first ∙ c.into_iter.ensures.rest in
    let all = ap into_iter_len first ∙ c.into_iter.ensures.len ∙ c.args.commands.ok.0 in
    let places : iter_rest (zip_second c.into_iter-command-iterator.result) ≡ recs = cc in
    let turn = YieldsList-turn (YieldsList-from_zip (YieldsList-from_vec commands items all)
    (YieldsList-from_slice recs places)) c.loop-command.yielded
    c.loop-command.command-iterator c.loop-command.yielded_by c.next.result c.next.new.self
    (c.in-Some.command, c.in-Some.rec) c.in-Some.is c.next.ensures.steps in
    let at = pair_at commands recs c.requires n c.in-Some.command c.in-Some.rec.now turn.0 turn.1 in
    let push = length_push c.loop-command.yielded (c.in-Some.command, c.in-Some.rec) in
    record {
      replayed = λ past represents.
          let before = c.loop-command.invariant.replayed past represents in
          let done = c.in_ok-replay_command.ensures.replays
          (past_after past (take n (map command_of commands))) before.represents in
          subst (λ k. IsReplayed past (take k (map command_of commands))
          c.replay_command.new.state) (sym push)
          (one_more_replayed past commands n c.in-Some.command at.0 at.1 c.loop-command.state
          c.replay_command.new.state before done.0 done.1);
      cost = omega (arith, c.tick.ensures, c.loop-command.invariant.cost, push);
    }

pub returns-in_err-replay_command-clause-stopped : goal.returns-in_err-replay_command-clause-stopped
returns-in_err-replay_command-clause-stopped L c past represents place is =
    let commands = c.args.commands.items in
    let recs = c.args.recs.now in
    let n = length c.loop-command.yielded in
    let first : zip_first c.into_iter-command-iterator.result ≡ c.into_iter.result = cc in
    let items = ap into_iter_items first ∙ c.into_iter.ensures.rest in
    let all = ap into_iter_len first ∙ c.into_iter.ensures.len ∙ c.args.commands.ok.0 in
    let places : iter_rest (zip_second c.into_iter-command-iterator.result) ≡ recs = cc in
    let turn = YieldsList-turn (YieldsList-from_zip (YieldsList-from_vec commands items all)
    (YieldsList-from_slice recs places)) c.loop-command.yielded
    c.loop-command.command-iterator c.loop-command.yielded_by c.next.result c.next.new.self
    (c.in-Some.command, c.in-Some.rec) c.in-Some.is c.next.ensures.steps in
    let at = pair_at commands recs c.requires n c.in-Some.command c.in-Some.rec.now turn.0 turn.1 in
    let p = err_from_is_err_and c.from_residual.result c.from_residual.ensures.1 in
    let fault : c.in_err-replay_command.field-0.0 ≡ Damaged place = cc (p.1, p.2, is) in
    let before = c.loop-command.invariant.replayed past represents in
    let here = past_after past (take n (map command_of commands)) in
    let told = told_damage here (command_of c.in-Some.command) c.in-Some.rec.now.at place
    c.in_err-replay_command.field-0.0 c.replay_command.new.state
    (c.in_err-replay_command.ensures.replays here before.represents) fault in
    stopped past commands n c.in-Some.command at.0 at.1 recs c.loop-command.state place told.1.0
    c.in-Some.rec.now (omega (arith, at.0, c.requires)) before told.1.1
    (told.0 ∙ ap (λ (r : Rec). r.at) at.2)

pub returns-clause-represents : goal.returns-clause-represents
returns-clause-represents L c past represents =
    let commands = c.args.commands.items in
    let recs = c.args.recs.now in
    let first : zip_first c.into_iter-command-iterator.result ≡ c.into_iter.result = cc in
    let items = ap into_iter_items first ∙ c.into_iter.ensures.rest in
    let all = ap into_iter_len first ∙ c.into_iter.ensures.len ∙ c.args.commands.ok.0 in
    let places : iter_rest (zip_second c.into_iter-command-iterator.result) ≡ recs = cc in
    let ended = YieldsList-end (YieldsList-from_zip (YieldsList-from_vec commands items all)
    (YieldsList-from_slice recs places)) c.loop-command.yielded
    c.loop-command.command-iterator c.loop-command.yielded_by c.next.result c.next.new.self
    c.in-None.is c.next.ensures.steps in
    all_replayed past commands (length c.loop-command.yielded) c.loop-command.state
    (omega (arith, ended.1, pairs commands recs c.requires))
    (c.loop-command.invariant.replayed past represents)
