use Rattle.std.proofs.Common.{◌≡◌, ◌+◌, ◌≤◌, inl, length, map, sym, subst, arith}
use Rattle.std.proofs.Common.{Err, refl}
use Rattle.std.proofs.lemmas.Grind.{common_steps}
use Rattle.std.proofs.lemmas.Result.{err_from_is_err_and}
use Rattle.smo_ops_types.specs.Commands.{command_of}
use Rattle.smo_ops_spec.specs.History.{past_after}
use Rattle.journal.specs.Reading.{records_in}
use Rattle.archive_core_file_spec.specs.LogRecords.{past_recorded}
use Rattle.archive_core_replay.specs.declared.fault.RestoreFault.TheVariants.{Damaged}
use Rattle.archive_core_replay.specs.Replaying.{IsStoppedAt}
use Rattle.archive_core_replay.proofs.Restored.{restored, stopped_fault, last_are, last_count}
use Rattle.archive_core_replay.proofs.SameRecords.{kept_replayed}
use Rattle.archive_core_replay.proofs.replay.restore.Goals as goal

pub read_all-requires : goal.read_all-requires
read_all-requires g c = c.requires

pub returns-in_err-kept-clause-damaged : goal.returns-in_err-kept-clause-damaged
returns-in_err-kept-clause-damaged g c place is =
    let p = err_from_is_err_and c.from_residual.result c.from_residual.ensures.1 in
    let fault : Err c.in_err-kept.field-0.0 ≡ Err (Damaged place) = cc (p.1, p.2, is) in
    inl (c.in_err-kept.ensures.damaged place fault)

pub replay-requires : goal.replay-requires
replay-requires g c =
    let count : c.len-2.result ≡ length c.in_ok-kept.kept.commands.items =
    grind (arith, common_steps, c.len-2.ensures) in
    last_count c.args.recs.now (length c.in_ok-kept.kept.commands.items) c.len-2.result count
    c.in_ok-kept.ensures.few

pub returns-in_err-replay-clause-damaged : goal.returns-in_err-replay-clause-damaged
returns-in_err-replay-clause-damaged g c place is =
    let p = err_from_is_err_and c.from_residual-in_err-replay.result
    c.from_residual-in_err-replay.ensures.1 in
    let fault : Err c.in_err-replay.field-0.0 ≡ Err (Damaged place) = cc (p.1, p.2, is) in
    let recs = c.args.recs.now in
    let kept = c.in_ok-kept.ensures.kept in
    let past = past_recorded kept.prefix in
    let count : c.len-2.result ≡ length c.in_ok-kept.kept.commands.items =
    grind (arith, common_steps, c.len-2.ensures) in
    let stops = c.in_err-replay.ensures.stopped past kept.represents place fault in
    stopped_fault recs c.in_ok-kept.kept place kept
    (subst (λ l. IsStoppedAt past (map command_of c.in_ok-kept.kept.commands.items) l place)
    (last_are recs (length c.in_ok-kept.kept.commands.items) c.len-2.result count) stops) c.requires

pub returns-in_err-replay-clause-cost : goal.returns-in_err-replay-clause-cost
returns-in_err-replay-clause-cost g c =
    let cost = c.replay.ensures.cost in
    let few = c.in_ok-kept.ensures.few in
    omega (arith, cost, few)

pub returns-in_err-replay-clause-cost_open : goal.returns-in_err-replay-clause-cost_open
returns-in_err-replay-clause-cost_open g c log same =
    let after = kept_replayed (records_in c.args.recs.now) c.in_ok-kept.kept log
    c.in_ok-kept.ensures.kept same in
    subst (λ n. c.replay.new.steps ≤ c.args.steps.now + n) after c.replay.ensures.cost

pub returns-clause-restored : goal.returns-clause-restored
returns-clause-restored g c =
    let kept = c.in_ok-kept.ensures.kept in
    let past = past_recorded kept.prefix in
    let count : c.len.result ≡ length c.in_ok-kept.kept.commands.items =
    grind (arith, common_steps, c.len.ensures) in
    restored (records_in c.args.recs.now) c.in_ok-kept.kept c.replay.new.state _ kept
    (c.in_ok-replay.ensures.represents past kept.represents) refl count

pub returns-clause-represents : goal.returns-clause-represents
returns-clause-represents g c =
    let kept = c.in_ok-kept.ensures.kept in
    let past = past_recorded kept.prefix in
    let replayed = c.in_ok-replay.ensures.represents past kept.represents in (
      past_after past (map command_of c.in_ok-kept.kept.commands.items),
      replayed.represents,
    )

pub returns-clause-cost : goal.returns-clause-cost
returns-clause-cost g c =
    let cost = c.replay.ensures.cost in
    let few = c.in_ok-kept.ensures.few in
    omega (arith, cost, few)

pub returns-clause-cost_open : goal.returns-clause-cost_open
returns-clause-cost_open g c log same =
    let after = kept_replayed (records_in c.args.recs.now) c.in_ok-kept.kept log
    c.in_ok-kept.ensures.kept same in
    subst (λ n. c.replay.new.steps ≤ c.args.steps.now + n) after c.replay.ensures.cost

pub returns-clause-steps : goal.returns-clause-steps
returns-clause-steps g c =
    let count : c.len.result ≡ length c.in_ok-kept.kept.commands.items =
    grind (arith, common_steps, c.len.ensures) in
    subst (λ n. c.replay.new.steps ≤ c.args.steps.now + n) (sym count) c.replay.ensures.cost
