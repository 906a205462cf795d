use Rattle.std.proofs.Common.{◌≡◌, [], ◌∷◌, ◌++◌, rules}
use Rattle.disk_model.specs.declared.call.Call.TheVariants as call
use Rattle.disk_model.proofs.Pushing.{sync_steps, sync_total, sync_fit, sync_same, sync_syncs}
use Rattle.disk_model.proofs.Pushing.{sync_durable}
use Rattle.disk_model.proofs.mem_disk.MemDiskDisk.sync.Goals as goal

pub invariant_of-self-2-clause-fit : goal.invariant_of-self-2-clause-fit
invariant_of-self-2-clause-fit c =
    let d = c.args.self.now in
    let pushed : c.push_reserved.new.self.items ≡ d.calls.items ++ call.Sync ∷ [] = search rules in
    sync_fit _ _ _ _ _ d.total d.fit d.same pushed

pub invariant_of-self-2-clause-same : goal.invariant_of-self-2-clause-same
invariant_of-self-2-clause-same c =
    let d = c.args.self.now in
    let pushed : c.push_reserved.new.self.items ≡ d.calls.items ++ call.Sync ∷ [] = search rules in
    sync_same _ _ _ _ _ d.total d.fit d.same pushed

pub returns-clause-durable : goal.returns-clause-durable
returns-clause-durable c =
    let d = c.args.self.now in
    let pushed : c.push_reserved.new.self.items ≡ d.calls.items ++ call.Sync ∷ [] = search rules in
    sync_durable _ _ _ _ _ d.total d.fit d.same pushed d.faults

pub returns-clause-syncs : goal.returns-clause-syncs
returns-clause-syncs c =
    let d = c.args.self.now in
    let pushed : c.push_reserved.new.self.items ≡ d.calls.items ++ call.Sync ∷ [] = search rules in
    sync_syncs _ _ _ _ _ d.total d.fit d.same pushed d.faults

pub invariant_of-self-2-clause-total : goal.invariant_of-self-2-clause-total
invariant_of-self-2-clause-total c =
    let d = c.args.self.now in
    let pushed : c.push_reserved.new.self.items ≡ d.calls.items ++ call.Sync ∷ [] = search rules in
    sync_total _ _ _ _ _ d.total d.fit d.same pushed

pub returns-clause-listed : goal.returns-clause-listed
returns-clause-listed c =
    let d = c.args.self.now in
    let pushed : c.push_reserved.new.self.items ≡ d.calls.items ++ call.Sync ∷ [] = search rules in
    sync_steps _ _ _ _ _ d.total d.fit d.same pushed
