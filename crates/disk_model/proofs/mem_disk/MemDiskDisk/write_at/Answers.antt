use Rattle.std.proofs.Common.{◌≡◌, [], ◌∷◌, ◌++◌, length, rules}
use Rattle.disk_model.specs.declared.call.Call.TheVariants as call
use Rattle.disk_model.proofs.Pushing.{write_steps, write_total, write_fit, write_same, write_writes}
use Rattle.disk_model.proofs.mem_disk.MemDiskDisk.write_at.Goals as goal

pub returns-clause-writes : goal.returns-clause-writes
returns-clause-writes c =
    let d = c.args.self.now in
    let pushed : c.push_reserved.new.self.items
    ≡ d.calls.items ++ call.Write c.args.at (length c.args.bytes.now) ∷ [] = search rules in
    let more : c.push_all_reserved.new.to.items ≡ d.written.items ++ c.args.bytes.now =
    search rules in
    write_writes _ _ _ _ _ _ _ _ _ d.total d.fit d.same c.requires.begins pushed more
    c.put_bytes.ensures.items d.faults

pub invariant_of-self-2-clause-total : goal.invariant_of-self-2-clause-total
invariant_of-self-2-clause-total c =
    let d = c.args.self.now in
    let pushed : c.push_reserved.new.self.items
    ≡ d.calls.items ++ call.Write c.args.at (length c.args.bytes.now) ∷ [] = search rules in
    let more : c.push_all_reserved.new.to.items ≡ d.written.items ++ c.args.bytes.now =
    search rules in
    write_total _ _ _ _ _ _ _ _ _ d.total d.fit d.same c.requires.begins pushed more
    c.put_bytes.ensures.items

pub invariant_of-self-2-clause-fit : goal.invariant_of-self-2-clause-fit
invariant_of-self-2-clause-fit c =
    let d = c.args.self.now in
    let pushed : c.push_reserved.new.self.items
    ≡ d.calls.items ++ call.Write c.args.at (length c.args.bytes.now) ∷ [] = search rules in
    let more : c.push_all_reserved.new.to.items ≡ d.written.items ++ c.args.bytes.now =
    search rules in
    write_fit _ _ _ _ _ _ _ _ _ d.total d.fit d.same c.requires.begins pushed more
    c.put_bytes.ensures.items

pub invariant_of-self-2-clause-same : goal.invariant_of-self-2-clause-same
invariant_of-self-2-clause-same c =
    let d = c.args.self.now in
    let pushed : c.push_reserved.new.self.items
    ≡ d.calls.items ++ call.Write c.args.at (length c.args.bytes.now) ∷ [] = search rules in
    let more : c.push_all_reserved.new.to.items ≡ d.written.items ++ c.args.bytes.now =
    search rules in
    write_same _ _ _ _ _ _ _ _ _ d.total d.fit d.same c.requires.begins pushed more
    c.put_bytes.ensures.items

pub returns-clause-listed : goal.returns-clause-listed
returns-clause-listed c =
    let d = c.args.self.now in
    let pushed : c.push_reserved.new.self.items
    ≡ d.calls.items ++ call.Write c.args.at (length c.args.bytes.now) ∷ [] = search rules in
    let more : c.push_all_reserved.new.to.items ≡ d.written.items ++ c.args.bytes.now =
    search rules in
    write_steps _ _ _ _ _ _ _ _ _ d.total d.fit d.same c.requires.begins pushed more
    c.put_bytes.ensures.items
