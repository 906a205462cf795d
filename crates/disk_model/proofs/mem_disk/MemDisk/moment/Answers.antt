use Rattle.std.proofs.Common.{arith}
use Rattle.disk_model.proofs.Pushing.{length-steps}
use Rattle.disk_model.proofs.mem_disk.MemDisk.moment.Goals as goal

pub returns : goal.returns
returns c =
    let d = c.args.self.now in
    omega (arith, c.len.ensures, length-steps d.calls.items d.written.items)
