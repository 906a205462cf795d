use Rattle.std.proofs.Common.{rules, ◌≡◌, ◌≤◌, length, arith}
use Rattle.query_exec.proofs.RunLaws.{reads_least}
use Rattle.query_exec.proofs.run.stores_no_more.Goals as goal

pub returns : goal.returns
returns c = λ t e names.
    let keys : length c.args.second.now.keys ≤ length c.args.first.now.keys = omega arith in
    let width : length c.args.first.now.cells ≡ length c.args.second.now.cells = search rules in
    reads_least c.args.first.now c.args.second.now e keys width
    (λ i l. c.loop-k.invariant i (omega (arith, l))) names
