use Rattle.std.proofs.Common.{◌≡◌, ◌+◌, [], drop, arith}
use Rattle.std.proofs.Math.ListN.{drop_of_length-le}
use Rattle.history_store.specs.Store.{cells_in}
use Rattle.history_store.specs.Restoring.{entries_of}
use Rattle.history_store.proofs.restoration.check_cells.Goals as goal

pub returns : goal.returns
returns c =
    let none : drop c.loop-list.list-index c.args.cells.now ≡ [] =
    drop_of_length-le c.args.cells.now c.loop-list-test.false in
    let whole : cells_in (entries_of c.args.cells.now) ≡ c.loop-list.count + 0 =
    rw none at c.loop-list.invariant.whole in
    let few = c.loop-list.invariant.few in
    omega (arith, whole, few)
