use Rattle.std.proofs.lemmas.Result.{err_from_is_err_and}
use Rattle.command_codec.proofs.ListSteps.{one_pushed, no_counted_item, all_counted}
use Rattle.command_codec.proofs.list.read_list.Goals as goal

pub returns-in_err-read : goal.returns-in_err-read
returns-in_err-read g c = let i = g.T.Listed.item in
    let f = err_from_is_err_and c.from_residual-in_err-read.result
    c.from_residual-in_err-read.ensures.1 in
    rw (f.1, f.2) (no_counted_item i.parser c.args.width c.args.most c.in_ok-count.count
    c.loop.counter c.args.reader.now.rest.now c.number.new.self.rest.now c.loop.reader.rest.now _
    c.in_ok-count.ensures c.loop.invariant c.in_err-read.field-0.0 c.read.new.reader.rest.now
    c.loop-test.true c.in_err-read.ensures)

pub loop-preserved : goal.loop-preserved
loop-preserved g c = let i = g.T.Listed.item in
    one_pushed i.view i.parser c.in_ok-count.count c.loop.counter c.number.new.self.rest.now
    c.loop.reader.rest.now c.loop.list.items c.loop.invariant c.push.new.self.items
    c.in_ok-read.field-0 c.read.new.reader.rest.now c.in_ok-push.ensures.items c.loop-test.true
    c.in_ok-read.ensures

pub returns : goal.returns
returns g c = let i = g.T.Listed.item in
    all_counted i.parser c.args.width c.args.most c.in_ok-count.count c.loop.counter
    c.args.reader.now.rest.now c.number.new.self.rest.now c.loop.reader.rest.now _
    c.in_ok-count.ensures c.loop.invariant c.loop-test.false
