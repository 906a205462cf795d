use Rattle.std.proofs.lemmas.Result.{err_from_is_err_and}
use Rattle.command_codec_checker.proofs.ListSteps.{none_passed, one_passed, one_listed_halts}
use Rattle.command_codec_checker.proofs.ListSteps.{all_listed}
use Rattle.command_codec_checker.proofs.list.check_list.Goals as goal

pub loop-init : goal.loop-init
loop-init g c = let p = (g.T.Listed.production c.args.item.now).parser in
    none_passed p c.in_ok-count.count c.number.new.self.rest.now

pub loop-preserved : goal.loop-preserved
loop-preserved g c = let p = (g.T.Listed.production c.args.item.now).parser in
    one_passed p c.in_ok-count.count c.loop.counter c.number.new.self.rest.now
    c.loop.reader.rest.now c.loop.invariant c.check.new.reader.rest.now c.loop-test.true
    c.in_ok-check.ensures

pub returns-in_err-check : goal.returns-in_err-check
returns-in_err-check g c = let p = (g.T.Listed.production c.args.item.now).parser in
    let f = err_from_is_err_and c.from_residual-in_err-check.result
    c.from_residual-in_err-check.ensures.1 in
    rw f.1 (one_listed_halts p c.args.width c.args.most c.in_ok-count.count c.loop.counter
    c.args.reader.now.rest.now c.number.new.self.rest.now c.loop.reader.rest.now
    c.in_ok-count.ensures c.loop.invariant c.in_err-check.field-0.0
    c.check.new.reader.rest.now c.loop-test.true c.in_err-check.ensures)

pub returns : goal.returns
returns g c = let p = (g.T.Listed.production c.args.item.now).parser in
    all_listed p c.args.width c.args.most c.in_ok-count.count c.loop.counter
    c.args.reader.now.rest.now c.number.new.self.rest.now c.loop.reader.rest.now
    c.in_ok-count.ensures c.loop.invariant c.loop-test.false
