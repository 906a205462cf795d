use Rattle.std.proofs.lemmas.Result.{err_from_is_err_and}
use Rattle.command_codec.specs.Answers.{takes}
use Rattle.command_codec.proofs.ReadSteps.{one_more, then_stuck, all_read}
use Rattle.command_codec.proofs.reader.Reader.run.Goals as goal

pub returns-in_err-one_of : goal.returns-in_err-one_of
returns-in_err-one_of c =
    let f = err_from_is_err_and c.from_residual.result c.from_residual.ensures.1 in
    rw f.1
    (then_stuck (takes c.args.alphabet) c.args.count c.loop-left.left c.args.self.now.rest.now
    c.loop-left.self.rest.now c.one_of.new.self.rest.now c.loop-left.invariant
    c.loop-left-test.true c.in_err-one_of.ensures)

pub loop-left-preserved : goal.loop-left-preserved
loop-left-preserved c =
    one_more (takes c.args.alphabet) c.args.count c.loop-left.left c.in_ok-one_of.field-0
    c.args.self.now.rest.now c.loop-left.self.rest.now c.one_of.new.self.rest.now
    c.loop-left.invariant c.loop-left-test.true c.in_ok-one_of.ensures

pub returns : goal.returns
returns c = (all_read (takes c.args.alphabet) c.args.count c.loop-left.left
    c.args.self.now.rest.now c.loop-left.self.rest.now c.loop-left.invariant
    c.loop-left-test.false).1
