use Rattle.std.proofs.Common.{◌∙◌, arith}
use Rattle.std.proofs.lemmas.Result.{err_from_is_err_and}
use Rattle.command_codec.proofs.ReadSteps.{digits_next, digits_stuck}
use Rattle.command_codec.proofs.ReadSteps.{digits_done, digit_small, digit_fits}
use Rattle.command_codec.proofs.reader.Reader.number.Goals as goal

pub digit-requires : goal.digit-requires
digit-requires c = digit_fits c.args.most c.loop-left.left c.loop-left.number c.loop-left-test.true
    c.loop-left.invariant.small

pub returns-in_err-number : goal.returns-in_err-number
returns-in_err-number c =
    let f = err_from_is_err_and c.from_residual.result c.from_residual.ensures.1 in
    rw f.1 (c.loop-left.invariant.so_far
    ∙ digits_stuck c.args.most c.loop-left.left c.loop-left.number c.loop-left.self.rest.now
    c.digit.new.self.rest.now c.loop-left-test.true c.in_err-number.ensures)

pub loop-left-preserved : goal.loop-left-preserved
loop-left-preserved c =
    let inv = c.loop-left.invariant in
    let ts = c.loop-left.self.rest.now in
    record {
      few = omega (arith, inv.few);
      small = digit_small c.args.most c.loop-left.left c.loop-left.number c.in_ok-number.number ts
          c.digit.new.self.rest.now c.in_ok-number.ensures;
      so_far = inv.so_far ∙ digits_next c.args.most c.loop-left.left c.loop-left.number
          c.in_ok-number.number ts c.digit.new.self.rest.now c.loop-left-test.true
          c.in_ok-number.ensures;
    }

pub returns : goal.returns
returns c = c.loop-left.invariant.so_far
    ∙ digits_done c.args.most c.loop-left.left c.loop-left.number c.loop-left.self.rest.now
    c.loop-left-test.false
