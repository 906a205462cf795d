use Rattle.std.proofs.Common.{arith, length-take}
use Rattle.std.proofs.lemmas.Result.{err_from_is_err_and}
use Rattle.command_codec.proofs.FieldSteps.{no_start, no_run, name_prefix}
use Rattle.command_codec.proofs.field.name_text.Goals as goal

pub returns-in_err-name_start : goal.returns-in_err-name_start
returns-in_err-name_start c =
    let f = err_from_is_err_and c.from_residual.result c.from_residual.ensures.1 in
    rw f.1 (no_start c.args.count c.args.reader.now.rest.now c.name_start.new.self.rest.now
    c.requires c.in_err-name_start.ensures)

pub returns-in_err-run : goal.returns-in_err-run
returns-in_err-run c =
    let f = err_from_is_err_and c.from_residual-in_err-run.result
    c.from_residual-in_err-run.ensures.1 in
    rw f.1 (no_run c.args.count c.in_ok-name_start.field-0 c.args.reader.now.rest.now
    c.name_start.new.self.rest.now c.run.new.self.rest.now c.requires
    c.in_ok-name_start.ensures c.in_err-run.ensures)

pub slice_bounds-result-end : goal.slice_bounds-result-end
slice_bounds-result-end c =
    let k = (name_prefix c.args.count c.in_ok-name_start.field-0 c.args.reader.now.rest.now
    c.name_start.new.self.rest.now c.in_ok-run.field-0.now c.run.new.self.rest.now c.requires
    c.in_ok-name_start.ensures c.in_ok-run.ensures).0 in
    omega (arith, k, length-take c.args.count c.args.reader.now.rest.now)

pub returns : goal.returns
returns c = (name_prefix c.args.count c.in_ok-name_start.field-0
    c.args.reader.now.rest.now c.name_start.new.self.rest.now c.in_ok-run.field-0.now
    c.run.new.self.rest.now c.requires c.in_ok-name_start.ensures c.in_ok-run.ensures).1
