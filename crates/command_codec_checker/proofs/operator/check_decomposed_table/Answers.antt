use Rattle.std.proofs.lemmas.Result.{err_from_is_err_and}
use Rattle.command_codec_spec.specs.Reading.{pair}
use Rattle.command_codec_spec.specs.Reader.{name, names, two_names, decompose_of}
use Rattle.command_codec_checker.proofs.Steps.{mapped, mapped_halts, paired, both_pass}
use Rattle.command_codec_checker.proofs.Steps.{first_of_pair_halts, second_of_pair_halts}
use Rattle.command_codec_checker.proofs.operator.check_decomposed_table.Goals as goal

pub returns-in_err-check_two_names : goal.returns-in_err-check_two_names
returns-in_err-check_two_names c =
    let f = err_from_is_err_and c.from_residual.result c.from_residual.ensures.1 in
    rw f.1 (mapped_halts decompose_of (pair (pair (pair two_names names) name) names)
    c.args.reader.now.rest.now
    c.in_err-check_two_names.field-0.0 c.check_two_names.new.reader.rest.now
    (first_of_pair_halts (pair (pair two_names names) name) names c.args.reader.now.rest.now
    c.in_err-check_two_names.field-0.0 c.check_two_names.new.reader.rest.now
    (first_of_pair_halts (pair two_names names) name c.args.reader.now.rest.now
    c.in_err-check_two_names.field-0.0 c.check_two_names.new.reader.rest.now
    (first_of_pair_halts two_names names c.args.reader.now.rest.now
    c.in_err-check_two_names.field-0.0 c.check_two_names.new.reader.rest.now
    c.in_err-check_two_names.ensures))))

pub returns-in_err-check_names : goal.returns-in_err-check_names
returns-in_err-check_names c =
    let f = err_from_is_err_and c.from_residual-in_err-check_names.result
    c.from_residual-in_err-check_names.ensures.1 in
    rw f.1 (mapped_halts decompose_of (pair (pair (pair two_names names) name) names)
    c.args.reader.now.rest.now
    c.in_err-check_names.field-0.0 c.check_names.new.reader.rest.now
    (first_of_pair_halts (pair (pair two_names names) name) names c.args.reader.now.rest.now
    c.in_err-check_names.field-0.0 c.check_names.new.reader.rest.now
    (first_of_pair_halts (pair two_names names) name c.args.reader.now.rest.now
    c.in_err-check_names.field-0.0 c.check_names.new.reader.rest.now
    (second_of_pair_halts two_names names c.args.reader.now.rest.now
    c.check_two_names.new.reader.rest.now c.in_err-check_names.field-0.0
    c.check_names.new.reader.rest.now c.in_ok-check_two_names.ensures
    c.in_err-check_names.ensures))))

pub returns-in_err-check_name : goal.returns-in_err-check_name
returns-in_err-check_name c =
    let f = err_from_is_err_and c.from_residual-in_err-check_name.result
    c.from_residual-in_err-check_name.ensures.1 in
    rw f.1 (mapped_halts decompose_of (pair (pair (pair two_names names) name) names)
    c.args.reader.now.rest.now
    c.in_err-check_name.field-0.0 c.check_name.new.reader.rest.now
    (first_of_pair_halts (pair (pair two_names names) name) names c.args.reader.now.rest.now
    c.in_err-check_name.field-0.0 c.check_name.new.reader.rest.now
    (second_of_pair_halts (pair two_names names) name c.args.reader.now.rest.now
    c.check_names.new.reader.rest.now c.in_err-check_name.field-0.0
    c.check_name.new.reader.rest.now (both_pass two_names names c.args.reader.now.rest.now
    c.check_two_names.new.reader.rest.now c.check_names.new.reader.rest.now
    c.in_ok-check_two_names.ensures c.in_ok-check_names.ensures) c.in_err-check_name.ensures)))

pub returns : goal.returns
returns c = mapped decompose_of (pair (pair (pair two_names names) name) names)
    c.args.reader.now.rest.now c.check_names-2.result c.check_names-2.new.reader.rest.now
    (paired (pair (pair two_names names) name) names c.args.reader.now.rest.now
    c.check_name.new.reader.rest.now c.check_names-2.result c.check_names-2.new.reader.rest.now
    (both_pass (pair two_names names) name c.args.reader.now.rest.now
    c.check_names.new.reader.rest.now c.check_name.new.reader.rest.now
    (both_pass two_names names c.args.reader.now.rest.now c.check_two_names.new.reader.rest.now
    c.check_names.new.reader.rest.now c.in_ok-check_two_names.ensures c.in_ok-check_names.ensures)
    c.in_ok-check_name.ensures) c.check_names-2.ensures)
