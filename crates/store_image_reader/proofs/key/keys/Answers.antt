use Rattle.std.proofs.lemmas.Result.{err_from_is_err_and}
use Rattle.std.proofs.Common.{ap, ◌∙◌}
use Rattle.command_codec_spec.specs.Reading.{and_then, items}
use Rattle.command_codec_spec.specs.Reader as parts
use Rattle.store_image_spec.specs.Items.{item}
use Rattle.store_image_spec.specs.Reader as spec
use Rattle.store_image_reader.proofs.ItemSteps.{counted_fails, after_fails}
use Rattle.store_image_reader.proofs.ListSteps.{item_taken, item_failed, items_taken}
use Rattle.store_image_reader.proofs.key.keys.Goals as goal

pub returns-in_err-count : goal.returns-in_err-count
unfolding spec.keys
returns-in_err-count c =
    let f = err_from_is_err_and c.from_residual.result c.from_residual.ensures.1 in
    rw (f.1, f.2) (counted_fails (item parts.number_64) (λ n. items (spec.key c.args.last) n)
    c.args.reader.now.rest.now c.in_err-count.field-0.0 c.count_64.new.reader.rest.now
    c.in_err-count.ensures)

pub returns-in_err-key : goal.returns-in_err-key
unfolding spec.keys
returns-in_err-key c =
    let f = err_from_is_err_and c.from_residual-in_err-key.result
    c.from_residual-in_err-key.ensures.1 in
    rw (f.1, f.2) (after_fails (item parts.number_64) (λ n. items (spec.key c.args.last) n)
    c.args.reader.now.rest.now c.in_ok-count.count c.count_64.new.reader.rest.now
    c.in_ok-count.ensures c.in_err-key.field-0.0 c.key.new.reader.rest.now
    (item_failed (spec.key c.args.last) (items (spec.key c.args.last) c.in_ok-count.count
    c.count_64.new.reader.rest.now) c.loop.list.items c.in_ok-count.count c.loop.counter
    c.loop.reader.rest.now c.loop.invariant c.in_err-key.field-0.0 c.key.new.reader.rest.now
    c.loop-test.true c.in_err-key.ensures))

pub loop-preserved : goal.loop-preserved
loop-preserved c =
    let key = spec.key c.args.last in
    rw (c.in_ok-push.ensures.items)
    (item_taken key (items key c.in_ok-count.count c.count_64.new.reader.rest.now) c.loop.list.items
    c.in_ok-count.count c.loop.counter c.loop.reader.rest.now c.loop.invariant
    c.in_ok-key.field-0 c.key.new.reader.rest.now
    c.loop-test.true c.in_ok-key.ensures)

pub returns : goal.returns
unfolding spec.keys
returns c =
    ap (λ o. and_then o (λ n. items (spec.key c.args.last) n)) c.in_ok-count.ensures
    ∙ items_taken (spec.key c.args.last) (items (spec.key c.args.last) c.in_ok-count.count
    c.count_64.new.reader.rest.now) c.loop.list.items c.in_ok-count.count c.loop.counter
    c.loop.reader.rest.now c.loop.invariant c.loop-test.false
