use Rattle.std.proofs.lemmas.Result.{err_from_is_err_and}
use Rattle.std.proofs.Common.{map, length, ap, ◌∙◌}
use Rattle.std.specs.Prelude.{None}
use Rattle.smo_ops_types.specs.Commands.{version_of}
use Rattle.smo_ops_spec.specs.Past.{no_tables, newest_from}
use Rattle.command_codec_spec.specs.Reading.{and_then}
use Rattle.store_image_spec.specs.Items.{item}
use Rattle.store_image_spec.specs.Reader as spec
use Rattle.store_image_reader.specs.NextVersion.{newest_stamp}
use Rattle.store_image_reader.proofs.ItemSteps.{counted_fails, after_fails}
use Rattle.store_image_reader.proofs.ListSteps.{version_taken, version_failed, versions_taken}
use Rattle.store_image_reader.proofs.ListSteps.{version_pushed}
use Rattle.store_image_reader.proofs.version.all_versions.Goals as goal

pub returns-in_err-count : goal.returns-in_err-count
unfolding spec.all_versions
returns-in_err-count c =
    let f = err_from_is_err_and c.from_residual.result c.from_residual.ensures.1 in
    rw (f.1, f.2) (counted_fails (item spec.number_32)
    (λ n. spec.versions c.args.last n 0 None no_tables) c.args.reader.now.rest.now
    c.in_err-count.field-0.0 c.count_32.new.reader.rest.now c.in_err-count.ensures)

pub returns-in_err-version : goal.returns-in_err-version
unfolding spec.all_versions
returns-in_err-version c =
    let f = err_from_is_err_and c.from_residual-in_err-version.result
    c.from_residual-in_err-version.ensures.1 in
    let vs = map version_of c.loop.list.items in
    rw (f.1, f.2) (after_fails (item spec.number_32)
    (λ n. spec.versions c.args.last n 0 None no_tables) c.args.reader.now.rest.now
    c.in_ok-count.count c.count_32.new.reader.rest.now c.in_ok-count.ensures
    c.in_err-version.field-0.0 c.version.new.reader.rest.now
    (version_failed c.args.last (spec.versions c.args.last c.in_ok-count.count 0 None no_tables
    c.count_32.new.reader.rest.now) vs c.in_ok-count.count c.loop.counter
    (length c.loop.list.items) (newest_stamp vs) (newest_from no_tables vs)
    c.loop.reader.rest.now c.loop.invariant c.in_err-version.field-0.0 c.version.new.reader.rest.now
    c.loop-test.true (rw c.deref.ensures.value at c.in_err-version.ensures)))

pub loop-preserved : goal.loop-preserved
loop-preserved c =
    let vs = map version_of c.loop.list.items in
    let whole = spec.versions c.args.last c.in_ok-count.count 0 None no_tables
    c.count_32.new.reader.rest.now in
    version_pushed c.args.last whole c.loop.list.items c.push.new.self.items c.in_ok-version.version
    _ c.version.new.reader.rest.now c.in_ok-push.ensures.items
    (version_taken c.args.last whole vs c.in_ok-count.count c.loop.counter
    (length c.loop.list.items) (newest_stamp vs) (newest_from no_tables vs)
    c.loop.reader.rest.now c.loop.invariant (version_of c.in_ok-version.version)
    c.version.new.reader.rest.now
    c.loop-test.true (rw c.deref.ensures.value at c.in_ok-version.ensures))

pub returns : goal.returns
unfolding spec.all_versions
returns c =
    let vs = map version_of c.loop.list.items in
    ap (λ o. and_then o (λ n. spec.versions c.args.last n 0 None no_tables)) c.in_ok-count.ensures
    ∙ versions_taken c.args.last (spec.versions c.args.last c.in_ok-count.count 0 None no_tables
    c.count_32.new.reader.rest.now) vs c.in_ok-count.count c.loop.counter
    (length c.loop.list.items) (newest_stamp vs) (newest_from no_tables vs)
    c.loop.reader.rest.now c.loop.invariant c.loop-test.false
