use Rattle.std.proofs.lemmas.Result.{err_from_is_err_and}
use Rattle.std.proofs.lemmas.List.{map-append}
use Rattle.std.proofs.Common.{◌≡◌, ◌+◌, ◌++◌, ◌∷◌, [], map, drop, sym, ap, ◌∙◌}
use Rattle.std.specs.declared.vec.Vec.{Vec}
use Rattle.std.specs.declared.alloc.Global.{Global}
use Rattle.command_codec_spec.specs.Reading.{prepend}
use Rattle.store_image_spec.specs.Reader as spec
use Rattle.history_store.specs.declared.restoration.Cell.{Cell as ReadCell}
use Rattle.store_image_reader.specs.Seen.{cell_seen, cells_seen}
use Rattle.store_image_rows.proofs.ListPlaces.{dropped_plain}
use Rattle.store_image_reader.proofs.ListPlaces.{none_dropped}
use Rattle.store_image_reader.proofs.ListSteps.{column_taken, column_failed, columns_taken}
use Rattle.store_image_reader.proofs.entry.columns.Goals as goal

pub returns-in_err-column_entries : goal.returns-in_err-column_entries
returns-in_err-column_entries c =
    let f = err_from_is_err_and c.from_residual-in_err-column_entries.result
    c.from_residual-in_err-column_entries.ensures.1 in
    let here = dropped_plain c.args.columns.now c.loop-kind.kind-index c.loop-kind-item.result
    c.loop-kind-test.true c.loop-kind-item.is in
    rw (f.1, f.2)
    (column_failed c.args.last c.args.keys.now
    (spec.columns c.args.last c.args.keys.now c.args.columns.now c.args.reader.now.rest.now)
    (cells_seen c.loop-kind.list.items) (drop c.loop-kind.kind-index c.args.columns.now)
    c.loop-kind.reader.rest.now
    c.loop-kind.invariant c.loop-kind-item.result
    (drop (c.loop-kind.kind-index + 1) c.args.columns.now) here
    c.in_err-column_entries.field-0.0 c.column_entries.new.reader.rest.now
    c.in_err-column_entries.ensures)

pub loop-kind-preserved : goal.loop-kind-preserved
loop-kind-preserved c =
    let here = dropped_plain c.args.columns.now c.loop-kind.kind-index c.loop-kind-item.result
    c.loop-kind-test.true c.loop-kind-item.is in
    let more = drop (c.loop-kind.kind-index + 1) c.args.columns.now in
    let cells = map cell_seen c.in_ok-column_entries.field-0.items in
    let pushed : cells_seen c.push.new.self.items ≡ cells_seen c.loop-kind.list.items ++ cells
    ∷ [] =
    ap cells_seen c.in_ok-push.ensures.items ∙ map-append
    (λ (column : Vec ReadCell Global). map cell_seen column.items) c.loop-kind.list.items
    (c.in_ok-column_entries.field-0 ∷ []) in
    column_taken c.args.last c.args.keys.now (spec.columns c.args.last c.args.keys.now
    c.args.columns.now c.args.reader.now.rest.now) (cells_seen c.loop-kind.list.items)
    (drop c.loop-kind.kind-index c.args.columns.now) c.loop-kind.reader.rest.now
    c.loop-kind.invariant c.loop-kind-item.result more here cells
    c.column_entries.new.reader.rest.now c.in_ok-column_entries.ensures
    ∙ ap (λ l. prepend l (spec.columns c.args.last c.args.keys.now more
    c.column_entries.new.reader.rest.now)) (sym pushed)

pub returns : goal.returns
returns c =
    columns_taken c.args.last c.args.keys.now
    (spec.columns c.args.last c.args.keys.now c.args.columns.now c.args.reader.now.rest.now)
    (cells_seen c.loop-kind.list.items) (drop c.loop-kind.kind-index c.args.columns.now)
    c.loop-kind.reader.rest.now
    c.loop-kind.invariant (none_dropped c.args.columns.now c.loop-kind.kind-index
    c.loop-kind-test.false)
