use Rattle.std.proofs.lemmas.Result.{err_from_is_err_and}
use Rattle.std.proofs.lemmas.List.{map-append}
use Rattle.std.proofs.Common.{◌≡◌, ◌+◌, ◌-◌, ◌++◌, ◌∷◌, [], ◌==◌, map, drop, sym, ap, ◌∙◌}
use Rattle.std.specs.Prelude.{if◌then◌else◌}
use Rattle.relations_spec.specs.Spans.{span}
use Rattle.command_codec_spec.specs.Reading.{prepend}
use Rattle.store_image_spec.specs.Reader as spec
use Rattle.store_image_reader.specs.Seen.{cell_seen}
use Rattle.store_image_reader.specs.Due.{with_left, keys_left}
use Rattle.store_image_reader.proofs.ListSteps.{entry_taken, entry_failed, key_missing, key_left}
use Rattle.store_image_reader.proofs.ListSteps.{entries_taken}
use Rattle.store_image_reader.proofs.entry.entries.Goals as goal

pub returns-in_default : goal.returns-in_default
returns-in_default c =
    key_missing c.args.last c.args.kind (spec.entries c.args.last c.args.kind c.args.count 0
    c.args.keys.now c.args.reader.now.rest.now) (map cell_seen c.loop.list.items) c.args.count
    c.loop.counter c.loop.due.id (keys_left c.args.keys.now c.loop.due)
    c.loop.reader.rest.now c.loop.invariant.so c.loop-test.true
    (ap (with_left c.args.keys.now c.loop.due.id) c.in_default.is)

pub returns-in_err-cell : goal.returns-in_err-cell
returns-in_err-cell c =
    let f = err_from_is_err_and c.from_residual-in_err-cell.result
    c.from_residual-in_err-cell.ensures.1 in
    rw (f.1, f.2)
    (entry_failed c.args.last c.args.kind (spec.entries c.args.last c.args.kind c.args.count 0
    c.args.keys.now c.args.reader.now.rest.now) (map cell_seen c.loop.list.items) c.args.count
    c.loop.counter c.loop.due.id (keys_left c.args.keys.now c.loop.due)
    c.loop.reader.rest.now c.loop.invariant.so c.in-Some.left
    (drop (c.loop.due.id + 1) c.args.keys.now) c.loop-test.true
    (ap (with_left c.args.keys.now c.loop.due.id) c.in-Some.is) c.in_err-cell.field-0.0
    c.entry.new.reader.rest.now c.in_err-cell.ensures.reads)

pub loop-preserved : goal.loop-preserved
loop-preserved c =
    let whole = spec.entries c.args.last c.args.kind c.args.count 0 c.args.keys.now
    c.args.reader.now.rest.now in
    let l = map cell_seen c.loop.list.items in
    let left = c.in-Some.left in
    let id = c.loop.due.id in
    let more = drop (id + 1) c.args.keys.now in
    let cell = cell_seen c.in_ok-cell.cell in
    let n = c.args.count - (c.loop.counter + 1) in
    let rest = c.entry.new.reader.rest.now in
    let next = c.next_due-due.ensures.next in
    let pushed : map cell_seen c.push.new.self.items ≡ l ++ cell ∷ [] =
    ap (map cell_seen) c.in_ok-push.ensures.items
    ∙ map-append cell_seen c.loop.list.items (c.in_ok-cell.cell ∷ []) in
    let ends = cell.period.end == left.end in
    record {
      so =
          entry_taken c.args.last c.args.kind whole l c.args.count c.loop.counter id
          (keys_left c.args.keys.now c.loop.due) c.loop.reader.rest.now c.loop.invariant.so left
          more c.loop-test.true (ap (with_left c.args.keys.now id) c.in-Some.is) cell rest
          c.in_ok-cell.ensures.reads
          ∙ ap (λ k. prepend (l ++ cell ∷ [])
          (spec.entries c.args.last c.args.kind n k
          (if ends then more else span cell.period.end left.end ∷ more) rest)) (sym next.key)
          ∙ ap (λ ks. prepend (l ++ cell ∷ [])
          (spec.entries c.args.last c.args.kind n c.next_due-due.result.id ks rest))
          (sym next.left)
          ∙ ap (λ m. prepend m (spec.entries c.args.last c.args.kind n c.next_due-due.result.id
          (keys_left c.args.keys.now c.next_due-due.result) rest)) (sym pushed);
      known = c.next_due-due.ensures.known;
    }

pub returns-in-Some-left : goal.returns-in-Some-left
returns-in-Some-left c =
    key_left c.args.last c.args.kind (spec.entries c.args.last c.args.kind c.args.count 0
    c.args.keys.now c.args.reader.now.rest.now) (map cell_seen c.loop.list.items) c.args.count
    c.loop.counter c.loop.due.id (keys_left c.args.keys.now c.loop.due)
    c.loop.reader.rest.now c.loop.invariant.so c.in-Some-left.field-0
    (drop (c.loop.due.id + 1) c.args.keys.now) c.loop-test.false
    (ap (with_left c.args.keys.now c.loop.due.id) c.in-Some-left.is)

pub returns : goal.returns
returns c =
    entries_taken c.args.last c.args.kind (spec.entries c.args.last c.args.kind c.args.count 0
    c.args.keys.now c.args.reader.now.rest.now) (map cell_seen c.loop.list.items) c.args.count
    c.loop.counter c.loop.due.id (keys_left c.args.keys.now c.loop.due)
    c.loop.reader.rest.now c.loop.invariant.so c.loop-test.false
    (ap (with_left c.args.keys.now c.loop.due.id) c.in-None.is)
