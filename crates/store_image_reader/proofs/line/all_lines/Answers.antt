use Rattle.std.proofs.lemmas.Result.{err_from_is_err_and}
use Rattle.std.proofs.lemmas.List.{length-map, take_all}
use Rattle.std.proofs.lemmas.List.Elements.{All-push}
use Rattle.std.specs.Prelude.{All}
use Rattle.std.proofs.Common.{◌≡◌, ◌+◌, ◌-◌, ◌≤◌, ◌++◌, ◌∷◌, [], map, length, take, drop, sym, ap}
use Rattle.std.proofs.Common.{subst, ◌∙◌, length-append, arith}
use Rattle.command_codec_spec.specs.Reading.{Parsed, and_then, prepend}
use Rattle.store_image_spec.specs.Items.{item}
use Rattle.store_image_spec.specs.Reader as spec
use Rattle.store_image_reader.specs.Seen.{line_seen, stored_seen, lines_seen}
use Rattle.store_image_reader.specs.Ordered.{IsOrdered}
use Rattle.store_image_reader.proofs.ItemSteps.{counted_fails, after_fails}
use Rattle.store_image_rows.proofs.ListPlaces.{dropped_here}
use Rattle.store_image_reader.proofs.ListPlaces.{none_dropped, got_map, some_dropped}
use Rattle.store_image_reader.proofs.ListSteps.{line_taken, line_failed, due_missing, due_left}
use Rattle.store_image_reader.proofs.ListSteps.{lines_taken, lines_pushed}
use Rattle.store_image_reader.proofs.line.all_lines.Goals as goal

pub returns-in_err-count-clause-lines : goal.returns-in_err-count-clause-lines
unfolding spec.all_lines
returns-in_err-count-clause-lines c =
    let f = err_from_is_err_and c.from_residual.result c.from_residual.ensures.1 in
    rw (f.1, f.2) (counted_fails (item spec.number_32)
    (λ n. spec.lines c.args.last n (map line_seen c.args.due.now)) c.args.reader.now.rest.now
    c.in_err-count.field-0.0 c.count_32.new.reader.rest.now c.in_err-count.ensures)

pub returns-in_default-clause-lines : goal.returns-in_default-clause-lines
unfolding spec.all_lines
returns-in_default-clause-lines c =
    let due = map line_seen c.args.due.now in
    let whole = spec.lines c.args.last c.in_ok-count.count due c.count_32.new.reader.rest.now in
    let n = length-map c.args.due.now line_seen in
    let t = sym c.in_default.ensures.lookup.0 in
    let past : length c.args.due.now ≤ c.loop-i.i = grind (arith, t) in
    ap (λ o. and_then o (λ k. spec.lines c.args.last k due)) c.in_ok-count.ensures
    ∙ due_missing c.args.last whole (lines_seen (take c.loop-i.i due) c.loop-i.list.items)
    c.in_ok-count.count c.loop-i.i (drop c.loop-i.i due) c.loop-i.reader.rest.now
    c.loop-i.invariant.so c.loop-i-test.true
    (none_dropped due c.loop-i.i (omega (arith, n, past)))

pub returns-in_err-stored_line-clause-lines : goal.returns-in_err-stored_line-clause-lines
unfolding spec.all_lines
returns-in_err-stored_line-clause-lines c =
    let f = err_from_is_err_and c.from_residual-in_err-stored_line.result
    c.from_residual-in_err-stored_line.ensures.1 in
    let due = map line_seen c.args.due.now in
    let whole = spec.lines c.args.last c.in_ok-count.count due c.count_32.new.reader.rest.now in
    let here = dropped_here line_seen c.args.due.now c.loop-i.i c.in-Some.line.now
    c.in-Some.ensures.lookup.3.0 c.in-Some.ensures.lookup.1 in
    rw (f.1, f.2) (after_fails (item spec.number_32) (λ n. spec.lines c.args.last n due)
    c.args.reader.now.rest.now c.in_ok-count.count c.count_32.new.reader.rest.now
    c.in_ok-count.ensures c.in_err-stored_line.field-0.0 c.stored_line.new.reader.rest.now
    (line_failed c.args.last whole (lines_seen (take c.loop-i.i due) c.loop-i.list.items)
    c.in_ok-count.count c.loop-i.i (drop c.loop-i.i due) c.loop-i.reader.rest.now
    c.loop-i.invariant.so (line_seen c.in-Some.line.now) (drop (c.loop-i.i + 1) due)
    c.loop-i-test.true here c.in_err-stored_line.field-0.0 c.stored_line.new.reader.rest.now
    c.in_err-stored_line.ensures.line))

pub loop-i-preserved : goal.loop-i-preserved
loop-i-preserved c =
    let due = map line_seen c.args.due.now in
    let i = c.loop-i.i in
    let line = line_seen c.in-Some.line.now in
    let x = c.in_ok-stored_line.field-0 in
    let rest = c.stored_line.new.reader.rest.now in
    let under = c.in-Some.ensures.lookup.3.0 in
    let is = c.in-Some.ensures.lookup.1 in
    let n = length-map c.args.due.now line_seen in
    let whole = spec.lines c.args.last c.in_ok-count.count due c.count_32.new.reader.rest.now in
    let l = lines_seen (take i due) c.loop-i.list.items in
    let here = dropped_here line_seen c.args.due.now i c.in-Some.line.now under is in
    let pushed : lines_seen (take (i + 1) due) c.push.new.self.items ≡ l ++ stored_seen line x
    ∷ [] =
    ap (lines_seen (take (i + 1) due)) c.in_ok-push.ensures.items
    ∙ lines_pushed due c.loop-i.list.items i line x c.loop-i.invariant.counted
    (omega (arith, n, under)) (got_map line_seen c.args.due.now i c.in-Some.line.now under
    is) in
    let many = length-append c.loop-i.list.items (x ∷ []) in
    let counted = c.loop-i.invariant.counted in
    let items = ap length c.in_ok-push.ensures.items in
    record {
      so =
          line_taken c.args.last whole l c.in_ok-count.count i (drop i due) c.loop-i.reader.rest.now
          c.loop-i.invariant.so line (drop (i + 1) due) c.loop-i-test.true here
          (stored_seen line x) rest c.in_ok-stored_line.ensures.line
          ∙ ap (λ m. prepend m (spec.lines c.args.last (c.in_ok-count.count - (i + 1))
          (drop (i + 1) due) rest)) (sym pushed);
      within = omega (arith, under);
      counted = omega (arith, items, many, counted);
      ordered = subst (All IsOrdered) (sym c.in_ok-push.ensures.items)
          (All-push IsOrdered c.loop-i.list.items x c.loop-i.invariant.ordered
          c.in_ok-stored_line.ensures.order);
    }

pub returns-then-count-due-clause-lines : goal.returns-then-count-due-clause-lines
unfolding spec.all_lines
returns-then-count-due-clause-lines c =
    let due = map line_seen c.args.due.now in
    let whole = spec.lines c.args.last c.in_ok-count.count due c.count_32.new.reader.rest.now in
    let n = length-map c.args.due.now line_seen in
    let under = c.if-count-due.true in
    let end = c.loop-i.auto.i-end in
    let some = some_dropped due c.loop-i.i (omega (arith, n, under, end)) in
    ap (λ o. and_then o (λ k. spec.lines c.args.last k due)) c.in_ok-count.ensures
    ∙ due_left c.args.last whole (lines_seen (take c.loop-i.i due) c.loop-i.list.items)
    c.in_ok-count.count c.loop-i.i (drop c.loop-i.i due) c.loop-i.reader.rest.now
    c.loop-i.invariant.so some.0 some.1 c.loop-i-test.false some.2

pub returns-clause-lines : goal.returns-clause-lines
unfolding spec.all_lines
returns-clause-lines c =
    let due = map line_seen c.args.due.now in
    let whole = spec.lines c.args.last c.in_ok-count.count due c.count_32.new.reader.rest.now in
    let n = length-map c.args.due.now line_seen in
    let over = c.if-count-due.false in
    let done = c.loop-i-test.false in
    let past : length due ≤ c.loop-i.i = omega (arith, n, over, done) in
    ap (λ o. and_then o (λ k. spec.lines c.args.last k due)) c.in_ok-count.ensures
    ∙ lines_taken c.args.last whole (lines_seen (take c.loop-i.i due) c.loop-i.list.items)
    c.in_ok-count.count c.loop-i.i (drop c.loop-i.i due) c.loop-i.reader.rest.now
    c.loop-i.invariant.so c.loop-i-test.false (none_dropped due c.loop-i.i past)
    ∙ ap (λ ds. Parsed (lines_seen ds c.loop-i.list.items) c.loop-i.reader.rest.now)
    (take_all c.loop-i.i due past)
