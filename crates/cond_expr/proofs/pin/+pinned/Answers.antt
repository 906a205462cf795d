use Rattle.std.proofs.Common.{Option, ap, sym, map, drop, ◌+◌, ◌∙◌}
use Rattle.std.specs.Option.{option_copied, option_or}
use Rattle.prima_base.specs.declared.value.Value.{Value}
use Rattle.cond_expr.specs.Parts.{all_parts}
use Rattle.cond_expr.specs.Seen.{test, tests_of}
use Rattle.cond_expr.specs.PinnedParts.{first_pinned}
use Rattle.cond_expr.proofs.PinnedLaws.{pinned_from}
use Rattle.cond_expr.proofs.pin.+pinned.Goals as goal

pub pinned_of_all-returns-in-Some : goal.pinned_of_all-returns-in-Some
pinned_of_all-returns-in-Some t c =
    let rest : Option Value = first_pinned c.args.op c.args.column.now
    (all_parts (tests_of (map test (drop (c.loop-part.part-index + 1) c.args.list.now)))) in
    sym (c.loop-part.invariant
    ∙ pinned_from c.args.op c.args.column.now c.args.list.now c.loop-part.part-index
    c.part-item.result c.loop-part-test.true c.part-item.is
    ∙ ap (λ (x : Option Value). option_or x rest)
    (sym c.pinned.ensures ∙ ap option_copied c.in-Some.is))

pub pinned_of_all-loop-part-preserved : goal.pinned_of_all-loop-part-preserved
pinned_of_all-loop-part-preserved t c =
    let rest : Option Value = first_pinned c.args.op c.args.column.now
    (all_parts (tests_of (map test (drop (c.loop-part.part-index + 1) c.args.list.now)))) in
    c.loop-part.invariant
    ∙ pinned_from c.args.op c.args.column.now c.args.list.now c.loop-part.part-index
    c.part-item.result c.loop-part-test.true c.part-item.is
    ∙ ap (λ (x : Option Value). option_or x rest)
    (sym c.pinned.ensures ∙ ap option_copied c.in_default.is)
