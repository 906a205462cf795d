use Rattle.std.proofs.Common.{◌++◌, ap, ◌∙◌, arith}
use Rattle.std.specs.FinMap.{entries, len-entries}
use Rattle.std.proofs.lemmas.List.{take_all}
use Rattle.answer_text.specs.Texts.{tables_text}
use Rattle.answer_text.proofs.TablesBefore.{with_one}
use Rattle.answer_text.proofs.schema.add_tables.Goals as goal

pub loop-place-preserved : goal.loop-place-preserved
loop-place-preserved c = with_one (entries c.args.schema.now) c.loop-place.place c.at.result.now
    c.args.lines.now.items c.loop-place.lines.items c.add_table.new.lines.items c.at.ensures.table
    c.loop-place.invariant c.in_ok-add_table.ensures

pub returns : goal.returns
returns c =
    let es = entries c.args.schema.now in
    let n = len-entries c.args.schema.now in
    let k = c.len-place-end.ensures.count in
    let t = c.loop-place-test.false in
    c.loop-place.invariant ∙ ap (λ l. c.args.lines.now.items ++ tables_text l)
    (take_all c.loop-place.place es (omega (arith, n, k, t)))
