use Rattle.std.proofs.Common.{List, ◌<◌, ◌+◌, ◌++◌, length, drop, get_or, sym, ap, ◌∙◌, arith}
use Rattle.std.specs.List.{flat_map}
use Rattle.relations_spec.specs.Timed.{Entry}
use Rattle.prima_base.specs.Timed.{entry_of, entries_of}
use Rattle.prima_base.specs.declared.value.Value.{Value}
use Rattle.prima_base_rows.proofs.Moves.{no_row}
use Rattle.prima_base_rows.proofs.ReadRows.{read_entry, stands_there}
use Rattle.answer_text.specs.Texts.{row_text}
use Rattle.answer_text.proofs.Gathered.{on_err, more, less_within}
use Rattle.answer_text.proofs.Listed.{next_text, sent_text}
use Rattle.answer_text.proofs.listing.push_rows.Goals as goal

pub returns-in_err-push_row-clause-part : goal.returns-in_err-push_row-clause-part
returns-in_err-push_row-clause-part g c =
    let i = c.loop-i.invariant in
    let rows = c.args.rows.now.items in
    let here : c.loop-i.i < length rows = omega arith in
    let is = read_entry rows c.loop-i.i c.values.result.now c.period.result
    (c.values.ensures.values no_row) (c.period.ensures.period no_row) in
    let e = next_text (row_text c.args.told) entry_of rows c.loop-i.i
    (get_or rows c.loop-i.i no_row) i.0 here (stands_there rows c.loop-i.i) i.3 in
    on_err _ _ (less_within _ _ _ _ _ i.0 _ _ _ i.2 c.in_err-push_row.ensures.part
    (e ∙ ap (λ (x : Entry (List Value)). i.0 ++ (row_text c.args.told x
    ++ flat_map (row_text c.args.told) (entries_of (drop (c.loop-i.i + 1) rows)))) (sym is)))

pub loop-i-preserved : goal.loop-i-preserved
loop-i-preserved g c =
    let i = c.loop-i.invariant in
    let rows = c.args.rows.now.items in
    let here : c.loop-i.i < length rows = omega arith in
    let is = read_entry rows c.loop-i.i c.values.result.now c.period.result
    (c.values.ensures.values no_row) (c.period.ensures.period no_row) in (
      _,
      c.in_ok-push_row.ensures.cause.kept ∙ i.1,
      more _ _ _ _ _ _ _ _ i.2 c.in_ok-push_row.ensures.all,
      sent_text (row_text c.args.told) entry_of rows c.loop-i.i
          (get_or rows c.loop-i.i no_row) i.0 here (stands_there rows c.loop-i.i) i.3
          ∙ ap (λ (x : Entry (List Value)). (i.0 ++ row_text c.args.told x)
          ++ flat_map (row_text c.args.told) (entries_of (drop (c.loop-i.i + 1) rows))) (sym is),
    )
