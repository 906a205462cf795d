use Rattle.std.proofs.Common.{◌≡◌, ◌<◌, List, length, sym, ap, ◌∙◌, subst, arith}
use Rattle.std.specs.List.{filter_map}
use Rattle.std.proofs.lemmas.List.{take_all}
use Rattle.prima_base.specs.declared.timed_row.TimedRow.{TimedRow}
use Rattle.prima_base_rows.proofs.Moves.{no_row}
use Rattle.coalesce.specs.Cutting.{cut_row}
use Rattle.coalesce.specs.Listed.{is_inside}
use Rattle.coalesce.proofs.Cut.{inside_more}
use Rattle.coalesce.proofs.row_cut.are_inside.Goals as goal

pub loop-index-preserved : goal.loop-index-preserved
loop-index-preserved c =
    let rows = c.args.rows.now.items in
    let here : c.loop-index.index < length rows = omega arith in
    inside_more c.args.slice rows c.loop-index.index no_row here
    (ap (is_inside c.args.slice) (sym (c.period.ensures.period no_row)) ∙ sym c.is_inside.ensures
    ∙ c.if-not-is_inside.false) c.loop-index.invariant

pub returns : goal.returns
returns c = λ _.
    let rows = c.args.rows.now.items in
    let all = take_all c.loop-index.index rows (omega arith) in
    subst (λ (l : List TimedRow). filter_map (cut_row c.args.slice) l ≡ l) all
    c.loop-index.invariant
