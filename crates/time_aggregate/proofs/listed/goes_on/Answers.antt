use Rattle.std.proofs.Common.{◌∙◌, ◌-◌, ap, sym, List, map, take, length, ◌++◌, ◌∷◌, []}
use Rattle.std.proofs.lemmas.Option.{get_or_from_slice_get}
use Rattle.prima_base.specs.declared.agg_row.AggValue.{AggValue}
use Rattle.prima_base.specs.declared.agg_row.AggRow.{AggRow}
use Rattle.prima_base.specs.Groups.{amount}
use Rattle.time_aggregate.proofs.LastRow.{last_split, ends_so, there_is}
use Rattle.time_aggregate.proofs.listed.goes_on.Goals as goal

pub returns-then-end-moment : goal.returns-then-end-moment
returns-then-end-moment c =
    let rows = c.args.listed.now in
    let row = c.in-Some.row.now in
    let v = c.in-Some.ensures.value in
    let n = there_is rows row (sym v) in
    let g = get_or_from_slice_get rows (length rows - 1) row row (sym v) in
    let e = last_split rows row n ∙ ap (λ (w : AggRow). take (length rows - 1) rows
    ++ w ∷ []) g in
    let s = ends_so rows (take (length rows - 1) rows) row (map amount c.args.values.now)
    c.args.moment e in
    let a = c.are_same.ensures in
    let d = ap (λ (w : List AggValue). map amount w) c.deref.ensures.value in (
      λ h. s.1 (sym d ∙ a.0 h, sym c.end.ensures.end ∙ c.if-end-moment.true),
      λ h. a.1 (d ∙ (s.0 h).0),
    )
