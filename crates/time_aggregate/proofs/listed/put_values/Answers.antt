use Rattle.std.proofs.Common.{◌≡◌, ◌∙◌, ◌-◌, ℕ, refl, sym, ap, subst, map, List, length, arith}
use Rattle.std.proofs.lemmas.List.{get_or_default}
use Rattle.relations_spec.specs.Spans.{Span}
use Rattle.prima_base.specs.Order.{shown}
use Rattle.prima_base.specs.declared.agg_row.AggValue.{AggValue}
use Rattle.prima_base.specs.declared.agg_row.AggRow.{AggRow}
use Rattle.prima_base.specs.Groups.{amount, groups_shown}
use Rattle.time_aggregate.specs.Listed.{EndsSo}
use Rattle.time_aggregate.proofs.LastRow.{put_on, ends_later, some_there}
use Rattle.time_aggregate.proofs.listed.put_values.Goals as goal

pub returns-then-goes_on : goal.returns-then-goes_on
returns-then-goes_on c =
    let rows = c.args.listed.now.items in
    let last = c.index_mut.result.now in
    let a = c.goes_on.ensures.0 c.if-goes_on.true in
    let b = subst (λ (w : List AggRow). EndsSo (groups_shown w)
    (map amount c.deref-2.result.now) c.start.result) c.deref.ensures.value a in
    let d = subst (λ (w : List AggValue). EndsSo (groups_shown rows) (map amount w) c.start.result)
    c.deref-2.ensures.value b in
    let e = subst (λ (w : ℕ). EndsSo (groups_shown rows) (map amount c.args.values.items) w)
    c.start.ensures.start d in
    let some = some_there rows (map amount c.args.values.items) c.args.period.start e in
    let n : c.len-last.result ≡ length rows = c.len-last.ensures ∙ c.args.listed.now.ok.0 in
    let same : c.index.result.now ≡ last = c.index.ensures
    ∙ get_or_default rows (c.len-last.result - 1) c.index.result.now last (omega arith)
    ∙ sym c.index_mut.ensures.value in
    let p = ap (λ (w : AggRow). w.period) same in
    put_on rows c.len-last.result last
    (record { group = last.group; values = last.values; period = c.until.result })
    (map shown c.args.group.now) (map amount c.args.values.items) c.args.period.start
    c.args.period.end n c.index_mut.ensures.value e refl refl
    (c.until.ensures.start ∙ ap (λ (w : Span). w.start) p)
    (c.until.ensures.end ∙ ends_later rows c.len-last.result last c.index.result.now
    (map amount c.args.values.items) c.args.period.start c.args.period.end c.end.result
    n c.index_mut.ensures.value e same c.end.ensures.end c.end.ensures.ordered)
