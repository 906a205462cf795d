use Rattle.std.proofs.Common.{refl, sym, ◌∙◌, ap, map, subst}
use Rattle.std.proofs.lemmas.Result.{IfOk-weaker}
use Rattle.prima_base.specs.Order.{shown}
use Rattle.relations_spec.specs.Sets.{Ascends, Same}
use Rattle.history_store_value_order.specs.ByValue.{by_value}
use Rattle.history_store_value_order.proofs.Sorting.{sorted_rises, sorted_same}
use Rattle.history_store_value_order.proofs.order.sort_ids.Goals as goal

pub returns-clause-rises : goal.returns-clause-rises
returns-clause-rises c =
    IfOk-weaker c.ids_of.result _ _
    (λ ids e. subst (Ascends (by_value c.args.column.now.cells))
    (sym (e ∙ ap (map (λ m. m.1)) c.deref.ensures.value))
    (sorted_rises (λ m. shown m.0) (λ m. m.1) _ (λ x y. refl) c.args.column.now.cells
    c.args.live.now c.in_ok-marks.marks.items c.sort_unstable.new.self.items c.requires.distinct
    c.in_ok-marks.ensures.ids c.in_ok-marks.ensures.values c.sort_unstable.ensures.permutation
    c.sort_unstable.ensures.sorted))
    c.ids_of.ensures

pub returns-clause-same : goal.returns-clause-same
returns-clause-same c =
    IfOk-weaker c.ids_of.result _ _
    (λ ids e. subst (λ xs. Same xs c.args.live.now)
    (sym (e ∙ ap (map (λ m. m.1)) c.deref.ensures.value))
    (sorted_same (λ m. shown m.0) (λ m. m.1) _ (λ x y. refl) c.args.column.now.cells
    c.args.live.now c.in_ok-marks.marks.items c.sort_unstable.new.self.items c.requires.distinct
    c.in_ok-marks.ensures.ids c.in_ok-marks.ensures.values c.sort_unstable.ensures.permutation
    c.sort_unstable.ensures.sorted))
    c.ids_of.ensures
