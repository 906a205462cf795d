use Rattle.std.proofs.Common.{◌≡◌, ◌-◌, List, ℕ, sym, subst, ◌∙◌}
use Rattle.relations_spec.specs.Sets.{Same}
use Rattle.relations_spec.specs.Spans.{forever}
use Rattle.history_store.specs.Change.{ids_from}
use Rattle.cases_store_tables.proofs.RowOrderLaws.{same_sorted}
use Rattle.cases_store_tables.proofs.row_comparison.are_open.Goals as goal

pub returns : goal.returns
returns c = λ t.
    let sorted = c.sort_unstable.new.self.items in
    let on = ids_from 0 (forever - 1) c.args.keys.now in
    let is : sorted ≡ on = sym c.deref.ensures.value ∙ c.are_equal.ensures t
    ∙ c.deref-2.ensures.value ∙ c.in_ok-open.ensures in
    subst (λ (l : List ℕ). Same l on) c.in_ok-sorted.ensures.items
    (subst (λ (l : List ℕ). Same c.in_ok-sorted.sorted.items l) is
    (same_sorted c.in_ok-sorted.sorted.items sorted c.sort_unstable.ensures.permutation))
