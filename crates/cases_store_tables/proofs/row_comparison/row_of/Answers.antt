use Rattle.std.proofs.Common.{◌≡◌, ◌+◌, ◌-◌, ◌++◌, ◌∷◌, List, map, drop, sym, ap, subst, ◌∙◌}
use Rattle.std.specs.Prelude.{All}
use Rattle.std.proofs.lemmas.List.{drop_more}
use Rattle.std.proofs.lemmas.List.Elements.{All-head, All-tail}
use Rattle.relations_spec.specs.Sets.{Ascends}
use Rattle.relations_spec.specs.Spans.{forever}
use Rattle.prima_base.specs.Order.{shown}
use Rattle.prima_base.specs.Columns.{IsValid}
use Rattle.history_store.specs.Store.{Cell, shown_at, cell_cmp}
use Rattle.history_store.specs.Restoring.{cell_of, entries_of}
use Rattle.cases_store_tables.proofs.RowOrderLaws.{row_more}
use Rattle.cases_store_tables.proofs.row_comparison.row_of.Goals as goal

pub add_values-requires-clause-cells : goal.add_values-requires-clause-cells
add_values-requires-clause-cells c =
    let L : List Cell → Type 0 = All (λ x. IsValid x.value) in
    let columns = c.args.columns.now in
    let cells = c.cells-item.result in
    let i = c.loop-cells.cells-index in
    let at : entries_of (drop i columns) ≡ map cell_of cells.items
    ∷ entries_of (drop (i + 1) columns) =
    ap entries_of (drop_more columns i cells c.loop-cells-test.true
    ∙ ap (λ x. x ∷ drop (i + 1) columns) (sym c.cells-item.is)) in
    subst (λ l. L (map cell_of l)) (sym c.deref.ensures.value)
    (All-head L (map cell_of cells.items) (entries_of (drop (i + 1) columns))
    (subst (λ (l : List (List Cell)). All L l) at c.loop-cells.invariant.left))

pub add_values-requires-clause-ascending : goal.add_values-requires-clause-ascending
add_values-requires-clause-ascending c =
    let columns = c.args.columns.now in
    let cells = c.cells-item.result in
    let i = c.loop-cells.cells-index in
    let at : entries_of (drop i columns) ≡ map cell_of cells.items
    ∷ entries_of (drop (i + 1) columns) =
    ap entries_of (drop_more columns i cells c.loop-cells-test.true
    ∙ ap (λ x. x ∷ drop (i + 1) columns) (sym c.cells-item.is)) in
    subst (λ l. Ascends cell_cmp (map cell_of l)) (sym c.deref.ensures.value)
    (All-head (Ascends cell_cmp) (map cell_of cells.items) (entries_of (drop (i + 1) columns))
    (subst (λ (l : List (List Cell)). All (Ascends cell_cmp) l) at
    c.loop-cells.invariant.rising))

pub loop-cells-preserved : goal.loop-cells-preserved
loop-cells-preserved c =
    let L : List Cell → Type 0 = All (λ x. IsValid x.value) in
    let columns = c.args.columns.now in
    let cells = c.cells-item.result in
    let i = c.loop-cells.cells-index in
    let rest = entries_of (drop (i + 1) columns) in
    let at : entries_of (drop i columns) ≡ map cell_of cells.items ∷ rest =
    ap entries_of (drop_more columns i cells c.loop-cells-test.true
    ∙ ap (λ x. x ∷ drop (i + 1) columns) (sym c.cells-item.is)) in
    record {
      whole = row_more c.args.id (forever - 1) _ _ _ (map cell_of cells.items) rest _
          c.loop-cells.invariant.whole at
          (c.in_ok-add_values.ensures.values ∙ ap
          (λ l. map shown c.loop-cells.values.items
          ++ shown_at c.args.id (forever - 1) (map cell_of l)) c.deref.ensures.value);
      valid = c.in_ok-add_values.ensures.valid;
      left = All-tail L (map cell_of cells.items) rest
          (subst (λ (l : List (List Cell)). All L l) at c.loop-cells.invariant.left);
      rising = All-tail (Ascends cell_cmp) (map cell_of cells.items) rest
          (subst (λ (l : List (List Cell)). All (Ascends cell_cmp) l) at
          c.loop-cells.invariant.rising);
    }
