use Rattle.std.proofs.Common.{◌≡◌, ◌-◌, ◌/◌, ◌<◌, ◌++◌, length, map, sym, subst, ◌∙◌, arith}
use Rattle.std.specs.Prelude.{OnOk, List, All}
use Rattle.std.proofs.lemmas.Result.{on_ok_weaker}
use Rattle.relations_spec.specs.Sets.{Ascends}
use Rattle.relations_spec.specs.Spans.{forever}
use Rattle.prima_base.specs.Columns.{IsValid}
use Rattle.prima_base.specs.Order.{shown}
use Rattle.prima_base.specs.declared.value.Value.{Value}
use Rattle.history_store.specs.Store.{Cell, cell_cmp}
use Rattle.history_store.specs.Restoring.{cell_of}
use Rattle.history_store.specs.declared.restoration.Cell.{Cell as GivenCell}
use Rattle.cases_store_tables.proofs.HalvedCells.{left_half, right_half, left_half_ascends}
use Rattle.cases_store_tables.proofs.HalvedCells.{right_half_ascends, right_found, left_found}
use Rattle.cases_store_tables.proofs.HalvedCells.{both_found, first_valid}
use Rattle.cases_store_tables.proofs.row_comparison.+add_values.Goals as goal

pub add_value-requires-clause-cell : goal.add_value-requires-clause-cell
add_value-requires-clause-cell t c =
    let some = c.in-len1.len_at_least in
    first_valid c.args.cells.now c.cell-item.result (omega (arith, some)) c.cell-item.is
    c.requires.cells

pub add_values-requires : goal.add_values-requires
add_values-requires t c =
    let L : Cell → Type 0 = λ x. IsValid x.value in
    let cells = c.args.cells.now in
    let k = length cells / 2 in
    let two = c.in_default.len_at_least in
    let whole = c.split_at.ensures.back_len in
    let back = c.split_at.ensures.back in (
      omega (arith, two, whole),
      (
        subst (λ (r : List GivenCell). All L (map cell_of r)) (sym back)
            (right_half L cells k c.requires.cells),
        (
          subst (λ (r : List GivenCell). Ascends cell_cmp (map cell_of r)) (sym back)
              (right_half_ascends cells k c.requires.ascending),
          c.requires.values,
        ),
      ),
    )

pub add_values-requires-in-Greater : goal.add_values-requires-in-Greater
add_values-requires-in-Greater t c =
    let L : Cell → Type 0 = λ x. IsValid x.value in
    let cells = c.args.cells.now in
    let k = length cells / 2 in
    let two = c.in_default.len_at_least in
    let part = c.split_at.ensures.front_len in
    let front = c.split_at.ensures.front in (
      omega (arith, two, part),
      (
        subst (λ (l : List GivenCell). All L (map cell_of l)) (sym front)
            (left_half L cells k c.requires.cells),
        (
          subst (λ (l : List GivenCell). Ascends cell_cmp (map cell_of l)) (sym front)
              (left_half_ascends cells k c.requires.ascending),
          c.requires.values,
        ),
      ),
    )

pub add_values-requires-in-Equal : goal.add_values-requires-in-Equal
add_values-requires-in-Equal t c =
    let L : Cell → Type 0 = λ x. IsValid x.value in
    let cells = c.args.cells.now in
    let k = length cells / 2 in
    let two = c.in_default.len_at_least in
    let part = c.split_at.ensures.front_len in
    let front = c.split_at.ensures.front in (
      omega (arith, two, part),
      (
        subst (λ (l : List GivenCell). All L (map cell_of l)) (sym front)
            (left_half L cells k c.requires.cells),
        (
          subst (λ (l : List GivenCell). Ascends cell_cmp (map cell_of l)) (sym front)
              (left_half_ascends cells k c.requires.ascending),
          c.requires.values,
        ),
      ),
    )

pub add_values-requires-in-Equal-2 : goal.add_values-requires-in-Equal-2
add_values-requires-in-Equal-2 t c =
    let L : Cell → Type 0 = λ x. IsValid x.value in
    let cells = c.args.cells.now in
    let k = length cells / 2 in
    let two = c.in_default.len_at_least in
    let whole = c.split_at.ensures.back_len in
    let back = c.split_at.ensures.back in (
      omega (arith, two, whole),
      (
        subst (λ (r : List GivenCell). All L (map cell_of r)) (sym back)
            (right_half L cells k c.requires.cells),
        (
          subst (λ (r : List GivenCell). Ascends cell_cmp (map cell_of r)) (sym back)
              (right_half_ascends cells k c.requires.ascending),
          c.in_ok-add_values-in-Equal.ensures.valid,
        ),
      ),
    )

pub returns-in-Less-clause-values : goal.returns-in-Less-clause-values
returns-in-Less-clause-values t c =
    let cells = c.args.cells.now in
    let two = c.in_default.len_at_least in
    let inside : length cells / 2 < length cells = omega (arith, two) in
    subst (λ (values : List Value). OnOk c.add_values.result
    (map shown c.add_values.new.values.items ≡ map shown c.args.values.now.items ++ values))
    (sym (right_found c.args.id (forever - 1) cells c.split_at.result.1.now (length cells / 2)
    c.index-right-0.result inside c.requires.ascending c.split_at.ensures.back
    (sym c.cmp.ensures ∙ c.in-Less.is)))
    c.add_values.ensures.values

pub returns-in-Greater-clause-values : goal.returns-in-Greater-clause-values
returns-in-Greater-clause-values t c =
    let cells = c.args.cells.now in
    let two = c.in_default.len_at_least in
    let inside : length cells / 2 < length cells = omega (arith, two) in
    subst (λ (values : List Value). OnOk c.add_values-in-Greater.result
    (map shown c.add_values-in-Greater.new.values.items
    ≡ map shown c.args.values.now.items ++ values))
    (sym (left_found c.args.id (forever - 1) cells c.split_at.result.0.now
    c.split_at.result.1.now (length cells / 2) c.index-right-0.result inside
    c.requires.ascending c.split_at.ensures.front c.split_at.ensures.back
    (sym c.cmp.ensures ∙ c.in-Greater.is)))
    c.add_values-in-Greater.ensures.values

pub returns-in_ok-add_values-in-Equal-clause-values :
    goal.returns-in_ok-add_values-in-Equal-clause-values
returns-in_ok-add_values-in-Equal-clause-values t c =
    let cells = c.args.cells.now in
    on_ok_weaker c.add_values-in-Equal-2.result
    (λ two. both_found c.args.id (forever - 1) cells c.split_at.result.0.now
    c.split_at.result.1.now (length cells / 2) c.split_at.ensures.front c.split_at.ensures.back
    (map shown c.args.values.now.items) (map shown c.add_values-in-Equal.new.values.items)
    (map shown c.add_values-in-Equal-2.new.values.items)
    c.in_ok-add_values-in-Equal.ensures.values two) c.add_values-in-Equal-2.ensures.values
