use Rattle.std.proofs.Common.{List, subst}
use Rattle.std.specs.Prelude.{All}
use Rattle.std.proofs.lemmas.List.{take_all}
use Rattle.std.proofs.lemmas.List.Elements.{All-more}
use Rattle.prima_base.specs.Columns.{IsRow}
use Rattle.prima_base.specs.declared.value.Value.{Value}
use Rattle.cases_store_tables.proofs.tested_table.are_rows.Goals as goal

pub loop-row-preserved : goal.loop-row-preserved
loop-row-preserved c =
    let row = c.row-item.result in
    let fits : IsRow c.args.columns.now row =
    subst (IsRow c.args.columns.now) c.values.ensures
    (c.is_row.ensures c.if-not-is_row.false) in
    All-more (IsRow c.args.columns.now) c.args.rows.now c.loop-row.row-index row
    c.loop-row-test.true c.loop-row.invariant
    (subst (IsRow c.args.columns.now) c.row-item.is fits)

pub returns : goal.returns
returns c = λ t. subst (λ (rows : List (List Value)). All (IsRow c.args.columns.now) rows)
    (take_all c.loop-row.row-index c.args.rows.now c.loop-row-test.false) c.loop-row.invariant
