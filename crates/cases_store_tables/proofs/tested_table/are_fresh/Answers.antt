use Rattle.std.proofs.Common.{◌≡◌, List, subst, sym, ◌∙◌, false}
use Rattle.std.specs.Prelude.{All}
use Rattle.std.proofs.lemmas.List.{take_all}
use Rattle.std.proofs.lemmas.List.Elements.{All-more}
use Rattle.relations_spec.specs.Sets.{has}
use Rattle.prima_base.specs.Order.{row_cmp}
use Rattle.prima_base.specs.declared.value.Value.{Value}
use Rattle.history_store.specs.Store.{relation_at}
use Rattle.cases_store_tables.proofs.tested_table.are_fresh.Goals as goal

pub loop-row-preserved : goal.loop-row-preserved
loop-row-preserved c = λ m l before.
    let P : List Value → Type 0 = λ row. has row_cmp row (relation_at c.args.stored.now m)
    ≡ false in
    let row = c.row-item.result in
    All-more P c.args.rows.now c.loop-row.row-index row c.loop-row-test.true
    (c.loop-row.invariant m l before)
    (subst P c.row-item.is (sym (c.has_row.ensures m l before) ∙ c.if-has_row.false))

pub returns : goal.returns
returns c = λ t m l before.
    let P : List Value → Type 0 = λ row. has row_cmp row (relation_at c.args.stored.now m)
    ≡ false in
    subst (λ (rows : List (List Value)). All P rows)
    (take_all c.loop-row.row-index c.args.rows.now c.loop-row-test.false)
    (c.loop-row.invariant m l before)
