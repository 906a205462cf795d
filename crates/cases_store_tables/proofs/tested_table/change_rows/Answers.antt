use Rattle.std.proofs.Common.{◌≡◌, ◌+◌, List, true, false, sym, ap, subst, ◌∙◌, arith}
use Rattle.relations_spec.specs.Sets.{In, has}
use Rattle.relations_spec.proofs.SetLaws.{has_in, has_not}
use Rattle.prima_base.specs.Order.{row_cmp}
use Rattle.prima_base.specs.OrderLaws.{row_exact}
use Rattle.prima_base.specs.declared.value.Value.{Value}
use Rattle.history_store.specs.Store.{AllBefore, relation_at}
use Rattle.cases_store_tables.proofs.TestedLaws.{in_all, all_later, same_before}
use Rattle.cases_store_tables.proofs.tested_table.change_rows.Goals as goal

pub returns-then-not-become_relation-clause-later :
    goal.returns-then-not-become_relation-clause-later
returns-then-not-become_relation-clause-later c = λ m l.
    all_later c.args.stored.now c.args.stamp m (omega arith) c.requires.before

pub returns-then-not-become_relation-2-clause-later :
    goal.returns-then-not-become_relation-2-clause-later
returns-then-not-become_relation-2-clause-later c = λ m l.
    all_later c.args.stored.now c.args.stamp m (omega arith) c.requires.before

pub returns-then-not-are_there-clause-later : goal.returns-then-not-are_there-clause-later
returns-then-not-are_there-clause-later c = λ m l.
    all_later c.args.stored.now c.args.stamp m (omega arith) c.requires.before

pub returns-then-not-are_fresh-clause-later : goal.returns-then-not-are_fresh-clause-later
returns-then-not-are_fresh-clause-later c = λ m l.
    all_later c.args.stored.now c.args.stamp m (omega arith) c.requires.before

pub prepare_change-requires-clause-there : goal.prepare_change-requires-clause-there
prepare_change-requires-clause-there c = λ row m.
    let s = c.args.stored.now in
    let rows = relation_at s c.args.stamp in
    let later : AllBefore s (c.args.stamp + 1) =
    all_later s c.args.stamp (c.args.stamp + 1) (omega arith) c.requires.before in
    has_in row_cmp row_exact row rows (in_all (λ (r : List Value). has row_cmp r rows ≡ true) row
    c.deref.result.now
    (c.are_there.ensures c.if-not-are_there.false c.args.stamp c.requires.valid later)
    (subst (λ (l : List (List Value)). In row l)
    (c.deref-4.ensures.value ∙ c.in_ok-lost.ensures ∙ c.deref-3.ensures.value
    ∙ sym c.deref.ensures.value) m))

pub prepare_change-requires-clause-fresh : goal.prepare_change-requires-clause-fresh
prepare_change-requires-clause-fresh c = λ row m.
    let s = c.args.stored.now in
    let rows = relation_at s c.args.stamp in
    let later : AllBefore s (c.args.stamp + 1) =
    all_later s c.args.stamp (c.args.stamp + 1) (omega arith) c.requires.before in
    has_not row_cmp row_exact row rows (in_all (λ (r : List Value). has row_cmp r rows ≡ false) row
    c.deref-2.result.now
    (c.are_fresh.ensures c.if-not-are_fresh.false c.args.stamp c.requires.valid later)
    (subst (λ (l : List (List Value)). In row l)
    (c.in_ok-given_rows.ensures ∙ c.deref-5.ensures.value ∙ sym c.deref-2.ensures.value) m))

pub returns-in_err-prepared-clause-later : goal.returns-in_err-prepared-clause-later
returns-in_err-prepared-clause-later c = λ m l.
    let same = c.prepare_change.ensures.same in
    same_before c.args.stored.now c.prepare_change.new.self m (ap (λ s. s.keys) same)
    (ap (λ s. s.cells) same) (all_later c.args.stored.now c.args.stamp m (omega arith)
    c.requires.before)
