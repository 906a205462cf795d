use Rattle.std.proofs.Common.{List, ◌++◌, map, ap, ◌∙◌}
use Rattle.prima_base.specs.declared.value.Val.{Val}
use Rattle.prima_base.specs.Order.{shown, is_borrowed}
use Rattle.join_exec_spec.specs.BorrowedOutputs.{RowBorrows}
use Rattle.join_exec_spec.proofs.BorrowedLaws.{both_borrow, each_more}
use Rattle.join_exec_spec.proofs.Tests.{valid_of_both}
use Rattle.join_exec_levels.proofs.step.put_pair.Goals as goal

pub all_met-requires : goal.all_met-requires
all_met-requires c = valid_of_both c.deref-3.result.now (map shown c.args.choice.now.values.items)
    (map shown c.args.row.now.values.items)
    (ap (map shown) c.deref-3.ensures.value ∙ c.in_ok-values.ensures.values
    ∙ ap (λ (a : List Val). map shown a ++ map shown c.deref-2.result.now) c.deref.ensures.value
    ∙ ap (λ (a : List Val). map shown c.args.choice.now.values.items ++ map shown a)
    c.deref-2.ensures.value)
    c.requires.choice c.requires.row

pub returns-clause-borrowed : goal.returns-clause-borrowed
returns-clause-borrowed c = λ which before own h k l.
    each_more (RowBorrows which (before ++ own)) c.args.into.now.items c.push.new.self.items _
    c.in_ok-push.ensures.items h
    (both_borrow which before own c.args.choice.now.values.items c.args.row.now.values.items _
    (c.in_ok-values.ensures.values
    ∙ ap (λ (a : List Val). map shown a ++ map shown c.deref-2.result.now) c.deref.ensures.value
    ∙ ap (λ (a : List Val). map shown c.args.choice.now.values.items ++ map shown a)
    c.deref-2.ensures.value)
    (c.in_ok-values.ensures.same
    ∙ ap (λ (a : List Val). map is_borrowed a ++ map is_borrowed c.deref-2.result.now)
    c.deref.ensures.value
    ∙ ap (λ (a : List Val). map is_borrowed c.args.choice.now.values.items ++ map is_borrowed a)
    c.deref-2.ensures.value) k l)
