use Rattle.std.proofs.Common.{List, ◌++◌, map, sym, ap, ◌∙◌, subst}
use Rattle.relations_spec.specs.Timed.{Entry}
use Rattle.prima_base.specs.Order.{shown}
use Rattle.prima_base.specs.Timed.{entry_of, entries_of}
use Rattle.prima_base.specs.declared.value.Value.{Value}
use Rattle.prima_base.specs.declared.value.Val.{Val}
use Rattle.cond_expr.specs.Seen.{tree, test}
use Rattle.join_exec_spec.specs.Answering.{answer}
use Rattle.join_exec_spec.specs.BorrowedOutputs.{RowBorrows}
use Rattle.join_exec_spec.specs.Keeping.{IsValidRow}
use Rattle.join_exec_spec.proofs.BorrowedLaws.{each_at}
use Rattle.join_exec_spec.proofs.OneMore.{flat_more}
use Rattle.join_exec_spec.proofs.Tests.{valid_row}
use Rattle.join_exec_levels.proofs.answer.put_choice_answers.Goals as goal

pub put_choice_answer-requires : goal.put_choice_answer-requires
put_choice_answer-requires c =
    subst (λ (vs : List Val). IsValidRow (map shown vs)) (sym c.deref.ensures.value)
    (valid_row c.args.choices.now c.loop-choice.choice-index c.choice-item.result
    c.requires c.loop-choice-test.true c.choice-item.is)

pub loop-choice-preserved : goal.loop-choice-preserved
loop-choice-preserved c =
    let told = answer c.args.columns.now (map tree c.args.outs.now) (test c.args.cond.now) in
    let is = ap (λ (vs : List Val). told (record {
      item = map shown vs;
      period = c.choice-item.result.period;
    })) c.deref.ensures.value in
    record {
      rows = flat_more told entry_of c.args.choices.now c.loop-choice.choice-index
          c.choice-item.result (entries_of c.args.rows.now.items)
          (entries_of c.loop-choice.rows.items) (entries_of c.put_choice_answer.new.rows.items)
          c.loop-choice-test.true c.choice-item.is c.loop-choice.invariant.rows
          (c.in_ok-put_choice_answer.ensures.rows
          ∙ ap (λ (es : List (Entry (List Value))). entries_of c.loop-choice.rows.items ++ es) is);
      borrowed = λ which g h. c.in_ok-put_choice_answer.ensures.borrowed which
          (c.loop-choice.invariant.borrowed which g h)
          (subst (RowBorrows which c.args.columns.now) (sym c.deref.ensures.value)
          (each_at (RowBorrows which c.args.columns.now) c.args.choices.now
          c.loop-choice.choice-index c.choice-item.result
          c.loop-choice-test.true c.choice-item.is h));
    }
