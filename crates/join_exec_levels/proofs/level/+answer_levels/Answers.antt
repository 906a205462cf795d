use Rattle.std.proofs.Common.{◌≡◌, ◌<◌, ◌++◌, ◌-◌, ◌∷◌, ℕ, List, [], map, take, drop, length}
use Rattle.std.proofs.Common.{get_or}
use Rattle.std.proofs.Common.{append_assoc, append-nil, sym, ap, ◌∙◌, subst, take_all, arith}
use Rattle.std.specs.List.{flat_map}
use Rattle.relations_spec.specs.Timed.{Entry, held_at, at}
use Rattle.prima_base.specs.declared.timed_row.TimedRow.{TimedRow}
use Rattle.prima_base.specs.declared.value.Value.{Value}
use Rattle.prima_base.specs.Order.{row_cmp}
use Rattle.prima_base.specs.Timed.{entry_of, entries_of}
use Rattle.cond_expr.specs.Seen.{tree, test}
use Rattle.join_exec_spec.specs.Answering.{answers}
use Rattle.cond_expr.specs.declared.expr.Column.{Column}
use Rattle.join_exec_spec.specs.BorrowedOutputs.{RowBorrows, RowsBorrow}
use Rattle.join_exec_spec.proofs.BorrowedLaws.{each_at}
use Rattle.join_exec_spec.proofs.Tests.{valid_row}
use Rattle.join_exec_levels.specs.declared.level.Level.{Level}
use Rattle.join_exec_levels.specs.Levels.{made_beside, made_through, AreValidLevels, LevelsBorrow}
use Rattle.join_exec_levels.proofs.LevelLaws.{nothing_left}
use Rattle.join_exec_levels.proofs.LevelLaws.{first_and_rest, rest_shorter, made_here, valid_beside}
use Rattle.join_exec_levels.proofs.LevelLaws.{of_choice, one_choice, each_choice, none_beside}
use Rattle.join_exec_levels.proofs.level.+answer_levels.Goals as goal

abbrev rest_of : List Level → List Level
rest_of levels = take (length levels - 1) (drop 1 levels)

pub put_choice-requires-clause-choice : goal.put_choice-requires-clause-choice
put_choice-requires-clause-choice t c = valid_row c.args.choices.now c.loop-choice.choice-index
    c.choice-item.result c.requires.choices c.loop-choice-test.true c.choice-item.is

pub put_choice-requires-clause-rows : goal.put_choice-requires-clause-rows
put_choice-requires-clause-rows t c =
    let some : 0 < length c.args.levels.now =
    (let k = c.in-len1-up.len_at_least in omega (arith, k)) in
    (subst AreValidLevels (sym (first_and_rest c.args.levels.now c.level-item.result some
    c.level-item.is)) c.requires.levels).0

pub answer_levels-requires : goal.answer_levels-requires
answer_levels-requires t c =
    let cs = c.args.columns.now in
    let level : Level = c.level-item.result in
    let choice : TimedRow = c.choice-item.result in
    let some : 0 < length c.args.levels.now =
    (let k = c.in-len1-up.len_at_least in omega (arith, k)) in
    let both : level ∷ rest_of c.args.levels.now ≡ c.args.levels.now =
    first_and_rest c.args.levels.now level some c.level-item.is in
    let valid = subst AreValidLevels (sym both) c.requires.levels in
    let made : entries_of c.deref-in-loop-choice-2.result.now
    ≡ made_beside cs level (entry_of choice) =
    made_here cs level choice c.deref.result.now c.deref-in-loop-choice.result.now
    c.new-made.result.items c.put_choice.new.into.items c.deref-in-loop-choice-2.result.now
    c.deref.ensures.value c.deref-in-loop-choice.ensures.value c.new-made.ensures.items
    c.in_ok-put_choice-in-len1-up.ensures.rows c.deref-in-loop-choice-2.ensures.value in (
      (let less : length (rest_of c.args.levels.now) < length c.args.levels.now =
          rest_shorter c.args.levels.now (rest_of c.args.levels.now) level both in
          omega (arith, less)),
      (
        valid_beside cs level choice c.deref-in-loop-choice-2.result.now made
            (valid_row c.args.choices.now c.loop-choice.choice-index choice c.requires.choices
            c.loop-choice-test.true c.choice-item.is) valid.0,
        valid.1,
      ),
    )

pub loop-choice-preserved : goal.loop-choice-preserved
loop-choice-preserved t c =
    let cs = c.args.columns.now in
    let outs = map tree c.args.outs.now in
    let cond = test c.args.cond.now in
    let level : Level = c.level-item.result in
    let choice : TimedRow = c.choice-item.result in
    let i : ℕ = c.loop-choice.choice-index in
    let below : i < length c.args.choices.now = c.loop-choice-test.true in
    let is : choice ≡ get_or c.args.choices.now i choice = c.choice-item.is in
    let made : entries_of c.deref-in-loop-choice-2.result.now
    ≡ made_beside cs level (entry_of choice) =
    made_here cs level choice c.deref.result.now c.deref-in-loop-choice.result.now
    c.new-made.result.items c.put_choice.new.into.items c.deref-in-loop-choice-2.result.now
    c.deref.ensures.value c.deref-in-loop-choice.ensures.value c.new-made.ensures.items
    c.in_ok-put_choice-in-len1-up.ensures.rows c.deref-in-loop-choice-2.ensures.value in
    record {
      borrowed = λ which before own after e h l one others.
          c.in_ok-answer_levels-in-len1-up.ensures.borrowed which (before ++ own) after e
          (c.loop-choice.invariant.borrowed which before own after e h l one others)
          (subst (RowsBorrow which (before ++ own)) (sym c.deref-in-loop-choice-2.ensures.value)
          (c.in_ok-put_choice-in-len1-up.ensures.borrowed which before own
          (subst (RowsBorrow which (before ++ own)) (sym c.new-made.ensures.items) tt)
          (each_at (RowBorrows which before) c.args.choices.now i choice below is l) one))
          others;
      rows = λ m h.
          one_choice cs outs cond level (rest_of c.args.levels.now) c.args.choices.now i choice
          (entries_of c.args.answered.now.rows.items)
          (entries_of c.loop-choice.answered.rows.items) c.deref-in-loop-choice-2.result.now _ m
          below is made
          (c.loop-choice.invariant.rows m h) (c.in_ok-answer_levels-in-len1-up.ensures.rows m h);
      inside = λ m none before.
          c.in_ok-answer_levels-in-len1-up.ensures.inside m
          (ap (λ (es : List (Entry (List Value))). held_at es m) made
          ∙ none_beside cs level c.args.choices.now i choice m below is none)
          (c.loop-choice.invariant.inside m none before);
    }

pub returns-in-empty-clause-borrowed : goal.returns-in-empty-clause-borrowed
returns-in-empty-clause-borrowed t c = λ which before after e h l levels.
    let none : c.args.levels.now ≡ [] =
    nothing_left c.args.levels.now (let k = c.in-empty.len_below in omega (arith, k)) in
    let last : after ≡ [] = subst (LevelsBorrow which after) none levels in
    c.answer_made.ensures.borrowed which h
    (subst (λ (cs : List Column). RowsBorrow which cs c.args.choices.now)
    (sym (e ∙ ap (λ (cs : List Column). before ++ cs) last ∙ append-nil before)) l)

pub returns-after-loop-choice-clause-borrowed : goal.returns-after-loop-choice-clause-borrowed
returns-after-loop-choice-clause-borrowed t c = λ which before after e h l levels.
    let some : 0 < length c.args.levels.now =
    (let k = c.in-len1-up.len_at_least in omega (arith, k)) in
    let r = subst (LevelsBorrow which after) (sym (first_and_rest c.args.levels.now
    c.level-item.result some c.level-item.is)) levels in
    c.loop-choice.invariant.borrowed which before r.0 r.1
    (e ∙ ap (λ (cs : List Column). before ++ cs) r.2 ∙ sym (append_assoc before r.0 r.1)) h l
    r.3 r.4

pub returns-after-loop-choice-clause-rows : goal.returns-after-loop-choice-clause-rows
returns-after-loop-choice-clause-rows t c = λ m h.
    let cs = c.args.columns.now in
    let outs = map tree c.args.outs.now in
    let cond = test c.args.cond.now in
    let level : Level = c.level-item.result in
    let start : List (Entry (List Value)) = entries_of c.args.answered.now.rows.items in
    let some : 0 < length c.args.levels.now =
    (let k = c.in-len1-up.len_at_least in omega (arith, k)) in
    let both : level ∷ rest_of c.args.levels.now ≡ c.args.levels.now =
    first_and_rest c.args.levels.now level some c.level-item.is in
    c.loop-choice.invariant.rows m h
    ∙ ap (λ (rows : List TimedRow). at row_cmp
    (start ++ flat_map (of_choice cs outs cond level (rest_of c.args.levels.now))
    (entries_of rows)) m) (take_all c.loop-choice.choice-index c.args.choices.now (omega arith))
    ∙ ap (λ (es : List (Entry (List Value))). at row_cmp (start ++ es) m)
    (each_choice cs outs cond level (rest_of c.args.levels.now) (entries_of c.args.choices.now))
    ∙ ap (λ (levels : List Level). at row_cmp
    (start ++ answers cs outs cond (made_through cs levels (entries_of c.args.choices.now))) m)
    both
