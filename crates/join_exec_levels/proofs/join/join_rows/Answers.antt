use Rattle.std.proofs.Common.{◌≡◌, true, false, List, [], ◌++◌, map, refl, sym, ap, ◌∙◌, subst}
use Rattle.std.specs.Borrow.{Bor}
use Rattle.std.specs.List.{filter}
use Rattle.relations_spec.specs.Timed.{Entry, held_at, at}
use Rattle.prima_base.specs.declared.timed_row.TimedRow.{TimedRow}
use Rattle.prima_base.specs.declared.value.Value.{Value}
use Rattle.prima_base.specs.Order.{row_cmp}
use Rattle.prima_base.specs.Timed.{entries_of, rows_at}
use Rattle.cond_expr.specs.declared.expr.Cond.{Cond}
use Rattle.cond_expr.specs.Parts.{parts}
use Rattle.cond_expr.specs.Seen.{tree, test}
use Rattle.join_exec_spec.specs.Answering.{answers}
use Rattle.join_exec_spec.specs.BorrowedOutputs.{RowsBorrow, AllStayBorrowed}
use Rattle.join_exec_spec.specs.Choosing.{complete_choices}
use Rattle.join_exec_spec.specs.Keeping.{meets_all, borrowed_tests, AllValid}
use Rattle.join_exec_spec.proofs.JoinLaws.{fit_valid, start_held}
use Rattle.join_exec_levels.specs.declared.level.Level.{Level}
use Rattle.join_exec_levels.specs.Levels.{made_through, AreValidLevels, LevelsBorrow}
use Rattle.join_exec_levels.specs.Sources.{held_of}
use Rattle.join_exec_levels.proofs.Answered.{all_answered}
use Rattle.join_exec_levels.proofs.LevelLaws.{told_at, none_fits, nothing_at}
use Rattle.join_exec_levels.proofs.join.join_rows.Goals as goal

pub answer_levels-requires-clause-choices : goal.answer_levels-requires-clause-choices
answer_levels-requires-clause-choices c =
    subst (λ (rows : List TimedRow). AllValid (entries_of rows)) (sym c.deref-3.ensures.value)
    (fit_valid 0 (entries_of c.in_ok-first.first.items)
    (none_fits c.args.slice (entries_of c.in_ok-first.first.items) c.in_ok-first.ensures.rows))

pub answer_levels-requires-clause-levels : goal.answer_levels-requires-clause-levels
answer_levels-requires-clause-levels c = subst AreValidLevels (sym c.deref-2.ensures.value)
    c.in_ok-levels.ensures.valid

pub returns-clause-borrowed : goal.returns-clause-borrowed
returns-clause-borrowed c = λ which h.
    c.in_ok-answer_levels.ensures.borrowed which [] c.args.columns.now refl
    (subst (AllStayBorrowed which (map tree c.args.outs.now)) (sym c.none_yet-answered.ensures) tt)
    (subst (RowsBorrow which []) (sym c.deref-3.ensures.value)
    (c.in_ok-first.ensures.borrowed which))
    (subst (LevelsBorrow which c.args.columns.now) (sym c.deref-2.ensures.value)
    (c.in_ok-levels.ensures.borrowed which c.args.columns.now h))

pub returns-clause-inside : goal.returns-clause-inside
returns-clause-inside c = λ m h.
    c.in_ok-answer_levels.ensures.inside m
    (ap (λ (rows : List TimedRow). held_at (entries_of rows) m) c.deref-3.ensures.value
    ∙ start_held (entries_of c.in_ok-first.first.items) c.args.slice m false
    c.in_ok-first.ensures.rows h)
    (ap (λ (rows : List TimedRow). rows_at rows m) c.none_yet-answered.ensures ∙ nothing_at m)

pub returns-clause-rows : goal.returns-clause-rows
returns-clause-rows c = λ m h.
    let cs = c.args.columns.now in
    let outs = map tree c.args.outs.now in
    let cond = test c.args.cond.now in
    let ps = borrowed_tests c.deref.result.now in
    let es : List (Entry (List Value)) = entries_of c.in_ok-first.first.items in
    let levels : List Level = c.in_ok-levels.levels.items in
    let gathered : ps ≡ parts cond = ap borrowed_tests c.deref.ensures.value
    ∙ c.in_ok-gather_parts.ensures ∙ ap (λ (bs : List (Bor Cond)).
    borrowed_tests bs ++ parts cond) c.new-parts.ensures.items in
    c.in_ok-answer_levels.ensures.rows m h
    ∙ ap (λ (rows : List TimedRow). at row_cmp
    (entries_of rows ++ answers cs outs cond
    (made_through cs c.deref-2.result.now (entries_of c.deref-3.result.now))) m)
    c.none_yet-answered.ensures
    ∙ ap (λ (ls : List Level). at row_cmp (answers cs outs cond
    (made_through cs ls (entries_of c.deref-3.result.now))) m) c.deref-2.ensures.value
    ∙ ap (λ (rows : List TimedRow). at row_cmp
    (answers cs outs cond (made_through cs levels (entries_of rows))) m) c.deref-3.ensures.value
    ∙ told_at cs outs cond (made_through cs levels es) m
    ∙ all_answered cs outs cond ps gathered c.args.sources.items m
    (held_at (made_through cs levels es) m)
    (c.in_ok-levels.ensures.joined es (none_fits c.args.slice es c.in_ok-first.ensures.rows) m
    ∙ ap (λ (xs : List (List Value)). filter (meets_all cs ps)
    (complete_choices xs (held_of c.args.sources.items m)))
    (start_held es c.args.slice m true c.in_ok-first.ensures.rows h))
