use Rattle.std.proofs.Common.{◌≡◌, List, [], ◌++◌, map, sym, ap, ◌∙◌, subst}
use Rattle.std.specs.List.{flat_map}
use Rattle.std.specs.Option.{option_copied}
use Rattle.std.specs.BTreeMap.{get}
use Rattle.std.proofs.lemmas.List.{append-nil}
use Rattle.std.proofs.lemmas.Result.{on_ok_weaker}
use Rattle.prima_base.specs.declared.timed_row.TimedRow.{TimedRow}
use Rattle.prima_base.specs.declared.value.Value.{Value}
use Rattle.prima_base.specs.declared.value.Val.{Val}
use Rattle.prima_base.specs.Order.{row_cmp, shown}
use Rattle.prima_base.specs.Timed.{entry_of, entries_of}
use Rattle.join_exec_spec.specs.BorrowedOutputs.{RowsBorrow}
use Rattle.join_exec_spec.specs.Choosing.{paired}
use Rattle.join_exec_spec.specs.Keeping.{values_at, passing, in_group, borrowed_tests, AllValid}
use Rattle.join_exec_levels.proofs.step.put_choice.Goals as goal

pub put_runs-requires-clause-rows : goal.put_runs-requires-clause-rows
put_runs-requires-clause-rows c =
    subst (λ (rows : List TimedRow). AllValid (entries_of rows)) (sym c.runs.ensures)
    (subst (λ (rows : List TimedRow). AllValid (entries_of rows))
    (ap in_group (sym c.get.ensures.value ∙ ap option_copied c.in-Some.is))
    (c.requires.rows c.of-key.result))

pub returns-in-Some-clause-rows : goal.returns-in-Some-clause-rows
returns-in-Some-clause-rows c =
    let key = values_at c.args.own.now (map shown c.args.choice.now.values.items) in
    let here : c.in-Some.group.now ≡ in_group (get row_cmp c.args.groups.now key) =
    ap in_group (sym (sym c.get.ensures.value ∙ ap option_copied c.in-Some.is))
    ∙ ap (λ (k : List Value). in_group (get row_cmp c.args.groups.now k))
    (c.of-key.ensures ∙ c.in_ok-values.ensures.values
    ∙ ap (λ (vs : List Val). values_at c.args.own.now (map shown vs)) c.deref.ensures.value) in
    on_ok_weaker c.put_runs.result
    (λ q. q
    ∙ ap (λ (rows : List TimedRow). entries_of c.args.into.now.items
    ++ flat_map (paired (passing c.args.columns.now (borrowed_tests c.args.tests.now))
    (entry_of c.args.choice.now)) (entries_of rows)) (c.runs.ensures ∙ here))
    c.put_runs.ensures.rows

pub returns-clause-rows : goal.returns-clause-rows
returns-clause-rows c =
    let here : [] ≡ in_group (get row_cmp c.args.groups.now
    (values_at c.args.own.now (map shown c.args.choice.now.values.items))) =
    ap in_group (sym (sym c.get.ensures.value ∙ ap option_copied c.in-None.is))
    ∙ ap (λ (k : List Value). in_group (get row_cmp c.args.groups.now k))
    (c.of-key.ensures ∙ c.in_ok-values.ensures.values
    ∙ ap (λ (vs : List Val). values_at c.args.own.now (map shown vs)) c.deref.ensures.value) in
    sym (append-nil (entries_of c.args.into.now.items))
    ∙ ap (λ (rows : List TimedRow). entries_of c.args.into.now.items
    ++ flat_map (paired (passing c.args.columns.now (borrowed_tests c.args.tests.now))
    (entry_of c.args.choice.now)) (entries_of rows)) here

pub returns-in-Some-clause-borrowed : goal.returns-in-Some-clause-borrowed
returns-in-Some-clause-borrowed c = λ which before own h k l.
    c.put_runs.ensures.borrowed which before own h k
    (subst (RowsBorrow which own) (sym c.runs.ensures)
    (subst (RowsBorrow which own)
    (ap in_group (sym c.get.ensures.value ∙ ap option_copied c.in-Some.is)) (l c.of-key.result)))
