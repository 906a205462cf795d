use Rattle.std.proofs.Common.{◌≡◌, List, sym, ap, ◌∙◌, subst}
use Rattle.std.specs.List.{flat_map, filter}
use Rattle.std.specs.Ordering.{is_eq}
use Rattle.std.specs.BTreeMap.{get}
use Rattle.relations_spec.specs.Timed.{Entry}
use Rattle.prima_base.specs.declared.timed_row.TimedRow.{TimedRow}
use Rattle.prima_base.specs.declared.value.Value.{Value}
use Rattle.prima_base.specs.Order.{row_cmp}
use Rattle.prima_base.specs.Timed.{entry_of, entries_of}
use Rattle.join_exec_spec.specs.Choosing.{paired, pairs}
use Rattle.join_exec_spec.specs.Keeping.{values_at, agrees, passing, kept, in_group, borrowed_tests}
use Rattle.join_exec_spec.specs.Keeping.{AllValid}
use Rattle.join_exec_spec.specs.BorrowedOutputs.{RowBorrows, RowsBorrow}
use Rattle.join_exec_spec.proofs.Groups.{shown_kept}
use Rattle.join_exec_spec.proofs.JoinLaws.{fit_valid, fits, one_joined}
use Rattle.join_exec_spec.proofs.BorrowedLaws.{each_kept}
use Rattle.join_exec_spec.proofs.OneMore.{all_pairs}
use Rattle.join_exec_spec.proofs.Tests.{some_valid}
use Rattle.join_exec_levels.proofs.level.level_of.Goals as goal
use Rattle.join_exec_levels.proofs.level.level_of.Goals.{In_ok-groups}

-- the rows of a group are those that have its key
in_one : (c : In_ok-groups) (key : List Value)
    → in_group (get row_cmp c.in_ok-groups.groups key)
    ≡ filter (λ (t : TimedRow). is_eq (row_cmp
    (values_at c.in_ok-keys.keys.other.items (entry_of t).item) key)) c.args.source.rows.items
in_one c key = c.in_ok-groups.ensures key ∙ ap
    (λ other. filter (λ (t : TimedRow). is_eq (row_cmp (values_at other (entry_of t).item) key))
    c.args.source.rows.items) c.deref.ensures.value

shown_in_one : (c : In_ok-groups) (key : List Value)
    → entries_of (in_group (get row_cmp c.in_ok-groups.groups key))
    ≡ filter (λ (e : Entry (List Value)). is_eq
    (row_cmp (values_at c.in_ok-keys.keys.other.items e.item) key))
    (entries_of c.args.source.rows.items)
shown_in_one c key = ap entries_of (in_one c key)
    ∙ shown_kept (λ (e : Entry (List Value)).
    is_eq (row_cmp (values_at c.in_ok-keys.keys.other.items e.item) key)) c.args.source.rows.items

abbrev made_here : In_ok-groups → List (Entry (List Value)) → List (Entry (List Value))
made_here c ps = flat_map (λ (p : Entry (List Value)).
    flat_map (paired (passing c.args.columns.now (borrowed_tests c.in_ok-tests.tests.items)) p)
    (entries_of (in_group (get row_cmp c.in_ok-groups.groups
    (values_at c.in_ok-keys.keys.own.items p.item))))) ps

made : (c : In_ok-groups) (ps : List (Entry (List Value)))
    → made_here c ps ≡ pairs (kept c.args.columns.now c.in_ok-keys.keys.own.items
    c.in_ok-keys.keys.other.items (borrowed_tests c.in_ok-tests.tests.items)) ps
    (entries_of c.args.source.rows.items)
made c ps =
    all_pairs (agrees c.in_ok-keys.keys.own.items c.in_ok-keys.keys.other.items)
    (passing c.args.columns.now (borrowed_tests c.in_ok-tests.tests.items))
    (λ p. entries_of (in_group (get row_cmp c.in_ok-groups.groups
    (values_at c.in_ok-keys.keys.own.items p.item)))) ps (entries_of c.args.source.rows.items)
    (λ p. shown_in_one c (values_at c.in_ok-keys.keys.own.items p.item))

pub returns-clause-valid : goal.returns-clause-valid
returns-clause-valid c = λ key.
    subst AllValid (sym (shown_in_one (goal.at.returns-clause-valid c).In_ok-groups key))
    (some_valid (λ (e : Entry (List Value)). is_eq
    (row_cmp (values_at c.in_ok-keys.keys.other.items e.item) key))
    (entries_of c.args.source.rows.items)
    (fit_valid c.args.source.width (entries_of c.args.source.rows.items) c.args.source.fit))

pub returns-clause-borrowed : goal.returns-clause-borrowed
returns-clause-borrowed c = λ which own l key.
    subst (RowsBorrow which own) (sym (in_one (goal.at.returns-clause-borrowed c).In_ok-groups key))
    (each_kept (RowBorrows which own) (λ (t : TimedRow). is_eq (row_cmp
    (values_at c.in_ok-keys.keys.other.items (entry_of t).item) key)) c.args.source.rows.items l)

pub returns-clause-wide : goal.returns-clause-wide
returns-clause-wide c = λ ps f.
    let g = (goal.at.returns-clause-wide c).In_ok-groups in
    fits c.args.columns.now c.in_ok-keys.keys.own.items c.in_ok-keys.keys.other.items
    (borrowed_tests c.in_ok-tests.tests.items) c.args.taken c.args.source.width ps
    (entries_of c.args.source.rows.items) (made_here g ps) (made g ps) f c.args.source.fit

pub returns-clause-joined : goal.returns-clause-joined
returns-clause-joined c = λ ps f m rest.
    let g = (goal.at.returns-clause-joined c).In_ok-groups in
    one_joined c.args.columns.now c.in_ok-keys.keys.own.items c.in_ok-keys.keys.other.items
    (borrowed_tests c.in_ok-tests.tests.items) c.args.taken c.args.source.width ps
    (entries_of c.args.source.rows.items) (made_here g ps) (made g ps) f c.args.source.fit
    (borrowed_tests c.args.parts.now) c.in_ok-keys.ensures.same c.in_ok-tests.ensures m rest
