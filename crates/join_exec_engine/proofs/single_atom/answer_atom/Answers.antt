use Rattle.std.proofs.Common.{◌∷◌, ◌++◌, [], List, map, length, sym, ap, ◌∙◌, subst}
use Rattle.std.specs.List.{filter}
use Rattle.std.proofs.lemmas.Result.{IfOk-weaker}
use Rattle.relations_spec.specs.Choices.{choices}
use Rattle.relations_spec.specs.Sets.{set_of}
use Rattle.relations_spec.specs.Timed.{Entry, at}
use Rattle.prima_base.specs.declared.value.Value.{Value}
use Rattle.prima_base.specs.Order.{row_cmp}
use Rattle.prima_base.specs.Timed.{entries_of}
use Rattle.cond_expr.specs.declared.expr.Column.{Column}
use Rattle.cond_expr.specs.Seen.{tree, test}
use Rattle.join_exec_spec.specs.Answering.{one_row, outputs}
use Rattle.join_exec_spec.specs.Fitting.{Fit}
use Rattle.join_exec_spec.specs.Keeping.{meets}
use Rattle.join_exec_spec.specs.BorrowedOutputs.{RowsBorrow}
use Rattle.join_exec_engine.proofs.SingleAtoms.{answered_at, unanswered_at}
use Rattle.join_exec_engine.proofs.single_atom.answer_atom.Goals as goal

pub answered_rows-requires : goal.answered_rows-requires
answered_rows-requires c = subst (λ (cs : List Column).
    Fit (length cs) (entries_of c.args.atom.rows.items)) (sym c.deref.ensures.value) c.args.atom.fit

pub returns-clause-borrowed : goal.returns-clause-borrowed
returns-clause-borrowed c = λ which l. c.answered_rows.ensures.borrowed which
    (subst (λ (cs : List Column). RowsBorrow which cs c.args.atom.rows.items)
    (sym c.deref.ensures.value) l)

pub returns-clause-inside : goal.returns-clause-inside
returns-clause-inside c = λ m h. IfOk-weaker c.answered_rows.result _ _
    (λ rows q. ap (λ (es : List (Entry (List Value))). at row_cmp es m) q
    ∙ unanswered_at c.deref.result.now (map tree c.args.outs.now) (test c.args.cond.now)
    c.args.slice (entries_of c.args.atom.rows.items) m h)
    c.answered_rows.ensures.rows

pub returns-clause-rows : goal.returns-clause-rows
returns-clause-rows c = λ m h. IfOk-weaker c.answered_rows.result _ _
    (λ rows q. ap (λ (es : List (Entry (List Value))). at row_cmp es m) q
    ∙ answered_at c.deref.result.now (map tree c.args.outs.now) (test c.args.cond.now) c.args.slice
    (entries_of c.args.atom.rows.items) m h
    ∙ ap (λ (cs : List Column). set_of row_cmp
    (map (outputs (cs ++ []) (map tree c.args.outs.now))
    (filter (meets (cs ++ []) (test c.args.cond.now))
    (map one_row (choices (at row_cmp (entries_of c.args.atom.rows.items) m ∷ []))))))
    c.deref.ensures.value)
    c.answered_rows.ensures.rows
