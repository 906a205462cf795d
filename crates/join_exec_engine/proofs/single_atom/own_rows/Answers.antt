use Rattle.std.proofs.Common.{◌∷◌, [], ◌∙◌, refl, sym}
use Rattle.std.proofs.lemmas.Result.{IfOk-weaker}
use Rattle.prima_base.specs.declared.timed_row.TimedRow.{TimedRow}
use Rattle.prima_base.specs.Timed.{entry_of}
use Rattle.cond_expr.specs.Seen.{test}
use Rattle.join_exec_spec.specs.Keeping.{meets_all}
use Rattle.join_exec_engine.proofs.OwnRows.{valid_by_values, kept_values, all_meet, passing_meet}
use Rattle.join_exec_engine.proofs.single_atom.own_rows.Goals as goal

pub passing-requires : goal.passing-requires
passing-requires c = valid_by_values c.args.rows.items c.cut_to_slice.new.rows.items
    c.cut_to_slice.ensures.values c.requires

pub returns-then-is_always-clause-rows : goal.returns-then-is_always-clause-rows
returns-then-is_always-clause-rows c = c.cut_to_slice.ensures.rows
    ∙ sym (all_meet c.args.columns.now (test c.args.cond.now)
    (λ row. c.is_always.ensures c.args.columns.now row c.if-is_always.true) _)

pub returns-clause-values : goal.returns-clause-values
returns-clause-values c = IfOk-weaker c.passing.result _ _
    (λ v q. kept_values (λ (t : TimedRow).
    meets_all c.args.columns.now (test c.args.cond.now ∷ []) (entry_of t).item) c.args.rows.items
    c.cut_to_slice.new.rows.items v.items c.cut_to_slice.ensures.values q)
    c.passing.ensures

pub returns-clause-rows : goal.returns-clause-rows
returns-clause-rows c = IfOk-weaker c.passing.result _ _
    (λ v q. passing_meet c.args.columns.now (test c.args.cond.now) (test c.args.cond.now ∷ []) refl
    c.cut_to_slice.new.rows.items v.items _ q c.cut_to_slice.ensures.rows)
    c.passing.ensures
