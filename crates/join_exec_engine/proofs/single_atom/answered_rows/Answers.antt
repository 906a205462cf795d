use Rattle.std.proofs.Common.{◌∙◌, map, length}
use Rattle.std.proofs.lemmas.Result.{IfOk-weaker}
use Rattle.prima_base.specs.Timed.{entries_of}
use Rattle.cond_expr.specs.Seen.{tree, test}
use Rattle.join_exec_spec.proofs.JoinLaws.{fit_valid}
use Rattle.join_exec_engine.proofs.OwnRows.{own_answers, own_borrowed}
use Rattle.join_exec_engine.proofs.single_atom.answered_rows.Goals as goal

pub own_rows-requires : goal.own_rows-requires
own_rows-requires c = fit_valid (length c.args.columns.now) (entries_of c.args.rows.items)
    c.requires

pub made_rows-requires : goal.made_rows-requires
made_rows-requires c = fit_valid (length c.args.columns.now) (entries_of c.args.rows.items)
    c.requires

pub returns-then-are_columns-clause-rows : goal.returns-then-are_columns-clause-rows
returns-then-are_columns-clause-rows c = IfOk-weaker c.own_rows.result _ _
    (λ v q. q ∙ own_answers c.args.columns.now (map tree c.args.outs.now) (test c.args.cond.now)
    c.args.slice (entries_of c.args.rows.items)
    (λ e i. c.are_columns.ensures c.if-are_columns.true e.item (c.requires e i).0))
    c.own_rows.ensures.rows

pub returns-then-are_columns-clause-borrowed : goal.returns-then-are_columns-clause-borrowed
returns-then-are_columns-clause-borrowed c = λ which h. IfOk-weaker c.own_rows.result _ _
    (λ v q. own_borrowed which c.args.columns.now (map tree c.args.outs.now) c.args.rows.items
    v.items (c.are_columns.ensures c.if-are_columns.true) q h)
    c.own_rows.ensures.values
