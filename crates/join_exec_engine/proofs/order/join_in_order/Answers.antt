use Rattle.std.proofs.Common.{List, ◌++◌, map, sym, ap, ◌∙◌, subst}
use Rattle.std.specs.Borrow.{Bor}
use Rattle.std.specs.List.{filter}
use Rattle.std.proofs.lemmas.Result.{IfOk-weaker}
use Rattle.relations_spec.specs.Sets.{set_of}
use Rattle.relations_spec.specs.Choices.{choices}
use Rattle.prima_base.specs.declared.value.Value.{Value}
use Rattle.prima_base.specs.Order.{row_cmp}
use Rattle.cond_expr.specs.declared.expr.Column.{Column}
use Rattle.cond_expr.specs.declared.expr.Cond.{Cond}
use Rattle.cond_expr.specs.Seen.{tree, test}
use Rattle.join_exec_spec.specs.Keeping.{meets, borrowed_tests}
use Rattle.cond_expr.specs.Parts.{parts}
use Rattle.join_exec_spec.specs.Answering.{outputs, one_row}
use Rattle.join_exec_spec.specs.Blocks.{types_of}
use Rattle.join_exec_engine.proofs.AtomOrder.{types_is}
use Rattle.join_exec_engine.proofs.order.join_in_order.Goals as goal
use Rattle.join_exec_levels.specs.Sources.{SourcesBorrow, relations_of}
use Rattle.join_exec_engine.specs.Atoms.{blocks_of}

pub returns-clause-borrowed : goal.returns-clause-borrowed
returns-clause-borrowed c = λ which h. c.join_rows.ensures.borrowed which
    (subst (λ (cs : List Column). SourcesBorrow which cs c.in_ok-types.sources.items)
    (sym c.deref-3.ensures.value)
    (c.in_ok-types.ensures.borrowed which
    (c.in_ok-atoms.ensures.borrowed which (c.in_ok-left.ensures.borrowed which h))))

pub returns-clause-rows : goal.returns-clause-rows
returns-clause-rows c = λ m h. IfOk-weaker c.join_rows.result _ _
    (λ rows q. q
    ∙ ap (λ (cs : List Column). set_of row_cmp
    (map (outputs cs (map tree c.args.outs.now))
    (filter (meets cs (test c.args.cond.now))
    (map one_row (choices (relations_of c.in_ok-types.sources.items m))))))
    (c.deref-3.ensures.value ∙ c.in_ok-types.ensures.types
    ∙ types_is m c.in_ok-atoms.atoms.items)
    ∙ ap (λ (rs : List (List (List Value))). set_of row_cmp
    (map (outputs (types_of (blocks_of m c.in_ok-atoms.atoms.items)) (map tree c.args.outs.now))
    (filter (meets (types_of (blocks_of m c.in_ok-atoms.atoms.items)) (test c.args.cond.now))
    (map one_row (choices rs))))) (c.in_ok-types.ensures.rows m)
    ∙ c.in_ok-atoms.ensures.same (map tree c.args.outs.now) (test c.args.cond.now) m
    ∙ c.in_ok-left.ensures.same (map tree c.args.outs.now) (test c.args.cond.now)
    (ap borrowed_tests c.deref.ensures.value ∙ c.in_ok-gather_parts.ensures
    ∙ ap (λ (bs : List (Bor Cond)). borrowed_tests bs ++ parts (test c.args.cond.now))
    c.new-parts.ensures.items) m)
    (c.join_rows.ensures.rows m h)
