use Rattle.std.proofs.Common.{sym, ◌≡◌, ◌++◌, [], ◌∷◌, List, length, ap, ◌∙◌, subst, arith}
use Rattle.relations_spec.specs.Timed.{Entry, at}
use Rattle.prima_base.specs.Order.{row_cmp}
use Rattle.prima_base.specs.declared.value.Value.{Value}
use Rattle.prima_base.specs.Timed.{entries_of, rows_at}
use Rattle.std.proofs.lemmas.List.{map-append}
use Rattle.join_exec_levels.specs.declared.source.Source.{Source}
use Rattle.join_exec_spec.specs.Fitting.{Fit}
use Rattle.cond_expr.specs.declared.expr.Column.{Column}
use Rattle.join_exec_spec.specs.BorrowedOutputs.{RowBorrows}
use Rattle.join_exec_levels.specs.Sources.{SourcesBorrow, relations_of}
use Rattle.join_exec_engine.proofs.AtomOrder.{sources_with}
use Rattle.join_exec_engine.proofs.TurnLaws.{fit_moved, at_moved, each_moved}
use Rattle.join_exec_engine.proofs.order.put_apart.Goals as goal

pub invariant_of-push_back : goal.invariant_of-push_back
invariant_of-push_back c = record {
  fit = (let e : length c.args.atom.columns.items ≡ c.len-width.result = omega arith in
      subst (λ n. Fit n (entries_of c.in_turn.result.items)) e
      (fit_moved c.in_ok-listed.field-0.items c.in_turn.result.items c.in_turn.ensures.same
      (length c.args.atom.columns.items)
      (subst (Fit (length c.args.atom.columns.items)) (sym c.in_ok-listed.ensures.entries)
      c.args.atom.fit)));
}

pub returns-clause-rows : goal.returns-clause-rows
returns-clause-rows c = λ m.
    ap (λ (ss : List Source). relations_of ss m) c.in_ok-push_back.ensures.items
    ∙ map-append (λ (s : Source). rows_at s.rows.items m) c.args.sources.now.items _
    ∙ ap (λ (rows : List (List Value)). relations_of c.args.sources.now.items m ++ rows ∷ [])
    (at_moved c.in_ok-listed.field-0.items c.in_turn.result.items c.in_turn.ensures.same m
    ∙ ap (λ (es : List (Entry (List Value))). at row_cmp es m) c.in_ok-listed.ensures.entries)

pub returns-clause-borrowed : goal.returns-clause-borrowed
returns-clause-borrowed c = λ which h k.
    subst (λ (cs : List Column). SourcesBorrow which cs c.push_back.new.self.items)
    (sym c.in_ok-append.ensures.items)
    (subst (SourcesBorrow which (c.args.types.now.items ++ c.args.atom.columns.items))
    (sym c.in_ok-push_back.ensures.items)
    (sources_with which c.args.types.now.items c.args.atom.columns.items c.args.sources.now.items _
    h
    (each_moved c.in_ok-listed.field-0.items c.in_turn.result.items c.in_turn.ensures.same
    (RowBorrows which c.args.atom.columns.items)
    (c.in_ok-listed.ensures.borrowed which c.args.atom.columns.items k))))
