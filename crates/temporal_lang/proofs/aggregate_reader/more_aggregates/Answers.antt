use Rattle.std.proofs.Common.{[], ◌∷◌, ◌++◌, sym, ◌∙◌, append-nil, arith}
use Rattle.std.proofs.lemmas.Result.{err_from_is_err_and}
use Rattle.lexer_combinators.specs.Reads.{ahead}
use Rattle.lexer_combinators.proofs.ReadSteps.{after, after_fails}
use Rattle.temporal_lang_grammar_spec.proofs.CountedLists.{grown}
use Rattle.temporal_lang_grammar_spec.specs.AggregateReader.{agg}
use Rattle.temporal_lang_grammar_spec.proofs.AggregateSteps.{aggs_first, aggs_full, aggs_done}
use Rattle.temporal_lang_grammar_spec.proofs.AggregateSteps.{aggs_next, aggs_err}
use Rattle.temporal_lang.proofs.aggregate_reader.more_aggregates.Goals as goal

pub loop-left-init : goal.loop-left-init
loop-left-init c = (
  omega arith,
  [],
  sym (append-nil c.args.list.now.items),
  aggs_first 7 c.args.c.now.nodes (ahead c.args.c.now),
)

pub loop-left-preserved : goal.loop-left-preserved
loop-left-preserved c =
    let inv = c.loop-left.invariant in
    let x = c.in_ok-aggregate.field-0 in (
      omega arith,
      inv.1 ++ x ∷ [],
      grown c.args.list.now.items inv.1 _ _ x c.in_ok-push.ensures.items inv.2,
      aggs_next _ inv.1 c.loop-left.left c.loop-left.c.nodes (ahead c.loop-left.c) inv.3 x
          c.aggregate.new.c.nodes (ahead c.aggregate.new.c) (omega arith)
          (sym c.sees_sign.ensures ∙ c.loop-left-test.true)
          (after agg _ c.loop-left.c.nodes c.skip.new.self.nodes (ahead c.loop-left.c)
          (ahead c.skip.new.self) c.skip.ensures.nodes c.skip.ensures.rest
          c.in_ok-aggregate.ensures),
    )

pub returns-in_err-aggregate : goal.returns-in_err-aggregate
returns-in_err-aggregate c =
    let inv = c.loop-left.invariant in
    let failed = aggs_err _ inv.1 c.loop-left.left c.loop-left.c.nodes (ahead c.loop-left.c) inv.3
    c.in_err-aggregate.field-0.0 c.aggregate.new.c (omega arith)
    (sym c.sees_sign.ensures ∙ c.loop-left-test.true)
    (after_fails agg c.in_err-aggregate.field-0.0 c.aggregate.new.c c.loop-left.c.nodes
    c.skip.new.self.nodes (ahead c.loop-left.c) (ahead c.skip.new.self) c.skip.ensures.nodes
    c.skip.ensures.rest c.in_err-aggregate.ensures) in
    let f = err_from_is_err_and c.from_residual.result c.from_residual.ensures.1 in
    rw (f.1, f.2) failed

pub returns-then-left-eq0 : goal.returns-then-left-eq0
returns-then-left-eq0 c =
    let inv = c.loop-left.invariant in (
      inv.1,
      aggs_full _ inv.1 c.loop-left.left c.loop-left.c.nodes (ahead c.loop-left.c) inv.3
          c.if-left-eq0.true,
      inv.2,
    )

pub returns : goal.returns
returns c =
    let inv = c.loop-left.invariant in (
      inv.1,
      aggs_done _ inv.1 c.loop-left.left c.loop-left.c.nodes (ahead c.loop-left.c) inv.3
          (sym c.sees_sign.ensures ∙ c.loop-left-test.false),
      inv.2,
    )
