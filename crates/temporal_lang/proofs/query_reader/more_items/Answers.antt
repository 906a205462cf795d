use Rattle.std.proofs.Common.{[], ◌∷◌, ◌++◌, sym, ◌∙◌, append-nil, codes, arith}
use Rattle.std.proofs.lemmas.Result.{err_from_is_err_and}
use Rattle.prima_base.specs.declared.refusal.What.TheVariants.{Tables}
use Rattle.lexer_spec.specs.Lexemes.{is_sign}
use Rattle.lexer_combinators.specs.Parsing.{more}
use Rattle.lexer_combinators.specs.Reads.{ahead}
use Rattle.lexer_combinators.proofs.ReadSteps.{after, after_fails, prepend_none, more_next}
use Rattle.lexer_combinators.proofs.ReadSteps.{more_err, more_full, more_done}
use Rattle.temporal_lang_grammar_spec.proofs.CountedLists.{grown}
use Rattle.temporal_lang_grammar_spec.specs.QueryReader.{item}
use Rattle.temporal_lang.proofs.query_reader.more_items.Goals as goal

pub loop-alloc-init : goal.loop-alloc-init
loop-alloc-init c = (
  omega arith,
  [],
  sym (append-nil c.args.list.now.items),
  prepend_none (more (is_sign (codes ",")) Tables item 7 c.args.c.now.nodes (ahead c.args.c.now)),
)

pub loop-alloc-preserved : goal.loop-alloc-preserved
loop-alloc-preserved c =
    let inv = c.loop-alloc.invariant in
    let x = c.in_ok-item.field-0 in (
      omega arith,
      inv.1 ++ x ∷ [],
      grown c.args.list.now.items inv.1 _ _ x c.in_ok-push.ensures.items inv.2,
      more_next (is_sign (codes ",")) Tables item _ inv.1 c.loop-alloc.left c.loop-alloc.c.nodes
          (ahead c.loop-alloc.c) inv.3 x c.item.new.c.nodes (ahead c.item.new.c) (omega arith)
          (sym c.sees_sign.ensures ∙ c.loop-alloc-test.true)
          (after item _ c.loop-alloc.c.nodes c.skip.new.self.nodes (ahead c.loop-alloc.c)
          (ahead c.skip.new.self) c.skip.ensures.nodes c.skip.ensures.rest
          c.in_ok-item.ensures),
    )

pub returns-in_err-item : goal.returns-in_err-item
returns-in_err-item c =
    let inv = c.loop-alloc.invariant in
    let failed = more_err (is_sign (codes ",")) Tables item _ inv.1 c.loop-alloc.left
    c.loop-alloc.c.nodes (ahead c.loop-alloc.c) inv.3 c.in_err-item.field-0.0 c.item.new.c
    (omega arith) (sym c.sees_sign.ensures ∙ c.loop-alloc-test.true)
    (after_fails item c.in_err-item.field-0.0 c.item.new.c c.loop-alloc.c.nodes
    c.skip.new.self.nodes (ahead c.loop-alloc.c) (ahead c.skip.new.self) c.skip.ensures.nodes
    c.skip.ensures.rest c.in_err-item.ensures) in
    let f = err_from_is_err_and c.from_residual.result c.from_residual.ensures.1 in
    rw (f.1, f.2) failed

pub returns-then-left-eq0 : goal.returns-then-left-eq0
returns-then-left-eq0 c =
    let inv = c.loop-alloc.invariant in
    more_full (is_sign (codes ",")) Tables item _ inv.1 c.loop-alloc.left c.loop-alloc.c.nodes
    (ahead c.loop-alloc.c) inv.3 c.if-left-eq0.true
    (sym c.sees_sign.ensures ∙ c.loop-alloc-test.true)

pub returns : goal.returns
returns c =
    let inv = c.loop-alloc.invariant in (
      inv.1,
      more_done (is_sign (codes ",")) Tables item _ inv.1 c.loop-alloc.left
          c.loop-alloc.c.nodes (ahead c.loop-alloc.c) inv.3
          (sym c.sees_sign.ensures ∙ c.loop-alloc-test.false),
      inv.2,
    )
