use Rattle.std.proofs.Common.{[], ◌∷◌, ◌++◌, sym, ◌∙◌, append-nil, codes, arith}
use Rattle.std.proofs.lemmas.Result.{err_from_is_err_and}
use Rattle.prima_base.specs.declared.refusal.What.TheVariants.{Keeps}
use Rattle.lexer_spec.specs.Lexemes.{is_word}
use Rattle.lexer_combinators.specs.Parsing.{more}
use Rattle.lexer_combinators.specs.Reads.{ahead}
use Rattle.lexer_combinators.proofs.ReadSteps.{after, after_fails, prepend_none, more_next}
use Rattle.lexer_combinators.proofs.ReadSteps.{more_err, more_full, more_done}
use Rattle.temporal_lang_grammar_spec.proofs.CountedLists.{grown}
use Rattle.temporal_lang_grammar_spec.specs.QueryReader.{keep}
use Rattle.temporal_lang.proofs.when_reader.more_keeps.Goals as goal

pub loop-left-init : goal.loop-left-init
loop-left-init c = (
  omega arith,
  [],
  sym (append-nil c.args.list.now.items),
  prepend_none (more (is_word (codes "AND")) Keeps keep 7 c.args.c.now.nodes
      (ahead c.args.c.now)),
)

pub loop-left-preserved : goal.loop-left-preserved
loop-left-preserved c =
    let inv = c.loop-left.invariant in
    let x = c.in_ok-keep.field-0 in (
      omega arith,
      inv.1 ++ x ∷ [],
      grown c.args.list.now.items inv.1 _ _ x c.in_ok-push.ensures.items inv.2,
      more_next (is_word (codes "AND")) Keeps keep _ inv.1 c.loop-left.left c.loop-left.c.nodes
          (ahead c.loop-left.c) inv.3 x c.keep.new.c.nodes (ahead c.keep.new.c) (omega arith)
          (sym c.sees_word.ensures ∙ c.loop-left-test.true)
          (after keep _ c.loop-left.c.nodes c.skip.new.self.nodes (ahead c.loop-left.c)
          (ahead c.skip.new.self) c.skip.ensures.nodes c.skip.ensures.rest
          c.in_ok-keep.ensures),
    )

pub returns-in_err-keep : goal.returns-in_err-keep
returns-in_err-keep c =
    let inv = c.loop-left.invariant in
    let failed = more_err (is_word (codes "AND")) Keeps keep _ inv.1 c.loop-left.left
    c.loop-left.c.nodes (ahead c.loop-left.c) inv.3 c.in_err-keep.field-0.0 c.keep.new.c
    (omega arith) (sym c.sees_word.ensures ∙ c.loop-left-test.true)
    (after_fails keep c.in_err-keep.field-0.0 c.keep.new.c c.loop-left.c.nodes c.skip.new.self.nodes
    (ahead c.loop-left.c) (ahead c.skip.new.self) c.skip.ensures.nodes c.skip.ensures.rest
    c.in_err-keep.ensures) in
    let f = err_from_is_err_and c.from_residual.result c.from_residual.ensures.1 in
    rw (f.1, f.2) failed

pub returns-then-left-eq0 : goal.returns-then-left-eq0
returns-then-left-eq0 c =
    let inv = c.loop-left.invariant in
    more_full (is_word (codes "AND")) Keeps keep _ inv.1 c.loop-left.left c.loop-left.c.nodes
    (ahead c.loop-left.c) inv.3 c.if-left-eq0.true
    (sym c.sees_word.ensures ∙ c.loop-left-test.true)

pub returns : goal.returns
returns c =
    let inv = c.loop-left.invariant in (
      inv.1,
      more_done (is_word (codes "AND")) Keeps keep _ inv.1 c.loop-left.left
          c.loop-left.c.nodes (ahead c.loop-left.c) inv.3
          (sym c.sees_word.ensures ∙ c.loop-left-test.false),
      inv.2,
    )
