use Rattle.std.proofs.Common.{[], ◌∷◌, ◌++◌, sym, ap, ◌∙◌, append_assoc, append-nil, codes, false}
use Rattle.std.proofs.lemmas.Result.{err_from_is_err_and}
use Rattle.lexer_spec.specs.Lexemes.{is_sign}
use Rattle.lexer_combinators.specs.Reads.{ahead}
use Rattle.lexer_trees_spec.specs.Constants.{name, name_grammar}
use Rattle.lexer_trees_spec.proofs.Singles.{name_correct}
use Rattle.lexer_combinators.proofs.ReadSteps.{after, after_fails}
use Rattle.lexer_combinators.proofs.ManySteps.{many_first, many_smaller, many_next, many_done}
use Rattle.lexer_combinators.proofs.ManySteps.{many_err}
use Rattle.lexer.proofs.constant_reader.more_names.Goals as goal

pub loop-alloc-init : goal.loop-alloc-init
loop-alloc-init c = (
  [],
  sym (append-nil c.args.list.now.items),
  many_first (is_sign (codes ",")) 0 name name_grammar (λ x. false)
      (name_correct 0 0 (λ x. false)) c.args.c.now.nodes (ahead c.args.c.now),
)

pub loop-alloc-preserved : goal.loop-alloc-preserved
loop-alloc-preserved c =
    let inv = c.loop-alloc.invariant in
    let n = c.in_ok-name.field-0 in (
      inv.0 ++ n ∷ [],
      (let pushed = c.in_ok-push.ensures in pushed.items ∙ ap (λ l. l ++ n ∷ []) inv.1
          ∙ append_assoc c.args.list.now.items inv.0 (n ∷ [])),
      many_next (is_sign (codes ",")) 0 name name_grammar (λ x. false)
          (name_correct 0 0 (λ x. false)) _ inv.0 c.loop-alloc.c.nodes (ahead c.loop-alloc.c) inv.2
          n c.name.new.c.nodes (ahead c.name.new.c)
          (sym c.sees_sign.ensures ∙ c.loop-alloc-test.true)
          (after name _ c.loop-alloc.c.nodes c.skip.new.self.nodes (ahead c.loop-alloc.c)
          (ahead c.skip.new.self) c.skip.ensures.nodes c.skip.ensures.rest
          c.in_ok-name.ensures),
    )

pub loop-alloc-smaller : goal.loop-alloc-smaller
loop-alloc-smaller c = many_smaller (is_sign (codes ",")) 0 name name_grammar (λ x. false)
    (name_correct 0 0 (λ x. false)) c.loop-alloc.c c.name.new.c c.in_ok-name.field-0
    c.name.new.c.nodes (sym c.sees_sign.ensures ∙ c.loop-alloc-test.true)
    (after name _ c.loop-alloc.c.nodes c.skip.new.self.nodes (ahead c.loop-alloc.c)
    (ahead c.skip.new.self) c.skip.ensures.nodes c.skip.ensures.rest c.in_ok-name.ensures)

pub returns-in_err-name : goal.returns-in_err-name
returns-in_err-name c =
    let inv = c.loop-alloc.invariant in
    let failed = many_err (is_sign (codes ",")) 0 name name_grammar (λ x. false)
    (name_correct 0 0 (λ x. false)) _ inv.0 c.loop-alloc.c.nodes (ahead c.loop-alloc.c) inv.2
    c.in_err-name.field-0.0 c.name.new.c (sym c.sees_sign.ensures ∙ c.loop-alloc-test.true)
    (after_fails name c.in_err-name.field-0.0 c.name.new.c c.loop-alloc.c.nodes
    c.skip.new.self.nodes (ahead c.loop-alloc.c) (ahead c.skip.new.self) c.skip.ensures.nodes
    c.skip.ensures.rest c.in_err-name.ensures) in
    let f = err_from_is_err_and c.from_residual.result c.from_residual.ensures.1 in
    rw (f.1, f.2) failed

pub returns : goal.returns
returns c =
    let inv = c.loop-alloc.invariant in (
      inv.0,
      many_done (is_sign (codes ",")) 0 name name_grammar (λ x. false)
          (name_correct 0 0 (λ x. false)) _ inv.0 c.loop-alloc.c.nodes (ahead c.loop-alloc.c) inv.2
          (sym c.sees_sign.ensures ∙ c.loop-alloc-test.false),
      inv.1,
    )
