use Rattle.std.proofs.Common.{[], ◌∷◌, ◌++◌, sym, ap, ◌∙◌, append_assoc, arith, subst}
use Rattle.std.proofs.lemmas.Result.{err_from_is_err_and}
use Rattle.lexer_combinators.specs.Parsing.{Unexpected}
use Rattle.lexer_trees_spec.specs.Constants.{constant}
use Rattle.lexer_combinators.specs.declared.cursor.Stop.{Stop}
use Rattle.script_parse.specs.StatementReader.{more_constants}
use Rattle.lexer_combinators.specs.Reads.{ahead, Fails}
use Rattle.lexer_combinators.proofs.ReadSteps.{after, after_fails}
use Rattle.script_parse.proofs.ConstantSteps.{constants_done, constants_next, constants_stuck}
use Rattle.script_parse.proofs.ConstantSteps.{constants_err}
use Rattle.script_parse.proofs.change_reader.more_constants.Goals as goal

pub loop-left-preserved : goal.loop-left-preserved
loop-left-preserved c =
    let inv = c.loop-left.invariant in
    let v = c.in_ok-constant.field-0 in (
      inv.0 ++ v ∷ [],
      (let pushed = c.in_ok-push.ensures in pushed.items ∙ ap (λ l. l ++ v ∷ []) inv.1
          ∙ append_assoc c.args.list.now.items inv.0 (v ∷ [])),
      constants_next _ inv.0 c.loop-left.left c.loop-left.c.nodes (ahead c.loop-left.c) inv.2 v
          c.constant.new.c.nodes (ahead c.constant.new.c) (omega arith)
          c.in_ok-expect_sign.ensures.ok.0
          (after constant _ c.loop-left.c.nodes c.expect_sign.new.self.nodes (ahead c.loop-left.c)
          (ahead c.expect_sign.new.self) c.in_ok-expect_sign.ensures.nodes
          c.in_ok-expect_sign.ensures.ok.1 c.in_ok-constant.ensures),
    )

pub returns-in_err-expect_sign : goal.returns-in_err-expect_sign
returns-in_err-expect_sign c =
    let inv = c.loop-left.invariant in
    let h = c.in_err-expect_sign.ensures.err in
    let stuck = constants_stuck _ inv.0 c.loop-left.left c.loop-left.c.nodes (ahead c.loop-left.c)
    inv.2 (omega arith) h.2 ∙ ap (Unexpected c.loop-left.c.nodes) (sym h.1)
    ∙ ap (λ k. Unexpected k (ahead c.expect_sign.new.self))
    (sym c.in_err-expect_sign.ensures.nodes) in
    let P : Stop → Type 0 = λ e. Fails (more_constants c.args.more c.args.c.now.nodes
    (ahead c.args.c.now)) e c.expect_sign.new.self in
    let failed = subst P (sym h.0) stuck in
    let f = err_from_is_err_and c.from_residual.result c.from_residual.ensures.1 in
    rw (f.1, f.2) failed

pub returns-in_err-constant : goal.returns-in_err-constant
returns-in_err-constant c =
    let inv = c.loop-left.invariant in
    let failed = constants_err _ inv.0 c.loop-left.left c.loop-left.c.nodes (ahead c.loop-left.c)
    inv.2 c.in_err-constant.field-0.0 c.constant.new.c (omega arith)
    c.in_ok-expect_sign.ensures.ok.0
    (after_fails constant c.in_err-constant.field-0.0 c.constant.new.c c.loop-left.c.nodes
    c.expect_sign.new.self.nodes (ahead c.loop-left.c) (ahead c.expect_sign.new.self)
    c.in_ok-expect_sign.ensures.nodes c.in_ok-expect_sign.ensures.ok.1
    c.in_err-constant.ensures) in
    let f = err_from_is_err_and c.from_residual-in_err-constant.result
    c.from_residual-in_err-constant.ensures.1 in
    rw (f.1, f.2) failed

pub returns : goal.returns
returns c =
    let inv = c.loop-left.invariant in (
      inv.0,
      constants_done _ inv.0 c.loop-left.left c.loop-left.c.nodes (ahead c.loop-left.c) inv.2
          (omega arith),
      inv.1,
    )
