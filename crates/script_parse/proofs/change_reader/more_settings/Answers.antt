use Rattle.std.proofs.Common.{[], ◌∷◌, ◌++◌, map, sym, ap, ◌∙◌, append_assoc, append-nil, codes}
use Rattle.std.proofs.Common.{false}
use Rattle.std.proofs.lemmas.List.{map-append}
use Rattle.std.proofs.lemmas.Result.{err_from_is_err_and}
use Rattle.smo_ops_types.specs.Changes.{set_of_expr, sets_of}
use Rattle.lexer_trees_spec.specs.Reader.{follow_expr}
use Rattle.lexer_spec.specs.Lexemes.{is_sign}
use Rattle.lexer_combinators.specs.Reads.{ahead}
use Rattle.lexer_combinators.proofs.ReadSteps.{after, after_fails}
use Rattle.lexer_combinators.proofs.ManySteps.{many_first, many_smaller, many_next, many_done}
use Rattle.lexer_combinators.proofs.ManySteps.{many_err}
use Rattle.script_parse.specs.StatementReader.{setting}
use Rattle.script_parse.specs.Productions.{IsSetting}
use Rattle.script_parse.proofs.ChangeCorrectness.{setting_correct}
use Rattle.script_parse.proofs.change_reader.more_settings.Goals as goal

pub loop-alloc-init : goal.loop-alloc-init
loop-alloc-init c = (
  [],
  sym (append-nil (sets_of c.args.list.now.items)),
  many_first (is_sign (codes ",")) 32 setting IsSetting (follow_expr false) setting_correct
      c.args.c.now.nodes (ahead c.args.c.now),
)

pub loop-alloc-preserved : goal.loop-alloc-preserved
loop-alloc-preserved c =
    let inv = c.loop-alloc.invariant in
    let x = set_of_expr c.in_ok-setting.field-0 in (
      inv.0 ++ x ∷ [],
      (let pushed = c.in_ok-push.ensures in
          ap (map set_of_expr) pushed.items ∙ map-append set_of_expr c.loop-alloc.list.items
          (c.in_ok-setting.field-0 ∷ []) ∙ ap (λ l. l ++ x ∷ []) inv.1
          ∙ append_assoc (map set_of_expr c.args.list.now.items) inv.0 (x ∷ [])),
      many_next (is_sign (codes ",")) 32 setting IsSetting (follow_expr false) setting_correct _
          inv.0 c.loop-alloc.c.nodes (ahead c.loop-alloc.c) inv.2 x c.setting.new.c.nodes
          (ahead c.setting.new.c) (sym c.sees_sign.ensures ∙ c.loop-alloc-test.true)
          (after setting _ c.loop-alloc.c.nodes c.skip.new.self.nodes (ahead c.loop-alloc.c)
          (ahead c.skip.new.self) c.skip.ensures.nodes c.skip.ensures.rest
          c.in_ok-setting.ensures),
    )

pub loop-alloc-smaller : goal.loop-alloc-smaller
loop-alloc-smaller c = many_smaller (is_sign (codes ",")) 32 setting IsSetting (follow_expr false)
    setting_correct c.loop-alloc.c c.setting.new.c (set_of_expr c.in_ok-setting.field-0)
    c.setting.new.c.nodes (sym c.sees_sign.ensures ∙ c.loop-alloc-test.true)
    (after setting _ c.loop-alloc.c.nodes c.skip.new.self.nodes (ahead c.loop-alloc.c)
    (ahead c.skip.new.self) c.skip.ensures.nodes c.skip.ensures.rest c.in_ok-setting.ensures)

pub returns-in_err-setting : goal.returns-in_err-setting
returns-in_err-setting c =
    let inv = c.loop-alloc.invariant in
    let failed = many_err (is_sign (codes ",")) 32 setting IsSetting (follow_expr false)
    setting_correct _ inv.0 c.loop-alloc.c.nodes (ahead c.loop-alloc.c) inv.2
    c.in_err-setting.field-0.0 c.setting.new.c
    (sym c.sees_sign.ensures ∙ c.loop-alloc-test.true)
    (after_fails setting c.in_err-setting.field-0.0 c.setting.new.c c.loop-alloc.c.nodes
    c.skip.new.self.nodes (ahead c.loop-alloc.c) (ahead c.skip.new.self) c.skip.ensures.nodes
    c.skip.ensures.rest c.in_err-setting.ensures) in
    let f = err_from_is_err_and c.from_residual.result c.from_residual.ensures.1 in
    rw (f.1, f.2) failed

pub returns : goal.returns
returns c =
    let inv = c.loop-alloc.invariant in (
      inv.0,
      many_done (is_sign (codes ",")) 32 setting IsSetting (follow_expr false) setting_correct
          _ inv.0 c.loop-alloc.c.nodes (ahead c.loop-alloc.c) inv.2
          (sym c.sees_sign.ensures ∙ c.loop-alloc-test.false),
      inv.1,
    )
