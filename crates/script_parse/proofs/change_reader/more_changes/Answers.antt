use Rattle.std.proofs.Common.{[], ◌∷◌, ◌++◌, map, sym, ap, ◌∙◌, append_assoc, append-nil, codes}
use Rattle.std.proofs.lemmas.List.{map-append}
use Rattle.std.proofs.lemmas.Result.{err_from_is_err_and}
use Rattle.smo_ops_types.specs.Changes.{change_of, changes_of}
use Rattle.script_parse.specs.StatementReader.{follow_change}
use Rattle.lexer_spec.specs.Lexemes.{is_word}
use Rattle.lexer_combinators.specs.Reads.{ahead}
use Rattle.lexer_combinators.proofs.ReadSteps.{after, after_fails}
use Rattle.lexer_combinators.proofs.ManySteps.{many_first, many_smaller, many_next, many_done}
use Rattle.lexer_combinators.proofs.ManySteps.{many_err}
use Rattle.script_parse.specs.StatementReader.{change}
use Rattle.script_parse.specs.Productions.{IsChange}
use Rattle.script_parse.proofs.ChangeCorrectness.{change_correct}
use Rattle.script_parse.proofs.change_reader.more_changes.Goals as goal

pub loop-alloc-init : goal.loop-alloc-init
loop-alloc-init c = (
  [],
  sym (append-nil (changes_of c.args.list.now.items)),
  many_first (is_word (codes "THEN")) 32 change IsChange follow_change change_correct
      c.args.c.now.nodes (ahead c.args.c.now),
)

pub loop-alloc-preserved : goal.loop-alloc-preserved
loop-alloc-preserved c =
    let inv = c.loop-alloc.invariant in
    let x = change_of c.in_ok-change.field-0 in (
      inv.0 ++ x ∷ [],
      (let pushed = c.in_ok-push.ensures in
          ap (map change_of) pushed.items ∙ map-append change_of c.loop-alloc.list.items
          (c.in_ok-change.field-0 ∷ []) ∙ ap (λ l. l ++ x ∷ []) inv.1
          ∙ append_assoc (map change_of c.args.list.now.items) inv.0 (x ∷ [])),
      many_next (is_word (codes "THEN")) 32 change IsChange follow_change change_correct _ inv.0
          c.loop-alloc.c.nodes (ahead c.loop-alloc.c) inv.2 x c.change.new.c.nodes
          (ahead c.change.new.c) (sym c.sees_word.ensures ∙ c.loop-alloc-test.true)
          (after change _ c.loop-alloc.c.nodes c.skip.new.self.nodes (ahead c.loop-alloc.c)
          (ahead c.skip.new.self) c.skip.ensures.nodes c.skip.ensures.rest
          c.in_ok-change.ensures),
    )

pub loop-alloc-smaller : goal.loop-alloc-smaller
loop-alloc-smaller c = many_smaller (is_word (codes "THEN")) 32 change IsChange follow_change
    change_correct c.loop-alloc.c c.change.new.c (change_of c.in_ok-change.field-0)
    c.change.new.c.nodes (sym c.sees_word.ensures ∙ c.loop-alloc-test.true)
    (after change _ c.loop-alloc.c.nodes c.skip.new.self.nodes (ahead c.loop-alloc.c)
    (ahead c.skip.new.self) c.skip.ensures.nodes c.skip.ensures.rest c.in_ok-change.ensures)

pub returns-in_err-change : goal.returns-in_err-change
returns-in_err-change c =
    let inv = c.loop-alloc.invariant in
    let failed = many_err (is_word (codes "THEN")) 32 change IsChange follow_change change_correct _
    inv.0 c.loop-alloc.c.nodes (ahead c.loop-alloc.c) inv.2 c.in_err-change.field-0.0
    c.change.new.c (sym c.sees_word.ensures ∙ c.loop-alloc-test.true)
    (after_fails change c.in_err-change.field-0.0 c.change.new.c c.loop-alloc.c.nodes
    c.skip.new.self.nodes (ahead c.loop-alloc.c) (ahead c.skip.new.self) c.skip.ensures.nodes
    c.skip.ensures.rest c.in_err-change.ensures) in
    let f = err_from_is_err_and c.from_residual.result c.from_residual.ensures.1 in
    rw (f.1, f.2) failed

pub returns : goal.returns
returns c =
    let inv = c.loop-alloc.invariant in (
      inv.0,
      many_done (is_word (codes "THEN")) 32 change IsChange follow_change change_correct _
          inv.0 c.loop-alloc.c.nodes (ahead c.loop-alloc.c) inv.2
          (sym c.sees_word.ensures ∙ c.loop-alloc-test.false),
      inv.1,
    )
