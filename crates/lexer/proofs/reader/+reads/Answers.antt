use Rattle.std.proofs.Common.{arith, ◌++◌, ℕ, List, map, drop, codes, [], ◌∷◌, sym, ap, ◌∙◌, subst}
use Rattle.std.proofs.Common.{append_assoc}
use Rattle.std.proofs.lemmas.List.{map-append}
use Rattle.std.proofs.lemmas.Result.{err_from_is_err_and}
use Rattle.prima_base.specs.declared.refusal.What.TheVariants as what
use Rattle.cond_expr.specs.Seen.{tree, test}
use Rattle.lexer_spec.specs.Lexemes.{Lexeme, is_word, is_sign}
use Rattle.lexer_combinators.specs.Reads.{Fails, ahead}
use Rattle.lexer_combinators.specs.Parsing.{nodes_more}
use Rattle.lexer_trees_spec.specs.Reader.{level, can, inside, conj}
use Rattle.lexer_combinators.proofs.ReadSteps.{more_next, more_err, more_full, more_done}
use Rattle.lexer.proofs.reader.+reads.Goals as goal

pub more_exprs-loop-alloc-preserved : goal.more_exprs-loop-alloc-preserved
more_exprs-loop-alloc-preserved t c =
    let inv = c.loop-alloc.invariant in
    let x = tree c.in_ok-expr.field-0 in (
      omega arith,
      inv.1 ++ x ∷ [],
      (let pushed = c.in_ok-push.ensures in let more =
          map-append tree c.loop-alloc.parts.items (c.in_ok-expr.field-0 ∷ []) in
          ap (map tree) pushed.items ∙ more ∙ ap (λ l. l ++ x ∷ []) inv.2
          ∙ append_assoc (map tree c.args.parts.now.items) inv.1 (x ∷ [])),
      more_next (is_sign (codes ",")) what.Parts (level c.args.qualified c.args.inner).expr _ inv.1
          c.loop-alloc.left c.loop-alloc.c.nodes (ahead c.loop-alloc.c) inv.3 x c.expr.new.c.nodes
          (ahead c.expr.new.c) (omega arith) (sym c.sees_sign.ensures ∙ c.loop-alloc-test.true)
          (let e = c.in_ok-expr.ensures in ap
          (λ k. (level c.args.qualified c.args.inner).expr k (drop 1 (ahead c.loop-alloc.c)))
          (sym c.skip.ensures.nodes) ∙ ap
          ((level c.args.qualified c.args.inner).expr c.skip.new.self.nodes)
          (sym c.skip.ensures.rest) ∙ e),
    )

pub more_exprs-returns-in_err-expr : goal.more_exprs-returns-in_err-expr
more_exprs-returns-in_err-expr t c =
    let inv = c.loop-alloc.invariant in
    let m = more_err (is_sign (codes ",")) what.Parts (level c.args.qualified c.args.inner).expr _
    inv.1 c.loop-alloc.left c.loop-alloc.c.nodes (ahead c.loop-alloc.c) inv.3
    c.in_err-expr.field-0.0 c.expr.new.c (omega arith)
    (sym c.sees_sign.ensures ∙ c.loop-alloc-test.true) in
    let P : ℕ → Type 0 = λ k. Fails ((level c.args.qualified c.args.inner).expr k
    (drop 1 (ahead c.loop-alloc.c))) c.in_err-expr.field-0.0 c.expr.new.c in
    let Q : List Lexeme → Type 0 = λ l. Fails
    ((level c.args.qualified c.args.inner).expr c.skip.new.self.nodes l) c.in_err-expr.field-0.0
    c.expr.new.c in
    let failed = m (subst P c.skip.ensures.nodes
    (subst Q c.skip.ensures.rest (c.in_err-expr.ensures))) in
    let f = err_from_is_err_and c.from_residual.result c.from_residual.ensures.1 in
    rw (f.1, f.2) failed

pub more_exprs-returns-then-left-eq0 : goal.more_exprs-returns-then-left-eq0
more_exprs-returns-then-left-eq0 t c =
    let inv = c.loop-alloc.invariant in
    more_full (is_sign (codes ",")) what.Parts (level c.args.qualified c.args.inner).expr _ inv.1
    c.loop-alloc.left c.loop-alloc.c.nodes (ahead c.loop-alloc.c) inv.3 c.if-left-eq0.true
    (sym c.sees_sign.ensures ∙ c.loop-alloc-test.true)

pub more_exprs-returns : goal.more_exprs-returns
more_exprs-returns t c =
    let inv = c.loop-alloc.invariant in (
      inv.1,
      more_done (is_sign (codes ",")) what.Parts (level c.args.qualified c.args.inner).expr _
          inv.1 c.loop-alloc.left c.loop-alloc.c.nodes (ahead c.loop-alloc.c) inv.3
          (sym c.sees_sign.ensures ∙ c.loop-alloc-test.false),
      inv.2,
    )

pub more_facts-loop-alloc-preserved : goal.more_facts-loop-alloc-preserved
more_facts-loop-alloc-preserved t c =
    let inv = c.loop-alloc.invariant in
    let x = test c.in_ok-fact.field-0 in (
      omega arith,
      inv.1 ++ x ∷ [],
      (let pushed = c.in_ok-push.ensures in let more =
          map-append test c.loop-alloc.parts.items (c.in_ok-fact.field-0 ∷ []) in
          ap (map test) pushed.items ∙ more ∙ ap (λ l. l ++ x ∷ []) inv.2
          ∙ append_assoc (map test c.args.parts.now.items) inv.1 (x ∷ [])),
      more_next (is_word (codes "AND")) what.Nodes (level c.args.qualified c.args.depth).fact _
          inv.1 c.loop-alloc.left c.loop-alloc.c.nodes (ahead c.loop-alloc.c) inv.3 x
          c.fact.new.c.nodes (ahead c.fact.new.c) (omega arith)
          (sym c.sees_word.ensures ∙ c.loop-alloc-test.true)
          (let e = c.in_ok-fact.ensures in ap
          (λ k. (level c.args.qualified c.args.depth).fact k (drop 1 (ahead c.loop-alloc.c)))
          (sym c.skip.ensures.nodes) ∙ ap
          ((level c.args.qualified c.args.depth).fact c.skip.new.self.nodes)
          (sym c.skip.ensures.rest) ∙ e),
    )

pub more_facts-returns-in_err-fact : goal.more_facts-returns-in_err-fact
unfolding nodes_more
more_facts-returns-in_err-fact t c =
    let inv = c.loop-alloc.invariant in
    let m = more_err (is_word (codes "AND")) what.Nodes (level c.args.qualified c.args.depth).fact _
    inv.1 c.loop-alloc.left c.loop-alloc.c.nodes (ahead c.loop-alloc.c) inv.3
    c.in_err-fact.field-0.0 c.fact.new.c (omega arith)
    (sym c.sees_word.ensures ∙ c.loop-alloc-test.true) in
    let P : ℕ → Type 0 = λ k. Fails ((level c.args.qualified c.args.depth).fact k
    (drop 1 (ahead c.loop-alloc.c))) c.in_err-fact.field-0.0 c.fact.new.c in
    let Q : List Lexeme → Type 0 = λ l. Fails
    ((level c.args.qualified c.args.depth).fact c.skip.new.self.nodes l) c.in_err-fact.field-0.0
    c.fact.new.c in
    let failed = m (subst P c.skip.ensures.nodes
    (subst Q c.skip.ensures.rest (c.in_err-fact.ensures))) in
    let f = err_from_is_err_and c.from_residual.result c.from_residual.ensures.1 in
    rw (f.1, f.2) failed

pub more_facts-returns-then-left-eq0 : goal.more_facts-returns-then-left-eq0
unfolding nodes_more
more_facts-returns-then-left-eq0 t c =
    let inv = c.loop-alloc.invariant in
    more_full (is_word (codes "AND")) what.Nodes (level c.args.qualified c.args.depth).fact _ inv.1
    c.loop-alloc.left c.loop-alloc.c.nodes (ahead c.loop-alloc.c) inv.3 c.if-left-eq0.true
    (sym c.sees_word.ensures ∙ c.loop-alloc-test.true)

pub more_facts-returns : goal.more_facts-returns
unfolding nodes_more
more_facts-returns t c =
    let inv = c.loop-alloc.invariant in (
      inv.1,
      more_done (is_word (codes "AND")) what.Nodes (level c.args.qualified c.args.depth).fact
          _ inv.1 c.loop-alloc.left c.loop-alloc.c.nodes (ahead c.loop-alloc.c) inv.3
          (sym c.sees_word.ensures ∙ c.loop-alloc-test.false),
      inv.2,
    )

pub more_conjs-loop-alloc-preserved : goal.more_conjs-loop-alloc-preserved
more_conjs-loop-alloc-preserved t c =
    let inv = c.loop-alloc.invariant in
    let x = test c.in_ok-conj.field-0 in (
      omega arith,
      inv.1 ++ x ∷ [],
      (let pushed = c.in_ok-push.ensures in let more =
          map-append test c.loop-alloc.parts.items (c.in_ok-conj.field-0 ∷ []) in
          ap (map test) pushed.items ∙ more ∙ ap (λ l. l ++ x ∷ []) inv.2
          ∙ append_assoc (map test c.args.parts.now.items) inv.1 (x ∷ [])),
      more_next (is_word (codes "OR")) what.Nodes
          (conj c.args.qualified (can c.args.depth) (inside c.args.qualified c.args.depth)) _ inv.1
          c.loop-alloc.left c.loop-alloc.c.nodes (ahead c.loop-alloc.c) inv.3 x c.conj.new.c.nodes
          (ahead c.conj.new.c) (omega arith) (sym c.sees_word.ensures ∙ c.loop-alloc-test.true)
          (let e = c.in_ok-conj.ensures in ap
          (λ k. (conj c.args.qualified (can c.args.depth)
          (inside c.args.qualified c.args.depth)) k (drop 1 (ahead c.loop-alloc.c)))
          (sym c.skip.ensures.nodes) ∙ ap
          ((conj c.args.qualified (can c.args.depth) (inside c.args.qualified c.args.depth))
          c.skip.new.self.nodes) (sym c.skip.ensures.rest) ∙ e),
    )

pub more_conjs-returns-in_err-conj : goal.more_conjs-returns-in_err-conj
unfolding nodes_more
more_conjs-returns-in_err-conj t c =
    let inv = c.loop-alloc.invariant in
    let m = more_err (is_word (codes "OR")) what.Nodes
    (conj c.args.qualified (can c.args.depth) (inside c.args.qualified c.args.depth)) _ inv.1
    c.loop-alloc.left c.loop-alloc.c.nodes (ahead c.loop-alloc.c) inv.3 c.in_err-conj.field-0.0
    c.conj.new.c (omega arith) (sym c.sees_word.ensures ∙ c.loop-alloc-test.true) in
    let P : ℕ → Type 0 = λ k. Fails ((conj c.args.qualified (can c.args.depth)
    (inside c.args.qualified c.args.depth)) k (drop 1 (ahead c.loop-alloc.c)))
    c.in_err-conj.field-0.0 c.conj.new.c in
    let Q : List Lexeme → Type 0 = λ l. Fails
    ((conj c.args.qualified (can c.args.depth) (inside c.args.qualified c.args.depth))
    c.skip.new.self.nodes l) c.in_err-conj.field-0.0 c.conj.new.c in
    let failed = m (subst P c.skip.ensures.nodes
    (subst Q c.skip.ensures.rest (c.in_err-conj.ensures))) in
    let f = err_from_is_err_and c.from_residual.result c.from_residual.ensures.1 in
    rw (f.1, f.2) failed

pub more_conjs-returns-then-left-eq0 : goal.more_conjs-returns-then-left-eq0
unfolding nodes_more
more_conjs-returns-then-left-eq0 t c =
    let inv = c.loop-alloc.invariant in
    more_full (is_word (codes "OR")) what.Nodes
    (conj c.args.qualified (can c.args.depth) (inside c.args.qualified c.args.depth)) _ inv.1
    c.loop-alloc.left c.loop-alloc.c.nodes (ahead c.loop-alloc.c) inv.3 c.if-left-eq0.true
    (sym c.sees_word.ensures ∙ c.loop-alloc-test.true)

pub more_conjs-returns : goal.more_conjs-returns
unfolding nodes_more
more_conjs-returns t c =
    let inv = c.loop-alloc.invariant in (
      inv.1,
      more_done (is_word (codes "OR")) what.Nodes
          (conj c.args.qualified (can c.args.depth) (inside c.args.qualified c.args.depth)) _ inv.1
          c.loop-alloc.left c.loop-alloc.c.nodes (ahead c.loop-alloc.c) inv.3
          (sym c.sees_word.ensures ∙ c.loop-alloc-test.false),
      inv.2,
    )
