use Rattle.std.proofs.Common.{sym, ap, ◌∙◌, subst, map, length, List}
use Rattle.cond_expr.specs.declared.expr.Expr.{Expr}
use Rattle.cond_expr.specs.Seen.{tree}
use Rattle.lexer_spec.specs.declared.token.Token.{Token}
use Rattle.lexer_spec.specs.Lexemes.{lexeme}
use Rattle.lexer_combinators.specs.Reads.{ahead, Fails}
use Rattle.lexer_trees_spec.specs.Grammar.{IsExpr}
use Rattle.lexer_trees_spec.specs.Reader.{outermost, follow_expr}
use Rattle.lexer_trees_spec.proofs.Correctness.{outermost_correct}
use Rattle.lexer_combinators.proofs.Places.{length_map, got_fits, got_read, got_found, got_only}
use Rattle.lexer_combinators.proofs.Places.{got_exact, err_fits, err_found, err_only, err_exact}
use Rattle.lexer_combinators.proofs.OverflowSteps.{got_overflow, err_overflow, err_fault}
use Rattle.lexer_combinators.proofs.OverflowSteps.{counts_read}
use Rattle.lexer_combinators.proofs.OverflowSteps.{counts_sized}
use Rattle.lexer_combinators.specs.Found.{lexemes_from}
use Rattle.lexer_trees_spec.proofs.Longest.{expr_longest}
use Rattle.lexer_trees_spec.proofs.CountsJoined.{expr_counted}
use Rattle.lexer_trees_spec.proofs.CountSizes.{expr_length}
use Rattle.lexer_trees_spec.specs.TreeCounts.{expr_counts, expr_overflows}
use Rattle.lexer.proofs.parse.parse_expr.Goals as goal

pub overflow_sub-result : goal.overflow_sub-result
overflow_sub-result c = got_fits (outermost c.args.qualified).expr (IsExpr c.args.qualified)
    (follow_expr c.args.qualified) (outermost_correct c.args.qualified).expr c.args.list.now
    c.args.from c.requires (tree c.in-Ok.found) c.outer_expr.new.c.nodes (ahead c.outer_expr.new.c)
    (length c.outer_expr.new.c.rest.now) (length_map lexeme c.outer_expr.new.c.rest.now)
    (ap (λ l. (outermost c.args.qualified).expr 0 (map lexeme l)) (sym c.tail.ensures)
    ∙ c.in-Ok.ensures)

pub fault_at-requires : goal.fault_at-requires
fault_at-requires c = err_fits (outermost c.args.qualified).expr (IsExpr c.args.qualified)
    (follow_expr c.args.qualified) (outermost_correct c.args.qualified).expr c.args.list.now
    c.args.from c.requires c.outer_expr.new.c c.in-Err.stop (let P : List Token
    → Type 0 = λ l. Fails ((outermost c.args.qualified).expr 0 (map lexeme l)) c.in-Err.stop
    c.outer_expr.new.c in subst P c.tail.ensures c.in-Err.ensures)

pub returns-in-Ok-clause-read : goal.returns-in-Ok-clause-read
returns-in-Ok-clause-read c = got_read (outermost c.args.qualified).expr (IsExpr c.args.qualified)
    (follow_expr c.args.qualified) (outermost_correct c.args.qualified).expr c.args.list.now
    c.args.from c.requires (tree c.in-Ok.found) c.outer_expr.new.c.nodes (ahead c.outer_expr.new.c)
    (length c.outer_expr.new.c.rest.now) (length_map lexeme c.outer_expr.new.c.rest.now)
    (ap (λ l. (outermost c.args.qualified).expr 0 (map lexeme l)) (sym c.tail.ensures)
    ∙ c.in-Ok.ensures)

pub returns-in-Ok-clause-only : goal.returns-in-Ok-clause-only
returns-in-Ok-clause-only c = got_only (outermost c.args.qualified).expr (IsExpr c.args.qualified)
    (follow_expr c.args.qualified) (outermost_correct c.args.qualified).expr c.args.list.now
    c.args.from c.requires (tree c.in-Ok.found) c.outer_expr.new.c.nodes (ahead c.outer_expr.new.c)
    (length c.outer_expr.new.c.rest.now) (length_map lexeme c.outer_expr.new.c.rest.now)
    (ap (λ l. (outermost c.args.qualified).expr 0 (map lexeme l)) (sym c.tail.ensures)
    ∙ c.in-Ok.ensures)

pub returns-in-Ok-clause-exact : goal.returns-in-Ok-clause-exact
returns-in-Ok-clause-exact c = (
  c.outer_expr.new.c.nodes,
  got_exact (outermost c.args.qualified).expr (IsExpr c.args.qualified)
      (follow_expr c.args.qualified) (outermost_correct c.args.qualified).expr c.args.list.now
      c.args.from c.requires (tree c.in-Ok.found) c.outer_expr.new.c.nodes
      (ahead c.outer_expr.new.c) (length c.outer_expr.new.c.rest.now)
      (length_map lexeme c.outer_expr.new.c.rest.now)
      (ap (λ l. (outermost c.args.qualified).expr 0 (map lexeme l)) (sym c.tail.ensures)
      ∙ c.in-Ok.ensures),
)

pub returns-in-Err-clause-only : goal.returns-in-Err-clause-only
returns-in-Err-clause-only c = err_only (outermost c.args.qualified).expr (IsExpr c.args.qualified)
    (follow_expr c.args.qualified) (outermost_correct c.args.qualified).expr c.args.list.now
    c.args.from c.requires c.outer_expr.new.c tree c.in-Err.stop c.fault_at.result
    (let P : List Token → Type 0 = λ l. Fails ((outermost c.args.qualified).expr 0 (map lexeme l))
    c.in-Err.stop c.outer_expr.new.c in subst P c.tail.ensures c.in-Err.ensures) c.fault_at.ensures

pub returns-in-Err-clause-fault : goal.returns-in-Err-clause-fault
returns-in-Err-clause-fault c = err_fault (outermost c.args.qualified).expr
    (IsExpr c.args.qualified) (follow_expr c.args.qualified)
    (outermost_correct c.args.qualified).expr (expr_overflows c.args.qualified)
    (counts_read (outermost c.args.qualified).expr (IsExpr c.args.qualified)
    (expr_counts c.args.qualified) (expr_length c.args.qualified) (expr_counted c.args.qualified))
    (counts_sized (outermost c.args.qualified).expr (IsExpr c.args.qualified)
    (expr_counts c.args.qualified) (expr_length c.args.qualified)) c.args.list.now c.args.from
    c.outer_expr.new.c Expr c.requires c.in-Err.stop c.fault_at.result (let P : List Token
    → Type 0 = λ l. Fails ((outermost c.args.qualified).expr 0 (map lexeme l)) c.in-Err.stop
    c.outer_expr.new.c in subst P c.tail.ensures c.in-Err.ensures) c.fault_at.ensures

pub returns-in-Err-clause-over : goal.returns-in-Err-clause-over
returns-in-Err-clause-over c = err_overflow (outermost c.args.qualified).expr
    (IsExpr c.args.qualified) (follow_expr c.args.qualified)
    (outermost_correct c.args.qualified).expr (expr_overflows c.args.qualified)
    (counts_read (outermost c.args.qualified).expr (IsExpr c.args.qualified)
    (expr_counts c.args.qualified) (expr_length c.args.qualified) (expr_counted c.args.qualified))
    (counts_sized (outermost c.args.qualified).expr (IsExpr c.args.qualified)
    (expr_counts c.args.qualified) (expr_length c.args.qualified)) c.args.list.now c.args.from
    c.outer_expr.new.c Expr c.in-Err.stop c.fault_at.result (let P : List Token
    → Type 0 = λ l. Fails ((outermost c.args.qualified).expr 0 (map lexeme l)) c.in-Err.stop
    c.outer_expr.new.c in subst P c.tail.ensures c.in-Err.ensures) c.fault_at.ensures

pub returns-in-Ok-clause-over : goal.returns-in-Ok-clause-over
returns-in-Ok-clause-over c = got_overflow (outermost c.args.qualified).expr
    (IsExpr c.args.qualified) (follow_expr c.args.qualified)
    (outermost_correct c.args.qualified).expr (expr_overflows c.args.qualified)
    (counts_read (outermost c.args.qualified).expr (IsExpr c.args.qualified)
    (expr_counts c.args.qualified) (expr_length c.args.qualified) (expr_counted c.args.qualified))
    (counts_sized (outermost c.args.qualified).expr (IsExpr c.args.qualified)
    (expr_counts c.args.qualified) (expr_length c.args.qualified)) c.args.list.now c.args.from
    (tree c.in-Ok.found) c.outer_expr.new.c.nodes (ahead c.outer_expr.new.c)
    (ap (λ l. (outermost c.args.qualified).expr 0 (map lexeme l)) (sym c.tail.ensures)
    ∙ c.in-Ok.ensures)

pub returns-in-Err-clause-exact : goal.returns-in-Err-clause-exact
returns-in-Err-clause-exact c = err_exact (outermost c.args.qualified).expr
    (IsExpr c.args.qualified) (follow_expr c.args.qualified)
    (outermost_correct c.args.qualified).expr c.args.list.now c.args.from c.requires
    c.outer_expr.new.c tree c.in-Err.stop c.fault_at.result (let P : List Token
    → Type 0 = λ l. Fails ((outermost c.args.qualified).expr 0 (map lexeme l)) c.in-Err.stop
    c.outer_expr.new.c in subst P c.tail.ensures c.in-Err.ensures) c.fault_at.ensures

pub returns-in-Ok-clause-longest : goal.returns-in-Ok-clause-longest
returns-in-Ok-clause-longest c = λ e s prefix suffix w h ends.
    got_found (outermost c.args.qualified).expr (IsExpr c.args.qualified)
    (follow_expr c.args.qualified) (outermost_correct c.args.qualified).expr c.args.list.now
    c.args.from c.requires (tree c.in-Ok.found) c.outer_expr.new.c.nodes (ahead c.outer_expr.new.c)
    (length c.outer_expr.new.c.rest.now) (length_map lexeme c.outer_expr.new.c.rest.now)
    (ap (λ l. (outermost c.args.qualified).expr 0 (map lexeme l)) (sym c.tail.ensures)
    ∙ c.in-Ok.ensures) e s prefix suffix w (expr_longest c.args.qualified e s prefix suffix
    (lexemes_from c.args.list.now c.args.from) w h ends)

pub returns-in-Err-clause-longest : goal.returns-in-Err-clause-longest
returns-in-Err-clause-longest c = λ e s prefix suffix w h ends.
    err_found (outermost c.args.qualified).expr (IsExpr c.args.qualified)
    (follow_expr c.args.qualified) (outermost_correct c.args.qualified).expr c.args.list.now
    c.args.from c.requires c.outer_expr.new.c tree c.in-Err.stop c.fault_at.result
    (let P : List Token → Type 0 = λ l. Fails ((outermost c.args.qualified).expr 0 (map lexeme l))
    c.in-Err.stop c.outer_expr.new.c in subst P c.tail.ensures c.in-Err.ensures) c.fault_at.ensures
    e s prefix suffix (expr_longest c.args.qualified e s prefix suffix
    (lexemes_from c.args.list.now c.args.from) w h ends)
