-- A worked row: what is told of one piece of a query that is pushed through a PARTITION.
use Rattle.std.proofs.Common.{◌≡◌, ℕ, [], ◌∷◌, pos, codes, refl}
use Rattle.std.specs.Fmt.{digits}
use Rattle.relations_spec.specs.Spans.{span}
use Rattle.prima_base.specs.declared.value.Value.TheVariants.{Int}
use Rattle.cond_expr.specs.declared.expr.Whose.TheVariants.{Atom}
use Rattle.cond_expr.specs.declared.expr.CmpOp.{CmpOp}
use Rattle.cond_expr.specs.declared.expr.CmpOp.TheVariants.{Gt, Lt}
use Rattle.cond_expr.specs.Trees.{Tree, Test, column, constant, compared, all_of, a_test, no_tests}
use Rattle.piece_ir.specs.ExplainedPieces.{PlainExplained}
use Rattle.answer_text.specs.Texts.{piece_head, explain_text}

abbrev a : Tree
a = column (Atom 0) (codes "a")

abbrev than : CmpOp → ℕ → Test
than sign n = compared sign a (constant (Int (pos n)))

abbrev told : PlainExplained
told = record {
  period = span 1 2;
  branch = 1;
  atom = 1;
  version = 1;
  piece = record {
    atoms = codes "t" ∷ [];
    cond = all_of (a_test (than Gt 5) (a_test (than Lt 10) no_tests));
    outs = (codes "a", a) ∷ [];
  };
}

one_piece : explain_text (told ∷ [])
    ≡ codes "piece 1 2 1 1 1 SELECT a = t0.a FROM t WHERE t0.a > 5 AND t0.a < 10\nend 1\n"
unfolding explain_text piece_head digits
one_piece = refl

no_piece : explain_text [] ≡ codes "end 0\n"
unfolding explain_text digits
no_piece = refl
