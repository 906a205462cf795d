-- Rows of an atom that lead to nothing that meets the condition are not missed in what is answered.
use Rattle.std.proofs.Common.{◌≡◌, List, [], ◌∷◌, ◌++◌, length, sym, ap, ◌∙◌, subst}
use Rattle.relations_spec.proofs.SetLaws.{set_same}
use Rattle.prima_base.specs.declared.value.Value.{Value}
use Rattle.prima_base.specs.Order.{row_cmp}
use Rattle.prima_base.specs.OrderLaws.{row_exact}
use Rattle.cond_expr.specs.declared.expr.Column.{Column}
use Rattle.cond_expr.specs.Trees.{Tree, Test}
use Rattle.cond_expr.specs.Parts.{parts}
use Rattle.join_exec_spec.specs.Answering.{one_row}
use Rattle.join_exec_spec.specs.Fitting.{AreOwn}
use Rattle.join_exec_spec.specs.Blocks.{Block, types_of, answered_rows, answered, IsBlock, IsPruned}
use Rattle.join_exec_spec.specs.Blocks.{Apart, AreBlocks}
use Rattle.join_exec_spec.proofs.PlaceLaws.{parts_meet}
use Rattle.join_exec_spec.proofs.Reordering.{Reach, chosen, reach_answered, answered_reach, moved}

module _ (outs : List Tree) (c : Test) (was is : Block) (p : IsPruned (parts c) was is) where
  -- as the first of the atoms
  with_useful : (blocks : List Block) (x : List Value) → Reach outs c [] [] (was ∷ blocks) x
      → Reach outs c [] [] (is ∷ blocks) x
  with_useful blocks x r =
      let s = chosen outs c blocks was.columns r.0 x r.2 in (
        r.0,
        p.useful r.0 r.1 (types_of blocks) (one_row s.0)
            (parts_meet (was.columns ++ types_of blocks) (r.0 ++ one_row s.0) c ∙ s.2),
        subst (λ (cs : List Column). Reach outs c cs r.0 blocks x) (sym p.columns) r.2,
      )

  with_all : (blocks : List Block) (x : List Value) → Reach outs c [] [] (is ∷ blocks) x
      → Reach outs c [] [] (was ∷ blocks) x
  with_all blocks x r = (
    r.0,
    p.only r.0 r.1,
    subst (λ (cs : List Column). Reach outs c cs r.0 blocks x) p.columns r.2,
  )

  first_pruned : (blocks : List Block) → answered outs c (was ∷ blocks)
      ≡ answered outs c (is ∷ blocks)
  first_pruned blocks = set_same row_cmp row_exact (answered_rows outs c (was ∷ blocks))
      (answered_rows outs c (is ∷ blocks)) (record {
        there = λ x i. answered_reach outs c (is ∷ blocks) x
            (with_useful blocks x (reach_answered outs c (was ∷ blocks) x i));
        back = λ x i. answered_reach outs c (was ∷ blocks) x
            (with_all blocks x (reach_answered outs c (is ∷ blocks) x i));
      })

  still_block : IsBlock was → IsBlock is
  still_block b = record {
    own = subst (λ k. AreOwn k is.columns) (sym p.number)
        (subst (AreOwn was.number) (sym p.columns) b.own);
    wide = λ row i. b.wide row (p.only row i) ∙ ap length (sym p.columns);
  }

  -- as any of them
  pub one_pruned : (before after : List Block) → AreBlocks before → IsBlock was
      → Apart was.number before → answered outs c (before ++ was ∷ after)
      ≡ answered outs c (before ++ is ∷ after)
  one_pruned before after f b far =
      moved outs c [] before was after tt f b far
      ∙ first_pruned (before ++ after)
      ∙ sym (moved outs c [] before is after tt f (still_block b)
      (subst (λ k. Apart k before) (sym p.number) far))
