use Rattle.std.proofs.Common.{◌≡◌, List, sym, ap, subst, ◌∙◌}
use Rattle.std.specs.List.{filter}
use Rattle.smo_ops_types.specs.Operators.{operator_of}
use Rattle.piece_ir_spec.specs.Typed.{AllTyped}
use Rattle.piece_ir_spec.specs.Views.{Views}
use Rattle.piece_ir_spec.specs.Unfolding.{unfoldings}
use Rattle.piece_ir.specs.declared.view.TableViews.{TableViews}
use Rattle.piece_ir.specs.Shown.{piece_of, shown_pieces, all_views_of}
use Rattle.piece_prune.specs.DeadPieces.{lives}
use Rattle.piece_ir_spec.specs.OperatorViews.{operator_views}
use Rattle.rewrite_rules.specs.LivingUnfoldings.{living_by_views}
use Rattle.rewrite_rules.proofs.RuleLaw.{kept, all_typed}
use Rattle.rewrite_rules.proofs.LivingLaw.{left_live}
use Rattle.rewrite_rules.proofs.unfolded_piece.unfolded.Goals as goal

pub living-requires : goal.living-requires
living-requires c =
    let all : shown_pieces c.in_ok-news.news.items
    ≡ unfoldings (operator_views c.args.before.now (operator_of c.args.op.now))
    (piece_of c.args.piece.now) =
    c.in_ok-news.ensures
    ∙ ap (λ (made : List TableViews). unfoldings (all_views_of made) (piece_of c.args.piece.now))
    c.deref.ensures.value
    ∙ ap (λ (views : Views). unfoldings views (piece_of c.args.piece.now)) c.in_ok-made.ensures in
    subst (AllTyped c.args.before.now) (sym all) (all_typed c.args.before.now
    (operator_of c.args.op.now) (piece_of c.args.piece.now) c.requires.valid c.requires.accepted
    c.requires.typed)

pub returns : goal.returns
returns c =
    let all : shown_pieces c.in_ok-news.news.items
    ≡ unfoldings (operator_views c.args.before.now (operator_of c.args.op.now))
    (piece_of c.args.piece.now) =
    c.in_ok-news.ensures
    ∙ ap (λ (made : List TableViews). unfoldings (all_views_of made) (piece_of c.args.piece.now))
    c.deref.ensures.value
    ∙ ap (λ (views : Views). unfoldings views (piece_of c.args.piece.now)) c.in_ok-made.ensures in
    let is : shown_pieces c.living.result.items ≡ living_by_views operator_views
    (operator_of c.args.op.now) c.args.before.now (piece_of c.args.piece.now) =
    c.living.ensures.told ∙ ap (filter lives) all in
    record {
      is = is;
      keeps = kept c.args.before.now (operator_of c.args.op.now) (piece_of c.args.piece.now)
          (shown_pieces c.living.result.items) c.requires.valid c.requires.accepted c.requires.typed
          is;
      living = left_live c.args.before.now (shown_pieces c.in_ok-news.news.items)
          (shown_pieces c.living.result.items)
          (subst (AllTyped c.args.before.now) (sym all) (all_typed c.args.before.now
          (operator_of c.args.op.now) (piece_of c.args.piece.now) c.requires.valid
          c.requires.accepted c.requires.typed))
          c.living.ensures.living;
    }
