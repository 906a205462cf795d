use Rattle.std.proofs.Common.{rules, ◌≡◌, ℕ, ◌+◌, List, map, ◌++◌, [], ◌∷◌, drop, ap, sym, ◌∙◌}
use Rattle.std.specs.Borrow.{Bor}
use Rattle.piece_ir.specs.declared.view.View.{View}
use Rattle.relations_spec.specs.Choices.{choices}
use Rattle.piece_ir_spec.specs.Pieces.{PlainPiece}
use Rattle.piece_ir_spec.specs.Views.{PlainView, views_of}
use Rattle.piece_ir_spec.specs.Unfolding.{unfolded}
use Rattle.piece_ir_spec.proofs.JoinedChoices.{map_both}
use Rattle.piece_ir.specs.Shown.{piece_of, shown_pieces, view_of, all_views_of, borrowed_views}
use Rattle.piece_ir.proofs.ChosenViews.{from_views, append_nil, one_more, none_more, choices_from}
use Rattle.piece_ir.proofs.ChosenViews.{choices_none}
use Rattle.piece_ir.proofs.choice.+rest.Goals as goal

pub unfold_after-returns-clause-news : goal.unfold_after-returns-clause-news
unfold_after-returns-clause-news t c =
    let more : List (List PlainView) = choices
    (map (views_of (all_views_of c.args.by.now.views.now))
    (drop c.args.at c.args.by.now.piece.now.atoms.items)) in
    let pushed : borrowed_views c.push.new.self.items ≡ borrowed_views c.args.chosen.now.items
    ++ view_of c.args.view.now ∷ [] =
    ap borrowed_views c.in_ok-push.ensures.items
    ∙ map_both (λ (v : Bor View). view_of v.now) c.args.chosen.now.items (c.args.view ∷ []) in
    c.in_ok-unfold_from.ensures.news
    ∙ ap (λ (prefix : List PlainView). shown_pieces c.args.news.now.items
    ++ map (λ (suffix : List PlainView). unfolded (piece_of c.args.by.now.piece.now)
    (prefix ++ suffix)) more) pushed

pub unfold_from-returns-then-at-len-clause-news : goal.unfold_from-returns-then-at-len-clause-news
unfold_from-returns-then-at-len-clause-news t c =
    let by = c.args.by.now in
    let f = unfolded (piece_of by.piece.now) in
    let prefix = borrowed_views c.args.chosen.now.items in
    let is : piece_of c.in_ok-unfold.field-0 ≡ f (prefix ++ []) =
    c.in_ok-unfold.ensures ∙ ap (λ vs. f (borrowed_views vs)) c.deref.ensures.value
    ∙ ap f (sym (append_nil prefix)) in
    ap shown_pieces c.in_ok-push.ensures.items ∙ map_both piece_of c.args.news.now.items
    (c.in_ok-unfold.field-0 ∷ [])
    ∙ ap (λ (p : PlainPiece). shown_pieces c.args.news.now.items ++ p ∷ []) is
    ∙ ap (λ (cs : List (List PlainView)). shown_pieces c.args.news.now.items
    ++ map (λ (suffix : List PlainView). f (prefix ++ suffix)) cs)
    (choices_none (views_of (all_views_of by.views.now)) by.piece.now.atoms.items c.args.at
    (search rules))

pub unfold_from-loop-view-preserved : goal.unfold_from-loop-view-preserved
unfold_from-loop-view-preserved t c =
    let by = c.args.by.now in
    let atoms = by.piece.now.atoms.items in
    let same : c.loop-view.chosen.items ≡ c.args.chosen.now.items = c.loop-view.invariant.chosen in
    record {
      chosen = c.in_ok-unfold_after.ensures.chosen ∙ same;
      news = one_more (unfolded (piece_of by.piece.now)) (borrowed_views c.args.chosen.now.items)
          (choices (map (views_of (all_views_of by.views.now)) (drop (c.args.at + 1) atoms)))
          c.views_at-list.result.now c.loop-view.view-index c.view-item.result
          (shown_pieces c.args.news.now.items) (shown_pieces c.loop-view.news.items)
          (shown_pieces c.unfold_after.new.news.items) (search rules) c.view-item.is
          c.loop-view.invariant.news
          (c.in_ok-unfold_after.ensures.news ∙ ap
          (λ vs. shown_pieces c.loop-view.news.items
          ++ map (λ (suffix : List PlainView).
          unfolded (piece_of by.piece.now)
          ((borrowed_views vs ++ view_of c.view-item.result ∷ []) ++ suffix))
          (choices (map (views_of (all_views_of by.views.now)) (drop (c.args.at + 1) atoms))))
          same);
    }

pub unfold_from-returns-clause-news : goal.unfold_from-returns-clause-news
unfold_from-returns-clause-news t c =
    let by = c.args.by.now in
    let atoms = by.piece.now.atoms.items in
    let vs : List ℕ → List PlainView = views_of (all_views_of by.views.now) in
    let f = unfolded (piece_of by.piece.now) in
    let prefix = borrowed_views c.args.chosen.now.items in
    let start = shown_pieces c.args.news.now.items in
    none_more f prefix (choices (map vs (drop (c.args.at + 1) atoms))) c.views_at-list.result.now
    c.loop-view.view-index start (shown_pieces c.loop-view.news.items) (search rules)
    c.loop-view.invariant.news
    ∙ ap (λ (xs : List PlainView). start ++ from_views f prefix
    (choices (map vs (drop (c.args.at + 1) atoms))) xs) c.views_at-list.ensures
    ∙ ap (λ (cs : List (List PlainView)). start
    ++ map (λ (suffix : List PlainView). f (prefix ++ suffix)) cs)
    (choices_from vs atoms c.args.at (search rules))
