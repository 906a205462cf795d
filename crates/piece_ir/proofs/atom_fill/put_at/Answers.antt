use Rattle.std.proofs.Common.{rules, ◌≡◌, ℕ, ◌<◌, length, List, arith, ◌∙◌, ap, get_or}
use Rattle.cond_expr.specs.declared.expr.Expr.{Expr}
use Rattle.cond_expr.specs.Trees.{fill}
use Rattle.smo_ops_types.specs.Changes.{sets_of}
use Rattle.piece_ir_spec.specs.Views.{out_of}
use Rattle.piece_ir_spec.specs.Unfolding.{moved_on}
use Rattle.piece_ir.specs.Shown.{borrowed_views}
use Rattle.piece_ir.proofs.Placed.{places_many, borrowed_many, put_inside, put_outside}
use Rattle.piece_ir.proofs.atom_fill.put_at.Goals as goal

pub bounds-places-at : goal.bounds-places-at
bounds-places-at c =
    let views = c.args.views.now in
    let inside : c.args.atom < length views = search rules in
    let e : length c.args.places.now ≡ length views = ap length c.requires
    ∙ places_many 0 (borrowed_views views) ∙ borrowed_many views in
    omega arith

pub returns-then-at-views : goal.returns-then-at-views
returns-then-at-views c =
    let inside : c.args.atom < length c.args.views.now = search rules in
    c.in_ok-found.ensures
    ∙ ap (λ (xs : List (List ℕ × Expr)). fill (moved_on (get_or c.args.places.now c.args.atom 0))
    (out_of (sets_of xs) c.args.name.now)) c.deref.ensures.value
    ∙ put_inside c.args.views.now c.args.places.now c.args.atom c.args.name.now
    c.index-views-at.result c.requires inside

pub returns : goal.returns
returns c = c.in_ok-left.ensures ∙ put_outside c.args.views.now c.args.atom c.args.name.now
    (search rules)
