use Rattle.std.proofs.Common.{◌≡◌, ◌≤◌, ◌++◌, List, map, length, sym, ap, subst, ◌∙◌}
use Rattle.std.specs.Borrow.{Bor}
use Rattle.cond_expr.specs.declared.expr.ColRef.{ColRef}
use Rattle.cond_expr.specs.declared.expr.Expr.{Expr}
use Rattle.cond_expr.specs.References.{borrowed}
use Rattle.cond_expr.specs.Seen.{tree, test}
use Rattle.version_groups.specs.Groups.{versions_in}
use Rattle.plain_answers_spec.specs.Branches.{Item, PlainBranch}
use Rattle.plain_answers_spec.specs.Naming.{all_references}
use Rattle.piece_ir_spec.specs.Books.{book_of}
use Rattle.piece_ir.specs.ExplainedPieces.{all_explained}
use Rattle.temporal_lang_types.specs.Branches.{branch_of}
use Rattle.query_exec.specs.Accepted.{MayItems}
use Rattle.query_exec.specs.QueryPieces.{items_pieces, AreLeft}
use Rattle.query_exec.proofs.explanation.explain_branch.Goals as goal

pub explain_items-requires-clause-read : goal.explain_items-requires-clause-read
explain_items-requires-clause-read g c =
    let b : PlainBranch = branch_of c.args.branch.now in
    let same : borrowed c.deref-3.result.now ≡ all_references b.outs b.cond =
    ap borrowed c.deref-3.ensures.value ∙ c.in_ok-gather_references.ensures
    ∙ ap (λ (xs : List Expr). borrowed c.new-references.result.items
    ++ all_references (map tree xs) (test c.args.branch.now.cond)) c.deref.ensures.value
    ∙ ap (λ (rs : List (Bor ColRef)). borrowed rs ++ all_references b.outs b.cond)
    c.new-references.ensures.items in
    subst (λ (rs : List ColRef). MayItems (versions_in c.args.groups.now) c.args.route.now rs
    b.cond 0 c.deref-2.result.now) (sym same)
    (subst (λ (from : List Item). MayItems (versions_in c.args.groups.now) c.args.route.now
    (all_references b.outs b.cond) b.cond 0 from) (sym c.deref-2.ensures.value)
    c.requires.read.items)

pub explain_items-requires-clause-few : goal.explain_items-requires-clause-few
explain_items-requires-clause-few g c =
    subst (λ (from : List Item). length from ≤ 8) (sym c.deref-2.ensures.value) c.requires.read.few

pub returns : goal.returns
returns g c = λ before h.
    let b : PlainBranch = branch_of c.args.branch.now in
    let same : borrowed c.deref-3.result.now ≡ all_references b.outs b.cond =
    ap borrowed c.deref-3.ensures.value ∙ c.in_ok-gather_references.ensures
    ∙ ap (λ (xs : List Expr). borrowed c.new-references.result.items
    ++ all_references (map tree xs) (test c.args.branch.now.cond)) c.deref.ensures.value
    ∙ ap (λ (rs : List (Bor ColRef)). borrowed rs ++ all_references b.outs b.cond)
    c.new-references.ensures.items in
    subst (λ (from : List Item). AreLeft (versions_in c.args.groups.now)
    (before ++ items_pieces (book_of g.R.Rule.handles g.R.Rule.answers c.args.book.now.rules.items)
    (versions_in c.args.groups.now) c.args.route.now.asked c.args.route.now.parts.items
    (all_references b.outs b.cond) b.cond c.args.number 0 from)
    (all_explained c.explain_items.new.into.items)) c.deref-2.ensures.value
    (subst (λ (rs : List ColRef). AreLeft (versions_in c.args.groups.now)
    (before ++ items_pieces (book_of g.R.Rule.handles g.R.Rule.answers c.args.book.now.rules.items)
    (versions_in c.args.groups.now) c.args.route.now.asked c.args.route.now.parts.items rs
    b.cond c.args.number 0 c.deref-2.result.now) (all_explained c.explain_items.new.into.items))
    same (c.in_ok-explain_items.ensures before h))
