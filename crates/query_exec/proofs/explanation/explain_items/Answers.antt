use Rattle.std.proofs.Common.{◌≡◌, ◌<◌, ◌+◌, ◌++◌, ℕ, List, length, get_or, take, refl, sym, ap}
use Rattle.std.proofs.Common.{subst, ◌∙◌, append_assoc, append-nil}
use Rattle.std.proofs.lemmas.List.{take_all}
use Rattle.cond_expr.specs.declared.expr.ColRef.{ColRef}
use Rattle.cond_expr.specs.References.{borrowed}
use Rattle.cond_expr.specs.Seen.{test}
use Rattle.cond_expr.specs.Trees.{Test}
use Rattle.version_groups.specs.Groups.{versions_in}
use Rattle.plain_answers_spec.specs.Branches.{Item}
use Rattle.piece_ir_spec.specs.Books.{book_of}
use Rattle.piece_ir.specs.ExplainedPieces.{PlainExplained, all_explained}
use Rattle.query_exec.specs.Questions.{own_read}
use Rattle.query_exec.specs.QueryPieces.{table_pieces, items_pieces, AreLeft}
use Rattle.query_exec.specs.Routes.{MayBeRead}
use Rattle.query_exec.proofs.ItemAtoms.{may_next, items_more}
use Rattle.query_exec.proofs.explanation.explain_items.Goals as goal

pub loop-item-init : goal.loop-item-init
loop-item-init g c = record {
  place = refl;
  may = c.requires.read;
  alive = λ before h. subst (λ (es : List PlainExplained).
      AreLeft (versions_in c.args.groups.now) es (all_explained c.args.into.now.items))
      (sym (append-nil before)) h;
}

pub explain_item-requires-clause-read : goal.explain_item-requires-clause-read
explain_item-requires-clause-read g c =
    let rs : List ColRef = borrowed c.args.references.now in
    let cd : Test = test c.args.cond.now in
    let from : List Item = c.args.from.now in
    let i : ℕ = c.loop-item.item-index in
    let x : Item = c.item-item.result in
    let below : i < length from = c.loop-item-test.true in
    let is : x ≡ get_or from i x = c.item-item.is in
    let next = may_next (versions_in c.args.groups.now) c.args.route.now rs cd from i x below is
    c.loop-item.invariant.may in
    subst (λ (j : ℕ). MayBeRead (versions_in c.args.groups.now) c.args.route.now x.0
    (own_read j rs cd)) (sym c.loop-item.invariant.place) next.0

pub loop-item-preserved : goal.loop-item-preserved
loop-item-preserved g c =
    let rs : List ColRef = borrowed c.args.references.now in
    let cd : Test = test c.args.cond.now in
    let from : List Item = c.args.from.now in
    let i : ℕ = c.loop-item.item-index in
    let x : Item = c.item-item.result in
    let below : i < length from = c.loop-item-test.true in
    let is : x ≡ get_or from i x = c.item-item.is in
    let next = may_next (versions_in c.args.groups.now) c.args.route.now rs cd from i x below is
    c.loop-item.invariant.may in
    let so : List PlainExplained = items_pieces
    (book_of g.R.Rule.handles g.R.Rule.answers c.args.book.now.rules.items)
    (versions_in c.args.groups.now) c.args.route.now.asked c.args.route.now.parts.items rs cd
    c.args.branch 0 (take i from) in
    record {
      place = ap (λ (j : ℕ). j + 1) c.loop-item.invariant.place;
      may = next.1;
      alive = λ before h.
          let was : AreLeft (versions_in c.args.groups.now)
          ((before ++ so) ++ table_pieces
          (book_of g.R.Rule.handles g.R.Rule.answers c.args.book.now.rules.items)
          (versions_in c.args.groups.now) c.args.route.now.asked
          x.0 (own_read c.loop-item.place rs cd) c.args.branch (c.loop-item.place + 1)
          c.args.route.now.parts.items) (all_explained c.explain_item.new.into.items) =
          c.in_ok-explain_item.ensures (before ++ so) (c.loop-item.invariant.alive before h) in
          let here : (before ++ so) ++ table_pieces
          (book_of g.R.Rule.handles g.R.Rule.answers c.args.book.now.rules.items)
          (versions_in c.args.groups.now) c.args.route.now.asked
          x.0 (own_read c.loop-item.place rs cd) c.args.branch (c.loop-item.place + 1)
          c.args.route.now.parts.items ≡ before
          ++ items_pieces (book_of g.R.Rule.handles g.R.Rule.answers c.args.book.now.rules.items)
          (versions_in c.args.groups.now) c.args.route.now.asked
          c.args.route.now.parts.items rs cd c.args.branch 0 (take (i + 1) from) =
          ap (λ (j : ℕ). (before ++ so) ++ table_pieces
          (book_of g.R.Rule.handles g.R.Rule.answers c.args.book.now.rules.items)
          (versions_in c.args.groups.now) c.args.route.now.asked
          x.0 (own_read j rs cd) c.args.branch (j + 1) c.args.route.now.parts.items)
          c.loop-item.invariant.place
          ∙ append_assoc before so (table_pieces
          (book_of g.R.Rule.handles g.R.Rule.answers c.args.book.now.rules.items)
          (versions_in c.args.groups.now) c.args.route.now.asked
          x.0 (own_read i rs cd) c.args.branch (i + 1) c.args.route.now.parts.items)
          ∙ ap (λ (es : List PlainExplained). before ++ es)
          (sym (items_more (book_of g.R.Rule.handles g.R.Rule.answers c.args.book.now.rules.items)
          (versions_in c.args.groups.now) c.args.route.now.asked
          c.args.route.now.parts.items rs cd c.args.branch from i x below is)) in
          subst (λ (es : List PlainExplained).
          AreLeft (versions_in c.args.groups.now) es
          (all_explained c.explain_item.new.into.items)) here was;
    }

pub returns : goal.returns
returns g c = λ before h.
    subst (λ (from : List Item). AreLeft (versions_in c.args.groups.now)
    (before ++ items_pieces (book_of g.R.Rule.handles g.R.Rule.answers c.args.book.now.rules.items)
    (versions_in c.args.groups.now) c.args.route.now.asked c.args.route.now.parts.items
    (borrowed c.args.references.now) (test c.args.cond.now) c.args.branch 0 from)
    (all_explained c.loop-item.into.items))
    (take_all c.loop-item.item-index c.args.from.now c.loop-item-test.false)
    (c.loop-item.invariant.alive before h)
