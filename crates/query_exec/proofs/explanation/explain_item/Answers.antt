use Rattle.std.proofs.Common.{◌++◌, List, sym, ap, subst, ◌∙◌}
use Rattle.cond_expr.specs.References.{borrowed}
use Rattle.cond_expr.specs.Seen.{test}
use Rattle.version_groups.specs.Groups.{versions_in}
use Rattle.plain_answers_spec.specs.Reading.{Read}
use Rattle.piece_ir_spec.specs.Books.{book_of}
use Rattle.piece_ir.specs.ExplainedPieces.{PlainExplained, all_explained}
use Rattle.query_exec.specs.declared.part_piece.PartPieces.{PartPieces}
use Rattle.query_exec.specs.Planned.{ArePlanned, planned_pieces}
use Rattle.query_exec.specs.Questions.{own_read}
use Rattle.query_exec.specs.QueryPieces.{table_pieces, AreLeft}
use Rattle.query_exec.specs.Routes.{MayBeRead}
use Rattle.query_exec.proofs.AliveLaws.{left_joined, planned_left}
use Rattle.query_exec.proofs.explanation.explain_item.Goals as goal

pub table_pieces-requires-clause-read : goal.table_pieces-requires-clause-read
table_pieces-requires-clause-read g c =
    subst (λ (r : Read). MayBeRead (versions_in c.args.groups.now) c.args.route.now c.args.table.now
    r) (sym c.in_ok-question.ensures) c.requires.read

pub returns : goal.returns
returns g c = λ before h.
    let r : Read = own_read c.args.place (borrowed c.args.references.now) (test c.args.cond.now) in
    let own : List PlainExplained = table_pieces
    (book_of g.R.Rule.handles g.R.Rule.answers c.args.book.now.rules.items)
    (versions_in c.args.groups.now) c.args.route.now.asked c.args.table.now r c.args.branch
    c.args.atom c.args.route.now.parts.items in
    subst (λ (es : List PlainExplained). AreLeft (versions_in c.args.groups.now) (before ++ own) es)
    (sym (c.in_ok-push_plan.ensures ∙ ap (λ (xs : List PartPieces).
    all_explained c.args.into.now.items ++ planned_pieces c.args.branch c.args.atom xs)
    c.deref.ensures.value))
    (left_joined (versions_in c.args.groups.now) before own (all_explained c.args.into.now.items)
    (planned_pieces c.args.branch c.args.atom c.in_ok-plan.plan.items) h
    (planned_left (versions_in c.args.groups.now)
    (book_of g.R.Rule.handles g.R.Rule.answers c.args.book.now.rules.items)
    c.args.route.now.asked c.args.table.now r c.args.branch c.args.atom
    c.args.route.now.parts.items c.in_ok-plan.plan.items
    (subst (λ (x : Read). ArePlanned (book_of g.R.Rule.handles g.R.Rule.answers
    c.args.book.now.rules.items)
    (versions_in c.args.groups.now) c.args.route.now.asked c.args.table.now x
    c.args.route.now.parts.items c.in_ok-plan.plan.items) c.in_ok-question.ensures
    c.in_ok-plan.ensures)))
