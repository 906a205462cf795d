use Rattle.std.proofs.Common.{◌++◌, List, reverse, sym, subst}
use Rattle.version_groups.specs.Groups.{versions_in}
use Rattle.piece_ir_spec.specs.Books.{book_of}
use Rattle.period_split.specs.Splitting.{Part}
use Rattle.query_exec.specs.Asked.{read_asked}
use Rattle.query_exec.specs.Planned.{ArePlanned}
use Rattle.query_exec.specs.Routes.{AreAlong}
use Rattle.query_exec.specs.declared.part_piece.PartPieces.{PartPieces}
use Rattle.query_exec.proofs.WalkSteps.{back_along, on_along}
use Rattle.query_exec.proofs.PlanLaws.{planned_joined, planned_reversed}
use Rattle.query_exec.proofs.table.table_pieces.Goals as goal

pub pieces_along-requires-clause-along : goal.pieces_along-requires-clause-along
pieces_along-requires-clause-along g c =
    subst (AreAlong (versions_in c.args.groups.now) c.args.route.now.asked c.args.table.now
    (read_asked c.args.question.now)) (sym c.deref.ensures.value)
    (back_along (versions_in c.args.groups.now) c.args.route.now c.requires.route c.args.table.now
    (read_asked c.args.question.now) c.requires.read)

pub pieces_along-requires-2-clause-along : goal.pieces_along-requires-2-clause-along
pieces_along-requires-2-clause-along g c =
    subst (AreAlong (versions_in c.args.groups.now) c.args.route.now.asked c.args.table.now
    (read_asked c.args.question.now)) (sym c.deref-2.ensures.value)
    (on_along (versions_in c.args.groups.now) c.args.route.now c.requires.route c.args.table.now
    (read_asked c.args.question.now) c.requires.read)

pub returns : goal.returns
returns g c =
    let r = read_asked c.args.question.now in
    subst (λ (ps : List Part). ArePlanned
    (book_of g.R.Rule.handles g.R.Rule.answers c.args.book.now.rules.items)
    (versions_in c.args.groups.now) c.args.route.now.asked c.args.table.now r ps
    c.append.new.self.items) (sym c.requires.route.order)
    (subst (λ (xs : List PartPieces). ArePlanned
    (book_of g.R.Rule.handles g.R.Rule.answers c.args.book.now.rules.items)
    (versions_in c.args.groups.now) c.args.route.now.asked c.args.table.now r
    (reverse c.args.route.now.earlier.items ++ c.args.route.now.later.items) xs)
    (sym c.in_ok-append.ensures.items)
    (planned_joined (book_of g.R.Rule.handles g.R.Rule.answers c.args.book.now.rules.items)
    (versions_in c.args.groups.now) c.args.route.now.asked c.args.table.now r
    (reverse c.args.route.now.earlier.items) c.args.route.now.later.items
    c.reverse.new.self.items c.in_ok-later.later.items
    (subst (λ (xs : List PartPieces). ArePlanned
    (book_of g.R.Rule.handles g.R.Rule.answers c.args.book.now.rules.items)
    (versions_in c.args.groups.now) c.args.route.now.asked c.args.table.now r
    (reverse c.args.route.now.earlier.items) xs) (sym c.reverse.ensures.items)
    (planned_reversed (book_of g.R.Rule.handles g.R.Rule.answers c.args.book.now.rules.items)
    (versions_in c.args.groups.now) c.args.route.now.asked c.args.table.now r
    c.args.route.now.earlier.items c.in_ok-plan.plan.items
    (subst (λ (ps : List Part). ArePlanned
    (book_of g.R.Rule.handles g.R.Rule.answers c.args.book.now.rules.items)
    (versions_in c.args.groups.now) c.args.route.now.asked c.args.table.now r ps
    c.in_ok-plan.plan.items) c.deref.ensures.value c.in_ok-plan.ensures)))
    (subst (λ (ps : List Part). ArePlanned
    (book_of g.R.Rule.handles g.R.Rule.answers c.args.book.now.rules.items)
    (versions_in c.args.groups.now) c.args.route.now.asked c.args.table.now r ps
    c.in_ok-later.later.items) c.deref-2.ensures.value c.in_ok-later.ensures)))
