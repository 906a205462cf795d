use Rattle.std.proofs.Common.{◌≡◌, ◌+◌, ◌≤◌, ℕ, true, List, ap, sym, subst, ◌∙◌}
use Rattle.relations_spec.specs.Sets.{In}
use Rattle.relations_spec.specs.Spans.{Span, covers}
use Rattle.prima_base.specs.Timed.{entries_of}
use Rattle.smo_ops_spec.specs.Past.{tables_of, database_at}
use Rattle.version_groups.specs.Groups.{versions_in}
use Rattle.piece_ir_spec.specs.Books.{book_of}
use Rattle.piece_ir_spec.specs.Pieces.{all_mean}
use Rattle.piece_ir_spec.specs.Typed.{AllTyped}
use Rattle.piece_ir.specs.Shown.{shown_pieces}
use Rattle.query_pieces_spec.specs.Gathering.{IsGathered}
use Rattle.query_exec.specs.Asked.{read_asked}
use Rattle.query_exec.specs.declared.part_piece.PartPieces.{PartPieces}
use Rattle.join_exec_spec.specs.BorrowedOutputs.{RowBorrows}
use Rattle.join_exec_levels.proofs.CoalescedRows.{each_by_values}
use Rattle.query_exec.specs.Borrowed.{AllPlainIn}
use Rattle.query_exec.specs.Planned.{planned_spans}
use Rattle.query_exec.specs.Questions.{table_read}
use Rattle.query_exec.specs.Reads.{part_read, explained_read}
use Rattle.query_exec.specs.Routes.{IsOwn}
use Rattle.query_exec.specs.Totals.{total}
use Rattle.query_exec.proofs.AliveLaws.{plan_cost, plan_least}
use Rattle.query_exec.proofs.BorrowedRows.{plan_plain}
use Rattle.query_exec.proofs.PlanLaws.{plan_ready, plan_means, planned_over}
use Rattle.query_exec.proofs.RouteLaws.{gathered_listed}
use Rattle.query_exec.proofs.TotalLaws.{from_part}
use Rattle.query_exec.proofs.table.read_table.Goals as goal

pub read_parts-requires : goal.read_parts-requires
read_parts-requires g c =
    let past = c.requires.represents.0 in
    let represents = c.requires.represents.1 in
    record {
      ready = (
        past,
        represents,
        subst (λ (xs : List PartPieces). (x : PartPieces) → In x xs
            → IsOwn (versions_in c.args.groups.now) x.part
            × AllTyped (tables_of past x.part.1) (shown_pieces x.pieces.items))
            (sym c.deref.ensures.value)
            (plan_ready c.args.groups.now past represents
            (book_of g.R.Rule.handles g.R.Rule.answers c.args.book.now.rules.items) c.known.ensures
            c.args.route.now c.requires.route
            c.args.table.now (read_asked c.args.question.now) c.requires.read
            c.in_ok-plan.plan.items c.in_ok-plan.ensures),
      );
    }

pub returns-clause-rows : goal.returns-clause-rows
returns-clause-rows g c = λ past represents.
    let r = read_asked c.args.question.now in
    let relation = table_read past c.args.route.now.asked c.args.table.now r in
    let over = ap planned_spans c.deref.ensures.value
    ∙ planned_over (book_of g.R.Rule.handles g.R.Rule.answers c.args.book.now.rules.items)
    (versions_in c.args.groups.now) c.args.route.now.asked c.args.table.now r
    c.args.route.now.parts.items c.in_ok-plan.plan.items c.in_ok-plan.ensures in
    gathered_listed past c.args.route.now c.requires.route c.args.table.now r
    (entries_of c.in_ok-rows.rows.items) (entries_of c.coalesce_in_place.new.rows.items)
    (subst (λ (spans : List Span). IsGathered relation spans (entries_of c.in_ok-rows.rows.items))
    over
    (c.in_ok-rows.ensures.rows past represents relation
    (subst (λ (xs : List PartPieces). (x : PartPieces) → In x xs → (m : ℕ)
    → covers x.part.0 m ≡ true → all_mean (tables_of past x.part.1) (database_at past m)
    (shown_pieces x.pieces.items) ≡ relation m) (sym c.deref.ensures.value)
    (plan_means c.args.groups.now past represents
    (book_of g.R.Rule.handles g.R.Rule.answers c.args.book.now.rules.items)
    c.known.ensures c.args.route.now c.requires.route c.args.table.now
    (read_asked c.args.question.now) c.requires.read c.in_ok-plan.plan.items
    c.in_ok-plan.ensures))))
    c.coalesce_in_place.ensures.listing

pub returns-in_err-rows-clause-cost : goal.returns-in_err-rows-clause-cost
returns-in_err-rows-clause-cost g c = λ branch atom.
    subst (λ (n : ℕ). c.read_parts.new.steps ≤ c.args.steps.now + n)
    (ap (λ (xs : List PartPieces). total (part_read c.args.groups.now) xs) c.deref.ensures.value
    ∙ plan_cost c.args.groups.now (versions_in c.args.groups.now)
    (book_of g.R.Rule.handles g.R.Rule.answers c.args.book.now.rules.items)
    c.args.route.now.asked c.args.table.now (read_asked c.args.question.now) branch atom
    c.args.route.now.parts.items c.in_ok-plan.plan.items c.in_ok-plan.ensures)
    c.read_parts.ensures.cost

pub returns-clause-cost : goal.returns-clause-cost
returns-clause-cost g c = λ branch atom.
    subst (λ (n : ℕ). c.read_parts.new.steps ≤ c.args.steps.now + n)
    (ap (λ (xs : List PartPieces). total (part_read c.args.groups.now) xs) c.deref.ensures.value
    ∙ plan_cost c.args.groups.now (versions_in c.args.groups.now)
    (book_of g.R.Rule.handles g.R.Rule.answers c.args.book.now.rules.items)
    c.args.route.now.asked c.args.table.now (read_asked c.args.question.now) branch atom
    c.args.route.now.parts.items c.in_ok-plan.plan.items c.in_ok-plan.ensures)
    c.read_parts.ensures.cost

pub returns-clause-borrowed : goal.returns-clause-borrowed
returns-clause-borrowed g c = λ branch atom which columns h.
    each_by_values (RowBorrows which columns) c.in_ok-rows.rows.items
    c.coalesce_in_place.new.rows.items c.coalesce_in_place.ensures.values
    (c.in_ok-rows.ensures.borrowed which columns
    (subst (λ (xs : List PartPieces). (x : PartPieces) → In x xs
    → AllPlainIn c.args.groups.now x.part.1 x.part.0 which columns (shown_pieces x.pieces.items))
    (sym c.deref.ensures.value)
    (plan_plain c.args.groups.now (versions_in c.args.groups.now)
    (book_of g.R.Rule.handles g.R.Rule.answers c.args.book.now.rules.items)
    c.args.route.now.asked c.args.table.now (read_asked c.args.question.now) branch atom
    c.args.route.now.parts.items c.in_ok-plan.plan.items which columns c.in_ok-plan.ensures h)))

pub returns-clause-least : goal.returns-clause-least
returns-clause-least g c = λ branch atom e h.
    let x = plan_least c.args.groups.now (versions_in c.args.groups.now)
    (book_of g.R.Rule.handles g.R.Rule.answers c.args.book.now.rules.items)
    c.args.route.now.asked c.args.table.now (read_asked c.args.question.now) branch atom
    c.args.route.now.parts.items c.in_ok-plan.plan.items c.in_ok-plan.ensures e h in
    from_part (explained_read c.args.groups.now e) (part_read c.args.groups.now x.0)
    c.args.steps.now c.read_parts.new.steps x.2
    (c.in_ok-rows.ensures.least x.0 (subst (λ (xs : List PartPieces). In x.0 xs)
    (sym c.deref.ensures.value) x.1))
