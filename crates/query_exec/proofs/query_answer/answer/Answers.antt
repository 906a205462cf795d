use Rattle.std.proofs.Common.{◌≤◌, ◌+◌, ℕ, List, sym, ap, subst, ◌∙◌}
use Rattle.relations_spec.specs.Sets.{In}
use Rattle.relations_spec.specs.Spans.{Span, forever}
use Rattle.relations_spec.specs.Listing.{IsListing}
use Rattle.prima_base.specs.Order.{row_cmp}
use Rattle.prima_base.specs.Timed.{entries_of, rows_at}
use Rattle.smo_ops_spec.specs.Past.{no_tables, tables_from, tables_of}
use Rattle.smo_ops_versions_spec.specs.Migration.{migrated}
use Rattle.version_groups.specs.Groups.{versions_in}
use Rattle.plain_answers_spec.specs.Branches.{plain}
use Rattle.piece_ir_spec.specs.Books.{book_of}
use Rattle.piece_ir.specs.ExplainedPieces.{PlainExplained}
use Rattle.temporal_lang_types.specs.Branches.{branches_of}
use Rattle.temporal_lang_types.specs.declared.branch.Branch.{Branch}
use Rattle.temporal_lang_types.specs.Queries.{query_of}
use Rattle.query_exec.specs.Accepted.{MayBranches}
use Rattle.query_exec.specs.Borrowed.{AlwaysBorrowedBy, AllSpare}
use Rattle.query_exec.specs.QueryPieces.{alive_of}
use Rattle.query_exec.specs.Reads.{reads_of}
use Rattle.query_exec.proofs.AliveLaws.{alive_in}
use Rattle.query_exec.proofs.BorrowedRows.{begun_borrowed}
use Rattle.query_exec.proofs.WholeAnswers.{may_all, whole_listing, whole_answer, pieces_here}
use Rattle.query_exec.proofs.query_answer.answer.Goals as goal

pub answer_branches-requires-clause-schema : goal.answer_branches-requires-clause-schema
answer_branches-requires-clause-schema g c =
    c.schema_of-schema.ensures
    ∙ ap (λ (v : ℕ). tables_from no_tables (versions_in c.args.groups.now) v)
    (sym c.in_ok-route.ensures.asked)

pub answer_branches-requires-clause-read : goal.answer_branches-requires-clause-read
answer_branches-requires-clause-read g c =
    let h = c.requires.answerable in
    subst (λ (bs : List Branch). MayBranches (versions_in c.args.groups.now) c.in_ok-route.route
    (branches_of bs)) (sym c.deref.ensures.value)
    (may_all c.args.groups.now h.past h.asked (query_of c.args.query.now) h.represents h.accepted
    c.in_ok-route.route c.in_ok-route.ensures.route c.in_ok-route.ensures.asked
    (c.in_ok-route.ensures.slice ∙ c.slice-slice.ensures.value))

pub returns-in_err-rows-clause-cost : goal.returns-in_err-rows-clause-cost
returns-in_err-rows-clause-cost g c =
    subst (λ (all : List PlainExplained). c.answer_branches.new.steps ≤ c.args.steps.now
    + reads_of c.args.groups.now (alive_of all))
    (pieces_here (book_of g.R.Rule.handles g.R.Rule.answers c.args.book.now.rules.items)
    (versions_in c.args.groups.now) (query_of c.args.query.now) c.in_ok-route.route.asked
    c.in_ok-route.route.parts.items c.slice-slice.result (branches_of c.deref.result.now)
    c.in_ok-route.ensures.asked c.in_ok-route.ensures.parts c.slice-slice.ensures.value
    (ap branches_of c.deref.ensures.value))
    (c.answer_branches.ensures.cost 1)

pub returns-clause-rows : goal.returns-clause-rows
returns-clause-rows g c = λ past asked represents accepted.
    whole_answer c.args.groups.now past asked (query_of c.args.query.now) represents accepted
    c.in_ok-route.route c.in_ok-route.ensures.route c.in_ok-route.ensures.asked
    (c.in_ok-route.ensures.slice ∙ c.slice-slice.ensures.value)
    (λ m. rows_at c.in_ok-rows.rows.items m)
    (λ m inside. c.in_ok-rows.ensures.rows past represents m inside
    ∙ ap (λ (bs : List Branch). plain (tables_of past c.in_ok-route.route.asked) (branches_of bs)
    (migrated past m c.in_ok-route.route.asked)) c.deref.ensures.value)
    (book_of g.R.Rule.handles g.R.Rule.answers c.args.book.now.rules.items)
    c.known.ensures
    (subst (λ (s : Span). s.end ≤ forever) c.slice-slice.ensures.value c.ends_in_time.ensures)
    (entries_of c.coalesce_in_place.new.rows.items)
    (subst (λ (s : Span). IsListing row_cmp (λ m. rows_at c.in_ok-rows.rows.items m) s
    (entries_of c.coalesce_in_place.new.rows.items)) c.slice-slice.ensures.value
    c.coalesce_in_place.ensures.listing)

pub returns-clause-listed : goal.returns-clause-listed
returns-clause-listed g c = λ past asked represents accepted.
    whole_listing c.args.groups.now past asked (query_of c.args.query.now) represents accepted
    c.in_ok-route.route c.in_ok-route.ensures.route c.in_ok-route.ensures.asked
    (c.in_ok-route.ensures.slice ∙ c.slice-slice.ensures.value)
    (λ m. rows_at c.in_ok-rows.rows.items m)
    (λ m inside. c.in_ok-rows.ensures.rows past represents m inside
    ∙ ap (λ (bs : List Branch). plain (tables_of past c.in_ok-route.route.asked) (branches_of bs)
    (migrated past m c.in_ok-route.route.asked)) c.deref.ensures.value)
    (entries_of c.coalesce_in_place.new.rows.items)
    (subst (λ (s : Span). IsListing row_cmp (λ m. rows_at c.in_ok-rows.rows.items m) s
    (entries_of c.coalesce_in_place.new.rows.items)) c.slice-slice.ensures.value
    c.coalesce_in_place.ensures.listing)

pub returns-clause-cost : goal.returns-clause-cost
returns-clause-cost g c =
    subst (λ (all : List PlainExplained). c.answer_branches.new.steps ≤ c.args.steps.now
    + reads_of c.args.groups.now (alive_of all))
    (pieces_here (book_of g.R.Rule.handles g.R.Rule.answers c.args.book.now.rules.items)
    (versions_in c.args.groups.now) (query_of c.args.query.now) c.in_ok-route.route.asked
    c.in_ok-route.route.parts.items c.slice-slice.result (branches_of c.deref.result.now)
    c.in_ok-route.ensures.asked c.in_ok-route.ensures.parts c.slice-slice.ensures.value
    (ap branches_of c.deref.ensures.value))
    (c.answer_branches.ensures.cost 1)

pub returns-clause-borrowed : goal.returns-clause-borrowed
returns-clause-borrowed g c = λ past shows pieces h by_branch spared.
    let query = query_of c.args.query.now in
    begun_borrowed past query by_branch c.in_ok-rows.rows.items
    c.coalesce_in_place.new.rows.items c.coalesce_in_place.ensures.values
    (subst (λ (bs : List Branch). AlwaysBorrowedBy past query.version by_branch 1 (branches_of bs)
    c.in_ok-rows.rows.items) c.deref.ensures.value
    (subst (λ (v : ℕ). AlwaysBorrowedBy past v by_branch 1 (branches_of c.deref.result.now)
    c.in_ok-rows.rows.items) c.in_ok-route.ensures.asked
    (c.in_ok-rows.ensures.borrowed past shows 1 by_branch
    (subst (λ (all : List PlainExplained). AllSpare c.args.groups.now by_branch all)
    (sym (pieces_here (book_of g.R.Rule.handles g.R.Rule.answers c.args.book.now.rules.items)
    (versions_in c.args.groups.now) (query_of c.args.query.now) c.in_ok-route.route.asked
    c.in_ok-route.route.parts.items c.slice-slice.result (branches_of c.deref.result.now)
    c.in_ok-route.ensures.asked c.in_ok-route.ensures.parts c.slice-slice.ensures.value
    (ap branches_of c.deref.ensures.value)))
    (λ e alive. spared e (alive_in (versions_in c.args.groups.now) _ pieces e h alive))))))

pub returns-clause-least : goal.returns-clause-least
returns-clause-least g c = λ e m. c.in_ok-rows.ensures.least 1 e
    (subst (λ (all : List PlainExplained). In e (alive_of all))
    (sym (pieces_here (book_of g.R.Rule.handles g.R.Rule.answers c.args.book.now.rules.items)
    (versions_in c.args.groups.now) (query_of c.args.query.now) c.in_ok-route.route.asked
    c.in_ok-route.route.parts.items c.slice-slice.result (branches_of c.deref.result.now)
    c.in_ok-route.ensures.asked c.in_ok-route.ensures.parts c.slice-slice.ensures.value
    (ap branches_of c.deref.ensures.value))) m)
