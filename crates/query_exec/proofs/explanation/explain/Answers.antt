use Rattle.std.proofs.Common.{List, ap, sym, subst, ◌∙◌}
use Rattle.version_groups.specs.Groups.{versions_in}
use Rattle.piece_ir_spec.specs.Books.{book_of}
use Rattle.piece_ir.specs.ExplainedPieces.{PlainExplained, all_explained}
use Rattle.temporal_lang_types.specs.Branches.{branches_of}
use Rattle.temporal_lang_types.specs.declared.branch.Branch.{Branch}
use Rattle.temporal_lang_types.specs.Queries.{PlainQuery, query_of}
use Rattle.temporal_lang_spec.specs.Atoms.{with_atoms}
use Rattle.smo_ops_types.specs.Commands.{PlainVersion}
use Rattle.smo_ops_spec.specs.Past.{tables_of}
use Rattle.query_exec.specs.Accepted.{MayBranches}
use Rattle.query_exec.specs.QueryPieces.{ArePieces, AreLeft}
use Rattle.query_exec.specs.ToldMeanings.{MeanWhatIsAsked}
use Rattle.query_exec.proofs.WholeAnswers.{may_all, few_branches, pieces_here}
use Rattle.query_exec.proofs.explanation.explain.Goals as goal

pub explain_branches-requires-clause-read : goal.explain_branches-requires-clause-read
explain_branches-requires-clause-read g c =
    let h = c.requires.answerable in
    subst (λ (bs : List Branch). MayBranches (versions_in c.args.groups.now) c.in_ok-route.route
    (branches_of bs)) (sym c.deref.ensures.value)
    (may_all c.args.groups.now h.past h.asked (query_of c.args.query.now) h.represents h.accepted
    c.in_ok-route.route c.in_ok-route.ensures.route c.in_ok-route.ensures.asked
    (c.in_ok-route.ensures.slice ∙ c.slice-slice.ensures.value))

pub explain_branches-requires-clause-few : goal.explain_branches-requires-clause-few
explain_branches-requires-clause-few g c =
    let h = c.requires.answerable in
    few_branches c.args.groups.now h.past h.asked
    (query_of c.args.query.now) h.represents h.accepted
    c.deref.result.now (ap branches_of c.deref.ensures.value)

pub returns-clause-are : goal.returns-clause-are
returns-clause-are g c =
    (subst (λ (all : List PlainExplained). AreLeft (versions_in c.args.groups.now) all
    (all_explained c.in_ok-pieces.pieces.items))
    (pieces_here (book_of g.R.Rule.handles g.R.Rule.answers c.args.book.now.rules.items)
    (versions_in c.args.groups.now) (query_of c.args.query.now) c.in_ok-route.route.asked
    c.in_ok-route.route.parts.items c.slice-slice.result (branches_of c.deref.result.now)
    c.in_ok-route.ensures.asked c.in_ok-route.ensures.parts c.slice-slice.ensures.value
    (ap branches_of c.deref.ensures.value)) c.in_ok-pieces.ensures).alive

pub returns-clause-told : goal.returns-clause-told
returns-clause-told g c =
    (subst (λ (all : List PlainExplained). AreLeft (versions_in c.args.groups.now) all
    (all_explained c.in_ok-pieces.pieces.items))
    (pieces_here (book_of g.R.Rule.handles g.R.Rule.answers c.args.book.now.rules.items)
    (versions_in c.args.groups.now) (query_of c.args.query.now) c.in_ok-route.route.asked
    c.in_ok-route.route.parts.items c.slice-slice.result (branches_of c.deref.result.now)
    c.in_ok-route.ensures.asked c.in_ok-route.ensures.parts c.slice-slice.ensures.value
    (ap branches_of c.deref.ensures.value)) c.in_ok-pieces.ensures).told

pub returns-clause-meant : goal.returns-clause-meant
returns-clause-meant g c = λ past asked represents accepted.
    let book = book_of g.R.Rule.handles g.R.Rule.answers c.args.book.now.rules.items in
    let list = all_explained c.in_ok-pieces.pieces.items in
    let over : ArePieces book (versions_in c.args.groups.now) (query_of c.args.query.now) list =
    (subst (λ (all : List PlainExplained). AreLeft (versions_in c.args.groups.now) all
    (all_explained c.in_ok-pieces.pieces.items))
    (pieces_here (book_of g.R.Rule.handles g.R.Rule.answers c.args.book.now.rules.items)
    (versions_in c.args.groups.now) (query_of c.args.query.now) c.in_ok-route.route.asked
    c.in_ok-route.route.parts.items c.slice-slice.result (branches_of c.deref.result.now)
    c.in_ok-route.ensures.asked c.in_ok-route.ensures.parts c.slice-slice.ensures.value
    (ap branches_of c.deref.ensures.value)) c.in_ok-pieces.ensures).alive in
    let here : ArePieces book past.versions (with_atoms (tables_of past asked.version) asked)
    list =
    subst (λ (x : PlainQuery). ArePieces book past.versions x list) accepted.atoms
    (subst (λ (vs : List PlainVersion). ArePieces book vs (query_of c.args.query.now) list)
    represents.versions over) in
    subst (λ (x : PlainQuery). MeanWhatIsAsked past.versions x list) (sym accepted.atoms)
    (c.pieces_mean_what_is_asked.ensures book c.known.ensures past represents.valid
    represents.values asked accepted.accepted list here)
