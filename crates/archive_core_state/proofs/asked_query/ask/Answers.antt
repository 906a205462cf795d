use Rattle.std.proofs.Common.{◌≡◌, ◌≤◌, ◌+◌, List, ap, sym, subst, ◌∙◌}
use Rattle.relations_spec.specs.Sets.{In}
use Rattle.prima_base.specs.declared.keep.Keep.{Keep}
use Rattle.prima_base.specs.Keeping.{kept}
use Rattle.prima_base.specs.Timed.{entries_of}
use Rattle.smo_ops_types.specs.Commands.{PlainVersion}
use Rattle.smo_ops_spec.specs.Checks.{Fault}
use Rattle.smo_ops_spec.specs.Past.{tables_of}
use Rattle.temporal_lang_spec.specs.Atoms.{with_atoms}
use Rattle.temporal_lang_types.specs.Queries.{PlainQuery, query_of}
use Rattle.version_groups.specs.Groups.{versions_in}
use Rattle.piece_ir_spec.specs.Books.{book_of}
use Rattle.query_exec.specs.Accepted.{IsQueryAccepted}
use Rattle.query_exec.specs.Borrowed.{AreBorrowedBy}
use Rattle.query_exec.specs.QueryPieces.{ArePieces, living_pieces}
use Rattle.query_exec.specs.Reads.{reads_of}
use Rattle.archive_core_state.specs.Asking.{IfAccepted, IsQueryPrepared, query_asked}
use Rattle.archive_core_state.proofs.asked_query.ask.Goals as goal

pub answer-requires-clause-answerable : goal.answer-requires-clause-answerable
answer-requires-clause-answerable g c =
    let past = c.requires.represents.0 in
    let represents = c.requires.represents.1 in
    let h : IsQueryPrepared past (query_of c.args.query.now) c.in_ok-atoms.atoms =
    c.in_ok-atoms.ensures past represents in
    record {
      past = past;
      asked = query_of c.args.query.now;
      represents = represents;
      accepted =
          record { accepted = h.accepted; atoms = h.atoms };
    }

pub returns-in_err-rows-clause-cost : goal.returns-in_err-rows-clause-cost
returns-in_err-rows-clause-cost g c = λ past represents accepted.
    let query = query_of c.args.query.now in
    let h : IsQueryPrepared past query c.in_ok-atoms.atoms =
    c.in_ok-atoms.ensures past represents in
    subst (λ (vs : List PlainVersion). c.answer.new.steps ≤ c.args.steps.now
    + reads_of c.args.groups.now (living_pieces
    (book_of g.R.Rule.handles g.R.Rule.answers c.args.book.now.rules.items) vs
    (with_atoms (tables_of past query.version) query))) represents.versions
    (subst (λ (q : PlainQuery). c.answer.new.steps ≤ c.args.steps.now
    + reads_of c.args.groups.now (living_pieces
    (book_of g.R.Rule.handles g.R.Rule.answers c.args.book.now.rules.items)
    (versions_in c.args.groups.now) q)) h.atoms c.answer.ensures.cost)

pub returns-clause-asked : goal.returns-clause-asked
returns-clause-asked g c past represents =
    let query = query_of c.args.query.now in
    let h : IsQueryPrepared past query c.in_ok-atoms.atoms =
    c.in_ok-atoms.ensures past represents in
    record {
      accepted = h.accepted;
      rows = c.keep.ensures.rows ∙ ap (λ (k : List Keep).
          kept k (entries_of c.in_ok-rows.rows.items)) c.deref.ensures.value
          ∙ c.in_ok-rows.ensures.rows past query represents
          (record { accepted = h.accepted; atoms = h.atoms });
      periods = c.tells_periods.ensures;
    }

pub returns-clause-cost : goal.returns-clause-cost
returns-clause-cost g c = λ past represents accepted.
    let query = query_of c.args.query.now in
    let h : IsQueryPrepared past query c.in_ok-atoms.atoms =
    c.in_ok-atoms.ensures past represents in
    subst (λ (vs : List PlainVersion). c.answer.new.steps ≤ c.args.steps.now
    + reads_of c.args.groups.now (living_pieces
    (book_of g.R.Rule.handles g.R.Rule.answers c.args.book.now.rules.items) vs
    (with_atoms (tables_of past query.version) query))) represents.versions
    (subst (λ (q : PlainQuery). c.answer.new.steps ≤ c.args.steps.now
    + reads_of c.args.groups.now (living_pieces
    (book_of g.R.Rule.handles g.R.Rule.answers c.args.book.now.rules.items)
    (versions_in c.args.groups.now) q)) h.atoms c.answer.ensures.cost)

pub returns-clause-borrowed : goal.returns-clause-borrowed
returns-clause-borrowed g c = λ past represents pieces are by_branch spared.
    let query = query_of c.args.query.now in
    let h : IsQueryPrepared past query c.in_ok-atoms.atoms =
    c.in_ok-atoms.ensures past represents in
    let all : AreBorrowedBy past (query_asked past query) by_branch c.in_ok-rows.rows.items =
    subst (λ (q : PlainQuery). AreBorrowedBy past q by_branch c.in_ok-rows.rows.items) h.atoms
    (c.in_ok-rows.ensures.borrowed past represents pieces
    (subst (λ (q : PlainQuery). ArePieces
    (book_of g.R.Rule.handles g.R.Rule.answers c.args.book.now.rules.items)
    (versions_in c.args.groups.now) q pieces) (sym h.atoms)
    (subst (λ (vs : List PlainVersion). ArePieces
    (book_of g.R.Rule.handles g.R.Rule.answers c.args.book.now.rules.items) vs
    (with_atoms (tables_of past query.version) query) pieces) (sym represents.versions)
    (subst (λ (f : Fault). IfAccepted f (ArePieces
    (book_of g.R.Rule.handles g.R.Rule.answers c.args.book.now.rules.items)
    past.versions (with_atoms (tables_of past query.version) query) pieces) pieces) h.accepted
    are)))
    by_branch spared) in
    λ row m. all row (c.keep.ensures.among row m)

pub returns-clause-least : goal.returns-clause-least
returns-clause-least g c = λ past represents e m.
    let query = query_of c.args.query.now in
    let h : IsQueryPrepared past query c.in_ok-atoms.atoms =
    c.in_ok-atoms.ensures past represents in
    c.in_ok-rows.ensures.least e
    (subst (λ (q : PlainQuery). In e (living_pieces
    (book_of g.R.Rule.handles g.R.Rule.answers c.args.book.now.rules.items)
    (versions_in c.args.groups.now) q)) (sym h.atoms)
    (subst (λ (vs : List PlainVersion). In e (living_pieces
    (book_of g.R.Rule.handles g.R.Rule.answers c.args.book.now.rules.items) vs
    (with_atoms (tables_of past query.version) query))) (sym represents.versions) m))

pub returns-in_err-rows-clause-unread : goal.returns-in_err-rows-clause-unread
returns-in_err-rows-clause-unread g c = λ past represents refused.
    let h : IsQueryPrepared past (query_of c.args.query.now) c.in_ok-atoms.atoms =
    c.in_ok-atoms.ensures past represents in absurd (refused h.accepted)

pub returns-clause-unread : goal.returns-clause-unread
returns-clause-unread g c = λ past represents refused.
    let h : IsQueryPrepared past (query_of c.args.query.now) c.in_ok-atoms.atoms =
    c.in_ok-atoms.ensures past represents in absurd (refused h.accepted)

pub returns-clause-listed : goal.returns-clause-listed
returns-clause-listed g c = λ past represents.
    let query = query_of c.args.query.now in
    let h : IsQueryPrepared past query c.in_ok-atoms.atoms =
    c.in_ok-atoms.ensures past represents in
    record {
      entries = entries_of c.in_ok-rows.rows.items;
      list = c.in_ok-rows.ensures.listed past query represents
          (record { accepted = h.accepted; atoms = h.atoms });
      keeps = c.keep.ensures.rows ∙ ap (λ (k : List Keep).
          kept k (entries_of c.in_ok-rows.rows.items)) c.deref.ensures.value;
    }
