use Rattle.std.proofs.Common.{◌≤◌, ◌+◌, sym, subst}
use Rattle.std.specs.Prelude.{IfOk}
use Rattle.piece_ir_spec.specs.Books.{book_of}
use Rattle.temporal_lang_types.specs.Queries.{query_of}
use Rattle.query_exec.specs.Borrowed.{AreSpared}
use Rattle.query_exec.specs.Reads.{explained_read, reads_of}
use Rattle.archive_core_state.specs.Asking.{pieces_told}
use Rattle.archive_core_state.specs.ArchiveContents.{ArchiveContent, RepresentsPast}
use Rattle.archive_core_state.proofs.QueryFaults.{way_back_told}
use Rattle.archive_core_state.proofs.archive.ArchiveState.query.Goals as goal

pub returns-clause-cost : goal.returns-clause-cost
returns-clause-cost g c = λ past represents accepted.
    let before = subst (λ (s : ArchiveContent). RepresentsPast s past) (sym c.self.view_is)
    represents in
    subst (λ (s : ArchiveContent). c.ask.new.steps ≤ c.args.steps.now
    + reads_of s.groups (pieces_told
    (book_of g.R.Rule.handles g.R.Rule.answers c.args.book.now.rules.items) past
    (query_of c.args.query.now))) c.self.view_is
    (c.ask.ensures.cost past before.groups accepted)

pub returns-clause-way_back : goal.returns-clause-way_back
returns-clause-way_back g c = λ past represents.
    let before = subst (λ (s : ArchiveContent). RepresentsPast s past) (sym c.self.view_is)
    represents in
    way_back_told past (query_of c.args.query.now) c.ask.result
    (c.ask.ensures.asked past before.groups)

pub returns-clause-borrowed : goal.returns-clause-borrowed
returns-clause-borrowed g c = λ past represents pieces are by_branch spared.
    let before = subst (λ (s : ArchiveContent). RepresentsPast s past) (sym c.self.view_is)
    represents in
    c.ask.ensures.borrowed past before.groups pieces are by_branch
    (subst (λ (s : ArchiveContent). AreSpared s.groups by_branch pieces) (sym c.self.view_is)
    spared)

pub returns-clause-least : goal.returns-clause-least
returns-clause-least g c = λ past represents e m.
    let before = subst (λ (s : ArchiveContent). RepresentsPast s past) (sym c.self.view_is)
    represents in
    subst (λ (s : ArchiveContent). IfOk c.ask.result
    (λ _. c.args.steps.now + explained_read s.groups e ≤ c.ask.new.steps)) c.self.view_is
    (c.ask.ensures.least past before.groups e m)

pub returns-clause-unread : goal.returns-clause-unread
returns-clause-unread g c = λ past represents refused.
    let before = subst (λ (s : ArchiveContent). RepresentsPast s past) (sym c.self.view_is)
    represents in
    c.ask.ensures.unread past before.groups refused

pub returns-clause-listed : goal.returns-clause-listed
returns-clause-listed g c = λ past represents.
    let before = subst (λ (s : ArchiveContent). RepresentsPast s past) (sym c.self.view_is)
    represents in
    c.ask.ensures.listed past before.groups
