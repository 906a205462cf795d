use Rattle.std.proofs.Common.{sym, subst}
use Rattle.archive_core_state.specs.ArchiveContents.{ArchiveContent, RepresentsPast}
use Rattle.archive_core_state.proofs.archive.ArchiveState.check.Goals as goal

pub returns-clause-checks : goal.returns-clause-checks
returns-clause-checks c past h =
    let represents = subst (λ (s : ArchiveContent). RepresentsPast s past) (sym c.self.view_is) h in
    c.check.ensures.checks past represents.groups represents.last
