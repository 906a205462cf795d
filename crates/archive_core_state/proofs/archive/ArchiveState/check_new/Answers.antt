use Rattle.std.proofs.Common.{sym, subst}
use Rattle.std.specs.Prelude.{Err}
use Rattle.prima_base.specs.Faults.{IsTested}
use Rattle.smo_ops_types.specs.Commands.{PlainCommand, command_of}
use Rattle.smo_ops_widths.specs.MeasureFaults.{width_fault}
use Rattle.archive_core_state.specs.ArchiveContents.{ArchiveContent, RepresentsPast}
use Rattle.archive_core_state.specs.AcceptedCommands.{IsAcceptedAfter}
use Rattle.archive_core_state.proofs.AcceptedWidths.{refused_by_past, refused_by_width}
use Rattle.archive_core_state.proofs.archive.ArchiveState.check_new.Goals as goal

pub check_width-requires : goal.check_width-requires
check_width-requires c =
    let some = c.check.ensures.represents in
    let represents = subst (λ (s : ArchiveContent). RepresentsPast s some.0) (sym c.self.view_is)
    some.1 in (
      some.0,
      represents.groups,
      (c.in-Ok.ensures.checks some.0 some.1).1.accepted,
    )

pub returns-in-Err-clause-checks : goal.returns-in-Err-clause-checks
returns-in-Err-clause-checks c past h =
    refused_by_past (IsAcceptedAfter past) past (command_of c.args.command) c.in-Err.fault
    (c.in-Err.ensures.checks past h)

pub returns-in-Err-check_width-clause-checks : goal.returns-in-Err-check_width-clause-checks
returns-in-Err-check_width-clause-checks c past h =
    let represents = subst (λ (s : ArchiveContent). RepresentsPast s past) (sym c.self.view_is) h in
    refused_by_width (IsAcceptedAfter past) past (command_of c.args.command)
    (c.in-Ok.ensures.checks past h).0 c.in-Err-check_width.fault
    (subst (λ (command : PlainCommand). IsTested {A = Unit {0}}
    (width_fault past command) (Err c.in-Err-check_width.fault)) c.in-Ok.ensures.same
    (c.in-Err-check_width.ensures past represents.groups))
