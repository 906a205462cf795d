use Rattle.std.proofs.Common.{List, sym, ap, subst, ◌∙◌}
use Rattle.smo_ops_types.specs.Changes.{changes_of}
use Rattle.smo_ops_types.specs.Commands.{changing, PlainCommand}
use Rattle.smo_ops_types.specs.declared.change.Change.{Change}
use Rattle.version_groups.specs.Steps.{a_command}
use Rattle.archive_core_state.specs.AcceptedCommands.{accepted_command, IsAcceptedAfter}
use Rattle.archive_core_state.specs.Committing.{Accepts}
use Rattle.archive_core_state.proofs.Checking.{borrowed}
use Rattle.archive_core_state.proofs.archive.ArchiveState.commit.Goals as goal

pub accept-requires : goal.accept-requires
accept-requires c =
    let some = c.check.ensures.represents in (
      some.0,
      some.1,
      borrowed some.0 c.in-Changes.stamp c.in-Changes.changes c.in-Changes.places c.deref.result
          c.deref.ensures.value
          (subst (IsAcceptedAfter some.0) c.in-Changes.is
          (c.in_ok-accepted.ensures.checks some.0 some.1).1),
    )

pub accept-requires-in-Evolve : goal.accept-requires-in-Evolve
accept-requires-in-Evolve c =
    let some = c.check.ensures.represents in (
      some.0,
      some.1,
      subst (IsAcceptedAfter some.0) c.in-Evolve.is
          (c.in_ok-accepted.ensures.checks some.0 some.1).1,
    )

pub returns-in-Changes-clause-commits : goal.returns-in-Changes-clause-commits
returns-in-Changes-clause-commits c past represents =
    subst (λ (command : PlainCommand). Accepts past command c.args.self.now c.accept.result
    c.accept.new.self)
    (ap (λ (items : List Change). a_command c.in-Changes.stamp (changing (changes_of items)))
    c.deref.ensures.value ∙ ap accepted_command (sym c.in-Changes.is)
    ∙ c.in_ok-accepted.ensures.same)
    (c.accept.ensures.commits past represents
    (borrowed past c.in-Changes.stamp c.in-Changes.changes c.in-Changes.places c.deref.result
    c.deref.ensures.value
    (subst (IsAcceptedAfter past) c.in-Changes.is
    (c.in_ok-accepted.ensures.checks past represents).1)))

pub returns-in-Evolve-clause-commits : goal.returns-in-Evolve-clause-commits
returns-in-Evolve-clause-commits c past represents =
    subst (λ (command : PlainCommand). Accepts past command c.args.self.now
    c.accept-in-Evolve.result
    c.accept-in-Evolve.new.self)
    (ap accepted_command (sym c.in-Evolve.is) ∙ c.in_ok-accepted.ensures.same)
    (c.accept-in-Evolve.ensures.commits past represents
    (subst (IsAcceptedAfter past) c.in-Evolve.is
    (c.in_ok-accepted.ensures.checks past represents).1))
