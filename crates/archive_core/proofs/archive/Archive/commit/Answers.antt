use Rattle.std.proofs.Common.{List, ap, sym, subst, ◌∙◌}
use Rattle.smo_ops_types.specs.Changes.{changes_of}
use Rattle.smo_ops_types.specs.Commands.{changing, PlainCommand}
use Rattle.smo_ops_types.specs.declared.change.Change.{Change}
use Rattle.archive_core_replay.specs.Memory.{a_command}
use Rattle.archive_core_file_spec.specs.LogRecords.{logged, record_of}
use Rattle.archive_core_replay.specs.Memory.{accepted_command, IsAcceptedAfter, new_command_fault}
use Rattle.archive_core_replay.proofs.Memory.{borrowed}
use Rattle.archive_core.specs.Fields.{standing_of, place_of, limit_of}
use Rattle.archive_core.specs.Committing.{Commits}
use Rattle.archive_core.proofs.archive.Archive.commit.Goals as goal

pub accept-requires-clause-accepted : goal.accept-requires-clause-accepted
accept-requires-clause-accepted g c =
    let some = c.check_and_seal.ensures.represents in (
      some.0,
      some.1,
      borrowed some.0 c.in-Changes.stamp c.in-Changes.changes c.in-Changes.places c.deref.result
          c.deref.ensures.value
          (subst (IsAcceptedAfter some.0) c.in-Changes.is
          (c.in_ok-accepted.ensures.checked some.0 some.1).1),
    )

pub accept-requires-clause-sealed : goal.accept-requires-clause-sealed
accept-requires-clause-sealed g c = c.in_ok-accepted.ensures.sealed
    ∙ ap (λ (command : PlainCommand). record_of (logged command))
    (sym c.in_ok-accepted.ensures.same ∙ ap accepted_command c.in-Changes.is
    ∙ ap (λ (items : List Change). a_command c.in-Changes.stamp (changing (changes_of items)))
    (sym c.deref.ensures.value))

pub accept-requires-in-Evolve-clause-accepted : goal.accept-requires-in-Evolve-clause-accepted
accept-requires-in-Evolve-clause-accepted g c =
    let some = c.check_and_seal.ensures.represents in (
      some.0,
      some.1,
      subst (IsAcceptedAfter some.0) c.in-Evolve.is
          (c.in_ok-accepted.ensures.checked some.0 some.1).1,
    )

pub accept-requires-in-Evolve-clause-sealed : goal.accept-requires-in-Evolve-clause-sealed
accept-requires-in-Evolve-clause-sealed g c = c.in_ok-accepted.ensures.sealed
    ∙ ap (λ (command : PlainCommand). record_of (logged command))
    (sym c.in_ok-accepted.ensures.same ∙ ap accepted_command c.in-Evolve.is)

pub returns-in-Changes-clause-commits : goal.returns-in-Changes-clause-commits
returns-in-Changes-clause-commits g c past represents =
    subst (λ (command : PlainCommand). Commits past command (place_of c.args.self.now)
    (limit_of c.args.self.now) (standing_of c.args.self.now) c.accept.result
    (standing_of c.accept.new.self))
    (ap (λ (items : List Change). a_command c.in-Changes.stamp (changing (changes_of items)))
    c.deref.ensures.value ∙ ap accepted_command (sym c.in-Changes.is)
    ∙ c.in_ok-accepted.ensures.same)
    (c.accept.ensures.commits past represents
    (borrowed past c.in-Changes.stamp c.in-Changes.changes c.in-Changes.places c.deref.result
    c.deref.ensures.value
    (subst (IsAcceptedAfter past) c.in-Changes.is
    (c.in_ok-accepted.ensures.checked past represents).1))
    (ap (new_command_fault past) (ap (λ (items : List Change). a_command c.in-Changes.stamp
    (changing (changes_of items))) c.deref.ensures.value
    ∙ ap accepted_command (sym c.in-Changes.is) ∙ c.in_ok-accepted.ensures.same)
    ∙ (c.in_ok-accepted.ensures.checked past represents).0))

pub returns-clause-commits : goal.returns-clause-commits
returns-clause-commits g c past represents =
    subst (λ (command : PlainCommand). Commits past command (place_of c.args.self.now)
    (limit_of c.args.self.now) (standing_of c.args.self.now) c.accept-in-Evolve.result
    (standing_of c.accept-in-Evolve.new.self))
    (ap accepted_command (sym c.in-Evolve.is) ∙ c.in_ok-accepted.ensures.same)
    (c.accept-in-Evolve.ensures.commits past represents
    (subst (IsAcceptedAfter past) c.in-Evolve.is
    (c.in_ok-accepted.ensures.checked past represents).1)
    (ap (new_command_fault past)
    (ap accepted_command (sym c.in-Evolve.is) ∙ c.in_ok-accepted.ensures.same)
    ∙ (c.in_ok-accepted.ensures.checked past represents).0))
