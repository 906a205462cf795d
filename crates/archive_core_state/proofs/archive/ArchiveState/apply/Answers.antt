use Rattle.std.proofs.Common.{sym, subst, ap, ◌∙◌, Some}
use Rattle.std.specs.Prelude.{None, if◌then◌else◌}
use Rattle.smo_ops_spec.specs.Past.{past_with}
use Rattle.version_groups.specs.Steps.{Prepares}
use Rattle.archive_core_state.specs.Committing.{version_made}
use Rattle.archive_core_state.specs.ArchiveContents.{ArchiveContent, RepresentsPast}
use Rattle.archive_core_state.proofs.Applied.{represents_next, newest_next, version_is}
use Rattle.archive_core_state.proofs.archive.ArchiveState.apply.Goals as goal

pub returns-clause-done : goal.returns-clause-done
returns-clause-done c past command represents prepares =
    let before = subst (λ (s : ArchiveContent). RepresentsPast s past) (sym c.self.view_is)
    represents in
    let prepared = subst (λ (s : ArchiveContent). Prepares s.groups past command c.args.prepared)
    (sym c.self.view_is) prepares in
    let after = c.install.ensures.represents past command before.groups prepared.ready in
    let newest = newest_next c.install.new.self (past_with past command) c.newest.result after
    c.newest.ensures in
    let stamp = c.stamp-stamp.ensures ∙ prepared.stamp in (
      record {
        stamp = stamp;
        gained = c.gained-gained.ensures ∙ prepared.gained;
        lost = c.lost-lost.ensures ∙ prepared.lost;
        version = c.version_made.ensures
            ∙ ap (λ b. if b then Some c.newest.result else None)
            c.makes_version-makes_version.ensures
            ∙ version_is c.self.inside.groups past command.stamp command.body c.args.prepared.step
            c.newest.result
            prepared.ready.step
            ∙ ap (version_made command.body) newest;
      },
      represents_next c.install.new.self past command (Some c.stamp-stamp.result) after
          (ap Some stamp),
    )

pub returns-clause-represents : goal.returns-clause-represents
returns-clause-represents c =
    let past = c.requires.0 in
    let command = c.requires.1 in
    let before = subst (λ (s : ArchiveContent). RepresentsPast s past) (sym c.self.view_is)
    c.requires.2 in
    let prepared = subst (λ (s : ArchiveContent). Prepares s.groups past command c.args.prepared)
    (sym c.self.view_is) c.requires.3 in
    let after = c.install.ensures.represents past command before.groups prepared.ready in (
      past_with past command,
      represents_next c.install.new.self past command (Some c.stamp-stamp.result) after
          (ap Some (c.stamp-stamp.ensures ∙ prepared.stamp)),
    )

pub invariant_of-self : goal.invariant_of-self
invariant_of-self c =
    let past = c.requires.0 in
    let command = c.requires.1 in
    let before = subst (λ (s : ArchiveContent). RepresentsPast s past) (sym c.self.view_is)
    c.requires.2 in
    let prepared = subst (λ (s : ArchiveContent). Prepares s.groups past command c.args.prepared)
    (sym c.self.view_is) c.requires.3 in
    let after = c.install.ensures.represents past command before.groups prepared.ready in (
      past_with past command,
      represents_next c.install.new.self past command (Some c.stamp-stamp.result) after
          (ap Some (c.stamp-stamp.ensures ∙ prepared.stamp)),
    )
