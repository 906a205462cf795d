-- An archive in memory that is as it was, but for room.
use Rattle.std.proofs.Common.{◌≡◌, refl, sym, subst}
use Rattle.smo_ops_spec.specs.Past.{Past}
use Rattle.archive_core_replay.proofs.Memory.{is_same}
use Rattle.archive_core_replay.specs.Memory.{ArchiveContent, RepresentsPast}
use Rattle.archive_core.specs.Committing.{IsUnchanged}

pub unchanged : (past : Past) (old new : ArchiveContent) → RepresentsPast old past → new ≡ old
    → IsUnchanged past old new
unchanged past old new represents e =
    subst (λ (s : ArchiveContent). IsUnchanged past old s) (sym e)
    (record { same = record { groups = is_same old.groups; last = refl }; represents = represents })
