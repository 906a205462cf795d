use Rattle.std.proofs.Common.{◌≡◌, take}
use Rattle.smo_ops_types.specs.Changes.{changes_of}
use Rattle.sessions.proofs.transaction.copy_changes.Given as goal

abbrev pub invariant-loop-change : goal.invariant-loop-change
invariant-loop-change l = changes_of l.copied.items ≡ changes_of (take l.change-index l.changes)
