-- When a version is in force: from its stamp on, up to that of the next.
use Rattle.std.specs.Prelude.{ℕ, zero, suc, List, Option, Some, None, slice_get}
use Rattle.relations_spec.specs.Spans.{Span, span, forever}
use Rattle.smo_ops_types.specs.Commands.{PlainVersion}

-- the stamp of a version; the end of time where there is none
abbrev pub stamp_of : Option PlainVersion → ℕ
stamp_of None = forever
stamp_of (Some v) = v.stamp

-- a version begins with its stamp, version 0 with moment 0
abbrev pub begins_at : List PlainVersion → ℕ → ℕ
begins_at versions zero = 0
begins_at versions (suc k) = stamp_of (slice_get versions k)

-- the moments at which version k is in force
abbrev pub in_force : List PlainVersion → ℕ → Span
in_force versions k = span (begins_at versions k) (begins_at versions (suc k))
