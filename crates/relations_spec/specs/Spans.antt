-- A period, as contracts see it: the moments from its start up to, and not at, its end.
use Rattle.std.specs.Prelude.{ℕ, ◌&&◌, Bool, nat_le, nat_lt, min, max, Option, Some, None}
use Rattle.std.specs.Prelude.{if◌then◌else◌}

pub record Span : Type 0 where
  pub start : ℕ
  pub end : ℕ

abbrev pub span : ℕ → ℕ → Span
span from to = record { start = from; end = to }

-- the end of what still holds
abbrev pub forever : ℕ
forever = 18446744073709551615

-- all moments
abbrev pub always : Span
always = span 0 forever

-- the period has the moment
abbrev pub covers : Span → ℕ → Bool
covers p m = nat_le p.start m && nat_lt m p.end

-- the common moments of two periods: None where there are none
abbrev pub common : Span → Span → Option Span
common p q = if nat_lt (max p.start q.start) (min p.end q.end)
    then Some (span (max p.start q.start) (min p.end q.end)) else None
