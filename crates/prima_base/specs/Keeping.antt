-- Which entries of a listing are kept, by their periods.
use Rattle.std.specs.Prelude.{ℕ, ◌-◌, ◌==◌, ◌&&◌, ◌||◌, Bool, nat_le, nat_lt, List, if◌then◌else◌}
use Rattle.std.specs.List.{filter, list_all}
use Rattle.relations_spec.specs.Spans.{Span, covers, forever}
use Rattle.relations_spec.specs.Timed.{Entry}
use Rattle.prima_base.specs.declared.keep.Keep.{Keep}
use Rattle.prima_base.specs.declared.keep.Keep.TheVariants.{Starting, Ending, Lasting, Covering}
use Rattle.prima_base.specs.declared.keep.Keep.TheVariants.{Overlapping}

-- below the bound; the end of time is no limit
abbrev pub below : ℕ → ℕ → Bool
below bound n = bound == forever || nat_lt n bound

-- from the first bound on, and below the second
abbrev pub between : ℕ → ℕ → ℕ → Bool
between a b n = nat_le a n && below b n

-- how many moments a period has; for ever, where it still goes on
abbrev pub lasting : Span → ℕ
lasting p = if p.end == forever then forever else p.end - p.start

-- the period meets the condition
abbrev pub keeps : Keep → Span → Bool
keeps (Starting a b) p = between a b p.start
keeps (Ending a b) p = between a b p.end
keeps (Lasting a b) p = between a b (lasting p)
keeps (Covering m) p = covers p m
keeps (Overlapping a b) p = below b p.start && nat_lt a p.end

-- it meets all of them
abbrev pub keeps_all : List Keep → Span → Bool
keeps_all conditions p = list_all (λ k. keeps k p) conditions

-- the entries that are kept
abbrev pub kept : {X : Type 0} → List Keep → List (Entry X) → List (Entry X)
kept {X} conditions entries = filter (λ (e : Entry X). keeps_all conditions e.period) entries
