-- A slice of time, split by the versions that are in force in it.
use Rattle.std.specs.Prelude.{◌≡◌, ℕ, ◌+◌, ◌<◌, ◌≤◌, true, List, [], ◌∷◌, length, Option, Some}
use Rattle.std.specs.Prelude.{None, ⊤}
use Rattle.std.specs.List.{flat_map, range_with_len}
use Rattle.relations_spec.specs.Sets.{In}
use Rattle.relations_spec.specs.Spans.{Span, covers, common}
use Rattle.smo_ops_types.specs.Commands.{PlainVersion}
use Rattle.smo_ops_spec.specs.InForce.{in_force}

-- a part of the slice, and the number of the version that is in force there
abbrev pub Part : Type 0
Part = Span × ℕ

-- the moments of the slice at which version k is in force: none, or one part
abbrev pub as_part : ℕ → Option Span → List Part
as_part k None = []
as_part k (Some p) = (p, k) ∷ []

abbrev pub part_of : List PlainVersion → Span → ℕ → List Part
part_of versions slice k = as_part k (common (in_force versions k) slice)

-- those of versions 0 to n - 1
abbrev pub parts_below : List PlainVersion → Span → ℕ → List Part
parts_below versions slice n = flat_map (part_of versions slice) (range_with_len 0 n)

-- those of version 0 and of all others
abbrev pub split_by : List PlainVersion → Span → List Part
split_by versions slice = parts_below versions slice (length versions + 1)

-- one of the parts, of this version, has the moment
abbrev pub HasMoment : List Part → ℕ → ℕ → Type 0
HasMoment parts k m = (p : Span) × In (p, k) parts × (covers p m ≡ true)

-- the part has moments, and its version is this one or a later one
pub record IsPartFrom (low : ℕ) (p : Part) : Type 0 where
  pub version : low ≤ p.1
  pub lasting : p.0.start < p.0.end

-- the versions of the parts ascend, from this one on
abbrev pub AscendFrom : ℕ → List Part → Type 0
AscendFrom low [] = ⊤
AscendFrom low (p ∷ parts) = IsPartFrom low p × AscendFrom (p.1 + 1) parts
