-- How many bytes an image has, by a past's versions and sizes alone.
use Rattle.std.specs.Prelude.{ℕ, ◌+◌, ◌*◌, List, [], ◌∷◌, length}
use Rattle.smo_ops_types.specs.Commands.{PlainVersion}
use Rattle.smo_ops_spec.specs.Past.{Past}
use Rattle.smo_ops_spec.specs.Sizes.{Written, Size}
use Rattle.store_image_spec.specs.Encoding.{version_bytes}

-- a count of versions, and each
abbrev pub versions_length : List PlainVersion → ℕ
versions_length [] = 0
versions_length (v ∷ versions) = length (version_bytes v) + versions_length versions

-- a count of entries; each has an id, a value and a period
abbrev pub column_length : Written → ℕ
column_length w = 8 + (24 * w.cells + w.bytes)

abbrev pub columns_length : List Written → ℕ
columns_length [] = 0
columns_length (w ∷ columns) = column_length w + columns_length columns

-- a lifeline's first and last version and its table, a count of keys, each of which is a period,
-- and its columns
abbrev pub size_length : Size → ℕ
size_length s = (9 + length s.table) + ((8 + 16 * s.keys) + columns_length s.columns)

abbrev pub sizes_length : List Size → ℕ
sizes_length [] = 0
sizes_length (s ∷ sizes) = size_length s + sizes_length sizes

-- the last stamp, the versions, the lifelines
unfoldable pub image_length : Past → ℕ
image_length past = 9 + ((4 + versions_length past.versions) + (4 + sizes_length past.sizes))
