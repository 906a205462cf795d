-- Commands whose names can be read: lawful, and none of the reserved words.
use Rattle.std.specs.Prelude.{◌≡◌, ◌≤◌, ℕ, true, List, [], ◌∷◌, length, ⊤}
use Rattle.prima_base.specs.Bytes.{IsName}
use Rattle.prima_base.specs.Columns.{Column, IsValid}
use Rattle.prima_base.specs.Limits.{max_columns}
use Rattle.schema_catalog.specs.Places.{NamedColumns}
use Rattle.lexer_spec.specs.Lexemes.{is_name}
use Rattle.version_export_past_spec.specs.Rows.{Cell}

abbrev pub IsFreeName : List ℕ → Type 0
IsFreeName n = IsName n × (is_name n ≡ true)

abbrev pub AreFreeNames : List Column → Type 0
AreFreeNames [] = ⊤
AreFreeNames (c ∷ columns) = IsFreeName c.0 × AreFreeNames columns

-- of a table, and of each of its columns
pub record HasFreeNames (t : NamedColumns) : Type 0 where
  pub table : IsFreeName t.0
  pub columns : AreFreeNames t.1

-- of a table, and of each of its columns, of which there are some and not too many
pub record IsReadable (t : NamedColumns) : Type 0 where
  pub table : IsFreeName t.0
  pub columns : AreFreeNames t.1
  pub some : 1 ≤ length t.1
  pub few : length t.1 ≤ max_columns

-- of cells, with valid values
abbrev pub AreReadable : List Cell → Type 0
AreReadable [] = ⊤
AreReadable (c ∷ cells) = (IsFreeName c.0 × IsValid c.1) × AreReadable cells
