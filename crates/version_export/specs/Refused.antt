-- What is refused of an export: the version, then the first table that is lost at some moment, or a
-- column of it, then the first statement that is too long; and the lines that are answered where
-- nothing is.
use Rattle.std.specs.Prelude.{◌-◌, ℕ, List, ◌∷◌, ◌++◌, length, map, nat_le, Option, codes}
use Rattle.std.specs.Prelude.{slice_get}
use Rattle.std.specs.Option.{option_map}
use Rattle.prima_base.specs.declared.refusal.OpKind.{OpKind}
use Rattle.prima_base.specs.Limits.{max_statement}
use Rattle.schema_catalog.specs.Places.{NamedColumns}
use Rattle.smo_ops_types.specs.Commands.{PlainVersion}
use Rattle.smo_ops_spec.specs.First.{unless, where_so, first_refusal}
use Rattle.smo_ops_spec.specs.Past.{Past}
use Rattle.smo_ops_spec.specs.Losses.{Loss}
use Rattle.temporal_lang_spec.specs.Losing.{first_lost}
use Rattle.temporal_lang_spec.specs.Accepted.{version_kind}
use Rattle.version_export_past_spec.specs.Showing.{tables_in}
use Rattle.version_export.specs.Exported.{whole_query}
use Rattle.version_export.specs.Statements.{Statement, statements}

pub data Fault : Type 0 where
  -- the asked version, and the newest
  no_version : ℕ → ℕ → Fault
  -- the version by which a table or a column of one is lost, and the kind of the member of its
  -- operator that loses it
  no_inverse : ℕ → OpKind → Fault
  -- the stamp of the statement, and the length of its text
  too_long : ℕ → ℕ → Fault

abbrev pub version_test : Past → ℕ → Option Fault
version_test past version = unless (nat_le version (length past.versions))
    (no_version version (length past.versions))

abbrev pub by_loss : List PlainVersion → Loss → Fault
by_loss versions loss = no_inverse loss.0
    (version_kind (slice_get versions (loss.0 - 1)) loss.1)

abbrev pub table_test : Past → ℕ → NamedColumns → Option Fault
table_test past version t = option_map (by_loss past.versions)
    (first_lost past (whole_query version t))

-- with the LF of the line before, the text is no longer than a statement may be
abbrev pub length_test : Statement → Option Fault
length_test s = where_so (nat_le max_statement (length s.1)) (too_long s.0 (length s.1))

abbrev pub export_tests : Past → ℕ → List (Option Fault)
export_tests past version = version_test past version
    ∷ (map (table_test past version) (tables_in past version)
    ++ map length_test (statements past version))

abbrev pub export_fault : Past → ℕ → Option Fault
export_fault past version = first_refusal (export_tests past version)

-- the lines, each a statement with its `;`
abbrev pub line_of : Statement → List ℕ
line_of s = s.1 ++ codes ";"

abbrev pub export_lines : Past → ℕ → List (List ℕ)
export_lines past version = map line_of (statements past version)
