-- What the code of an export writes: lines, or the first fault in their place.
use Rattle.std.specs.Prelude.{◌≡◌, ◌<◌, ◌≤◌, ◌++◌, ℕ, List, [], ◌∷◌, map, length, codes}
use Rattle.std.specs.Prelude.{decimal, take, drop, None, Some, Result, Ok, Err, ⊤}
use Rattle.std.specs.Global.{Vec}
use Rattle.schema_catalog.specs.Places.{NamedColumns}
use Rattle.smo_ops_spec.specs.First.{first_refusal}
use Rattle.smo_ops_spec.specs.Past.{Past}
use Rattle.version_export_lines_spec.specs.Lines.{changes_text}
use Rattle.version_export.specs.declared.fault.ExportFault.{ExportFault}
use Rattle.version_export.specs.declared.fault.ExportFault.TheVariants.{NoVersion, NoInverse}
use Rattle.version_export.specs.declared.fault.ExportFault.TheVariants.{TooLong, NoMemory}
use Rattle.version_export.specs.declared.row_turn.RowTurn.{RowTurn}
use Rattle.version_export.specs.declared.seen.SeenFault.{SeenFault}
use Rattle.version_export.specs.declared.seen.SeenFault.TheVariants.{NoInverse as SeenNoInverse}
use Rattle.version_export.specs.declared.seen.SeenFault.TheVariants.{NoMemory as SeenNoMemory}
use Rattle.version_export.specs.declared.seen_table.SeenTable.{SeenTable}
use Rattle.version_export.specs.ByListings.{all_listed_of, commands_listed}
use Rattle.version_export.specs.Turns.{turn_of, change_of, commands_of, Rises}
use Rattle.version_export.specs.Statements.{Statement, statement_of, after_creates}
use Rattle.version_export.specs.Refused.{no_version, no_inverse, too_long, length_test}
use Rattle.version_export.specs.Refused.{export_fault, export_lines, line_of}

abbrev pub texts_of : List (Vec ℕ) → List (List ℕ)
texts_of lines = map (λ (l : Vec ℕ). l.items) lines

-- after these lines come those of the statements, or the first statement that is too long is told
abbrev pub AddsLines : List Statement → List (Vec ℕ) → List (Vec ℕ)
    → Result (Unit {0}) ExportFault → Type 0
AddsLines ss old new (Ok u) = (first_refusal (map length_test ss) ≡ None)
    × (texts_of new ≡ texts_of old ++ map line_of ss)
AddsLines ss old new (Err (NoVersion version newest)) = ⊥
AddsLines ss old new (Err (NoInverse k kind)) = ⊥
AddsLines ss old new (Err (TooLong stamp size)) = first_refusal (map length_test ss)
    ≡ Some (too_long stamp size)
AddsLines ss old new (Err NoMemory) = ⊤

abbrev pub AreLines : List Statement → Result (Vec (Vec ℕ)) ExportFault → Type 0
AreLines ss (Ok lines) = (first_refusal (map length_test ss) ≡ None)
    × (texts_of lines.items ≡ map line_of ss)
AreLines ss (Err (NoVersion version newest)) = ⊥
AreLines ss (Err (NoInverse k kind)) = ⊥
AreLines ss (Err (TooLong stamp size)) = first_refusal (map length_test ss)
    ≡ Some (too_long stamp size)
AreLines ss (Err NoMemory) = ⊤

-- ---- by what begins and ends

abbrev pub text_at : ℕ → List RowTurn → List ℕ
text_at m turns = codes "AT " ++ decimal m ++ codes " " ++ changes_text (map change_of turns)

abbrev pub row_statements : List RowTurn → List Statement
row_statements turns = map statement_of (commands_of (map turn_of turns))

-- the turns of the first one's moment, and those after them
pub record IsFirstRun (turns : List RowTurn) (m : ℕ) (now later : List RowTurn) : Type 0 where
  pub statements : row_statements turns ≡ (m, text_at m now) ∷ row_statements later
  pub rises : Rises 0 later
  pub fewer : length later < length turns

-- the line of the first moment is added, and it has so many turns
pub record AddsRun (turns : List RowTurn) (old new : List (Vec ℕ)) (n : ℕ) : Type 0 where
  pub moment : ℕ
  pub run : IsFirstRun turns moment (take n turns) (drop n turns)
  pub within : n ≤ length turns
  pub line : AddsLines ((moment, text_at moment (take n turns)) ∷ []) old new (Ok tt)

-- it is, or the first statement that is too long is told
abbrev pub AddsFirst : List RowTurn → List (Vec ℕ) → List (Vec ℕ) → Result ℕ ExportFault → Type 0
AddsFirst turns old new (Ok n) = AddsRun turns old new n
AddsFirst turns old new (Err fault) = AddsLines (row_statements turns) old new (Err fault)

-- ---- by tables

abbrev pub tables_seen : List SeenTable → List NamedColumns
tables_seen tables = map (λ (s : SeenTable). s.table.now) tables

abbrev pub table_statements : ℕ → List SeenTable → List Statement
table_statements first tables = after_creates first (tables_seen tables)
    (map statement_of (commands_listed first (all_listed_of tables)))

-- ---- of a version

-- the fault of the export, by that of seeing its tables
abbrev pub fault_of_seen : SeenFault → ExportFault
fault_of_seen (SeenNoInverse k kind) = NoInverse k kind
fault_of_seen SeenNoMemory = NoMemory

abbrev pub IsExport : Past → ℕ → Result (Vec (Vec ℕ)) ExportFault → Type 0
IsExport past version (Ok lines) = (export_fault past version ≡ None)
    × (texts_of lines.items ≡ export_lines past version)
IsExport past version (Err (NoVersion asked newest)) = export_fault past version
    ≡ Some (no_version asked newest)
IsExport past version (Err (NoInverse k kind)) = export_fault past version
    ≡ Some (no_inverse k kind)
IsExport past version (Err (TooLong stamp size)) = export_fault past version
    ≡ Some (too_long stamp size)
IsExport past version (Err NoMemory) = ⊤
