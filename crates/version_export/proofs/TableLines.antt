-- The lines of tables: the statement that creates them, and those on their rows.
use Rattle.std.specs.Prelude.{◌≡◌, ◌++◌, ◌<◌, ◌∷◌, [], ℕ, List, map, length, None, Result, Ok, Err}
use Rattle.std.proofs.Common.{refl, sym, ap, ◌∙◌, arith, append-nil}
use Rattle.std.specs.Global.{Vec}
use Rattle.smo_ops_spec.specs.First.{first_refusal}
use Rattle.version_export.specs.declared.fault.ExportFault.{ExportFault}
use Rattle.version_export.specs.declared.seen_table.SeenTable.{SeenTable}
use Rattle.version_export.specs.ByListings.{all_listed_of, commands_listed}
use Rattle.version_export.specs.Statements.{Statement, statement_of, creation}
use Rattle.version_export.specs.Refused.{length_test, line_of}
use Rattle.version_export.specs.Written.{texts_of, tables_seen, table_statements, AddsLines}
use Rattle.version_export.proofs.LineLaws.{more_lines, one_fails}

abbrev rows_of : ℕ → List SeenTable → List Statement
rows_of first tables = map statement_of (commands_listed first (all_listed_of tables))

pub no_tables : (first : ℕ) (tables : List SeenTable) (old : List (Vec ℕ)) → length tables < 1
    → AddsLines (table_statements first tables) old old (Ok tt)
no_tables first [] old e = (refl, sym (append-nil (texts_of old)))
no_tables first (t ∷ tables) old e = absurd (omega (arith, e))

pub tables_added : (first : ℕ) (tables : List SeenTable) (old mid new : List (Vec ℕ))
    (r : Result (Unit {0}) ExportFault) → 0 < length tables
    → AddsLines (creation first (tables_seen tables) ∷ []) old mid (Ok tt)
    → AddsLines (rows_of first tables) mid new r
    → AddsLines (table_statements first tables) old new r
tables_added first [] old mid new r l a b = absurd (omega (arith, l))
tables_added first (t ∷ tables) old mid new r l a b =
    more_lines (creation first (tables_seen (t ∷ tables))) (rows_of first (t ∷ tables)) old mid new r
    a.0 a.1 b

pub tables_fail : (first : ℕ) (tables : List SeenTable) (old new : List (Vec ℕ))
    (fault : ExportFault) → 0 < length tables
    → AddsLines (creation first (tables_seen tables) ∷ []) old new (Err fault)
    → AddsLines (table_statements first tables) old new (Err fault)
tables_fail first [] old new fault l a = absurd (omega (arith, l))
tables_fail first (t ∷ tables) old new fault l a =
    one_fails (creation first (tables_seen (t ∷ tables))) (rows_of first (t ∷ tables))
    (table_statements first (t ∷ tables)) old new fault a refl

-- lines that are added to none
pub from_none : (ss : List Statement) (old new : List (Vec ℕ)) → old ≡ []
    → AddsLines ss old new (Ok tt)
    → (first_refusal (map length_test ss) ≡ None) × (texts_of new ≡ map line_of ss)
from_none ss old new e a = (
  a.0,
  a.1 ∙ ap (λ (ls : List (Vec ℕ)). texts_of ls ++ map line_of ss) e,
)
