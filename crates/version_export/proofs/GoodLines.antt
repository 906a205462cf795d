-- The lines of an export that is not refused are the script of good commands.
use Rattle.std.specs.Prelude.{◌≡◌, ◌≤◌, ◌++◌, ℕ, List, [], ◌∷◌, map, length, Result}
use Rattle.std.specs.Prelude.{Ok, Err, IfOk}
use Rattle.std.proofs.Common.{refl, sym, ap, subst, ◌∙◌, arith}
use Rattle.std.specs.Global.{Vec}
use Rattle.schema_catalog.specs.Places.{NamedColumns}
use Rattle.smo_ops_types.specs.Commands.{PlainBody, PlainCommand}
use Rattle.smo_ops_spec.specs.History.{past_of}
use Rattle.version_export_past_spec.specs.Showing.{tables_in}
use Rattle.version_export.specs.declared.fault.ExportFault.{ExportFault}
use Rattle.version_export_lines_spec.specs.Lines.{script}
use Rattle.version_export.specs.Exported.{exported, creating_one}
use Rattle.version_export.specs.Statements.{statement_of}
use Rattle.version_export.specs.Refused.{line_of}
use Rattle.version_export.specs.Whole.{IsExportable, Creates}
use Rattle.version_export.specs.Written.{texts_of, IsExport}
use Rattle.version_export.specs.GoodLines.{script_of, IsGoodScript}
use Rattle.version_export.proofs.Unrefused.{statements_are}
use Rattle.version_export.proofs.WholeExport.{good, one_creates}

as_script : (commands : List PlainCommand)
    → script_of (map line_of (map statement_of commands)) ≡ script commands
as_script [] = refl
as_script (c ∷ commands) = ap (λ (rest : List ℕ). line_of (statement_of c) ++ 10 ∷ rest)
    (as_script commands)

module _ (history : List PlainCommand) (version : ℕ) (h : IsExportable history version) where
  pub good_lines : (creating : List NamedColumns → PlainBody)
      → 1 ≤ length (tables_in (past_of history) version)
      → Creates creating (past_of history) version → (lines : Vec (Vec ℕ))
      → IsExport (past_of history) version (Ok lines)
      → IsGoodScript (exported creating (past_of history) version) (past_of history) version
      (texts_of lines.items)
  good_lines creating some c lines e = record {
    script = ap script_of (e.1 ∙ ap (map line_of)
        (statements_are creating (past_of history) version c.text))
        ∙ as_script (exported creating (past_of history) version);
    good = good history version h creating some c e.0;
  }

  pub one_good_lines : (t : NamedColumns) → tables_in (past_of history) version ≡ t ∷ []
      → (lines : Vec (Vec ℕ)) → IsExport (past_of history) version (Ok lines)
      → IsGoodScript (exported creating_one (past_of history) version) (past_of history) version
      (texts_of lines.items)
  one_good_lines t q lines e = good_lines creating_one
      (subst (λ (ts : List NamedColumns). 1 ≤ length ts) (sym q) (omega arith))
      (one_creates history version h t q) lines e

  -- of whatever is answered
  pub where_lines : (creating : List NamedColumns → PlainBody)
      → 1 ≤ length (tables_in (past_of history) version)
      → Creates creating (past_of history) version → (r : Result (Vec (Vec ℕ)) ExportFault)
      → IsExport (past_of history) version r
      → IfOk r (λ (lines : Vec (Vec ℕ)). IsGoodScript
      (exported creating (past_of history) version) (past_of history) version
      (texts_of lines.items))
  where_lines creating some c (Ok lines) e = good_lines creating some c lines e
  where_lines creating some c (Err fault) e = tt

  pub where_lines_of_one : (t : NamedColumns) → tables_in (past_of history) version ≡ t ∷ []
      → (r : Result (Vec (Vec ℕ)) ExportFault) → IsExport (past_of history) version r
      → IfOk r (λ (lines : Vec (Vec ℕ)). IsGoodScript
      (exported creating_one (past_of history) version) (past_of history) version
      (texts_of lines.items))
  where_lines_of_one t q (Ok lines) e = one_good_lines t q lines e
  where_lines_of_one t q (Err fault) e = tt
