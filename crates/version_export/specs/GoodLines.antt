-- The lines of an export as a script, and what it is good for.
use Rattle.std.specs.Prelude.{◌≡◌, ℕ, ◌++◌, List, [], ◌∷◌}
use Rattle.smo_ops_types.specs.Commands.{PlainCommand}
use Rattle.smo_ops_spec.specs.Past.{Past}
use Rattle.version_export_lines_spec.specs.Lines.{script}
use Rattle.version_export.specs.Whole.{IsGood}

-- each line ends with an LF
abbrev pub script_of : List (List ℕ) → List ℕ
script_of [] = []
script_of (line ∷ lines) = line ++ 10 ∷ script_of lines

-- the lines are the script of these commands, which are read from it, are accepted one after the
-- other from nothing, and make a past that answers as the version does
pub record IsGoodScript (commands : List PlainCommand) (past : Past) (version : ℕ)
    (lines : List (List ℕ)) : Type 0 where
  pub script : script_of lines ≡ script commands
  pub good : IsGood commands past version
