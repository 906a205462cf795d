-- Commands whose lines are read as themselves.
use Rattle.std.specs.Prelude.{◌≡◌, ◌<◌, ℕ, List, [], ◌∷◌, length, ⊤, map}
use Rattle.prima_base.specs.Limits.{max_statement}
use Rattle.relations_spec.specs.Spans.{forever}
use Rattle.smo_ops_types.specs.Commands.{PlainCommand}
use Rattle.script_parse.specs.Statements.{write}
use Rattle.script_parse.specs.Script.{statements_of, tail_of, ending, part_of}
use Rattle.script_parse.specs.Script.{Whole as WholePart}
use Rattle.script_parse.specs.Reading.{Reading, Whole, reading}
use Rattle.script_parse.specs.declared.splitter.Tail.TheVariants.{Clean}
use Rattle.version_export_lines_spec.specs.Lines.{command_text, script}

-- the line's text, with the LF of the line before, is no longer than a statement may be
abbrev pub IsShort : PlainCommand → Type 0
IsShort c = length (command_text c) < max_statement

abbrev pub AllShort : List PlainCommand → Type 0
AllShort [] = ⊤
AllShort (c ∷ commands) = IsShort c × AllShort commands

-- no moment is the end of time
abbrev pub AllBefore : List ℕ → Type 0
AllBefore [] = ⊤
AllBefore (m ∷ moments) = (m < forever) × AllBefore moments

abbrev pub as_read : PlainCommand → Reading
as_read c = Whole (write c)

-- the script is cut into as many statements as there are commands, none of them too long; each is
-- read as its command; and nothing is left
pub record IsReadBack (commands : List PlainCommand) : Type 0 where
  pub whole : map part_of (statements_of (script commands))
      ≡ map (λ s. WholePart s) (statements_of (script commands))
  pub read : map reading (statements_of (script commands)) ≡ map as_read commands
  pub ends : ending (tail_of (script commands)) ≡ Clean
