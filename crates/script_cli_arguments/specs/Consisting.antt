-- Which words ask for what, said of the words as they stand, apart from how they are read.
use Rattle.std.specs.Prelude.{◌≡◌, ℕ, Bool, true, false, List, [], ◌∷◌, ◌++◌, Option, Some, None}
use Rattle.std.specs.Prelude.{codes, if◌then◌else◌}
use Rattle.std.specs.List.{AllByRecursion}
use Rattle.script_cli_arguments.specs.declared.request.Request.{Request}
use Rattle.script_cli_arguments.specs.Arguments.{Word, Setting, setting_name, journal_limit, size}
use Rattle.script_cli_arguments.specs.Arguments.{is_dashed}
use Rattle.script_cli_arguments.specs.Arguments.{limit_of, size_of, mode_of}

-- `--NAME=TEXT`; `--NAME` and after it TEXT; a word that is no option
pub data Item : Type 0 where
  joined : Setting → Word → Item
  apart : Setting → Word → Item
  plain : Word → Item

abbrev pub item_words : Item → List Word
item_words (joined setting text) = (codes "--" ++ (setting_name setting ++ (codes "=" ++ text)))
    ∷ []
item_words (apart setting text) = (codes "--" ++ setting_name setting) ∷ text ∷ []
item_words (plain word) = word ∷ []

-- what stands apart, and what is no option, is not dashed
abbrev pub IsItem : Item → Type 0
IsItem (joined setting text) = Unit {0}
IsItem (apart setting text) = is_dashed text ≡ false
IsItem (plain word) = is_dashed word ≡ false

abbrev pub words_of : List Item → List Word
words_of [] = []
words_of (item ∷ items) = item_words item ++ words_of items

abbrev pub is_same : Setting → Setting → Bool
is_same journal_limit journal_limit = true
is_same size size = true
is_same _ _ = false

-- the texts that are given with an option
abbrev pub values_in : Setting → List Item → List Word
values_in setting [] = []
values_in setting (joined other text ∷ items) = if is_same setting other
    then text ∷ values_in setting items else values_in setting items
values_in setting (apart other text ∷ items) = if is_same setting other
    then text ∷ values_in setting items else values_in setting items
values_in setting (plain word ∷ items) = values_in setting items

abbrev pub plain_in : List Item → List Word
plain_in [] = []
plain_in (joined setting text ∷ items) = plain_in items
plain_in (apart setting text ∷ items) = plain_in items
plain_in (plain word ∷ items) = word ∷ plain_in items

-- what stands after a `--`, where there is one
abbrev pub with_dashes : Option (List Word) → List Word
with_dashes None = []
with_dashes (Some after) = codes "--" ∷ after

abbrev pub after_dashes : Option (List Word) → List Word
after_dashes None = []
after_dashes (Some after) = after

-- The words consist of options, of one other word, and of a `--` or none, after which nothing is an
-- option. Each option is given once, with this number, or not at all, and then the number is the
-- one without it; and the other word is that of the mode.
pub record AskFor (arguments : List Word) (asked : Request) : Type 0 where
  pub items : List Item
  pub tail : Option (List Word)
  pub word : Word
  pub n : ℕ
  pub words_are : arguments ≡ words_of items ++ with_dashes tail
  pub valid : AllByRecursion IsItem items
  pub one_other : plain_in items ++ after_dashes tail ≡ word ∷ []
  pub limit_is : limit_of (values_in journal_limit items) ≡ Some asked.journal_limit
  pub size_is : size_of (values_in size items) ≡ Some n
  pub mode_is : mode_of (Some word) n ≡ Some asked.mode
