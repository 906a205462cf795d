-- What the words of a call ask the program for.
use Rattle.std.specs.Prelude.{ℕ, ◌==◌, ◌&&◌, ◌^◌, nat_le, nat_lt, Bool, true, false, List, [], ◌∷◌}
use Rattle.std.specs.Prelude.{◌++◌, length, Option, Some, None, is_some, codes, if◌then◌else◌}
use Rattle.std.specs.Prelude.{option_and_then, option_map}
use Rattle.std.specs.Char.{is_ascii_digit}
use Rattle.std.specs.List.{before_first, after_first, list_all, list_any}
use Rattle.std.specs.Str.{bytes_eq}
use Rattle.std.specs.Str.Parse.{digits_value}
use Rattle.script_cli_arguments.specs.declared.request.Mode.{Mode}
use Rattle.script_cli_arguments.specs.declared.request.Mode.TheVariants.{Run, Sample}
use Rattle.script_cli_arguments.specs.declared.request.Request.{Request}

abbrev pub Word : Type 0
Word = List ℕ

-- ---- the kinds of words

-- `--`, after which no word is an option
abbrev pub ends_options : Word → Bool
ends_options word = bytes_eq word (codes "--")

-- a hyphen (45) and more; a hyphen alone is a word like others
abbrev pub is_dashed : Word → Bool
is_dashed (a ∷ b ∷ rest) = a == 45
is_dashed _ = false

-- what stands after the two hyphens of an option
abbrev pub option_text : Word → Option Word
option_text (a ∷ b ∷ c ∷ rest) = if a == 45 && b == 45 then Some (c ∷ rest) else None
option_text _ = None

abbrev pub is_equals : ℕ → Bool
is_equals byte = byte == 61

-- an option's name, and the value that stands after a `=` (61)
abbrev pub option_name : Word → Word
option_name = before_first is_equals

abbrev pub option_value : Word → Option Word
option_value text = if list_any is_equals text then Some (after_first is_equals text) else None

-- ---- the options, each of which sets a number

pub data Setting : Type 0 where
  journal_limit : Setting
  size : Setting

abbrev pub setting_name : Setting → Word
setting_name journal_limit = codes "journal-limit"
setting_name size = codes "size"

-- the option of this name
abbrev pub setting_of : Word → Option Setting
setting_of name =
    if bytes_eq (codes "journal-limit") name then Some journal_limit
    else (if bytes_eq (codes "size") name then Some size else None)

-- ---- reading them from the left

-- the values of each option, in their order, and the other word
pub record Parts : Type 0 where
  pub limits : List Word
  pub sizes : List Word
  pub other : Option Word

abbrev pub no_parts : Parts
no_parts = record { limits = []; sizes = []; other = None }

-- what comes next: any word, the value of an option, or, after `--`, a word that is no option
pub data Next : Type 0 where
  any : Next
  value : Setting → Next
  no_option : Next

abbrev pub limits_with : Setting → Word → List Word → List Word
limits_with journal_limit word limits = limits ++ word ∷ []
limits_with size word limits = limits

abbrev pub sizes_with : Setting → Word → List Word → List Word
sizes_with journal_limit word sizes = sizes
sizes_with size word sizes = sizes ++ word ∷ []

-- one value more of an option
abbrev pub with_value : Setting → Word → Parts → Parts
with_value setting word parts = record parts {
  limits = limits_with setting word parts.limits;
  sizes = sizes_with setting word parts.sizes;
}

-- there is one other word at most
abbrev pub other_read : Next → Word → Parts → Option (Next × Parts)
other_read next word parts =
    if is_some parts.other then None else Some (next, record parts { other = Some word })

abbrev pub value_read : Setting → Option Word → Parts → Next × Parts
value_read setting (Some text) parts = (any, with_value setting text parts)
value_read setting None parts = (value setting, parts)

abbrev pub option_read : Option Setting → Option Word → Parts → Option (Next × Parts)
option_read (Some setting) given parts = Some (value_read setting given parts)
option_read None given parts = None

abbrev pub option_or_other : Word → Option Word → Parts → Option (Next × Parts)
option_or_other word (Some text) parts =
    option_read (setting_of (option_name text)) (option_value text) parts
option_or_other word None parts = if is_dashed word then None else other_read any word parts

abbrev pub word_read : Next → Word → Parts → Option (Next × Parts)
word_read any word parts =
    if ends_options word then Some (no_option, parts)
    else option_or_other word (option_text word) parts
word_read (value setting) word parts =
    if is_dashed word then None else Some (any, with_value setting word parts)
word_read no_option word parts = other_read no_option word parts

-- an option waits for no value
abbrev pub at_end : Next → Parts → Option Parts
at_end (value setting) parts = None
at_end _ parts = Some parts

abbrev pub words_read : Next → Parts → List Word → Option Parts
words_read next parts [] = at_end next parts
words_read next parts (word ∷ arguments) =
    option_and_then (λ read. words_read read.0 read.1 arguments) (word_read next word parts)

-- ---- what they ask for

-- 1 to 20 digits with a value below 2^64
abbrev pub is_number : Word → Bool
is_number text = nat_le 1 (length text) && (nat_le (length text) 20
    && (list_all is_ascii_digit text && nat_lt (digits_value 10 text) (2 ^ 64)))

abbrev pub number_of : Word → Option ℕ
number_of text = if is_number text then Some (digits_value 10 text) else None

-- the limit of the journal in bytes: the one that is given, or 2^30
abbrev pub limit_of : List Word → Option ℕ
limit_of [] = Some (2 ^ 30)
limit_of (text ∷ []) = number_of text
limit_of _ = None

-- the size of a sample: 1 to 2,000
abbrev pub as_size : ℕ → Option ℕ
as_size n = if nat_le 1 n && nat_le n 2000 then Some n else None

-- the one that is given, or 500
abbrev pub size_of : List Word → Option ℕ
size_of [] = Some 500
size_of (text ∷ []) = option_and_then as_size (number_of text)
size_of _ = None

-- `run`, or `sample`, which makes a script of the size
abbrev pub mode_of : Option Word → ℕ → Option Mode
mode_of (Some word) n =
    if bytes_eq word (codes "run") then Some Run
    else (if bytes_eq word (codes "sample") then Some (Sample n) else None)
mode_of None n = None

abbrev pub request : ℕ → Mode → Request
request limit mode = record { journal_limit = limit; mode = mode }

-- the limit and the size are checked in each mode
abbrev pub asked_with : Option ℕ → Option ℕ → Option Word → Option Request
asked_with (Some limit) (Some n) other = option_map (request limit) (mode_of other n)
asked_with _ _ other = None

abbrev pub asked_by : Option Parts → Option Request
asked_by (Some parts) = asked_with (limit_of parts.limits) (size_of parts.sizes) parts.other
asked_by None = None

-- What the words ask for, or they are not accepted.
abbrev pub asked : List Word → Option Request
asked arguments = asked_by (words_read any no_parts arguments)

-- the limit of the journal, where a script is to be read
abbrev pub limit_in : Mode → ℕ → Option ℕ
limit_in Run limit = Some limit
limit_in (Sample n) limit = None

abbrev pub limit_of_run : Request → Option ℕ
limit_of_run r = limit_in r.mode r.journal_limit

-- The words ask for a run with this limit of its journal, or for none.
abbrev pub asked_for : List Word → Option ℕ
asked_for arguments = option_and_then limit_of_run (asked arguments)
