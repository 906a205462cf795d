-- One word more, as the definition reads it, by the kinds of words.
use Rattle.std.proofs.Common.{◌≡◌, ℕ, ◌==◌, Bool, true, false, List, [], ◌∷◌, refl, codes, Some}
use Rattle.std.proofs.Common.{None}
use Rattle.std.specs.Str.{bytes_eq}
use Rattle.script_cli_arguments.specs.Arguments.{Word, Parts, Setting, journal_limit, size, any}
use Rattle.script_cli_arguments.specs.Arguments.{value}
use Rattle.script_cli_arguments.specs.Arguments.{no_option, words_read, is_dashed, option_name}
use Rattle.script_cli_arguments.specs.Arguments.{option_value}
use Rattle.script_cli_arguments.specs.Arguments.{with_value}
use Rattle.script_cli_arguments.proofs.WordKinds.{IsPlainWord}

abbrev pub with_other : Word → Parts → Parts
with_other word parts = record parts { other = Some word }

-- the option's name is that of a setting, as it is told in this order, or of none
abbrev pub IsNamed : Setting → Word → Type 0
IsNamed journal_limit text = bytes_eq (codes "journal-limit") (option_name text) ≡ true
IsNamed size text = (bytes_eq (codes "journal-limit") (option_name text) ≡ false)
    × (bytes_eq (codes "size") (option_name text) ≡ true)

abbrev pub IsUnknown : Word → Type 0
IsUnknown text = (bytes_eq (codes "journal-limit") (option_name text) ≡ false)
    × (bytes_eq (codes "size") (option_name text) ≡ false)

pub data Naming (text : Word) : Type 0 where
  names : (setting : Setting) → IsNamed setting text → Naming text
  unknown : IsUnknown text → Naming text

by_names : (text : Word) (a b : Bool) → bytes_eq (codes "journal-limit") (option_name text) ≡ a
    → bytes_eq (codes "size") (option_name text) ≡ b → Naming text
by_names text true b e f = names journal_limit e
by_names text false true e f = names size (e, f)
by_names text false false e f = unknown (e, f)

pub naming : (text : Word) → Naming text
naming text = by_names text _ _ refl refl

module _ (parts : Parts) (arguments : List Word) where
  pub reads_unknown : (x : ℕ) (xs : List ℕ) → IsUnknown (x ∷ xs)
      → words_read any parts ((45 ∷ 45 ∷ x ∷ xs) ∷ arguments) ≡ None
  reads_unknown x xs e = rw (e.0, e.1)

  pub reads_apart : (setting : Setting) (x : ℕ) (xs : List ℕ) → IsNamed setting (x ∷ xs)
      → option_value (x ∷ xs) ≡ None
      → words_read any parts ((45 ∷ 45 ∷ x ∷ xs) ∷ arguments)
      ≡ words_read (value setting) parts arguments
  reads_apart journal_limit x xs e d = rw (e, d)
  reads_apart size x xs e d = rw (e.0, e.1, d)

  pub reads_joined : (setting : Setting) (x : ℕ) (xs : List ℕ) (text : Word)
      → IsNamed setting (x ∷ xs) → option_value (x ∷ xs) ≡ Some text
      → words_read any parts ((45 ∷ 45 ∷ x ∷ xs) ∷ arguments)
      ≡ words_read any (with_value setting text parts) arguments
  reads_joined journal_limit x xs text e d = rw (e, d)
  reads_joined size x xs text e d = rw (e.0, e.1, d)

  pub reads_short : (x : ℕ) (xs : List ℕ) → (x == 45) ≡ false
      → words_read any parts ((45 ∷ x ∷ xs) ∷ arguments) ≡ None
  reads_short x [] e = rw e
  reads_short x (c ∷ xs) e = rw e

  pub reads_other : (word : Word) → IsPlainWord word → parts.other ≡ None
      → words_read any parts (word ∷ arguments) ≡ words_read any (with_other word parts) arguments
  reads_other word w e = rw (w.more, w.text, w.dashed, e)

  pub reads_second : (word v : Word) → IsPlainWord word → parts.other ≡ Some v
      → words_read any parts (word ∷ arguments) ≡ None
  reads_second word v w e = rw (w.more, w.text, w.dashed, e)

  pub reads_value : (setting : Setting) (word : Word) → is_dashed word ≡ false
      → words_read (value setting) parts (word ∷ arguments)
      ≡ words_read any (with_value setting word parts) arguments
  reads_value setting word e = rw e

  pub reads_no_value : (setting : Setting) (word : Word) → is_dashed word ≡ true
      → words_read (value setting) parts (word ∷ arguments) ≡ None
  reads_no_value setting word e = rw e

  pub reads_after : (word : Word) → parts.other ≡ None
      → words_read no_option parts (word ∷ arguments)
      ≡ words_read no_option (with_other word parts) arguments
  reads_after word e = rw e

  pub reads_second_after : (word v : Word) → parts.other ≡ Some v
      → words_read no_option parts (word ∷ arguments) ≡ None
  reads_second_after word v e = rw e
