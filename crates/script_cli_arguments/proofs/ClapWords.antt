-- What clap makes of one word more, by the kinds of words.
use Rattle.std.proofs.Common.{◌≡◌, ℕ, ◌==◌, true, false, List, [], ◌∷◌, ◌++◌, refl, Option, Some}
use Rattle.std.proofs.Common.{None, ap, sym, lit<}
use Rattle.std.specs.Prelude.{slice_get}
use Rattle.std.specs.Str.{bytes_eq, chars, IsUtf8, encode_utf8_all}
use Rattle.std.proofs.lemmas.Str.{encode_ascii, IsUtf8-past_char, encodes-chars}
use Rattle.clap.specs.Walk.{Row, Text, Waiting, walked, idle, option, positional}
use Rattle.clap.specs.Faults.{turn_fault, settle_fault, flags_fault}
use Rattle.clap.specs.declared.error.kind.ErrorKind.TheVariants.{InvalidValue, UnknownArgument}
use Rattle.script_cli_arguments.specs.Arguments.{Word, Parts, Setting, journal_limit, size}
use Rattle.script_cli_arguments.specs.Arguments.{setting_name}
use Rattle.script_cli_arguments.specs.Arguments.{option_value}
use Rattle.script_cli_arguments.proofs.WordKinds.{IsPlainWord}
use Rattle.script_cli_arguments.proofs.FoundRows.{Keeps}
use Rattle.script_cli_arguments.proofs.WordsRead.{IsNamed, IsUnknown}
use Rattle.script_cli_arguments.proofs.ClapSteps.{walk_at, shape, rules_built, Pending, nothing}
use Rattle.script_cli_arguments.proofs.ClapSteps.{a_value}
use Rattle.script_cli_arguments.proofs.ClapSteps.{a_word, pending_text, parts_with, Fits, held_at}
use Rattle.script_cli_arguments.proofs.ClapSteps.{rows_with, settles}

-- ---- `--`

module _ (rows : List Row) (pending : Option (Text × List Text)) (position : ℕ) where
  pub dashes_pass : turn_fault shape [] (walk_at rows pending idle position false) (45 ∷ 45 ∷ [])
      ≡ []
  dashes_pass = refl

  pub dashes_walked : walked rules_built [] (walk_at rows pending idle position false)
      (45 ∷ 45 ∷ []) ≡ walk_at rows pending idle position true
  unfolding walked
  dashes_walked = refl

  pub dashes_pass_waiting : (id : Text) → turn_fault shape []
      (walk_at rows pending (option id) position false) (45 ∷ 45 ∷ []) ≡ []
  dashes_pass_waiting id = refl

  pub dashes_walked_waiting : (id : Text) → walked rules_built []
      (walk_at rows pending (option id) position false) (45 ∷ 45 ∷ [])
      ≡ walk_at rows pending (option id) position true
  unfolding walked
  dashes_walked_waiting id = refl

-- ---- one hyphen and more

first_of_chars : (cs : List ℕ) (x : ℕ) (xs : List ℕ) → encode_utf8_all cs ≡ x ∷ xs → (c : ℕ)
    × (slice_get cs 0 ≡ Some c)
first_of_chars [] x xs e = absurd (cc)
first_of_chars (c ∷ cs) x xs e = (c, refl)

first_char : (x : ℕ) (xs : List ℕ) → IsUtf8 (45 ∷ x ∷ xs) → (c : ℕ)
    × (slice_get (chars (x ∷ xs)) 0 ≡ Some c)
first_char x xs utf8 =
    let rest : IsUtf8 (x ∷ xs) = IsUtf8-past_char (45 ∷ x ∷ xs) (x ∷ xs) 45 utf8
    (ap (λ (l : List ℕ). l ++ x ∷ xs) (sym (encode_ascii 45 (lit< tt)))) in
    first_of_chars (chars (x ∷ xs)) x xs (encodes-chars (x ∷ xs) rest)

pub short_refused : (x : ℕ) (xs : List ℕ) → IsUtf8 (45 ∷ x ∷ xs) → (x == 45) ≡ false
    → (rows : List Row) (pending : Option (Text × List Text)) (waiting : Waiting) (position : ℕ)
    → turn_fault shape [] (walk_at rows pending waiting position false) (45 ∷ x ∷ xs)
    ≡ UnknownArgument ∷ []
unfolding flags_fault
short_refused x xs utf8 e rows pending idle position = let first = (first_char x xs utf8).1 in
    rw (e, e, first)
short_refused x xs utf8 e rows pending (option id) position = let first =
    (first_char x xs utf8).1 in rw (e, e, first)
short_refused x xs utf8 e rows pending positional position = let first = (first_char x xs utf8).1 in
    rw (e, e, first)

-- ---- two hyphens and more

module _ (x : ℕ) (xs : List ℕ) where
  pub unknown_refused : IsUnknown (x ∷ xs) → (rows : List Row) (pending : Option (Text × List Text))
      (waiting : Waiting) (position : ℕ)
      → turn_fault shape [] (walk_at rows pending waiting position false) (45 ∷ 45 ∷ x ∷ xs)
      ≡ UnknownArgument ∷ []
  unknown_refused e rows pending idle position = rw (e.0, e.1)
  unknown_refused e rows pending (option id) position = rw (e.0, e.1)
  unknown_refused e rows pending positional position = rw (e.0, e.1)

  module _ (rows : List Row) (parts : Parts) (pending : Pending) (position : ℕ)
      (k : Keeps rows parts) (f : Fits pending parts) where
    pub joined_passes : (setting : Setting) → IsNamed setting (x ∷ xs) → (text : Word)
        → option_value (x ∷ xs) ≡ Some text
        → turn_fault shape [] (walk_at rows (pending_text pending) idle position false)
        (45 ∷ 45 ∷ x ∷ xs) ≡ []
    joined_passes journal_limit named text e = let s = settles pending rows parts k f in
        rw (named, e, s)
    joined_passes size named text e = let s = settles pending rows parts k f in
        rw (named.0, named.1, e, s)

    pub joined_walked : (setting : Setting) → IsNamed setting (x ∷ xs) → (text : Word)
        → option_value (x ∷ xs) ≡ Some text
        → walked rules_built [] (walk_at rows (pending_text pending) idle position false)
        (45 ∷ 45 ∷ x ∷ xs)
        ≡ walk_at (rows_with (a_value setting text) (rows_with pending rows)) None idle position
        false
    unfolding walked
    joined_walked journal_limit named text e = rw (named, e)
    joined_walked size named text e = rw (named.0, named.1, e)

    pub apart_passes : (setting : Setting) → IsNamed setting (x ∷ xs) → option_value (x ∷ xs) ≡ None
        → turn_fault shape [] (walk_at rows (pending_text pending) idle position false)
        (45 ∷ 45 ∷ x ∷ xs) ≡ []
    apart_passes journal_limit named e = let s = settles pending rows parts k f in rw (named, e, s)
    apart_passes size named e = let s = settles pending rows parts k f in
        rw (named.0, named.1, e, s)

    pub apart_walked : (setting : Setting) → IsNamed setting (x ∷ xs) → option_value (x ∷ xs) ≡ None
        → walked rules_built [] (walk_at rows (pending_text pending) idle position false)
        (45 ∷ 45 ∷ x ∷ xs)
        ≡ walk_at (rows_with pending rows) (Some (setting_name setting, []))
        (option (setting_name setting)) position false
    unfolding walked
    apart_walked journal_limit named e = rw (named, e)
    apart_walked size named e = rw (named.0, named.1, e)

  -- an option that waits, and the option whose name then comes
  pub waiting_refused : (waits setting : Setting) → IsNamed setting (x ∷ xs) → (value : Option Word)
      → option_value (x ∷ xs) ≡ value → (rows : List Row) (position : ℕ)
      → turn_fault shape [] (walk_at rows (Some (setting_name waits, []))
      (option (setting_name waits)) position false) (45 ∷ 45 ∷ x ∷ xs) ≡ InvalidValue ∷ []
  waiting_refused journal_limit journal_limit e None v rows position = rw (e, v)
  waiting_refused journal_limit journal_limit e (Some text) v rows position = rw (e, v)
  waiting_refused journal_limit size e None v rows position = rw (e.0, e.1, v)
  waiting_refused journal_limit size e (Some text) v rows position = rw (e.0, e.1, v)
  waiting_refused size journal_limit e None v rows position = rw (e, v)
  waiting_refused size journal_limit e (Some text) v rows position = rw (e, v)
  waiting_refused size size e None v rows position = rw (e.0, e.1, v)
  waiting_refused size size e (Some text) v rows position = rw (e.0, e.1, v)

-- ---- the value of an option

module _ (word : Word) (plain : IsPlainWord word) (rows : List Row) (position : ℕ) where
  pub value_passes : (setting : Setting) → turn_fault shape []
      (walk_at rows (Some (setting_name setting, [])) (option (setting_name setting)) position
      false) word ≡ []
  value_passes journal_limit = rw (plain.more, plain.long, plain.short)
  value_passes size = rw (plain.more, plain.long, plain.short)

  pub value_walked : (setting : Setting) → walked rules_built []
      (walk_at rows (Some (setting_name setting, [])) (option (setting_name setting)) position
      false) word
      ≡ walk_at rows (pending_text (a_value setting word)) idle position false
  unfolding walked
  value_walked journal_limit = rw (plain.more, plain.long, plain.short)
  value_walked size = rw (plain.more, plain.long, plain.short)

-- ---- the other word

module _ (word : Word) (rows : List Row) (parts : Parts) (pending : Pending) (k : Keeps rows parts)
    (f : Fits pending parts) (none : (parts_with pending parts).other ≡ None) where
  no_word_pends : (p : Pending) → (parts_with p parts).other ≡ None → Fits p parts
      → settle_fault rules_built false (held_at rows (pending_text p)) ≡ []
      → turn_fault shape [] (walk_at rows (pending_text p) idle 1 true) word ≡ []
  no_word_pends nothing e g s = refl
  no_word_pends (a_value journal_limit v) e g s = refl
  no_word_pends (a_value size v) e g s = refl
  no_word_pends (a_word v) e g s = absurd (cc)

  pub other_passes_after : turn_fault shape [] (walk_at rows (pending_text pending) idle 1 true)
      word ≡ []
  other_passes_after = no_word_pends pending none f (settles pending rows parts k f)

  walked_after : (p : Pending) → (parts_with p parts).other ≡ None
      → walked rules_built [] (walk_at rows (pending_text p) idle 1 true) word
      ≡ walk_at (rows_with p rows) (pending_text (a_word word)) idle 2 true
  unfolding walked
  walked_after nothing e = refl
  walked_after (a_value journal_limit v) e = refl
  walked_after (a_value size v) e = refl
  walked_after (a_word v) e = absurd (cc)

  pub other_walked_after : walked rules_built [] (walk_at rows (pending_text pending) idle 1 true)
      word ≡ walk_at (rows_with pending rows) (pending_text (a_word word)) idle 2 true
  other_walked_after = walked_after pending none

  module _ (plain : IsPlainWord word) where
    passes_plain : (p : Pending) → (parts_with p parts).other ≡ None
        → turn_fault shape [] (walk_at rows (pending_text p) idle 1 false) word ≡ []
    passes_plain nothing e = rw (plain.more, plain.long, plain.short)
    passes_plain (a_value journal_limit v) e = rw (plain.more, plain.long, plain.short)
    passes_plain (a_value size v) e = rw (plain.more, plain.long, plain.short)
    passes_plain (a_word v) e = absurd (cc)

    pub other_passes : turn_fault shape [] (walk_at rows (pending_text pending) idle 1 false) word
        ≡ []
    other_passes = passes_plain pending none

    walked_plain : (p : Pending) → (parts_with p parts).other ≡ None
        → walked rules_built [] (walk_at rows (pending_text p) idle 1 false) word
        ≡ walk_at (rows_with p rows) (pending_text (a_word word)) idle 2 false
    unfolding walked
    walked_plain nothing e = rw (plain.more, plain.long, plain.short)
    walked_plain (a_value journal_limit v) e = rw (plain.more, plain.long, plain.short)
    walked_plain (a_value size v) e = rw (plain.more, plain.long, plain.short)
    walked_plain (a_word v) e = absurd (cc)

    pub other_walked : walked rules_built [] (walk_at rows (pending_text pending) idle 1 false) word
        ≡ walk_at (rows_with pending rows) (pending_text (a_word word)) idle 2 false
    other_walked = walked_plain pending none

-- ---- a second other word

pub second_refused : (word : Word) → IsPlainWord word
    → (rows : List Row) (pending : Option (Text × List Text))
    → turn_fault shape [] (walk_at rows pending idle 2 false) word ≡ UnknownArgument ∷ []
second_refused word plain rows pending = rw (plain.more, plain.long, plain.short)

pub second_refused_after : (word : Word) (rows : List Row) (pending : Option (Text × List Text))
    → turn_fault shape [] (walk_at rows pending idle 2 true) word ≡ UnknownArgument ∷ []
second_refused_after word rows pending = refl

-- ---- after a `--` that stands where a value was due

pub due_refused : (setting : Setting) (word : Word) (rows : List Row)
    → turn_fault shape [] (walk_at rows (Some (setting_name setting, []))
    (option (setting_name setting)) 1 true) word ≡ InvalidValue ∷ []
due_refused journal_limit word rows = refl
due_refused size word rows = refl

pub due_refused_second : (setting : Setting) (word : Word) (rows : List Row)
    → turn_fault shape [] (walk_at rows (Some (setting_name setting, []))
    (option (setting_name setting)) 2 true) word ≡ UnknownArgument ∷ []
due_refused_second journal_limit word rows = refl
due_refused_second size word rows = refl
