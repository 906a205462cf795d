-- Of all words clap reads what the definition reads.
use Rattle.std.proofs.Common.{◌≡◌, ℕ, Bool, true, false, List, [], ◌∷◌, refl, Option, Some, None}
use Rattle.std.proofs.Common.{ap, sym, subst, ◌∙◌, ne_eqb, length, arith}
use Rattle.std.specs.Prelude.{String, string_bytes, map}
use Rattle.std.specs.Str.{bytes_eq, IsUtf8}
use Rattle.std.proofs.lemmas.Str.{IsUtf8-string_bytes}
use Rattle.clap.specs.Faults.{fault_of}
use Rattle.clap.specs.Kinds.{Kinds, IsAmong}
use Rattle.clap.specs.Simple.{matches_of}
use Rattle.clap.specs.declared.error.kind.ErrorKind.{ErrorKind}
use Rattle.clap.specs.Walk.{is_empty, Row, Walk, idle, option}
use Rattle.clap.specs.declared.error.kind.ErrorKind.TheVariants.{InvalidValue, UnknownArgument}
use Rattle.script_cli_arguments.specs.Reading.{program, parsed_words, parts_in}
use Rattle.script_cli_arguments.specs.Arguments.{Word, Parts, no_parts, asked_by, asked, Next, any}
use Rattle.script_cli_arguments.specs.Arguments.{value}
use Rattle.script_cli_arguments.specs.Arguments.{no_option, words_read, Setting, journal_limit}
use Rattle.script_cli_arguments.specs.Arguments.{size}
use Rattle.script_cli_arguments.specs.Arguments.{setting_name, option_value, with_value}
use Rattle.script_cli_arguments.proofs.WordKinds.{IsPlainWord, KindOf, dashes, long, short, plain}
use Rattle.script_cli_arguments.proofs.WordKinds.{kind_of_word}
use Rattle.script_cli_arguments.proofs.WordsRead.{Naming, names, unknown, naming, reads_unknown}
use Rattle.script_cli_arguments.proofs.WordsRead.{reads_apart, reads_joined, reads_short}
use Rattle.script_cli_arguments.proofs.WordsRead.{reads_other}
use Rattle.script_cli_arguments.proofs.WordsRead.{reads_second, reads_value, reads_after}
use Rattle.script_cli_arguments.proofs.WordsRead.{reads_second_after}
use Rattle.script_cli_arguments.proofs.FoundRows.{Keeps, held_values, values_of}
use Rattle.script_cli_arguments.proofs.ClapSteps.{walk_at, Pending, nothing, a_value, a_word}
use Rattle.script_cli_arguments.proofs.ClapSteps.{pending_text}
use Rattle.script_cli_arguments.proofs.ClapSteps.{parts_with, Fits, rows_with, keeps_with, outcome}
use Rattle.script_cli_arguments.proofs.ClapSteps.{outcome_at_once, goes_on, is_refused, ends}
use Rattle.script_cli_arguments.proofs.ClapSteps.{ends_waiting}
use Rattle.script_cli_arguments.proofs.ClapWords as clap

-- where the next other word goes
abbrev place_of : Option Word → ℕ
place_of None = 1
place_of (Some word) = 2

-- how far the reading has come: any word may come, an option waits for its value, or it is after
-- `--`
data State : Type 0 where
  reading : List Row → Parts → Pending → State
  waits : Setting → List Row → Parts → State
  after : List Row → Parts → Pending → State

abbrev walk_of : State → Walk
walk_of (reading rows parts p) = walk_at rows (pending_text p) idle
    (place_of (parts_with p parts).other) false
walk_of (waits setting rows parts) = walk_at rows (Some (setting_name setting, []))
    (option (setting_name setting)) (place_of parts.other) false
walk_of (after rows parts p) = walk_at rows (pending_text p) idle
    (place_of (parts_with p parts).other) true

abbrev next_of : State → Next
next_of (reading rows parts p) = any
next_of (waits setting rows parts) = value setting
next_of (after rows parts p) = no_option

abbrev parts_of : State → Parts
parts_of (reading rows parts p) = parts_with p parts
parts_of (waits setting rows parts) = parts
parts_of (after rows parts p) = parts_with p parts

abbrev IsRight : State → Type 0
IsRight (reading rows parts p) = Keeps rows parts × Fits p parts
IsRight (waits setting rows parts) = Keeps rows parts
IsRight (after rows parts p) = Keeps rows parts × Fits p parts

abbrev Agrees : State → List Word → Type 0
Agrees s arguments = outcome (walk_of s) arguments ≡ words_read (next_of s) (parts_of s) arguments

at_end : (s : State) → IsRight s → Agrees s []
at_end (reading rows parts p) r = ends rows parts p idle _ false r.0 r.1
at_end (waits setting rows parts) r = ends_waiting setting rows (option (setting_name setting)) _
    false
at_end (after rows parts p) r = ends rows parts p idle _ true r.0 r.1

-- after a `--` that stands where a value was due nothing is accepted
never : (setting : Setting) (rows : List Row) (other : Option Word) (arguments : List Word)
    → outcome (walk_at rows (Some (setting_name setting, [])) (option (setting_name setting))
    (place_of other) true) arguments ≡ None
never setting rows other [] = ends_waiting setting rows (option (setting_name setting)) _ true
never setting rows None (word ∷ arguments) = is_refused _ word arguments InvalidValue
    (clap.due_refused setting word rows)
never setting rows (Some w) (word ∷ arguments) = is_refused _ word arguments UnknownArgument
    (clap.due_refused_second setting word rows)

module _ (arguments : List Word) (later : (s : State) → IsRight s → Agrees s arguments) where
  -- ---- any word may come

  module _ (rows : List Row) (parts : Parts) (p : Pending) where
    placed : (next : Next) (trailing : Bool) (word : Word) (o : Option Word)
        → (parts_with p parts).other ≡ o
        → outcome (walk_at rows (pending_text p) idle (place_of o) trailing) (word ∷ arguments)
        ≡ words_read next (parts_with p parts) (word ∷ arguments)
        → outcome (walk_at rows (pending_text p) idle (place_of (parts_with p parts).other)
        trailing) (word ∷ arguments) ≡ words_read next (parts_with p parts) (word ∷ arguments)
    placed next trailing word o e h =
        subst (λ q. outcome (walk_at rows (pending_text p) idle (place_of q) trailing)
        (word ∷ arguments) ≡ words_read next (parts_with p parts) (word ∷ arguments)) (sym e) h

  module _ (rows : List Row) (parts : Parts) (p : Pending) (k : Keeps rows parts)
      (f : Fits p parts) where
    named_option : (x : ℕ) (xs : List ℕ) (v : Option Word) → Naming (x ∷ xs)
        → option_value (x ∷ xs) ≡ v
        → Agrees (reading rows parts p) ((45 ∷ 45 ∷ x ∷ xs) ∷ arguments)
    named_option x xs v (unknown e) d =
        is_refused _ _ arguments UnknownArgument
        (clap.unknown_refused x xs e rows (pending_text p) idle
        _) ∙ sym (reads_unknown (parts_with p parts) arguments x xs e)
    named_option x xs None (names setting e) d =
        goes_on _ _ _ arguments (clap.apart_passes x xs rows parts p _ k f setting e d)
        (clap.apart_walked x xs rows parts p _ k f setting e d)
        ∙ later (waits setting (rows_with p rows) (parts_with p parts))
        (keeps_with p rows parts k f) ∙ sym
        (reads_apart (parts_with p parts) arguments setting x xs e d)
    named_option x xs (Some text) (names setting e) d =
        goes_on _ _ _ arguments (clap.joined_passes x xs rows parts p _ k f setting e text d)
        (clap.joined_walked x xs rows parts p _ k f setting e text d)
        ∙ joined_later setting text ∙ sym (reads_joined (parts_with p parts) arguments setting x xs
        text
        e d)
      where
        joined_later : (setting : Setting) (text : Word)
            → Agrees (reading (rows_with (a_value setting text) (rows_with p rows))
            (with_value setting text (parts_with p parts)) nothing) arguments
        joined_later setting text = later (reading
            (rows_with (a_value setting text) (rows_with p rows))
            (with_value setting text (parts_with p parts)) nothing) (
              keeps_with (a_value setting text) (rows_with p rows) (parts_with p parts)
                  (keeps_with p rows parts k f) tt,
              tt,
            )

    other_word : (word : Word) (o : Option Word) → IsPlainWord word → (parts_with p parts).other ≡ o
        → Agrees (reading rows parts p) (word ∷ arguments)
    other_word word None w e =
        placed rows parts p any false word None e
        (goes_on _ _ word arguments (clap.other_passes word rows parts p k f e w)
        (clap.other_walked word rows parts p k f e w)
        ∙ later (reading (rows_with p rows) (parts_with p parts) (a_word word))
        (keeps_with p rows parts k f, e) ∙ sym
        (reads_other (parts_with p parts) arguments word w e))
    other_word word (Some v) w e =
        placed rows parts p any false word (Some v) e
        (is_refused _ word arguments UnknownArgument
        (clap.second_refused word w rows (pending_text p))
        ∙ sym (reads_second (parts_with p parts) arguments word v w e))

    any_word : (word : Word) → IsUtf8 word → KindOf word
        → Agrees (reading rows parts p) (word ∷ arguments)
    any_word word u (dashes is) = subst (λ w. Agrees (reading rows parts p) (w ∷ arguments))
        (sym is)
        (goes_on _ _ _ arguments (clap.dashes_pass rows (pending_text p)
        (place_of (parts_with p parts).other))
        (clap.dashes_walked rows (pending_text p) (place_of (parts_with p parts).other))
        ∙ later (after rows parts p) (k, f))
    any_word word u (long x xs is) = subst (λ w. Agrees (reading rows parts p) (w ∷ arguments))
        (sym is)
        (named_option x xs (option_value (x ∷ xs)) (naming (x ∷ xs)) refl)
    any_word word u (short x xs is e) = subst (λ w. Agrees (reading rows parts p) (w ∷ arguments))
        (sym is)
        (is_refused _ _ arguments UnknownArgument
        (clap.short_refused x xs (subst IsUtf8 is u) e rows (pending_text p) idle _)
        ∙ sym (reads_short (parts_with p parts) arguments x xs e))
    any_word word u (plain w) = other_word word (parts_with p parts).other w refl

  -- ---- an option waits for its value

  module _ (setting : Setting) (rows : List Row) (parts : Parts) (k : Keeps rows parts) where
    value_named : (x : ℕ) (xs : List ℕ) → Naming (x ∷ xs)
        → Agrees (waits setting rows parts) ((45 ∷ 45 ∷ x ∷ xs) ∷ arguments)
    value_named x xs (unknown e) =
        is_refused _ _ arguments UnknownArgument (clap.unknown_refused x xs e rows
        (Some (setting_name setting, [])) (option (setting_name setting)) _)
    value_named x xs (names named e) = is_refused _ _ arguments InvalidValue
        (clap.waiting_refused x xs setting named e (option_value (x ∷ xs)) refl rows _)

    value_word : (word : Word) → IsUtf8 word → KindOf word
        → Agrees (waits setting rows parts) (word ∷ arguments)
    value_word word u (dashes is) = subst (λ w. Agrees (waits setting rows parts) (w ∷ arguments))
        (sym is)
        (goes_on _ _ _ arguments (clap.dashes_pass_waiting rows (Some (setting_name setting, []))
        (place_of parts.other) (setting_name setting))
        (clap.dashes_walked_waiting rows (Some (setting_name setting, [])) (place_of parts.other)
        (setting_name setting)) ∙ never setting rows parts.other arguments)
    value_word word u (long x xs is) = subst (λ w.
        Agrees (waits setting rows parts) (w ∷ arguments))
        (sym is) (value_named x xs (naming (x ∷ xs)))
    value_word word u (short x xs is e) = subst
        (λ w. Agrees (waits setting rows parts) (w ∷ arguments))
        (sym is)
        (is_refused _ _ arguments UnknownArgument
        (clap.short_refused x xs (subst IsUtf8 is u) e rows (Some (setting_name setting, []))
        (option (setting_name setting)) _))
    value_word word u (plain w) =
        goes_on _ _ word arguments (clap.value_passes word w rows _ setting)
        (clap.value_walked word w rows _ setting)
        ∙ later (reading rows parts (a_value setting word)) (k, tt)
        ∙ sym (reads_value parts arguments setting word w.dashed)

  -- ---- no word is an option

  module _ (rows : List Row) (parts : Parts) (p : Pending) (k : Keeps rows parts)
      (f : Fits p parts) where
    word_after : (word : Word) (o : Option Word) → (parts_with p parts).other ≡ o
        → Agrees (after rows parts p) (word ∷ arguments)
    word_after word None e =
        placed rows parts p no_option true word None e
        (goes_on _ _ word arguments (clap.other_passes_after word rows parts p k f e)
        (clap.other_walked_after word rows parts p k f e)
        ∙ later (after (rows_with p rows) (parts_with p parts) (a_word word))
        (keeps_with p rows parts k f, e) ∙ sym (reads_after (parts_with p parts) arguments word e))
    word_after word (Some v) e =
        placed rows parts p no_option true word (Some v) e
        (is_refused _ word arguments UnknownArgument
        (clap.second_refused_after word rows (pending_text p))
        ∙ sym (reads_second_after (parts_with p parts) arguments word v e))

  one_more : (word : Word) → IsUtf8 word → (s : State) → IsRight s → Agrees s (word ∷ arguments)
  one_more word u (reading rows parts p) r = any_word rows parts p r.0 r.1 word u
      (kind_of_word word)
  one_more word u (waits setting rows parts) r =
      value_word setting rows parts r word u (kind_of_word word)
  one_more word u (after rows parts p) r = word_after rows parts p r.0 r.1 word
      (parts_with p parts).other refl

abbrev AreTexts : List Word → Type 0
AreTexts [] = Unit {0}
AreTexts (word ∷ arguments) = IsUtf8 word × AreTexts arguments

are_texts : {Z : Type 0} (strings : List (String Z)) → AreTexts (map string_bytes strings)
are_texts [] = tt
are_texts (s ∷ strings) = (IsUtf8-string_bytes s, are_texts strings)

follows : (arguments : List Word) → AreTexts arguments → (s : State) → IsRight s
    → Agrees s arguments
follows [] us s r = at_end s r
follows (word ∷ arguments) us s r = one_more arguments (follows arguments us.1) word us.0 s r

none_held : (setting : Setting) → held_values setting [] ≡ values_of setting no_parts
none_held journal_limit = refl
none_held size = refl

pub clap_agrees : {Z : Type 0} (strings : List (String Z))
    → parsed_words (map string_bytes strings) ≡ words_read any no_parts (map string_bytes strings)
clap_agrees strings = outcome_at_once (map string_bytes strings)
    ∙ follows (map string_bytes strings) (are_texts strings) (reading [] no_parts nothing)
    (record { values = none_held; other = refl; has = refl }, tt)

-- ---- where clap takes the words, and where it does not

pub asked_where_taken : {Z : Type 0} (strings : List (String Z)) (rows : List Row)
    → fault_of program (map string_bytes strings) ≡ []
    → rows ≡ matches_of program (map string_bytes strings)
    → asked_by (Some (parts_in rows)) ≡ asked (map string_bytes strings)
asked_where_taken strings rows none same =
    let taken : parsed_words (map string_bytes strings)
    ≡ Some (parts_in (matches_of program (map string_bytes strings))) = rw none in
    ap (λ (r : List Row). asked_by (Some (parts_in r))) same
    ∙ ap asked_by (sym taken ∙ clap_agrees strings)

is_there : (kind : ErrorKind) (kinds : Kinds) → IsAmong kind kinds → is_empty kinds ≡ false
is_there kind [] h = absurd h
is_there kind (x ∷ kinds) h = ne_eqb (length (x ∷ kinds)) 0 (λ e. omega arith)

pub asked_where_refused : {Z : Type 0} (strings : List (String Z)) (kind : ErrorKind)
    → IsAmong kind (fault_of program (map string_bytes strings))
    → None ≡ asked (map string_bytes strings)
asked_where_refused strings kind h =
    let refused : is_empty (fault_of program (map string_bytes strings)) ≡ false =
    is_there kind (fault_of program (map string_bytes strings)) h in
    let none : parsed_words (map string_bytes strings) ≡ None = rw refused in
    ap asked_by (sym none ∙ clap_agrees strings)
