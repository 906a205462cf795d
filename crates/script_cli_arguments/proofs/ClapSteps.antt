-- clap's steps over one word, by the kinds of words.
use Rattle.std.proofs.Common.{◌≡◌, ℕ, Bool, true, false, List, [], ◌∷◌, ◌++◌, refl, Option, Some}
use Rattle.std.proofs.Common.{None, ap, ap₂, ◌∙◌, ◌||◌, unwrap_or}
use Rattle.std.specs.Prelude.{cond, is_some, if◌then◌else◌, fold}
use Rattle.clap.specs.Kinds.{Kinds, or_else}
use Rattle.clap.specs.Walk.{Held, Row, Rule, Text, Waiting, Walk, is_empty, walked, walk_from}
use Rattle.clap.specs.Walk.{finished, settled, settled_rows, nothing_held, has_row}
use Rattle.clap.specs.Faults.{turn_fault, walk_fault, settle_fault, defaults_fault, check_fault}
use Rattle.clap.specs.Simple.{built, Shape, matches_of}
use Rattle.clap.specs.declared.error.kind.ErrorKind.{ErrorKind}
use Rattle.clap.proofs.FaultLemmas.{leaf_fault}
use Rattle.script_cli_arguments.specs.Reading.{program, parts_in, parsed_words}
use Rattle.script_cli_arguments.specs.Arguments.{Word, Parts, Setting, journal_limit, size}
use Rattle.script_cli_arguments.specs.Arguments.{setting_name}
use Rattle.script_cli_arguments.specs.Arguments.{with_value}
use Rattle.script_cli_arguments.proofs.WordsRead.{with_other}
use Rattle.script_cli_arguments.proofs.FoundRows.{Keeps, word_name, more_of, word_of}

abbrev pub shape : Shape
shape = (built program).top

abbrev pub rules_built : List Rule
rules_built = shape.rules

-- clap's walk between two words
abbrev pub walk_at : List Row → Option (Text × List Text) → Waiting → ℕ → Bool → Walk
walk_at rows pending waiting position trailing = record {
  held = record { rows = rows; pending = pending; skip = 0 };
  waiting = waiting;
  position = position;
  is_trailing = trailing;
  stopped = None;
}

-- ---- what is read and not yet among the rows

pub data Pending : Type 0 where
  nothing : Pending
  a_value : Setting → Word → Pending
  a_word : Word → Pending

abbrev pub pending_text : Pending → Option (Text × List Text)
pending_text nothing = None
pending_text (a_value setting word) = Some (setting_name setting, word ∷ [])
pending_text (a_word word) = Some (word_name, word ∷ [])

abbrev pub parts_with : Pending → Parts → Parts
parts_with nothing parts = parts
parts_with (a_value setting word) parts = with_value setting word parts
parts_with (a_word word) parts = with_other word parts

abbrev pub Fits : Pending → Parts → Type 0
Fits (a_word word) parts = parts.other ≡ None
Fits _ parts = Unit {0}

abbrev pub held_at : List Row → Option (Text × List Text) → Held
held_at rows pending = record { rows = rows; pending = pending; skip = 0 }

abbrev pub rows_with : Pending → List Row → List Row
rows_with pending rows = settled_rows rules_built (pending_text pending) rows

pub keeps_with : (pending : Pending) (rows : List Row) (parts : Parts) → Keeps rows parts
    → Fits pending parts → Keeps (rows_with pending rows) (parts_with pending parts)
keeps_with nothing rows parts k f = k
keeps_with (a_value journal_limit word) rows parts k f = more_of journal_limit _ word rows parts k
keeps_with (a_value size word) rows parts k f = more_of size _ word rows parts k
keeps_with (a_word word) rows parts k f =
    let lacks : has_row word_name rows ≡ false = k.has ∙ ap is_some f in
    word_of _ word rows parts lacks k

pub settles : (pending : Pending) (rows : List Row) (parts : Parts) → Keeps rows parts
    → Fits pending parts
    → settle_fault rules_built false (held_at rows (pending_text pending)) ≡ []
settles nothing rows parts k f = refl
settles (a_value journal_limit word) rows parts k f = refl
settles (a_value size word) rows parts k f = refl
settles (a_word word) rows parts k f =
    let lacks : has_row word_name rows ≡ false = k.has ∙ ap is_some f in rw lacks

-- ---- the end

same_either : {A : Type 0} (b : Bool) (x : A) → cond b x x ≡ x
same_either true x = refl
same_either false x = refl

or_true : (b : Bool) → (b || true) ≡ true
or_true true = refl
or_true false = refl

pub no_defaults : (h : Held) → finished rules_built h ≡ (settled rules_built h).rows
no_defaults h = simp same_either

pub defaults_pass : (rows : List Row) → defaults_fault rows rules_built ≡ []
unfolding defaults_fault
defaults_pass rows = simp (or_true, same_either)

pub checks_pass : (rows : List Row) → check_fault shape rows false ≡ []
checks_pass rows = refl

-- ---- what the words come to, from a walk on

abbrev pub end_fault : Held → Kinds
end_fault h = or_else (settle_fault rules_built false h)
    (or_else (defaults_fault (settled rules_built h).rows rules_built)
    (check_fault shape (finished rules_built h) false))

abbrev pub end_of_walk : Walk → List Word → Walk
end_of_walk w arguments = fold (walked rules_built []) w arguments

abbrev pub outcome_by : Kinds → List Row → Option Parts
outcome_by kinds rows = if is_empty kinds then Some (parts_in rows) else None

abbrev pub outcome : Walk → List Word → Option Parts
outcome w arguments = outcome_by (or_else (walk_fault shape [] w arguments)
    (end_fault (end_of_walk w arguments).held))
    (finished rules_built (end_of_walk w arguments).held)

pub outcome_at_once : (arguments : List Word)
    → parsed_words arguments ≡ outcome (walk_from nothing_held) arguments
outcome_at_once arguments = ap (λ kinds. outcome_by kinds (matches_of program arguments))
    (leaf_fault (built program) nothing_held arguments refl)

pub goes_on : (w v : Walk) (word : Word) (arguments : List Word) → turn_fault shape [] w word ≡ []
    → walked rules_built [] w word ≡ v → outcome w (word ∷ arguments) ≡ outcome v arguments
unfolding walk_fault
goes_on w v word arguments fault next = rw fault (ap (λ x. outcome x arguments) next)

pub is_refused : (w : Walk) (word : Word) (arguments : List Word) (kind : ErrorKind)
    → turn_fault shape [] w word ≡ kind ∷ []
    → outcome w (word ∷ arguments) ≡ None
unfolding walk_fault
is_refused w word arguments kind fault = rw fault

abbrev some_parts : List Word → List Word → Option Word → Option Parts
some_parts limits sizes other = Some (record { limits = limits; sizes = sizes; other = other })

same_parts : {l k s t : List Word} {o u : Option Word} → l ≡ k → s ≡ t → o ≡ u
    → some_parts l s o ≡ some_parts k t u
same_parts {l} {k} {s} {t} {o} {u} e f g = ap (λ (x : List Word). some_parts x s o) e
    ∙ ap (λ (x : List Word). some_parts k x o) f ∙ ap (λ (x : Option Word). some_parts k t x) g

pub ends : (rows : List Row) (parts : Parts) (pending : Pending) (waiting : Waiting) (position : ℕ)
    (trailing : Bool)
    → Keeps rows parts → Fits pending parts
    → outcome (walk_at rows (pending_text pending) waiting position trailing) []
    ≡ Some (parts_with pending parts)
unfolding walk_fault
ends rows parts pending waiting position trailing k f =
    let s = settles pending rows parts k f in
    let d = defaults_pass (rows_with pending rows) in
    let after = keeps_with pending rows parts k f in
    let n = no_defaults (held_at rows (pending_text pending)) in
    rw (s, d, n) (same_parts (after.values journal_limit) (after.values size) after.other)

pub ends_waiting : (setting : Setting) (rows : List Row) (waiting : Waiting) (position : ℕ)
    (trailing : Bool)
    → outcome (walk_at rows (Some (setting_name setting, [])) waiting position trailing) [] ≡ None
unfolding walk_fault
ends_waiting journal_limit rows waiting position trailing = refl
ends_waiting size rows waiting position trailing = refl
