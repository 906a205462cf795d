-- Reading from the start of a list, what is counted meanwhile, and what it says of a grammar.
--
-- A crate above makes a production in four steps.
-- 1. Its reader, from the parsers below: `lead (is_word (codes "DROP")) (lead (is_word (codes
--    "TABLE")) (map_to drop name))`. A part is `name` and the others of `Constants`, or `fresh
--    (outermost q).expr` for an expression with counts of its own; a list is `more` (up to a limit
--    of its kind) or `many`; a choice by the next lexeme is `choose`, a part that may be missing
--    `option`.
-- 2. Its grammar, from those beside the parsers (`grammar.lead`, `grammar.seq`, `grammar.map`,
--    `AreMore`, `grammar.fresh`), or an inductive one with laws both ways (`correct_iff`).
-- 3. `IsCorrectParser 0 max_depth reader grammar follow`, by the law of each part:
--    `lead_correct`, `bind_lead`, `map_correct`, `name_correct`, `fresh_expr_correct`,
--    `more_correct`, `many_correct`. `follow` tells the lexemes with which the production
--    itself goes on; `λ x. false` where it ends by itself.
-- 4. The Rust function over the `Cursor`, which ensures `Reads view (reader c.old.nodes (ahead
--    c.old)) result c.new`: what it calls ensures the same of its own part, and `lead_seen`,
--    `lead_not`, `option_takes`, `option_not` and the steps of loops (`more_next`, `many_next`, ..)
--    join them.
-- What `IsCorrectParser` says then holds of every list of lexemes: what is read is in the grammar,
-- what is in it is read, and a fault stands at the first place.
use Rattle.std.specs.Prelude.{◌≡◌, ℕ, zero, suc, ◌+◌, ◌-◌, ◌<◌, ◌≤◌, max, Bool, false, ◌==◌}
use Rattle.std.specs.Prelude.{if◌then◌else◌, nat_lt, get_or, List, [], ◌∷◌, ◌++◌, length, Option}
use Rattle.std.specs.Prelude.{Some, None, ◌⊎◌}
use Rattle.prima_base.specs.declared.refusal.What.{What}
use Rattle.prima_base.specs.declared.refusal.What.TheVariants as what
use Rattle.prima_base.specs.Limits.{max_nodes, max_depth, max_parts, max_branch_tables}
use Rattle.prima_base.specs.Limits.{max_outputs, max_branches, max_keeps, max_inverse}
use Rattle.lexer_spec.specs.Lexemes.{Lexeme}
use Rattle.lexer_combinators.specs.Grammar.{Grammar}
use Rattle.lexer_combinators.specs.Grammar.{Size, rank}

-- ---- counts

-- the most of each, by its rank; no list of kinds 7, 8 and 10 is counted while it is read
abbrev pub limits : List ℕ
limits = max_nodes ∷ max_depth ∷ max_parts ∷ max_branch_tables ∷ max_branches ∷ max_outputs
    ∷ max_keeps ∷ 0 ∷ 0 ∷ max_inverse ∷ 0 ∷ []

abbrev pub limit : What → ℕ
limit w = get_or limits (rank w) 0

-- one node more is not too many
abbrev pub has_room : ℕ → Bool
has_room n = nat_lt n max_nodes

-- ---- reading

-- what was read; or that with the next lexeme it does not go on; or that the next is one too many:
-- each with the nodes so far, and with what stands from there on
pub data Out (A : Type 0) : Type 0 where
  Parsed : A → ℕ → List Lexeme → Out A
  Unexpected : ℕ → List Lexeme → Out A
  LimitExceeded : What → ℕ → List Lexeme → Out A

abbrev pub Parser : Type 0 → Type 0
Parser A = ℕ → List Lexeme → Out A

abbrev pub CanGoOn : {A : Type 0} → Grammar A → List Lexeme → Type 0
CanGoOn {A} G prefix = (more : List Lexeme) × (a : A) × (s : Size) × G a s (prefix ++ more)

-- where a lexeme follows, what follows it does not matter
abbrev pub Same : {A : Type 0} → (List Lexeme → Out A) → List Lexeme → List Lexeme
    → (List Lexeme → Out A) → Type 0
Same run prefix [] make = Unit {0}
Same run prefix (x ∷ suffix) make = (other : List Lexeme)
    → run (prefix ++ x ∷ other) ≡ make (x ∷ other)

-- the one too many is one with which the grammar goes on
abbrev pub GoesOnWith : {A : Type 0} → Grammar A → List Lexeme → List Lexeme → Type 0
GoesOnWith G prefix [] = ⊥
GoesOnWith G prefix (x ∷ suffix) = CanGoOn G (prefix ++ x ∷ [])

-- so many constructs may be opened, and no list is too long
abbrev pub Valid : ℕ → Size → Type 0
Valid d s = (s.depth ≤ d) × ((w : What) → s.wide w ≤ limit w)

-- what reading says, with so many constructs that may be opened
abbrev pub Explains : {A : Type 0} → ℕ → (List Lexeme → Out A) → Grammar A → ℕ → List Lexeme → Out A
    → Type 0
Explains d run G n ts (Parsed a m suffix) = (prefix : List Lexeme) × (s : Size)
    × (ts ≡ prefix ++ suffix) × G a s prefix × (m ≡ n + s.nodes) × (n ≤ max_nodes → m ≤ max_nodes)
    × Valid d s × Same run prefix suffix (Parsed a m)
Explains d run G n ts (Unexpected m suffix) = (prefix : List Lexeme) × (ts ≡ prefix ++ suffix)
    × CanGoOn G prefix × Same run prefix suffix (Unexpected m)
Explains d run G n ts (LimitExceeded w m suffix) = (prefix : List Lexeme) × (ts ≡ prefix ++ suffix)
    × GoesOnWith G prefix suffix × Same run prefix suffix (LimitExceeded w m)

-- a lexeme after it that it does not go on with
abbrev pub Stops : (Lexeme → Bool) → List Lexeme → Type 0
Stops follow [] = Unit {0}
Stops follow (x ∷ suffix) = follow x ≡ false

-- too much of this, with so many nodes before it and so many constructs that may be opened
abbrev pub Exceeds : What → ℕ → ℕ → Size → Type 0
Exceeds what.Nodes n d s = max_nodes < max (n + s.nodes) (s.wide what.Nodes)
Exceeds what.Depth n d s = d < s.depth
Exceeds w n d s = limit w < s.wide w

-- it was read and is not too much, or it is indeed too much
abbrev pub Fine : {A : Type 0} → ℕ → A → Size → ℕ → List Lexeme → Out A → Type 0
Fine d a s n suffix (Parsed b m r) = (b ≡ a) × (r ≡ suffix) × (m ≡ n + s.nodes) × Valid d s
Fine d a s n suffix (Unexpected m r) = ⊥
Fine d a s n suffix (LimitExceeded w m r) = Exceeds w n d s

-- what is read is in the grammar, what is in the grammar is read, and a fault is at the first
-- place: after at least so many nodes, with so many constructs that may be opened
pub record IsCorrectParser {A : Type 0} (low d : ℕ) (p : Parser A) (G : A → Size → List Lexeme
    → Type 0) (follow : Lexeme → Bool) : Type 0 where
  pub live : (a : A) × (s : Size) × (ts : List Lexeme) × G a s ts
  pub explains : (n : ℕ) → low ≤ n → (ts : List Lexeme) → Explains d (p n) G n ts (p n ts)
  pub complete : (n : ℕ) → low ≤ n → (a : A) (s : Size) (prefix suffix : List Lexeme) → G a s prefix
      → Stops follow suffix → Fine d a s n suffix (p n (prefix ++ suffix))

-- ---- parsers and grammars side by side

-- one after the other
abbrev pub and_then : {A B : Type 0} → Out A → (A → Parser B) → Out B
and_then (Parsed a n suffix) f = f a n suffix
and_then (Unexpected n suffix) f = Unexpected n suffix
and_then (LimitExceeded w n suffix) f = LimitExceeded w n suffix

abbrev pub bind : {A B : Type 0} → Parser A → (A → Parser B) → Parser B
bind p f = λ n ts. and_then (p n ts) f

-- no lexeme
abbrev pub pure : {A : Type 0} → A → Parser A
pure a = λ n ts. Parsed a n ts

abbrev pub map_to : {A B : Type 0} → (A → B) → Parser A → Parser B
map_to f p = bind p (λ a. pure (f a))

-- at a lexeme: it cannot stand there; or what follows it is read, as one node more or not; or all
-- from it on is read; or it is one too many, and maybe a node more
pub data Arm (A : Type 0) : Type 0 where
  No : Arm A
  Takes : Parser A → Arm A
  Counts : Parser A → Arm A
  Whole : Parser A → Arm A
  Refuses : What → Arm A
  Fills : What → Arm A

abbrev pub arm_run : {A : Type 0} → Arm A → Lexeme → ℕ → List Lexeme → Out A
arm_run No x n ts = Unexpected n (x ∷ ts)
arm_run (Takes p) x n ts = p n ts
arm_run (Counts p) x n ts = if has_room n then p (n + 1) ts else LimitExceeded what.Nodes n (x ∷ ts)
arm_run (Whole p) x n ts = p n (x ∷ ts)
arm_run (Refuses w) x n ts = LimitExceeded w n (x ∷ ts)
arm_run (Fills w) x n ts = if has_room n then LimitExceeded w n (x ∷ ts)
    else LimitExceeded what.Nodes n (x ∷ ts)

-- by the next lexeme
abbrev pub choose_by : {A : Type 0} → (Lexeme → Arm A) → ℕ → List Lexeme → Out A
choose_by arm n [] = Unexpected n []
choose_by arm n (x ∷ ts) = arm_run (arm x) x n ts

abbrev pub choose : {A : Type 0} → (Lexeme → Arm A) → Parser A
choose arm = λ n ts. choose_by arm n ts

-- this lexeme, and no other
abbrev pub pick : {A : Type 0} → (Lexeme → Bool) → Arm A → Parser A
pick is r = choose (λ x. if is x then r else No)

abbrev pub lead : {A : Type 0} → (Lexeme → Bool) → Parser A → Parser A
lead is p = pick is (Takes p)

-- this lexeme and what follows it, or a value that takes none
abbrev pub option_by : {A : Type 0} → (Lexeme → Bool) → Arm A → A → ℕ → List Lexeme → Out A
option_by is r a n [] = Parsed a n []
option_by is r a n (x ∷ ts) = if is x then arm_run r x n ts else Parsed a n (x ∷ ts)

abbrev pub option : {A : Type 0} → (Lexeme → Bool) → Arm A → A → Parser A
option is r a = λ n ts. option_by is r a n ts

-- no more than so many more, each after the separator
unfoldable pub more : {A : Type 0} → (Lexeme → Bool) → What → Parser A → ℕ → Parser (List A)
more is w item zero = option is (Refuses w) []
more is w item (suc k) = option is (Takes (bind item
    (λ a. map_to (λ others. a ∷ others) (more is w item k)))) []

-- each after the separator, and each of at least one node, so that there are no more than nodes
-- that are left
unfoldable pub nodes_more : {A : Type 0} → (Lexeme → Bool) → Parser A → Parser (List A)
nodes_more is item = λ n ts. more is what.Nodes item (max_nodes + 1 - n) n ts

-- each after the separator, as many as there are, but no more than the first number
unfoldable pub as_many : {A : Type 0} → (Lexeme → Bool) → Parser A → ℕ → Parser (List A)
as_many is item zero = pure []
as_many is item (suc k) = option is (Takes (bind item
    (λ a. map_to (λ others. a ∷ others) (as_many is item k)))) []

-- as many as there are: each takes a lexeme at least, its separator
abbrev pub many : {A : Type 0} → (Lexeme → Bool) → Parser A → Parser (List A)
many is item = λ n ts. as_many is item (length ts) n ts

-- with counts of its own, which begin at nothing; after it, however it ends, those before it go on
abbrev pub set_back : {A : Type 0} → ℕ → Out A → Out A
set_back n (Parsed a m suffix) = Parsed a n suffix
set_back n (Unexpected m suffix) = Unexpected n suffix
set_back n (LimitExceeded w m suffix) = LimitExceeded w n suffix

abbrev pub fresh : {A : Type 0} → Parser A → Parser A
fresh p = λ n ts. set_back n (p 0 ts)

-- one lexeme, by what it says
abbrev pub single_arm : {A : Type 0} → Option A → Arm A
single_arm None = No
single_arm (Some a) = Takes (pure a)

abbrev pub single : {A : Type 0} → (Lexeme → Option A) → Parser A
single says = choose (λ x. single_arm (says x))

-- one lexeme, by what it says; or, where it says nothing, a value that takes none
abbrev pub said_or : {A : Type 0} → Option A → A → Lexeme → ℕ → List Lexeme → Out A
said_or None a x n ts = Parsed a n (x ∷ ts)
said_or (Some b) a x n ts = Parsed b n ts

abbrev pub maybe_by : {A : Type 0} → (Lexeme → Option A) → A → ℕ → List Lexeme → Out A
maybe_by says a n [] = Parsed a n []
maybe_by says a n (x ∷ ts) = said_or (says x) a x n ts

abbrev pub maybe : {A : Type 0} → (Lexeme → Option A) → A → Parser A
maybe says a = λ n ts. maybe_by says a n ts

-- after what was read before
abbrev pub prepend : {A : Type 0} → List A → Out (List A) → Out (List A)
prepend prefix (Parsed l n suffix) = Parsed (prefix ++ l) n suffix
prepend prefix (Unexpected n suffix) = Unexpected n suffix
prepend prefix (LimitExceeded w n suffix) = LimitExceeded w n suffix
