-- The grammar of queries: which lexemes spell which query, and of what size it is. References may
-- have an alias, and each outermost expression and condition has counts of its own. The outputs and
-- the items of a branch, the branches and the conditions of KEEP are counted.
use Rattle.std.specs.Prelude.{ℕ, true, if◌then◌else◌, List, [], ◌∷◌, codes, Option, Some}
use Rattle.relations_spec.specs.Spans.{forever}
use Rattle.prima_base.specs.declared.refusal.What.{What}
use Rattle.prima_base.specs.declared.refusal.What.TheVariants.{Outputs, Tables, Branches, Keeps}
use Rattle.prima_base.specs.declared.keep.Keep.{Keep}
use Rattle.prima_base.specs.declared.keep.Keep.TheVariants.{Starting, Ending, Lasting, Covering}
use Rattle.prima_base.specs.declared.keep.Keep.TheVariants.{Overlapping}
use Rattle.cond_expr.specs.Trees.{Tree}
use Rattle.lexer_spec.specs.Lexemes.{Lexeme, word, sign, is_word}
use Rattle.lexer_combinators.specs.Grammar.{Grammar, AreMore, so_wide}
use Rattle.lexer_combinators.specs.Grammar as grammar
use Rattle.lexer_trees_spec.specs.Grammar.{IsExpr}
use Rattle.lexer_trees_spec.specs.Constants.{as_name, as_moment, name_grammar, small_grammar}
use Rattle.lexer_trees_spec.specs.Constants.{moment_grammar}
use Rattle.lexer_trees_spec.specs.Where.{IsFreshWhere}
use Rattle.temporal_lang_types.specs.declared.when.When.{When}
use Rattle.temporal_lang_types.specs.declared.when.When.TheVariants.{Always, AsOf, During}
use Rattle.plain_answers_spec.specs.Branches.{Item, PlainBranch, a_branch}
use Rattle.temporal_lang_types.specs.Queries.{PlainQuery, a_query}

-- G { separator G }, and they are counted
abbrev pub counted_grammar : {A : Type 0} → Lexeme → What → Grammar A → Grammar (List A)
counted_grammar separator w G = grammar.seq G
    (λ a. grammar.map (λ l. a ∷ l) (AreMore separator (so_wide w) G 1))

-- ---- branches

-- expr
abbrev pub IsOutput : Grammar Tree
IsOutput = grammar.fresh (IsExpr true)

-- expr { , expr }
abbrev pub AreOutputs : Grammar (List Tree)
AreOutputs = counted_grammar (sign (codes ",")) Outputs IsOutput

-- [ name ]: a missing alias is the table's name
abbrev pub IsAlias : List ℕ → Grammar (List ℕ)
IsAlias table = grammar.maybe as_name table

-- item = name [ name ]
abbrev pub IsItem : Grammar Item
IsItem = grammar.seq name_grammar (λ table. grammar.map (λ alias. (table, alias)) (IsAlias table))

-- item { , item }
abbrev pub AreItems : Grammar (List Item)
AreItems = counted_grammar (sign (codes ",")) Tables IsItem

-- branch = SELECT expr { , expr } FROM item { , item } [ WHERE cond ]
abbrev pub IsBranch : Grammar PlainBranch
IsBranch = grammar.lead (word (codes "SELECT"))
    (grammar.seq AreOutputs (λ outs. grammar.lead (word (codes "FROM"))
    (grammar.seq AreItems (λ from. grammar.map (λ c. a_branch outs from c) (IsFreshWhere true)))))

-- branch { UNION branch }
abbrev pub AreBranches : Grammar (List PlainBranch)
AreBranches = counted_grammar (word (codes "UNION")) Branches IsBranch

-- ---- which moments are asked of, and which entries are kept

-- a moment, or `now`, which stands for this one
abbrev pub as_moment_or : ℕ → Lexeme → Option ℕ
as_moment_or last x = if is_word (codes "now") x then Some last else as_moment x

-- bound = moment | now: as an upper bound, now is the end of time
abbrev pub bound_grammar : Grammar ℕ
bound_grammar = grammar.single (as_moment_or forever)

-- of all moments, now is the last
abbrev pub last_moment : ℕ
last_moment = 18446744073709551614

-- moment TO bound
abbrev pub AreBounds : Grammar (ℕ × ℕ)
AreBounds = grammar.seq moment_grammar (λ a. grammar.lead (word (codes "TO"))
    (grammar.map (λ b. (a, b)) bound_grammar))

-- AS OF bound
abbrev pub IsAsOf : Grammar (When × List Keep)
IsAsOf = grammar.lead (word (codes "AS")) (grammar.lead (word (codes "OF"))
    (grammar.map (λ m. (AsOf m, [])) (grammar.single (as_moment_or last_moment))))

-- [ DURING moment TO bound ]: what is missing is each moment
abbrev pub IsDuring : Grammar When
IsDuring = grammar.option Always (word (codes "DURING"))
    (grammar.map (λ bounds. During bounds.0 bounds.1) AreBounds)

-- a condition with two bounds, by its word
abbrev pub IsBetween : List ℕ → (ℕ → ℕ → Keep) → Grammar Keep
IsBetween kind keep = grammar.lead (word kind)
    (grammar.map (λ bounds. keep bounds.0 bounds.1) AreBounds)

-- COVERING moment
abbrev pub IsCovering : Grammar Keep
IsCovering = grammar.lead (word (codes "COVERING")) (grammar.map (λ m. Covering m) moment_grammar)

-- keep = ( STARTING | ENDING | LASTING | OVERLAPPING ) moment TO bound | COVERING moment
abbrev pub IsKeep : Grammar Keep
IsKeep = grammar.alt (IsBetween (codes "STARTING") Starting)
    (grammar.alt (IsBetween (codes "ENDING") Ending)
    (grammar.alt (IsBetween (codes "LASTING") Lasting)
    (grammar.alt (IsBetween (codes "OVERLAPPING") Overlapping) IsCovering)))

-- keep { AND keep }
abbrev pub AreKeeps : Grammar (List Keep)
AreKeeps = counted_grammar (word (codes "AND")) Keeps IsKeep

-- [ KEEP keep { AND keep } ]
abbrev pub IsKeeping : Grammar (List Keep)
IsKeeping = grammar.option [] (word (codes "KEEP")) AreKeeps

-- [ DURING moment TO bound ] [ KEEP keep { AND keep } ]
abbrev pub IsRange : Grammar (When × List Keep)
IsRange = grammar.seq IsDuring (λ when. grammar.map (λ keep. (when, keep)) IsKeeping)

-- when = AS OF bound | [ DURING moment TO bound ] [ KEEP keep { AND keep } ]
abbrev pub IsWhen : Grammar (When × List Keep)
IsWhen = grammar.alt IsAsOf IsRange

-- AS OF bound, alone
abbrev pub IsOneMoment : Grammar When
IsOneMoment = grammar.lead (word (codes "AS")) (grammar.lead (word (codes "OF"))
    (grammar.map (λ m. AsOf m) (grammar.single (as_moment_or last_moment))))

-- moments = AS OF bound | [ DURING moment TO bound ]
abbrev pub IsMoments : Grammar When
IsMoments = grammar.alt IsOneMoment IsDuring

-- ---- queries

-- ask = VERSION small branch { UNION branch } [ when ]
abbrev pub IsAsk : Grammar PlainQuery
IsAsk = grammar.lead (word (codes "VERSION"))
    (grammar.seq small_grammar (λ version. grammar.seq AreBranches
    (λ branches. grammar.map (λ when. a_query version branches when.0 when.1) IsWhen)))

-- full_ask = VERSION small branch { UNION branch } [ moments ]: each entry is kept
abbrev pub IsFullAsk : Grammar PlainQuery
IsFullAsk = grammar.lead (word (codes "VERSION"))
    (grammar.seq small_grammar (λ version. grammar.seq AreBranches
    (λ branches. grammar.map (λ when. a_query version branches when []) IsMoments)))
