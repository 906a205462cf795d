-- At which tokens of a query a count passes its limit: in each output and in the condition counts
-- begin anew, a branch has 32 outputs and eight items at most, a query sixteen branches and eight
-- conditions of KEEP, and at each other token nothing is counted.
use Rattle.std.specs.Prelude.{true, [], ◌∷◌, codes}
use Rattle.prima_base.specs.declared.refusal.What.{What}
use Rattle.prima_base.specs.declared.refusal.What.TheVariants.{Outputs, Tables, Branches, Keeps}
use Rattle.lexer_spec.specs.Lexemes.{Lexeme, word, sign}
use Rattle.lexer_combinators.specs.Grammar.{Grammar, AreMore, so_wide}
use Rattle.lexer_combinators.specs.Grammar as grammar
use Rattle.lexer_trees_spec.specs.Grammar.{IsExpr}
use Rattle.lexer_trees_spec.specs.TreeCounts.{expr_counts}
use Rattle.lexer_trees_spec.specs.Constants.{small_grammar}
use Rattle.lexer_trees_spec.specs.Where.{IsFreshWhere, where_overflows}
use Rattle.lexer_combinators.specs.ListOverflows.{Overflow, none_overflow, fresh_overflow}
use Rattle.lexer_combinators.specs.ListOverflows.{lead_overflow, map_overflow, bind_overflow}
use Rattle.lexer_combinators.specs.ListOverflows.{option_overflow, either_overflow}
use Rattle.lexer_combinators.specs.ListOverflows.{counted_overflow}
use Rattle.plain_answers_spec.specs.Branches.{a_branch}
use Rattle.temporal_lang_types.specs.Queries.{a_query}
use Rattle.temporal_lang_grammar_spec.specs.QueryGrammar.{counted_grammar, IsOutput, AreOutputs}
use Rattle.temporal_lang_grammar_spec.specs.QueryGrammar.{IsItem}
use Rattle.temporal_lang_grammar_spec.specs.QueryGrammar.{AreItems, IsBranch, AreBranches, IsAsOf}
use Rattle.temporal_lang_grammar_spec.specs.QueryGrammar.{IsDuring}
use Rattle.temporal_lang_grammar_spec.specs.QueryGrammar.{IsKeep, AreKeeps, IsKeeping, IsRange}
use Rattle.temporal_lang_grammar_spec.specs.QueryGrammar.{IsWhen, IsAsk, IsMoments, IsFullAsk}

-- the first is before the first separator
abbrev pub list_overflows : {A : Type 0} (separator : Lexeme) (w : What) (G : Grammar A)
    → Overflow G → Overflow (counted_grammar separator w G)
list_overflows separator w G ps = bind_overflow G
    (λ a. grammar.map (λ l. a ∷ l) (AreMore separator (so_wide w) G 1)) ps
    (λ a. map_overflow (λ l. a ∷ l) (AreMore separator (so_wide w) G 1)
    (counted_overflow w separator G ps 1))

-- ---- branches

abbrev pub output_overflows : Overflow IsOutput
output_overflows = fresh_overflow (IsExpr true) (expr_counts true)

abbrev pub outputs_overflows : Overflow AreOutputs
outputs_overflows = list_overflows (sign (codes ",")) Outputs IsOutput output_overflows

abbrev pub items_overflows : Overflow AreItems
items_overflows = list_overflows (sign (codes ",")) Tables IsItem (none_overflow IsItem)

abbrev pub branch_overflows : Overflow IsBranch
branch_overflows = lead_overflow (word (codes "SELECT")) _
    (bind_overflow AreOutputs (λ outs. grammar.lead (word (codes "FROM"))
    (grammar.seq AreItems (λ from. grammar.map (λ c. a_branch outs from c) (IsFreshWhere true))))
    outputs_overflows
    (λ outs. lead_overflow (word (codes "FROM")) _
    (bind_overflow AreItems (λ from. grammar.map (λ c. a_branch outs from c)
    (IsFreshWhere true)) items_overflows
    (λ from. map_overflow (λ c. a_branch outs from c) (IsFreshWhere true) (where_overflows true)))))

abbrev pub branches_overflows : Overflow AreBranches
branches_overflows = list_overflows (word (codes "UNION")) Branches IsBranch branch_overflows

-- ---- which moments are asked of, and which entries are kept

abbrev pub keeps_overflows : Overflow AreKeeps
keeps_overflows = list_overflows (word (codes "AND")) Keeps IsKeep (none_overflow IsKeep)

abbrev pub keeping_overflows : Overflow IsKeeping
keeping_overflows = option_overflow [] (word (codes "KEEP")) AreKeeps keeps_overflows

abbrev pub range_overflows : Overflow IsRange
range_overflows = bind_overflow IsDuring (λ when. grammar.map (λ keep. (when, keep)) IsKeeping)
    (none_overflow IsDuring)
    (λ when. map_overflow (λ keep. (when, keep)) IsKeeping keeping_overflows)

abbrev pub when_overflows : Overflow IsWhen
when_overflows = either_overflow IsAsOf IsRange (none_overflow IsAsOf) range_overflows

-- ---- queries

abbrev pub ask_overflows : Overflow IsAsk
ask_overflows = lead_overflow (word (codes "VERSION")) _
    (bind_overflow small_grammar (λ version. grammar.seq AreBranches
    (λ branches. grammar.map (λ when. a_query version branches when.0 when.1) IsWhen))
    (none_overflow small_grammar)
    (λ version. bind_overflow AreBranches (λ branches.
    grammar.map (λ when. a_query version branches when.0 when.1) IsWhen) branches_overflows
    (λ branches. map_overflow (λ when. a_query version branches when.0 when.1) IsWhen
    when_overflows)))

abbrev pub full_ask_overflows : Overflow IsFullAsk
full_ask_overflows = lead_overflow (word (codes "VERSION")) _
    (bind_overflow small_grammar (λ version. grammar.seq AreBranches
    (λ branches. grammar.map (λ when. a_query version branches when []) IsMoments))
    (none_overflow small_grammar)
    (λ version. bind_overflow AreBranches (λ branches.
    grammar.map (λ when. a_query version branches when []) IsMoments) branches_overflows
    (λ branches. map_overflow (λ when. a_query version branches when []) IsMoments
    (none_overflow IsMoments))))
