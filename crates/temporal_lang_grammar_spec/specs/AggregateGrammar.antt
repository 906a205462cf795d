-- The grammar of relations of periods, and of what is asked of groups of rows.
use Rattle.std.specs.Prelude.{ℕ, zero, suc, List, [], ◌∷◌, codes}
use Rattle.lexer_spec.specs.Lexemes.{word, sign}
use Rattle.lexer_combinators.specs.Grammar.{Grammar}
use Rattle.lexer_combinators.specs.Grammar as grammar
use Rattle.lexer_trees_spec.specs.Constants.{small_grammar}
use Rattle.temporal_lang_types.specs.declared.relation.Relation.{Relation}
use Rattle.temporal_lang_types.specs.declared.relation.Relation.TheVariants.{Before, Meets}
use Rattle.temporal_lang_types.specs.declared.relation.Relation.TheVariants.{Overlaps}
use Rattle.temporal_lang_types.specs.declared.relation.Relation.TheVariants.{Contains, Equals}
use Rattle.temporal_lang_types.specs.declared.agg_item.AggItem.{AggItem}
use Rattle.temporal_lang_types.specs.declared.agg_item.AggItem.TheVariants.{Count, Min, Max, Sum}

-- ---- relations

-- a relation, by its word
abbrev pub IsNamed : List ℕ → Relation → Grammar Relation
IsNamed name relation = grammar.lead (word name) (grammar.pure relation)

-- relation = BEFORE | MEETS | OVERLAPS | CONTAINS | EQUALS
abbrev pub IsRelation : Grammar Relation
IsRelation = grammar.alt (IsNamed (codes "BEFORE") Before)
    (grammar.alt (IsNamed (codes "MEETS") Meets)
    (grammar.alt (IsNamed (codes "OVERLAPS") Overlaps)
    (grammar.alt (IsNamed (codes "CONTAINS") Contains) (IsNamed (codes "EQUALS") Equals))))

-- ---- aggregates

-- an aggregate of an output, by its word
abbrev pub IsOfOutput : List ℕ → (ℕ → AggItem) → Grammar AggItem
IsOfOutput name make = grammar.lead (word name) (grammar.map (λ place. make place) small_grammar)

-- COUNT
abbrev pub IsCount : Grammar AggItem
IsCount = grammar.lead (word (codes "COUNT")) (grammar.pure Count)

-- agg = COUNT | ( MIN | MAX | SUM ) small
abbrev pub IsAgg : Grammar AggItem
IsAgg = grammar.alt IsCount
    (grammar.alt (IsOfOutput (codes "MIN") Min)
    (grammar.alt (IsOfOutput (codes "MAX") Max) (IsOfOutput (codes "SUM") Sum)))

-- no more than so many, each after a comma
abbrev pub AreMoreAggs : ℕ → Grammar (List AggItem)
AreMoreAggs zero = grammar.pure []
AreMoreAggs (suc most) = grammar.option [] (sign (codes ","))
    (grammar.seq IsAgg (λ a. grammar.map (λ l. a ∷ l) (AreMoreAggs most)))

-- agg { , agg }: eight at most
abbrev pub AreAggs : Grammar (List AggItem)
AreAggs = grammar.seq IsAgg (λ a. grammar.map (λ l. a ∷ l) (AreMoreAggs 7))
