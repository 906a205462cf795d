-- Reading relations of periods, and what is asked of groups of rows, from left to right.
use Rattle.std.specs.Prelude.{ℕ, zero, suc, if◌then◌else◌, List, [], ◌∷◌, codes}
use Rattle.lexer_spec.specs.Lexemes.{Lexeme, is_word, is_sign}
use Rattle.lexer_combinators.specs.Parsing.{Parser, Arm, No, Takes, bind, pure, map_to, choose}
use Rattle.lexer_combinators.specs.Parsing.{option}
use Rattle.lexer_trees_spec.specs.Constants.{small}
use Rattle.temporal_lang_types.specs.declared.relation.Relation.{Relation}
use Rattle.temporal_lang_types.specs.declared.relation.Relation.TheVariants.{Before, Meets}
use Rattle.temporal_lang_types.specs.declared.relation.Relation.TheVariants.{Overlaps}
use Rattle.temporal_lang_types.specs.declared.relation.Relation.TheVariants.{Contains, Equals}
use Rattle.temporal_lang_types.specs.declared.agg_item.AggItem.{AggItem}
use Rattle.temporal_lang_types.specs.declared.agg_item.AggItem.TheVariants.{Count, Min, Max, Sum}

-- ---- relations

abbrev pub relation_arm : Lexeme → Arm Relation
relation_arm x =
    if is_word (codes "BEFORE") x then Takes (pure Before)
    else (if is_word (codes "MEETS") x then Takes (pure Meets) else
    (if is_word (codes "OVERLAPS") x then Takes (pure Overlaps)
    else (if is_word (codes "CONTAINS") x then Takes (pure Contains) else
    (if is_word (codes "EQUALS") x then Takes (pure Equals) else No))))

unfoldable pub relation : Parser Relation
relation = choose relation_arm

-- ---- aggregates

-- after the word of an aggregate of an output
unfoldable pub of_output : (ℕ → AggItem) → Parser AggItem
of_output make = map_to (λ place. make place) small

abbrev pub agg_arm : Lexeme → Arm AggItem
agg_arm x =
    if is_word (codes "COUNT") x then Takes (pure Count)
    else (if is_word (codes "MIN") x then Takes (of_output Min) else
    (if is_word (codes "MAX") x then Takes (of_output Max)
    else (if is_word (codes "SUM") x then Takes (of_output Sum) else No)))

unfoldable pub agg : Parser AggItem
agg = choose agg_arm

-- no more than so many, each after a comma
unfoldable pub more_aggs : ℕ → Parser (List AggItem)
more_aggs zero = pure []
more_aggs (suc most) = option (is_sign (codes ","))
    (Takes (bind agg (λ a. map_to (λ l. a ∷ l) (more_aggs most)))) []

-- eight at most
unfoldable pub aggs : Parser (List AggItem)
aggs = bind agg (λ a. map_to (λ l. a ∷ l) (more_aggs 7))
