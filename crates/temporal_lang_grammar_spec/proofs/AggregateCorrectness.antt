-- The readers of relations and of aggregates are good for their grammars.
use Rattle.std.proofs.Common.{◌≡◌, ℕ, zero, suc, Bool, false, cond, List, [], ◌∷◌, ◌++◌, inl, inr}
use Rattle.std.proofs.Common.{refl, codes}
use Rattle.lexer_spec.specs.Lexemes.{Lexeme, word, sign, is_word, is_sign}
use Rattle.lexer_combinators.specs.Grammar.{Grammar, Size}
use Rattle.lexer_combinators.specs.Grammar as grammar
use Rattle.lexer_combinators.specs.Parsing.{IsCorrectParser, Stops, Arm, No, Takes, bind, pure}
use Rattle.lexer_combinators.specs.Parsing.{map_to}
use Rattle.lexer_trees_spec.specs.Constants.{small, small_grammar, as_small}
use Rattle.lexer_spec.proofs.LexemeTests.{word_is, word_exact, sign_is, sign_exact}
use Rattle.lexer_trees_spec.proofs.Singles.{small_correct}
use Rattle.lexer_combinators.proofs.Parsing.{bind_correct, map_correct, pure_correct}
use Rattle.lexer_combinators.proofs.Parsing.{choose_correct, option_takes_correct, correct_follow}
use Rattle.lexer_combinators.proofs.Alternatives.{NotFirst, NotNone, lead_not_none, lead_not_first}
use Rattle.lexer_combinators.proofs.Alternatives.{either_not_none, either_not_first, last_arm}
use Rattle.lexer_combinators.proofs.Alternatives.{first_arm, stops_never}
use Rattle.lexer_combinators.proofs.AlongParts.{Light, none_light, pure_light, single_light}
use Rattle.lexer_combinators.proofs.AlongParts.{lead_light, map_light, bind_light}
use Rattle.temporal_lang_types.specs.declared.relation.Relation.{Relation}
use Rattle.temporal_lang_types.specs.declared.relation.Relation.TheVariants.{Before, Meets}
use Rattle.temporal_lang_types.specs.declared.relation.Relation.TheVariants.{Overlaps}
use Rattle.temporal_lang_types.specs.declared.relation.Relation.TheVariants.{Contains, Equals}
use Rattle.temporal_lang_types.specs.declared.agg_item.AggItem.{AggItem}
use Rattle.temporal_lang_types.specs.declared.agg_item.AggItem.TheVariants.{Count, Min, Max, Sum}
use Rattle.temporal_lang_grammar_spec.specs.AggregateGrammar.{IsNamed, IsRelation, IsOfOutput}
use Rattle.temporal_lang_grammar_spec.specs.AggregateGrammar.{IsCount, IsAgg, AreMoreAggs, AreAggs}
use Rattle.temporal_lang_grammar_spec.specs.AggregateReader.{relation_arm, relation, of_output}
use Rattle.temporal_lang_grammar_spec.specs.AggregateReader.{agg_arm, agg, more_aggs, aggs}
use Rattle.temporal_lang_grammar_spec.proofs.BranchCorrectness.{ends}
use Rattle.temporal_lang_grammar_spec.proofs.CountedLists.{option_prefix}

-- what begins with one word does not begin with another
apart : {A : Type 0} (v u : List ℕ) (G : Grammar A) → is_word u (word v) ≡ false
    → NotFirst (grammar.lead (word u) G) (word v)
apart v u G e = lead_not_first (is_word u) (word v) (word u) G e (word_is u)

-- ---- relations

-- the grammar from its second, third and fourth word on, and so the arms
abbrev FromContains : Grammar Relation
FromContains = grammar.alt (IsNamed (codes "CONTAINS") Contains) (IsNamed (codes "EQUALS") Equals)

abbrev FromOverlaps : Grammar Relation
FromOverlaps = grammar.alt (IsNamed (codes "OVERLAPS") Overlaps) FromContains

abbrev FromMeets : Grammar Relation
FromMeets = grammar.alt (IsNamed (codes "MEETS") Meets) FromOverlaps

abbrev equals_arm : Lexeme → Arm Relation
equals_arm x = cond (is_word (codes "EQUALS") x) (Takes (pure Equals)) No

abbrev contains_arm : Lexeme → Arm Relation
contains_arm x = cond (is_word (codes "CONTAINS") x) (Takes (pure Contains)) (equals_arm x)

abbrev overlaps_arm : Lexeme → Arm Relation
overlaps_arm x = cond (is_word (codes "OVERLAPS") x) (Takes (pure Overlaps)) (contains_arm x)

abbrev meets_arm : Lexeme → Arm Relation
meets_arm x = cond (is_word (codes "MEETS") x) (Takes (pure Meets)) (overlaps_arm x)

no_contains : NotFirst (IsNamed (codes "EQUALS") Equals) (word (codes "CONTAINS"))
no_contains = apart (codes "CONTAINS") (codes "EQUALS") (grammar.pure Equals) refl

-- a word that is none of the last two, or of the last three
module _ (v : List ℕ) (e : is_word (codes "CONTAINS") (word v) ≡ false)
    (f : is_word (codes "EQUALS") (word v) ≡ false) where
  none_contains : NotFirst FromContains (word v)
  none_contains = either_not_first (word v) (IsNamed (codes "CONTAINS") Contains)
      (IsNamed (codes "EQUALS") Equals) (apart v (codes "CONTAINS") (grammar.pure Contains) e)
      (apart v (codes "EQUALS") (grammar.pure Equals) f)

  none_overlaps : is_word (codes "OVERLAPS") (word v) ≡ false → NotFirst FromOverlaps (word v)
  none_overlaps d = either_not_first (word v) (IsNamed (codes "OVERLAPS") Overlaps) FromContains
      (apart v (codes "OVERLAPS") (grammar.pure Overlaps) d) none_contains

  none_meets : is_word (codes "OVERLAPS") (word v) ≡ false
      → is_word (codes "MEETS") (word v) ≡ false → NotFirst FromMeets (word v)
  none_meets d g = either_not_first (word v) (IsNamed (codes "MEETS") Meets) FromOverlaps
      (apart v (codes "MEETS") (grammar.pure Meets) g) (none_overlaps d)

relation_not_none : NotNone IsRelation
relation_not_none = either_not_none (IsNamed (codes "BEFORE") Before) FromMeets
    (lead_not_none (word (codes "BEFORE")) (grammar.pure Before))
    (either_not_none (IsNamed (codes "MEETS") Meets) FromOverlaps
    (lead_not_none (word (codes "MEETS")) (grammar.pure Meets))
    (either_not_none (IsNamed (codes "OVERLAPS") Overlaps) FromContains
    (lead_not_none (word (codes "OVERLAPS")) (grammar.pure Overlaps))
    (either_not_none (IsNamed (codes "CONTAINS") Contains) (IsNamed (codes "EQUALS") Equals)
    (lead_not_none (word (codes "CONTAINS")) (grammar.pure Contains))
    (lead_not_none (word (codes "EQUALS")) (grammar.pure Equals)))))

pub relation_correct : (follow : Lexeme → Bool) → IsCorrectParser 0 32 relation IsRelation follow
unfolding relation
relation_correct follow = choose_correct 0 32 relation_arm IsRelation follow
    (live (pure_correct 0 32 Before follow).live) relation_not_none
    (λ x. first_arm (is_word (codes "BEFORE")) (word (codes "BEFORE")) (word_is (codes "BEFORE"))
    (word_exact (codes "BEFORE")) 32 (pure Before) (grammar.pure Before) follow
    (pure_correct 0 32 Before follow) meets_arm FromMeets
    (none_meets (codes "BEFORE") refl refl refl refl) x
    (first_arm (is_word (codes "MEETS")) (word (codes "MEETS")) (word_is (codes "MEETS"))
    (word_exact (codes "MEETS")) 32 (pure Meets) (grammar.pure Meets) follow
    (pure_correct 0 32 Meets follow) overlaps_arm FromOverlaps
    (none_overlaps (codes "MEETS") refl refl refl) x
    (first_arm (is_word (codes "OVERLAPS")) (word (codes "OVERLAPS")) (word_is (codes "OVERLAPS"))
    (word_exact (codes "OVERLAPS")) 32 (pure Overlaps) (grammar.pure Overlaps) follow
    (pure_correct 0 32 Overlaps follow) contains_arm FromContains
    (none_contains (codes "OVERLAPS") refl refl) x
    (first_arm (is_word (codes "CONTAINS")) (word (codes "CONTAINS")) (word_is (codes "CONTAINS"))
    (word_exact (codes "CONTAINS")) 32 (pure Contains) (grammar.pure Contains) follow
    (pure_correct 0 32 Contains follow) equals_arm (IsNamed (codes "EQUALS") Equals) no_contains x
    (last_arm (is_word (codes "EQUALS")) (word (codes "EQUALS")) (word_is (codes "EQUALS"))
    (word_exact (codes "EQUALS")) 32 (pure Equals) (grammar.pure Equals) follow
    (pure_correct 0 32 Equals follow) x)))))
  where
    live : (a : Relation) × (s : Size) × (ts : List Lexeme) × grammar.pure Before a s ts
        → (a : Relation) × (s : Size) × (ts : List Lexeme) × IsRelation a s ts
    live l = (l.0, l.1, word (codes "BEFORE") ∷ l.2, inl (l.2, refl, l.3))

named_light : (name : List ℕ) (relation : Relation) → Light (IsNamed name relation)
named_light name relation = lead_light _ _ (pure_light relation)

pub relation_light : Light IsRelation
relation_light a s f (inl h) = named_light (codes "BEFORE") Before a s f h
relation_light a s f (inr (inl h)) = named_light (codes "MEETS") Meets a s f h
relation_light a s f (inr (inr (inl h))) = named_light (codes "OVERLAPS") Overlaps a s f h
relation_light a s f (inr (inr (inr (inl h)))) = named_light (codes "CONTAINS") Contains a s f h
relation_light a s f (inr (inr (inr (inr h)))) = named_light (codes "EQUALS") Equals a s f h

-- ---- aggregates

abbrev OutputRest : (ℕ → AggItem) → Grammar AggItem
OutputRest make = grammar.map (λ place. make place) small_grammar

of_output_correct : (make : ℕ → AggItem) → IsCorrectParser 0 32 (of_output make) (OutputRest make)
    ends
unfolding of_output
of_output_correct make = map_correct 0 32 (λ place. make place) small small_grammar ends
    (small_correct 0 32 ends)

abbrev FromMax : Grammar AggItem
FromMax = grammar.alt (IsOfOutput (codes "MAX") Max) (IsOfOutput (codes "SUM") Sum)

abbrev FromMin : Grammar AggItem
FromMin = grammar.alt (IsOfOutput (codes "MIN") Min) FromMax

abbrev sum_arm : Lexeme → Arm AggItem
sum_arm x = cond (is_word (codes "SUM") x) (Takes (of_output Sum)) No

abbrev max_arm : Lexeme → Arm AggItem
max_arm x = cond (is_word (codes "MAX") x) (Takes (of_output Max)) (sum_arm x)

abbrev min_arm : Lexeme → Arm AggItem
min_arm x = cond (is_word (codes "MIN") x) (Takes (of_output Min)) (max_arm x)

no_max : NotFirst (IsOfOutput (codes "SUM") Sum) (word (codes "MAX"))
no_max = apart (codes "MAX") (codes "SUM") (OutputRest Sum) refl

module _ (v : List ℕ) (e : is_word (codes "MAX") (word v) ≡ false)
    (f : is_word (codes "SUM") (word v) ≡ false) where
  none_max : NotFirst FromMax (word v)
  none_max = either_not_first (word v) (IsOfOutput (codes "MAX") Max) (IsOfOutput (codes "SUM") Sum)
      (apart v (codes "MAX") (OutputRest Max) e) (apart v (codes "SUM") (OutputRest Sum) f)

  none_min : is_word (codes "MIN") (word v) ≡ false → NotFirst FromMin (word v)
  none_min d = either_not_first (word v) (IsOfOutput (codes "MIN") Min) FromMax
      (apart v (codes "MIN") (OutputRest Min) d) none_max

agg_not_none : NotNone IsAgg
agg_not_none = either_not_none IsCount FromMin
    (lead_not_none (word (codes "COUNT")) (grammar.pure Count))
    (either_not_none (IsOfOutput (codes "MIN") Min) FromMax
    (lead_not_none (word (codes "MIN")) (OutputRest Min))
    (either_not_none (IsOfOutput (codes "MAX") Max) (IsOfOutput (codes "SUM") Sum)
    (lead_not_none (word (codes "MAX")) (OutputRest Max))
    (lead_not_none (word (codes "SUM")) (OutputRest Sum))))

agg_correct : IsCorrectParser 0 32 agg IsAgg ends
unfolding agg
agg_correct = choose_correct 0 32 agg_arm IsAgg ends (live (pure_correct 0 32 Count ends).live)
    agg_not_none
    (λ x. first_arm (is_word (codes "COUNT")) (word (codes "COUNT")) (word_is (codes "COUNT"))
    (word_exact (codes "COUNT")) 32 (pure Count) (grammar.pure Count) ends
    (pure_correct 0 32 Count ends) min_arm FromMin (none_min (codes "COUNT") refl refl refl) x
    (first_arm (is_word (codes "MIN")) (word (codes "MIN")) (word_is (codes "MIN"))
    (word_exact (codes "MIN")) 32 (of_output Min) (OutputRest Min) ends (of_output_correct Min)
    max_arm FromMax (none_max (codes "MIN") refl refl) x
    (first_arm (is_word (codes "MAX")) (word (codes "MAX")) (word_is (codes "MAX"))
    (word_exact (codes "MAX")) 32 (of_output Max) (OutputRest Max) ends (of_output_correct Max)
    sum_arm (IsOfOutput (codes "SUM") Sum) no_max x
    (last_arm (is_word (codes "SUM")) (word (codes "SUM")) (word_is (codes "SUM"))
    (word_exact (codes "SUM")) 32 (of_output Sum) (OutputRest Sum) ends (of_output_correct Sum)
    x))))
  where
    live : (a : AggItem) × (s : Size) × (ts : List Lexeme) × grammar.pure Count a s ts
        → (a : AggItem) × (s : Size) × (ts : List Lexeme) × IsAgg a s ts
    live l = (l.0, l.1, word (codes "COUNT") ∷ l.2, inl (l.2, refl, l.3))

abbrev MoreRest : ℕ → Grammar (List AggItem)
MoreRest most = grammar.seq IsAgg (λ a. grammar.map (λ l. a ∷ l) (AreMoreAggs most))

rest_correct : (most : ℕ) → IsCorrectParser 0 32 (more_aggs most) (AreMoreAggs most)
    (is_sign (codes ","))
    → IsCorrectParser 0 32 (bind agg (λ a. map_to (λ l. a ∷ l) (more_aggs most))) (MoreRest most)
    (is_sign (codes ","))
rest_correct most more = bind_correct 0 32 agg _ IsAgg _ ends (is_sign (codes ",")) agg_correct
    (λ a. map_correct 0 32 (λ l. a ∷ l) (more_aggs most) (AreMoreAggs most) (is_sign (codes ","))
    more) (λ a b s ts rest h stops. stops_never (ts ++ rest))

more_aggs_correct : (most : ℕ) → IsCorrectParser 0 32 (more_aggs most) (AreMoreAggs most)
    (is_sign (codes ","))
unfolding more_aggs
more_aggs_correct zero = pure_correct 0 32 [] (is_sign (codes ","))
more_aggs_correct (suc most) = option_takes_correct (is_sign (codes ",")) (sign (codes ","))
    (sign_is (codes ",")) (sign_exact (codes ",")) 0 32
    (bind agg (λ a. map_to (λ l. a ∷ l) (more_aggs most))) [] (MoreRest most) (is_sign (codes ","))
    (λ x e. e) (rest_correct most (more_aggs_correct most))

pub aggs_correct : IsCorrectParser 0 32 aggs AreAggs (is_sign (codes ","))
unfolding aggs
aggs_correct = rest_correct 7 (more_aggs_correct 7)

of_output_light : (name : List ℕ) (make : ℕ → AggItem) → Light (IsOfOutput name make)
of_output_light name make = lead_light _ _ (map_light _ small_grammar (single_light as_small))

agg_light : Light IsAgg
agg_light a s f (inl h) = lead_light _ _ (pure_light Count) a s f h
agg_light a s f (inr (inl h)) = of_output_light (codes "MIN") Min a s f h
agg_light a s f (inr (inr (inl h))) = of_output_light (codes "MAX") Max a s f h
agg_light a s f (inr (inr (inr h))) = of_output_light (codes "SUM") Sum a s f h

more_aggs_light : (most : ℕ) → Light (AreMoreAggs most)
more_aggs_light zero a s f h = none_light s h.1
more_aggs_light (suc most) a s f (inl h) = none_light s h.1
more_aggs_light (suc most) a s f (inr h) = lead_light _ _ (bind_light IsAgg _ agg_light
    (λ b. map_light _ (AreMoreAggs most) (more_aggs_light most))) a s f h

pub aggs_light : Light AreAggs
aggs_light = bind_light IsAgg _ agg_light
    (λ a. map_light _ (AreMoreAggs 7) (more_aggs_light 7))
