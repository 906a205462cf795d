-- The longest query is read: its reader is never stuck right after a whole text.
use Rattle.std.proofs.Common.{◌≡◌, ℕ, true, Option, Some, None, List, [], ◌++◌, length, inl, inr}
use Rattle.std.proofs.Common.{refl, sym, subst, codes}
use Rattle.prima_base.specs.declared.refusal.What.TheVariants.{Outputs, Tables, Branches, Keeps}
use Rattle.prima_base.specs.declared.keep.Keep.{Keep}
use Rattle.prima_base.specs.declared.keep.Keep.TheVariants.{Starting, Ending, Lasting, Covering}
use Rattle.prima_base.specs.declared.keep.Keep.TheVariants.{Overlapping}
use Rattle.relations_spec.specs.Spans.{forever}
use Rattle.cond_expr.specs.Trees.{always}
use Rattle.lexer_spec.specs.Lexemes.{Lexeme, word, sign, is_word, is_sign}
use Rattle.lexer_combinators.specs.Parsing.{Fine, Stops, map_to, fresh}
use Rattle.lexer_combinators.specs.Grammar.{Size}
use Rattle.lexer_combinators.specs.Grammar as grammar
use Rattle.lexer_combinators.specs.Found.{Ends}
use Rattle.lexer_trees_spec.specs.Grammar.{IsExpr, IsCond}
use Rattle.lexer_trees_spec.specs.Reader.{outermost, follow_expr, follow_cond}
use Rattle.lexer_trees_spec.specs.Constants.{as_name, as_moment, as_small, name, small, moment}
use Rattle.lexer_trees_spec.specs.Constants.{name_grammar, moment_grammar, small_grammar}
use Rattle.lexer_spec.proofs.LexemeTests.{word_is, word_exact, sign_is, sign_exact}
use Rattle.lexer_combinators.proofs.Alternatives.{stops_never}
use Rattle.lexer_combinators.proofs.Fresh.{fresh_correct}
use Rattle.lexer_trees_spec.proofs.Singles.{name_correct, small_correct, moment_correct}
use Rattle.lexer_trees_spec.proofs.Correctness.{outermost_correct}
use Rattle.lexer_trees_spec.proofs.Longest.{expr_longest, cond_longest}
use Rattle.lexer_trees_spec.specs.Where.{IsFreshWhere, fresh_where}
use Rattle.lexer_trees_spec.proofs.Where.{fresh_where_correct}
use Rattle.temporal_lang_types.specs.declared.when.When.TheVariants.{Always, AsOf, During}
use Rattle.plain_answers_spec.specs.Branches.{a_branch}
use Rattle.temporal_lang_types.specs.Queries.{PlainQuery, a_query}
use Rattle.temporal_lang_grammar_spec.specs.QueryGrammar.{as_moment_or, last_moment, bound_grammar}
use Rattle.temporal_lang_grammar_spec.specs.QueryGrammar.{AreBounds}
use Rattle.temporal_lang_grammar_spec.specs.QueryGrammar.{IsOutput, AreOutputs, IsAlias, IsItem}
use Rattle.temporal_lang_grammar_spec.specs.QueryGrammar.{AreItems}
use Rattle.temporal_lang_grammar_spec.specs.QueryGrammar.{IsBranch, AreBranches, IsDuring, IsKeep}
use Rattle.temporal_lang_grammar_spec.specs.QueryGrammar.{AreKeeps}
use Rattle.temporal_lang_grammar_spec.specs.QueryGrammar.{IsKeeping, IsRange, IsWhen, IsAsk}
use Rattle.temporal_lang_grammar_spec.specs.QueryReader.{output, outputs, alias, item, items}
use Rattle.temporal_lang_grammar_spec.specs.QueryReader.{branch, branches}
use Rattle.temporal_lang_grammar_spec.specs.QueryReader.{moment_or, bounds, as_of, as_of_rest}
use Rattle.temporal_lang_grammar_spec.specs.QueryReader.{after_as_of}
use Rattle.temporal_lang_grammar_spec.specs.QueryReader.{during, between, covering, keep, keeps}
use Rattle.temporal_lang_grammar_spec.specs.QueryReader.{keeping, range}
use Rattle.temporal_lang_grammar_spec.specs.QueryReader.{when_part, ask, follow_item, follow_items}
use Rattle.temporal_lang_grammar_spec.specs.QueryReader.{follow_branch, follow_branches}
use Rattle.temporal_lang_grammar_spec.specs.QueryReader.{follow_range}
use Rattle.temporal_lang_grammar_spec.specs.QueryReader.{follow_when, follow_ask}
use Rattle.temporal_lang_grammar_spec.proofs.WholePrefixes.{StuckNowhere, pure_nowhere}
use Rattle.temporal_lang_grammar_spec.proofs.WholePrefixes.{single_nowhere}
use Rattle.temporal_lang_grammar_spec.proofs.WholePrefixes.{maybe_nowhere, after_nowhere}
use Rattle.temporal_lang_grammar_spec.proofs.WholePrefixes.{lead_nowhere}
use Rattle.temporal_lang_grammar_spec.proofs.WholePrefixes.{map_nowhere, bind_nowhere}
use Rattle.temporal_lang_grammar_spec.proofs.WholePrefixes.{option_nowhere}
use Rattle.temporal_lang_grammar_spec.proofs.WholePrefixes.{fresh_nowhere, longest_read}
use Rattle.temporal_lang_grammar_spec.proofs.CountedLists.{counted_nowhere}
use Rattle.temporal_lang_grammar_spec.proofs.BranchCorrectness.{ends, output_correct}
use Rattle.temporal_lang_grammar_spec.proofs.BranchCorrectness.{follow_outputs}
use Rattle.temporal_lang_grammar_spec.proofs.BranchCorrectness.{outputs_correct, named_correct}
use Rattle.temporal_lang_grammar_spec.proofs.BranchCorrectness.{item_correct}
use Rattle.temporal_lang_grammar_spec.proofs.BranchCorrectness.{items_correct, where_then_correct}
use Rattle.temporal_lang_grammar_spec.proofs.BranchCorrectness.{after_items}
use Rattle.temporal_lang_grammar_spec.proofs.BranchCorrectness.{from_correct, branch_correct}
use Rattle.temporal_lang_grammar_spec.proofs.BranchCorrectness.{union_ends}
use Rattle.temporal_lang_grammar_spec.proofs.BranchCorrectness.{branches_correct}
use Rattle.temporal_lang_grammar_spec.proofs.WhenCorrectness.{to_correct, BetweenRest, CoveringRest}
use Rattle.temporal_lang_grammar_spec.proofs.WhenCorrectness.{keep_correct, keeps_correct}
use Rattle.temporal_lang_grammar_spec.proofs.WhenCorrectness.{keeping_correct}
use Rattle.temporal_lang_grammar_spec.proofs.WhenCorrectness.{DuringRest, during_rest_correct}
use Rattle.temporal_lang_grammar_spec.proofs.WhenCorrectness.{during_correct}
use Rattle.temporal_lang_grammar_spec.proofs.WhenCorrectness.{keeping_then_correct, after_during}
use Rattle.temporal_lang_grammar_spec.proofs.WhenCorrectness.{IsMaybeAsOf}
use Rattle.temporal_lang_grammar_spec.proofs.WhenCorrectness.{AsOfRest, AfterAsOf}
use Rattle.temporal_lang_grammar_spec.proofs.WhenCorrectness.{as_of_rest_correct}
use Rattle.temporal_lang_grammar_spec.proofs.WhenCorrectness.{as_of_correct, after_correct}
use Rattle.temporal_lang_grammar_spec.proofs.WhenCorrectness.{after_as}
use Rattle.temporal_lang_grammar_spec.proofs.WhenCorrectness.{as_by_as_of}
use Rattle.temporal_lang_grammar_spec.proofs.QueryCorrectness.{when_then_correct, after_branches}
use Rattle.temporal_lang_grammar_spec.proofs.QueryCorrectness.{branches_then_correct, ask_correct}

-- ---- branches

output_nowhere : StuckNowhere output IsOutput
unfolding output
output_nowhere = fresh_nowhere (outermost true).expr (IsExpr true) (follow_expr true)
    (outermost_correct true).expr (expr_longest true)

outputs_nowhere : StuckNowhere outputs AreOutputs
unfolding outputs
outputs_nowhere = counted_nowhere (is_sign (codes ",")) (sign (codes ",")) (sign_is (codes ","))
    (sign_exact (codes ",")) output IsOutput (follow_expr true) output_correct refl Outputs
    (λ s n h. h) 31 refl output_nowhere

name_nowhere : StuckNowhere name name_grammar
unfolding name
name_nowhere = single_nowhere as_name

alias_nowhere : (table : List ℕ) → StuckNowhere (alias table) (IsAlias table)
unfolding alias
alias_nowhere table = maybe_nowhere as_name table

item_nowhere : StuckNowhere item IsItem
unfolding item
item_nowhere = bind_nowhere name (λ table. map_to (λ named. (table, named)) (alias table))
    name_grammar (λ table. grammar.map (λ named. (table, named)) (IsAlias table)) ends follow_item
    (name_correct 0 32 ends)
    named_correct (λ a b s ts suffix h stops. stops_never (ts ++ suffix)) name_nowhere
    (λ table. map_nowhere (λ named. (table, named)) (alias table) (IsAlias table)
    (alias_nowhere table))

items_nowhere : StuckNowhere items AreItems
unfolding items
items_nowhere = counted_nowhere (is_sign (codes ",")) (sign (codes ",")) (sign_is (codes ","))
    (sign_exact (codes ",")) item IsItem follow_item item_correct refl Tables (λ s n h. h) 7 refl
    item_nowhere

where_nowhere : StuckNowhere (fresh_where true) (IsFreshWhere true)
unfolding fresh_where
where_nowhere = option_nowhere (is_word (codes "WHERE")) (word (codes "WHERE"))
    (word_is (codes "WHERE")) (word_exact (codes "WHERE")) (fresh (outermost true).cond) always
    (grammar.fresh (IsCond true)) _ (fresh_where_correct true)
    (fresh_correct 32 (outermost true).cond (IsCond true) 0 (follow_cond true)
    (outermost_correct true).cond).live
    (fresh_nowhere (outermost true).cond (IsCond true) (follow_cond true)
    (outermost_correct true).cond (cond_longest true))

branch_nowhere : StuckNowhere branch IsBranch
unfolding branch
branch_nowhere = lead_nowhere (is_word (codes "SELECT")) (word (codes "SELECT"))
    (word_is (codes "SELECT")) _ _
    (bind_nowhere outputs _ AreOutputs _ follow_outputs follow_branch outputs_correct from_correct
    (λ outs b s ts suffix h stops. let P : List Lexeme
    → Type 0 = λ l. Stops follow_outputs (l ++ suffix) in subst P (sym h.1) refl)
    outputs_nowhere
    (λ outs. lead_nowhere (is_word (codes "FROM")) (word (codes "FROM")) (word_is (codes "FROM")) _
    _
    (bind_nowhere items _ AreItems _ follow_items follow_branch items_correct
    (where_then_correct outs) (after_items outs) items_nowhere
    (λ from. map_nowhere (λ c. a_branch outs from c) (fresh_where true) (IsFreshWhere true)
    where_nowhere))))

branches_nowhere : StuckNowhere branches AreBranches
unfolding branches
branches_nowhere = counted_nowhere (is_word (codes "UNION")) (word (codes "UNION"))
    (word_is (codes "UNION")) (word_exact (codes "UNION")) branch IsBranch follow_branch
    branch_correct union_ends Branches (λ s n h. h) 15 refl branch_nowhere

-- ---- which moments are asked of, and which entries are kept

moment_nowhere : StuckNowhere moment moment_grammar
unfolding moment
moment_nowhere = single_nowhere as_moment

moment_or_nowhere : (last : ℕ) → StuckNowhere (moment_or last) (grammar.single (as_moment_or last))
unfolding moment_or
moment_or_nowhere last = single_nowhere (as_moment_or last)

bounds_nowhere : StuckNowhere bounds AreBounds
unfolding bounds
bounds_nowhere = bind_nowhere moment _ moment_grammar
    (λ a. grammar.lead (word (codes "TO")) (grammar.map (λ b. (a, b)) bound_grammar)) ends ends
    (moment_correct 0 32 ends) (to_correct ends)
    (λ a b s ts suffix h stops. stops_never (ts ++ suffix)) moment_nowhere
    (λ a. lead_nowhere (is_word (codes "TO")) (word (codes "TO")) (word_is (codes "TO")) _ _
    (map_nowhere (λ b. (a, b)) (moment_or forever) bound_grammar (moment_or_nowhere forever)))

between_nowhere : (make : ℕ → ℕ → Keep) → StuckNowhere (between make) (BetweenRest make)
unfolding between
between_nowhere make = map_nowhere (λ b. make b.0 b.1) bounds AreBounds bounds_nowhere

covering_nowhere : StuckNowhere covering CoveringRest
unfolding covering
covering_nowhere = map_nowhere (λ m. Covering m) moment moment_grammar moment_nowhere

keep_nowhere : StuckNowhere keep IsKeep
unfolding keep
keep_nowhere n a s f suffix (inl h) c = after_nowhere keep (between Starting)
    (word (codes "STARTING")) (λ n ts. refl) (BetweenRest Starting) (between_nowhere Starting) n a s
    f suffix h c
keep_nowhere n a s f suffix (inr (inl h)) c =
    after_nowhere keep (between Ending) (word (codes "ENDING")) (λ n ts. refl) (BetweenRest Ending)
    (between_nowhere Ending) n a s f suffix h c
keep_nowhere n a s f suffix (inr (inr (inl h))) c =
    after_nowhere keep (between Lasting) (word (codes "LASTING")) (λ n ts. refl)
    (BetweenRest Lasting) (between_nowhere Lasting) n a s f suffix h c
keep_nowhere n a s f suffix (inr (inr (inr (inl h)))) c =
    after_nowhere keep (between Overlapping) (word (codes "OVERLAPPING")) (λ n ts. refl)
    (BetweenRest Overlapping) (between_nowhere Overlapping) n a s f suffix h c
keep_nowhere n a s f suffix (inr (inr (inr (inr h)))) c =
    after_nowhere keep covering (word (codes "COVERING")) (λ n ts. refl) CoveringRest
    covering_nowhere n a s f suffix h c

keeps_nowhere : StuckNowhere keeps AreKeeps
unfolding keeps
keeps_nowhere = counted_nowhere (is_word (codes "AND")) (word (codes "AND")) (word_is (codes "AND"))
    (word_exact (codes "AND")) keep IsKeep ends keep_correct refl Keeps (λ s n h. h) 7 refl
    keep_nowhere

keeping_nowhere : StuckNowhere keeping IsKeeping
unfolding keeping
keeping_nowhere = option_nowhere (is_word (codes "KEEP")) (word (codes "KEEP"))
    (word_is (codes "KEEP")) (word_exact (codes "KEEP")) keeps [] AreKeeps _ keeping_correct
    keeps_correct.live keeps_nowhere

during_nowhere : StuckNowhere during IsDuring
unfolding during
during_nowhere = option_nowhere (is_word (codes "DURING")) (word (codes "DURING"))
    (word_is (codes "DURING")) (word_exact (codes "DURING")) (map_to (λ b. During b.0 b.1) bounds)
    Always DuringRest _ during_correct (during_rest_correct ends).live
    (map_nowhere (λ b. During b.0 b.1) bounds AreBounds bounds_nowhere)

range_nowhere : StuckNowhere range IsRange
unfolding range
range_nowhere = bind_nowhere during _ IsDuring _ (is_word (codes "DURING")) follow_range
    during_correct keeping_then_correct after_during during_nowhere
    (λ when. map_nowhere (λ l. (when, l)) keeping IsKeeping keeping_nowhere)

as_of_nowhere : StuckNowhere as_of IsMaybeAsOf
unfolding as_of
as_of_nowhere = option_nowhere (is_word (codes "AS")) (word (codes "AS")) (word_is (codes "AS"))
    (word_exact (codes "AS")) as_of_rest None AsOfRest _ as_of_correct as_of_rest_correct.live
    (lead_nowhere (is_word (codes "OF")) (word (codes "OF")) (word_is (codes "OF")) _ _
    (map_nowhere (λ m. Some m) (moment_or last_moment)
    (grammar.single (as_moment_or last_moment)) (moment_or_nowhere last_moment)))

after_as_of_nowhere : (o : Option ℕ) → StuckNowhere (after_as_of o) (AfterAsOf o)
after_as_of_nowhere (Some m) = pure_nowhere (AsOf m, [])
after_as_of_nowhere None = range_nowhere

when_nowhere : StuckNowhere when_part IsWhen
unfolding when_part
when_nowhere n a s f suffix h c = bind_nowhere as_of after_as_of IsMaybeAsOf AfterAsOf
    (is_word (codes "AS")) follow_when as_of_correct after_correct after_as as_of_nowhere
    after_as_of_nowhere n a s f suffix (as_by_as_of a s f h) c

-- ---- queries

small_nowhere : StuckNowhere small small_grammar
unfolding small
small_nowhere = single_nowhere as_small

ask_nowhere : StuckNowhere ask IsAsk
unfolding ask
ask_nowhere = lead_nowhere (is_word (codes "VERSION")) (word (codes "VERSION"))
    (word_is (codes "VERSION")) _ _
    (bind_nowhere small _ small_grammar _ ends follow_ask (small_correct 0 32 ends)
    branches_then_correct (λ a b s ts suffix h stops. stops_never (ts ++ suffix)) small_nowhere
    (λ version. bind_nowhere branches _ AreBranches _ follow_branches follow_ask branches_correct
    (when_then_correct version) (after_branches version) branches_nowhere
    (λ l. map_nowhere (λ w. a_query version l w.0 w.1) when_part IsWhen when_nowhere)))

pub ask_longest : (q : PlainQuery) (s : Size) (prefix suffix ts : List Lexeme)
    → ts ≡ prefix ++ suffix → IsAsk q s prefix → Ends IsAsk ts (length prefix)
    → Fine 32 q s 0 suffix (ask 0 ts)
ask_longest = longest_read ask IsAsk follow_ask ask_correct ask_nowhere
