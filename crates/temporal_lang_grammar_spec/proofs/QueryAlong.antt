-- The reader of queries goes along the tokens at which their counts pass limits.
use Rattle.std.proofs.Common.{◌≡◌, ℕ, Bool, true, false, None, List, [], ◌∷◌, ◌++◌, length, inl}
use Rattle.std.proofs.Common.{inr, refl, sym, ap, ◌∙◌, subst, append-nil, codes}
use Rattle.prima_base.specs.declared.refusal.What.TheVariants.{Outputs, Tables, Branches, Keeps}
use Rattle.prima_base.specs.declared.keep.Keep.{Keep}
use Rattle.prima_base.specs.declared.keep.Keep.TheVariants.{Starting, Ending, Lasting, Overlapping}
use Rattle.lexer_spec.specs.Lexemes.{Lexeme, word, sign, is_word, is_sign}
use Rattle.lexer_combinators.specs.Parsing.{Parsed, Stops, Takes, and_then, map_to}
use Rattle.lexer_combinators.specs.Grammar.{Size}
use Rattle.lexer_combinators.specs.Grammar as grammar
use Rattle.lexer_combinators.specs.Derivations.{Derivation, derivation, after_lexeme, source_of}
use Rattle.lexer_trees_spec.specs.Grammar.{IsExpr}
use Rattle.lexer_trees_spec.specs.Reader.{outermost, follow_expr}
use Rattle.lexer_combinators.specs.Reads.{sees}
use Rattle.lexer_trees_spec.specs.Constants.{as_name, as_moment, as_small, small, name_grammar}
use Rattle.lexer_trees_spec.specs.Constants.{moment_grammar, small_grammar}
use Rattle.lexer_trees_spec.specs.TreeCounts.{expr_counts}
use Rattle.lexer_combinators.specs.ListOverflows.{none_overflow}
use Rattle.lexer_spec.proofs.LexemeTests.{word_is, word_exact, sign_is, sign_exact}
use Rattle.lexer_trees_spec.proofs.Singles.{small_correct}
use Rattle.lexer_trees_spec.proofs.Correctness.{outermost_correct}
use Rattle.lexer_trees_spec.proofs.CountSizes.{expr_length}
use Rattle.lexer_trees_spec.proofs.CountsJoined.{expr_counted}
use Rattle.lexer_trees_spec.specs.Where.{IsFreshWhere, fresh_where, follow_where, where_overflows}
use Rattle.lexer_trees_spec.proofs.Where.{fresh_where_along}
use Rattle.lexer_combinators.proofs.Alternatives.{stops_never, or_left}
use Rattle.lexer_combinators.proofs.ReadSteps.{option_not}
use Rattle.lexer_combinators.proofs.OverflowSteps.{by_overflows}
use Rattle.lexer_combinators.proofs.AlongParts.{GoesAlong, Light, stops_along, lead_follow}
use Rattle.lexer_combinators.proofs.AlongParts.{map_follow, bind_follow, option_follow, none_light}
use Rattle.lexer_combinators.proofs.AlongParts.{single_light, lead_light, map_light, bind_light}
use Rattle.lexer_combinators.proofs.AlongParts.{light_along, light_follow, fresh_follow}
use Rattle.plain_answers_spec.specs.Branches.{a_branch}
use Rattle.temporal_lang_types.specs.Queries.{PlainQuery, a_query}
use Rattle.temporal_lang_grammar_spec.specs.QueryGrammar.{as_moment_or, last_moment, bound_grammar}
use Rattle.temporal_lang_grammar_spec.specs.QueryGrammar.{AreBounds}
use Rattle.temporal_lang_grammar_spec.specs.QueryGrammar.{IsOutput, AreOutputs, IsAlias, IsItem}
use Rattle.temporal_lang_grammar_spec.specs.QueryGrammar.{AreItems}
use Rattle.temporal_lang_grammar_spec.specs.QueryGrammar.{IsBranch, AreBranches, IsAsOf, IsDuring}
use Rattle.temporal_lang_grammar_spec.specs.QueryGrammar.{IsKeep}
use Rattle.temporal_lang_grammar_spec.specs.QueryGrammar.{AreKeeps, IsKeeping, IsRange, IsWhen}
use Rattle.temporal_lang_grammar_spec.specs.QueryGrammar.{IsAsk, IsOneMoment, IsMoments, IsFullAsk}
use Rattle.temporal_lang_grammar_spec.specs.QueryReader.{output, outputs, item, items, branch}
use Rattle.temporal_lang_grammar_spec.specs.QueryReader.{branches, as_of}
use Rattle.temporal_lang_grammar_spec.specs.QueryReader.{as_of_rest, after_as_of, during, keep}
use Rattle.temporal_lang_grammar_spec.specs.QueryReader.{keeps, keeping}
use Rattle.temporal_lang_grammar_spec.specs.QueryReader.{range, when_part, ask, follow_item}
use Rattle.temporal_lang_grammar_spec.specs.QueryReader.{follow_items}
use Rattle.temporal_lang_grammar_spec.specs.QueryReader.{follow_branch, follow_branches}
use Rattle.temporal_lang_grammar_spec.specs.QueryReader.{follow_keeps}
use Rattle.temporal_lang_grammar_spec.specs.QueryReader.{follow_keeping, follow_range, follow_when}
use Rattle.temporal_lang_grammar_spec.specs.QueryReader.{follow_ask, moments, full_ask}
use Rattle.temporal_lang_grammar_spec.specs.QueryReader.{follow_moments, follow_full_ask}
use Rattle.temporal_lang_grammar_spec.specs.QueryOverflows.{output_overflows, outputs_overflows}
use Rattle.temporal_lang_grammar_spec.specs.QueryOverflows.{items_overflows}
use Rattle.temporal_lang_grammar_spec.specs.QueryOverflows.{branch_overflows, branches_overflows}
use Rattle.temporal_lang_grammar_spec.specs.QueryOverflows.{keeps_overflows, keeping_overflows}
use Rattle.temporal_lang_grammar_spec.specs.QueryOverflows.{range_overflows}
use Rattle.temporal_lang_grammar_spec.specs.QueryOverflows.{when_overflows, ask_overflows}
use Rattle.temporal_lang_grammar_spec.specs.QueryOverflows.{full_ask_overflows}
use Rattle.temporal_lang_grammar_spec.proofs.CountedLists.{counted_along}
use Rattle.temporal_lang_grammar_spec.proofs.BranchCorrectness.{ends, output_correct}
use Rattle.temporal_lang_grammar_spec.proofs.BranchCorrectness.{follow_outputs}
use Rattle.temporal_lang_grammar_spec.proofs.BranchCorrectness.{item_correct, fewer_where}
use Rattle.temporal_lang_grammar_spec.proofs.BranchCorrectness.{after_items}
use Rattle.temporal_lang_grammar_spec.proofs.BranchCorrectness.{branch_correct, union_ends}
use Rattle.temporal_lang_grammar_spec.proofs.WhenCorrectness.{keep_correct, fewer_keeps}
use Rattle.temporal_lang_grammar_spec.proofs.WhenCorrectness.{during_correct}
use Rattle.temporal_lang_grammar_spec.proofs.WhenCorrectness.{fewer_keeping, after_during}
use Rattle.temporal_lang_grammar_spec.proofs.WhenCorrectness.{fewer_range}
use Rattle.temporal_lang_grammar_spec.proofs.WhenCorrectness.{range_prefix, when_correct, fewer_as}
use Rattle.temporal_lang_grammar_spec.proofs.WhenCorrectness.{moments_correct}
use Rattle.temporal_lang_grammar_spec.proofs.QueryCorrectness.{fewer_when, after_branches}
use Rattle.temporal_lang_grammar_spec.proofs.QueryCorrectness.{fewer_full_moments}
use Rattle.temporal_lang_grammar_spec.proofs.QueryCorrectness.{after_full_branches}

-- ---- branches

output_along : GoesAlong output IsOutput (follow_expr true) output_overflows
unfolding output
output_along = fresh_follow (outermost true).expr (IsExpr true) (follow_expr true)
    (outermost_correct true).expr (expr_counts true) (expr_length true) (expr_counted true)

outputs_along : GoesAlong outputs AreOutputs follow_outputs outputs_overflows
unfolding outputs
outputs_along = counted_along (is_sign (codes ",")) (sign (codes ",")) (sign_is (codes ","))
    (sign_exact (codes ",")) output IsOutput (follow_expr true) output_correct refl Outputs
    (λ s n h. h) 31 refl output_overflows output_along

alias_light : (table : List ℕ) → Light (IsAlias table)
alias_light table a s f (inl h) = none_light s h.1
alias_light table a s f (inr h) = single_light as_name a s f h

item_light : Light IsItem
item_light = bind_light name_grammar _ (single_light as_name)
    (λ table. map_light _ (IsAlias table) (alias_light table))

items_along : GoesAlong items AreItems follow_items items_overflows
unfolding items
items_along = counted_along (is_sign (codes ",")) (sign (codes ",")) (sign_is (codes ","))
    (sign_exact (codes ",")) item IsItem follow_item item_correct refl Tables (λ s n h. h) 7 refl
    (none_overflow IsItem)
    (light_follow item IsItem follow_item item_correct item_light)

where_then : GoesAlong (fresh_where true) (IsFreshWhere true) follow_branch (where_overflows true)
where_then = stops_along (fresh_where true) (IsFreshWhere true) (follow_where true) follow_branch
    (where_overflows true) fewer_where (fresh_where_along true)

branch_along : GoesAlong branch IsBranch follow_branch branch_overflows
unfolding branch
branch_along = lead_follow (is_word (codes "SELECT")) (word (codes "SELECT"))
    (word_is (codes "SELECT")) _ _ follow_branch _
    (bind_follow outputs _ AreOutputs _ follow_outputs follow_branch outputs_overflows _
    outputs_along
    (λ outs. lead_follow (is_word (codes "FROM")) (word (codes "FROM")) (word_is (codes "FROM")) _ _
    follow_branch _
    (bind_follow items (λ from. map_to (λ c. a_branch outs from c) (fresh_where true)) AreItems
    (λ from. grammar.map (λ c. a_branch outs from c) (IsFreshWhere true)) follow_items
    follow_branch items_overflows _ items_along
    (λ from. map_follow (λ c. a_branch outs from c) (fresh_where true) (IsFreshWhere true)
    follow_branch (where_overflows true) where_then) (after_items outs)))
    (λ outs b s ts rest h stops. let P : List Lexeme
    → Type 0 = λ l. Stops follow_outputs (l ++ rest) in subst P (sym h.1) refl))

branches_along : GoesAlong branches AreBranches follow_branches branches_overflows
unfolding branches
branches_along = counted_along (is_word (codes "UNION")) (word (codes "UNION"))
    (word_is (codes "UNION")) (word_exact (codes "UNION")) branch IsBranch follow_branch
    branch_correct union_ends Branches (λ s n h. h) 15 refl branch_overflows branch_along

-- ---- which moments are asked of, and which entries are kept

bounds_light : Light AreBounds
bounds_light = bind_light moment_grammar _ (single_light as_moment)
    (λ a. lead_light _ _ (map_light _ bound_grammar (single_light _)))

between_light : (kind : List ℕ) (make : ℕ → ℕ → Keep)
    → Light (grammar.lead (word kind) (grammar.map (λ b. make b.0 b.1) AreBounds))
between_light kind make = lead_light _ _ (map_light _ AreBounds bounds_light)

keep_light : Light IsKeep
keep_light a s f (inl h) = between_light (codes "STARTING") Starting a s f h
keep_light a s f (inr (inl h)) = between_light (codes "ENDING") Ending a s f h
keep_light a s f (inr (inr (inl h))) = between_light (codes "LASTING") Lasting a s f h
keep_light a s f (inr (inr (inr (inl h)))) = between_light (codes "OVERLAPPING") Overlapping a s f h
keep_light a s f (inr (inr (inr (inr h)))) = single_light as_moment h.2.0 s h.0 h.2.2

keeps_along : GoesAlong keeps AreKeeps follow_keeps keeps_overflows
unfolding keeps
keeps_along = counted_along (is_word (codes "AND")) (word (codes "AND")) (word_is (codes "AND"))
    (word_exact (codes "AND")) keep IsKeep ends keep_correct refl Keeps (λ s n h. h) 7 refl
    (none_overflow IsKeep)
    (light_follow keep IsKeep ends keep_correct keep_light)

keeping_along : GoesAlong keeping IsKeeping follow_keeping keeping_overflows
unfolding keeping
keeping_along = option_follow (is_word (codes "KEEP")) (word (codes "KEEP"))
    (word_is (codes "KEEP")) keeps [] AreKeeps follow_keeping
    (λ x h. or_left (is_word (codes "KEEP") x) (follow_keeps x) h) keeps_overflows
    (stops_along keeps AreKeeps follow_keeps follow_keeping keeps_overflows fewer_keeps keeps_along)

during_light : Light IsDuring
during_light a s f (inl h) = none_light s h.1
during_light a s f (inr h) = bounds_light h.2.0 s h.0 h.2.2

range_along : GoesAlong range IsRange follow_range range_overflows
unfolding range
range_along = bind_follow during (λ when. map_to (λ l. (when, l)) keeping) IsDuring
    (λ when. grammar.map (λ l. (when, l)) IsKeeping) (is_word (codes "DURING")) follow_range
    (none_overflow IsDuring) _
    (light_follow during IsDuring (is_word (codes "DURING")) during_correct during_light)
    (λ when. map_follow (λ l. (when, l)) keeping IsKeeping follow_range keeping_overflows
    (stops_along keeping IsKeeping follow_keeping follow_range keeping_overflows fewer_keeping
    keeping_along))
    after_during

as_of_light : Light IsAsOf
as_of_light a s f h =
    let whole : Derivation IsAsOf = derivation a s f h in
    let moment = source_of (after_lexeme (after_lexeme whole)) in
    single_light (as_moment_or last_moment) moment.value s moment.lexemes moment.derives

-- where no AS comes, it is read so
no_as_of : (n : ℕ) (ts : List Lexeme) → sees (is_word (codes "AS")) ts ≡ false
    → when_part n ts ≡ range n ts
unfolding when_part as_of
no_as_of n ts e = ap (λ o. and_then o after_as_of)
    (option_not (is_word (codes "AS")) (Takes as_of_rest) None n ts e)

sees_none : (is : Lexeme → Bool) (ts : List Lexeme) → Stops is ts → sees is ts ≡ false
sees_none is [] h = refl
sees_none is (x ∷ ts) h = h

stops_as : (us : List Lexeme) → Stops follow_when us → Stops (is_word (codes "AS")) us
stops_as [] h = tt
stops_as (x ∷ us) h = fewer_as x h

when_along : GoesAlong when_part IsWhen follow_when when_overflows
when_along a s f (inl h) us stops = light_along when_part IsWhen follow_when when_correct a s f
    (inl h) (as_of_light a s f h) us stops
when_along a s f (inr h) us stops =
    let r = stops_along range IsRange follow_range follow_when range_overflows fewer_range
    range_along a s f h us stops in
    let none : Stops (is_word (codes "AS")) (f ++ us) =
    range_prefix (is_word (codes "AS")) refl refl a s f us h (stops_as us stops) in
    record {
      reads = no_as_of 0 (f ++ us) (sees_none (is_word (codes "AS")) (f ++ us) none)
          ∙ r.reads;
      sized = r.sized;
    }

-- ---- queries

pub ask_along : GoesAlong ask IsAsk follow_ask ask_overflows
unfolding ask
ask_along = lead_follow (is_word (codes "VERSION")) (word (codes "VERSION"))
    (word_is (codes "VERSION")) _ _ follow_ask _
    (bind_follow small _ small_grammar _ ends follow_ask (none_overflow small_grammar) _
    (light_follow small small_grammar ends (small_correct 0 32 ends) (single_light as_small))
    (λ version. bind_follow branches (λ l. map_to (λ w. a_query version l w.0 w.1) when_part)
    AreBranches (λ l. grammar.map (λ w. a_query version l w.0 w.1) IsWhen) follow_branches
    follow_ask branches_overflows _ branches_along
    (λ l. map_follow (λ w. a_query version l w.0 w.1) when_part IsWhen follow_ask when_overflows
    (stops_along when_part IsWhen follow_when follow_ask when_overflows fewer_when when_along))
    (after_branches version))
    (λ a b s ts rest h stops. stops_never (ts ++ rest)))

-- a whole list that is a query is read along where its counts pass limits
pub ask_whole : (q : PlainQuery) (s : Size) (f : List Lexeme) (h : IsAsk q s f)
    → ask 0 f ≡ by_overflows 0 (ask_overflows q s f h) f (Parsed q 0 [])
ask_whole q s f h = let r = ask_along q s f h [] tt in ap (ask 0) (sym (append-nil f)) ∙ r.reads
    ∙ ap (λ l. by_overflows 0 (ask_overflows q s f h) l (Parsed q 0 [])) (append-nil f)

pub ask_sized : (q : PlainQuery) (s : Size) (f : List Lexeme) (h : IsAsk q s f)
    → length (ask_overflows q s f h) ≡ length f
ask_sized q s f h = (ask_along q s f h [] tt).sized

-- ---- queries that keep each entry

one_moment_light : Light IsOneMoment
one_moment_light a s f h =
    let whole : Derivation IsOneMoment = derivation a s f h in
    let moment = source_of (after_lexeme (after_lexeme whole)) in
    single_light (as_moment_or last_moment) moment.value s moment.lexemes moment.derives

moments_light : Light IsMoments
moments_light a s f (inl h) = one_moment_light a s f h
moments_light a s f (inr h) = during_light a s f h

moments_along : GoesAlong moments IsMoments follow_full_ask (none_overflow IsMoments)
moments_along = stops_along moments IsMoments follow_moments follow_full_ask
    (none_overflow IsMoments) fewer_full_moments
    (light_follow moments IsMoments follow_moments moments_correct moments_light)

pub full_ask_along : GoesAlong full_ask IsFullAsk follow_full_ask full_ask_overflows
unfolding full_ask
full_ask_along = lead_follow (is_word (codes "VERSION")) (word (codes "VERSION"))
    (word_is (codes "VERSION")) _ _ follow_full_ask _
    (bind_follow small _ small_grammar _ ends follow_full_ask (none_overflow small_grammar) _
    (light_follow small small_grammar ends (small_correct 0 32 ends) (single_light as_small))
    (λ version. bind_follow branches (λ l. map_to (λ w. a_query version l w []) moments)
    AreBranches (λ l. grammar.map (λ w. a_query version l w []) IsMoments) follow_branches
    follow_full_ask branches_overflows _ branches_along
    (λ l. map_follow (λ w. a_query version l w []) moments IsMoments follow_full_ask
    (none_overflow IsMoments) moments_along)
    (after_full_branches version))
    (λ a b s ts rest h stops. stops_never (ts ++ rest)))
