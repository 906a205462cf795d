-- The readers of the moments that are asked of, and of KEEP, are good for their grammars.
use Rattle.std.proofs.Common.{◌≡◌, ℕ, pos, Bool, false, cond, ◌||◌, Option, Some, None, List, []}
use Rattle.std.proofs.Common.{◌∷◌, ◌++◌, inl, inr, refl, sym, ap, ◌∙◌, subst, append_assoc}
use Rattle.std.proofs.Common.{append-nil, codes}
use Rattle.relations_spec.specs.Spans.{forever}
use Rattle.prima_base.specs.declared.refusal.What.TheVariants.{Keeps}
use Rattle.prima_base.specs.declared.keep.Keep.{Keep}
use Rattle.prima_base.specs.declared.keep.Keep.TheVariants.{Starting, Ending, Lasting, Covering}
use Rattle.prima_base.specs.declared.keep.Keep.TheVariants.{Overlapping}
use Rattle.lexer_spec.specs.Lexemes.{Lexeme, word, number, is_word}
use Rattle.lexer_combinators.specs.Grammar.{Grammar}
use Rattle.lexer_combinators.specs.Parsing.{IsCorrectParser, Stops, Arm, No, Takes, bind, lead}
use Rattle.lexer_combinators.specs.Parsing.{map_to}
use Rattle.lexer_combinators.specs.Grammar.{Size, nothing_counted, both}
use Rattle.lexer_combinators.specs.Grammar as grammar
use Rattle.lexer_trees_spec.specs.Constants.{moment, moment_grammar}
use Rattle.lexer_combinators.proofs.Parsing.{correct_iff, correct_follow, bind_correct, bind_lead}
use Rattle.lexer_combinators.proofs.Parsing.{lead_correct, map_correct, pure_correct}
use Rattle.lexer_combinators.proofs.Parsing.{choose_correct, option_takes_correct, both_none}
use Rattle.lexer_combinators.proofs.Parsing.{none_both, both_last}
use Rattle.lexer_spec.proofs.LexemeTests.{word_is, word_exact}
use Rattle.lexer_combinators.proofs.Alternatives.{or_left, or_right, stops_fewer, NotFirst}
use Rattle.lexer_combinators.proofs.Alternatives.{NotNone, lead_not_none, lead_not_first}
use Rattle.lexer_combinators.proofs.Alternatives.{either_not_none, either_not_first, last_arm}
use Rattle.lexer_combinators.proofs.Alternatives.{first_arm}
use Rattle.lexer_trees_spec.proofs.Singles.{single_correct, moment_correct}
use Rattle.temporal_lang_types.specs.declared.when.When.{When}
use Rattle.temporal_lang_types.specs.declared.when.When.TheVariants.{Always, AsOf, During}
use Rattle.temporal_lang_grammar_spec.specs.QueryGrammar.{as_moment_or, last_moment, bound_grammar}
use Rattle.temporal_lang_grammar_spec.specs.QueryGrammar.{AreBounds}
use Rattle.temporal_lang_grammar_spec.specs.QueryGrammar.{IsDuring, IsBetween, IsCovering, IsKeep}
use Rattle.temporal_lang_grammar_spec.specs.QueryGrammar.{AreKeeps}
use Rattle.temporal_lang_grammar_spec.specs.QueryGrammar.{IsKeeping, IsRange, IsWhen, IsOneMoment}
use Rattle.temporal_lang_grammar_spec.specs.QueryGrammar.{IsMoments}
use Rattle.temporal_lang_grammar_spec.specs.QueryReader.{moment_or, bounds, as_of_rest, as_of}
use Rattle.temporal_lang_grammar_spec.specs.QueryReader.{during, between}
use Rattle.temporal_lang_grammar_spec.specs.QueryReader.{covering, keep_arm, keep, keeps, keeping}
use Rattle.temporal_lang_grammar_spec.specs.QueryReader.{range}
use Rattle.temporal_lang_grammar_spec.specs.QueryReader.{after_as_of, when_part, after_moment}
use Rattle.temporal_lang_grammar_spec.specs.QueryReader.{moments, follow_keeps}
use Rattle.temporal_lang_grammar_spec.specs.QueryReader.{follow_keeping}
use Rattle.temporal_lang_grammar_spec.specs.QueryReader.{follow_range, follow_when, follow_moments}
use Rattle.temporal_lang_grammar_spec.proofs.CountedLists.{option_prefix, counted_correct}
use Rattle.temporal_lang_grammar_spec.proofs.BranchCorrectness.{ends}

-- ---- bounds

pub moment_or_correct : (last : ℕ) (follow : Lexeme → Bool)
    → IsCorrectParser 0 32 (moment_or last) (grammar.single (as_moment_or last)) follow
unfolding moment_or
moment_or_correct last follow = single_correct 0 32 (as_moment_or last) follow (number (pos 0)) 0
    refl

pub to_correct : (follow : Lexeme → Bool) (a : ℕ)
    → IsCorrectParser {A = ℕ × ℕ} 0 32 (lead (is_word (codes "TO"))
    (map_to (λ b. (a, b)) (moment_or forever)))
    (grammar.lead (word (codes "TO")) (grammar.map (λ b. (a, b)) bound_grammar)) follow
to_correct follow a = lead_correct (is_word (codes "TO")) (word (codes "TO")) (word_is (codes "TO"))
    (word_exact (codes "TO")) 0 32 _ _ follow
    (map_correct 0 32 (λ b. (a, b)) (moment_or forever) bound_grammar follow
    (moment_or_correct forever follow))

pub bounds_correct : (follow : Lexeme → Bool) → IsCorrectParser 0 32 bounds AreBounds follow
unfolding bounds
bounds_correct follow = bind_lead 0 32 moment _ moment_grammar (word (codes "TO"))
    (λ a. grammar.map (λ b. (a, b)) bound_grammar) ends follow refl (moment_correct 0 32 ends)
    (to_correct follow)

-- ---- KEEP

abbrev pub BetweenRest : (ℕ → ℕ → Keep) → Grammar Keep
BetweenRest make = grammar.map (λ b. make b.0 b.1) AreBounds

abbrev pub CoveringRest : Grammar Keep
CoveringRest = grammar.map (λ m. Covering m) moment_grammar

between_correct : (make : ℕ → ℕ → Keep) → IsCorrectParser 0 32 (between make) (BetweenRest make)
    ends
unfolding between
between_correct make = map_correct 0 32 (λ b. make b.0 b.1) bounds AreBounds ends
    (bounds_correct ends)

covering_correct : IsCorrectParser 0 32 covering CoveringRest ends
unfolding covering
covering_correct = map_correct 0 32 (λ m. Covering m) moment moment_grammar ends
    (moment_correct 0 32 ends)

-- the grammar from its second, third and fourth word on, and so the arms
abbrev FromOverlapping : Grammar Keep
FromOverlapping = grammar.alt (IsBetween (codes "OVERLAPPING") Overlapping) IsCovering

abbrev FromLasting : Grammar Keep
FromLasting = grammar.alt (IsBetween (codes "LASTING") Lasting) FromOverlapping

abbrev FromEnding : Grammar Keep
FromEnding = grammar.alt (IsBetween (codes "ENDING") Ending) FromLasting

abbrev covering_arm : Lexeme → Arm Keep
covering_arm x = cond (is_word (codes "COVERING") x) (Takes covering) No

abbrev overlapping_arm : Lexeme → Arm Keep
overlapping_arm x = cond (is_word (codes "OVERLAPPING") x) (Takes (between Overlapping))
    (covering_arm x)

abbrev lasting_arm : Lexeme → Arm Keep
lasting_arm x = cond (is_word (codes "LASTING") x) (Takes (between Lasting)) (overlapping_arm x)

abbrev ending_arm : Lexeme → Arm Keep
ending_arm x = cond (is_word (codes "ENDING") x) (Takes (between Ending)) (lasting_arm x)

-- what begins with one word does not begin with another
apart : (v u : List ℕ) (G : Grammar Keep) → is_word u (word v) ≡ false
    → NotFirst (grammar.lead (word u) G) (word v)
apart v u G e = lead_not_first (is_word u) (word v) (word u) G e (word_is u)

no_overlapping : NotFirst IsCovering (word (codes "OVERLAPPING"))
no_overlapping = apart (codes "OVERLAPPING") (codes "COVERING") CoveringRest refl

no_lasting : NotFirst FromOverlapping (word (codes "LASTING"))
no_lasting = either_not_first (word (codes "LASTING")) (IsBetween (codes "OVERLAPPING") Overlapping)
    IsCovering (apart (codes "LASTING") (codes "OVERLAPPING") (BetweenRest Overlapping) refl)
    (apart (codes "LASTING") (codes "COVERING") CoveringRest refl)

no_ending : NotFirst FromLasting (word (codes "ENDING"))
no_ending = either_not_first (word (codes "ENDING")) (IsBetween (codes "LASTING") Lasting)
    FromOverlapping (apart (codes "ENDING") (codes "LASTING") (BetweenRest Lasting) refl)
    (either_not_first (word (codes "ENDING")) (IsBetween (codes "OVERLAPPING") Overlapping)
    IsCovering (apart (codes "ENDING") (codes "OVERLAPPING") (BetweenRest Overlapping) refl)
    (apart (codes "ENDING") (codes "COVERING") CoveringRest refl))

no_starting : NotFirst FromEnding (word (codes "STARTING"))
no_starting = either_not_first (word (codes "STARTING")) (IsBetween (codes "ENDING") Ending)
    FromLasting (apart (codes "STARTING") (codes "ENDING") (BetweenRest Ending) refl)
    (either_not_first (word (codes "STARTING")) (IsBetween (codes "LASTING") Lasting)
    FromOverlapping (apart (codes "STARTING") (codes "LASTING") (BetweenRest Lasting) refl)
    (either_not_first (word (codes "STARTING")) (IsBetween (codes "OVERLAPPING") Overlapping)
    IsCovering (apart (codes "STARTING") (codes "OVERLAPPING") (BetweenRest Overlapping) refl)
    (apart (codes "STARTING") (codes "COVERING") CoveringRest refl)))

keep_not_none : NotNone IsKeep
keep_not_none = either_not_none (IsBetween (codes "STARTING") Starting) FromEnding
    (lead_not_none (word (codes "STARTING")) (BetweenRest Starting))
    (either_not_none (IsBetween (codes "ENDING") Ending) FromLasting
    (lead_not_none (word (codes "ENDING")) (BetweenRest Ending))
    (either_not_none (IsBetween (codes "LASTING") Lasting) FromOverlapping
    (lead_not_none (word (codes "LASTING")) (BetweenRest Lasting))
    (either_not_none (IsBetween (codes "OVERLAPPING") Overlapping) IsCovering
    (lead_not_none (word (codes "OVERLAPPING")) (BetweenRest Overlapping))
    (lead_not_none (word (codes "COVERING")) CoveringRest))))

pub keep_correct : IsCorrectParser 0 32 keep IsKeep ends
unfolding keep
keep_correct = choose_correct 0 32 keep_arm IsKeep ends (live (between_correct Starting).live)
    keep_not_none
    (λ x. first_arm (is_word (codes "STARTING")) (word (codes "STARTING"))
    (word_is (codes "STARTING")) (word_exact (codes "STARTING")) 32 (between Starting)
    (BetweenRest Starting) ends (between_correct Starting) ending_arm FromEnding no_starting x
    (first_arm (is_word (codes "ENDING")) (word (codes "ENDING")) (word_is (codes "ENDING"))
    (word_exact (codes "ENDING")) 32 (between Ending) (BetweenRest Ending) ends
    (between_correct Ending) lasting_arm FromLasting no_ending x
    (first_arm (is_word (codes "LASTING")) (word (codes "LASTING")) (word_is (codes "LASTING"))
    (word_exact (codes "LASTING")) 32 (between Lasting) (BetweenRest Lasting) ends
    (between_correct Lasting) overlapping_arm FromOverlapping no_lasting x
    (first_arm (is_word (codes "OVERLAPPING")) (word (codes "OVERLAPPING"))
    (word_is (codes "OVERLAPPING")) (word_exact (codes "OVERLAPPING")) 32 (between Overlapping)
    (BetweenRest Overlapping) ends (between_correct Overlapping) covering_arm IsCovering
    no_overlapping x
    (last_arm (is_word (codes "COVERING")) (word (codes "COVERING")) (word_is (codes "COVERING"))
    (word_exact (codes "COVERING")) 32 covering CoveringRest ends covering_correct x)))))
  where
    live : (a : Keep) × (s : Size) × (ts : List Lexeme) × BetweenRest Starting a s ts → (a : Keep)
        × (s : Size) × (ts : List Lexeme) × IsKeep a s ts
    live l = (l.0, l.1, word (codes "STARTING") ∷ l.2, inl (l.2, refl, l.3))

pub keeps_correct : IsCorrectParser 0 32 keeps AreKeeps follow_keeps
unfolding keeps
keeps_correct = counted_correct (is_word (codes "AND")) (word (codes "AND")) (word_is (codes "AND"))
    (word_exact (codes "AND")) keep IsKeep ends keep_correct refl Keeps (λ s n h. h) 7 refl

pub fewer_keeps : (x : Lexeme) → follow_keeping x ≡ false → follow_keeps x ≡ false
fewer_keeps x h = or_right (is_word (codes "KEEP") x) (follow_keeps x) h

pub keeping_correct : IsCorrectParser 0 32 keeping IsKeeping follow_keeping
unfolding keeping
keeping_correct = option_takes_correct (is_word (codes "KEEP")) (word (codes "KEEP"))
    (word_is (codes "KEEP")) (word_exact (codes "KEEP")) 0 32 keeps [] AreKeeps follow_keeping
    (λ x e. ap (λ b. b || follow_keeps x) e) (correct_follow 0 32 keeps AreKeeps follow_keeps
    follow_keeping fewer_keeps keeps_correct)

-- ---- DURING

abbrev pub DuringRest : Grammar When
DuringRest = grammar.map (λ b. During b.0 b.1) AreBounds

pub during_rest_correct : (follow : Lexeme → Bool)
    → IsCorrectParser 0 32 (map_to (λ b. During b.0 b.1) bounds) DuringRest follow
during_rest_correct follow = map_correct 0 32 (λ b. During b.0 b.1) bounds AreBounds follow
    (bounds_correct follow)

pub during_correct : IsCorrectParser 0 32 during IsDuring (is_word (codes "DURING"))
unfolding during
during_correct = option_takes_correct (is_word (codes "DURING")) (word (codes "DURING"))
    (word_is (codes "DURING")) (word_exact (codes "DURING")) 0 32
    (map_to (λ b. During b.0 b.1) bounds) Always DuringRest (is_word (codes "DURING"))
    (λ x e. e) (during_rest_correct (is_word (codes "DURING")))

pub fewer_during : (x : Lexeme) → follow_range x ≡ false → is_word (codes "DURING") x ≡ false
fewer_during x h = or_left (is_word (codes "DURING") x) (follow_keeping x) h

pub fewer_keeping : (x : Lexeme) → follow_range x ≡ false → follow_keeping x ≡ false
fewer_keeping x h = or_right (is_word (codes "DURING") x) (follow_keeping x) h

pub keeping_then_correct : (when : When) → IsCorrectParser {A = When × List Keep} 0 32
    (map_to (λ l. (when, l)) keeping) (grammar.map (λ l. (when, l)) IsKeeping) follow_range
keeping_then_correct when = map_correct 0 32 (λ l. (when, l)) keeping IsKeeping follow_range
    (correct_follow 0 32 keeping IsKeeping follow_keeping follow_range fewer_keeping
    keeping_correct)

pub after_during : (when : When) (b : When × List Keep) (s : Size) (ts rest : List Lexeme)
    → grammar.map (λ l. (when, l)) IsKeeping b s ts → Stops follow_range rest
    → Stops (is_word (codes "DURING")) (ts ++ rest)
after_during when b s ts rest h stops = option_prefix (is_word (codes "DURING")) []
    (word (codes "KEEP")) AreKeeps refl h.0 s ts rest h.2
    (stops_fewer (is_word (codes "DURING")) follow_range fewer_during rest stops)

pub range_correct : IsCorrectParser 0 32 range IsRange follow_range
unfolding range
range_correct = bind_correct 0 32 during _ IsDuring _ (is_word (codes "DURING")) follow_range
    during_correct keeping_then_correct after_during

-- what may begin it stops what does not go on with DURING or KEEP
pub range_prefix : (follow : Lexeme → Bool) → follow (word (codes "DURING")) ≡ false
    → follow (word (codes "KEEP")) ≡ false → (b : When × List Keep) (s : Size)
    (ts rest : List Lexeme) → IsRange b s ts → Stops follow rest → Stops follow (ts ++ rest)
range_prefix follow e f b s ts rest h stops =
    let P : List Lexeme → Type 0 = λ l. Stops follow l in
    subst P (sym (ap (λ l. l ++ rest) h.6 ∙ append_assoc h.3 h.4 rest))
    (option_prefix follow Always (word (codes "DURING")) DuringRest e h.0 h.1 h.3 (h.4 ++ rest) h.7
    (option_prefix follow [] (word (codes "KEEP")) AreKeeps f h.8.0 h.2 h.4 rest h.8.2 stops))

-- ---- AS OF, or else

abbrev pub AsOfRest : Grammar (Option ℕ)
AsOfRest = grammar.lead (word (codes "OF")) (grammar.map (λ m. Some m)
    (grammar.single (as_moment_or last_moment)))

abbrev pub IsMaybeAsOf : Grammar (Option ℕ)
IsMaybeAsOf = grammar.option None (word (codes "AS")) AsOfRest

abbrev pub AfterAsOf : Option ℕ → When × List Keep → Size → List Lexeme → Type 0
AfterAsOf (Some m) = grammar.pure (AsOf m, [])
AfterAsOf None = IsRange

pub as_of_rest_correct : IsCorrectParser 0 32 as_of_rest AsOfRest (is_word (codes "AS"))
as_of_rest_correct = lead_correct (is_word (codes "OF")) (word (codes "OF")) (word_is (codes "OF"))
    (word_exact (codes "OF")) 0 32 _ _ (is_word (codes "AS"))
    (map_correct 0 32 (λ m. Some m) (moment_or last_moment)
    (grammar.single (as_moment_or last_moment)) (is_word (codes "AS"))
    (moment_or_correct last_moment (is_word (codes "AS"))))

pub as_of_correct : IsCorrectParser 0 32 as_of IsMaybeAsOf (is_word (codes "AS"))
unfolding as_of
as_of_correct = option_takes_correct (is_word (codes "AS")) (word (codes "AS"))
    (word_is (codes "AS")) (word_exact (codes "AS")) 0 32 as_of_rest None AsOfRest
    (is_word (codes "AS")) (λ x e. e) as_of_rest_correct

pub fewer_as : (x : Lexeme) → follow_when x ≡ false → is_word (codes "AS") x ≡ false
fewer_as x h = or_left (is_word (codes "AS") x) (follow_range x) h

pub fewer_range : (x : Lexeme) → follow_when x ≡ false → follow_range x ≡ false
fewer_range x h = or_right (is_word (codes "AS") x) (follow_range x) h

pub after_correct : (o : Option ℕ) → IsCorrectParser 0 32 (after_as_of o) (AfterAsOf o) follow_when
after_correct (Some m) = pure_correct 0 32 (AsOf m, []) follow_when
after_correct None = correct_follow 0 32 range IsRange follow_range follow_when fewer_range
    range_correct

pub after_as : (o : Option ℕ) (b : When × List Keep) (s : Size) (ts rest : List Lexeme)
    → AfterAsOf o b s ts → Stops follow_when rest → Stops (is_word (codes "AS")) (ts ++ rest)
after_as (Some m) b s ts rest h stops = let P : List Lexeme
    → Type 0 = λ l. Stops (is_word (codes "AS")) (l ++ rest) in
    subst P (sym h.2) (stops_fewer (is_word (codes "AS")) follow_when fewer_as rest stops)
after_as None b s ts rest h stops = range_prefix (is_word (codes "AS")) refl refl b s ts rest h
    (stops_fewer (is_word (codes "AS")) follow_when fewer_as rest stops)

abbrev pub ByAsOf : When × List Keep → Size → List Lexeme → Type 0
ByAsOf = grammar.seq IsMaybeAsOf AfterAsOf

pub by_as_of : (b : When × List Keep) (s : Size) (l : List Lexeme) → ByAsOf b s l → IsWhen b s l
by_as_of b s l h = by_first h.7 h.8
  where
    by_first : IsMaybeAsOf h.0 h.1 h.3 → AfterAsOf h.0 b h.2 h.4 → IsWhen b s l
    by_first (inl g) k =
        let P : Option ℕ → Type 0 = λ o. AfterAsOf o b h.2 h.4 in
        let size : s ≡ h.2 = h.5 ∙ ap (λ z. both z h.2) g.1 ∙ none_both h.2 in
        let text : l ≡ h.4 = h.6 ∙ ap (λ t. t ++ h.4) g.2 in
        let Q : Size → Type 0 = λ z. IsRange b z l in
        let R : List Lexeme → Type 0 = λ t. IsRange b h.2 t in
        inr (subst Q (sym size) (subst R (sym text) (subst P g.0 k)))
    by_first (inr g) k =
        let m = g.2.2 in
        let P : Option ℕ → Type 0 = λ o. AfterAsOf o b h.2 h.4 in
        let none = subst P m.1 k in
        let size : s ≡ h.1 = h.5 ∙ both_last h.1 h.2 none.1 in
        let text : l ≡ word (codes "AS") ∷ g.0 = h.6 ∙ ap (λ t. h.3 ++ t) none.2 ∙ append-nil h.3
        ∙ g.1 in
        let Q : Size → Type 0 = λ z. grammar.single (as_moment_or last_moment) m.0 z g.2.0 in
        inl (g.0, text, (g.2.0, g.2.1, (m.0, none.0, subst Q (sym size) m.2)))

pub as_by_as_of : (b : When × List Keep) (s : Size) (l : List Lexeme) → IsWhen b s l → ByAsOf b s l
as_by_as_of b s l (inl h) = let m = h.2.2 in (
  Some m.0,
  s,
  nothing_counted,
  l,
  [],
  sym (both_none s),
  sym (append-nil l),
  inr (h.0, h.1, (h.2.0, h.2.1, (m.0, refl, m.2))),
  (m.1, refl, refl),
)
as_by_as_of b s l (inr h) = (
  None,
  nothing_counted,
  s,
  [],
  l,
  sym (none_both s),
  refl,
  inl (refl, refl, refl),
  h,
)

pub when_correct : IsCorrectParser 0 32 when_part IsWhen follow_when
unfolding when_part
when_correct = correct_iff 0 32 (bind as_of after_as_of) ByAsOf IsWhen follow_when by_as_of
    as_by_as_of
    (bind_correct 0 32 as_of after_as_of IsMaybeAsOf AfterAsOf (is_word (codes "AS")) follow_when
    as_of_correct after_correct after_as)

-- what may begin it stops what goes on with none of its first words
pub when_prefix : (follow : Lexeme → Bool) → follow (word (codes "AS")) ≡ false
    → follow (word (codes "DURING")) ≡ false → follow (word (codes "KEEP")) ≡ false
    → (b : When × List Keep) (s : Size) (ts rest : List Lexeme) → IsWhen b s ts → Stops follow rest
    → Stops follow (ts ++ rest)
when_prefix follow d e f b s ts rest (inl h) stops = let P : List Lexeme
    → Type 0 = λ l. Stops follow (l ++ rest) in subst P (sym h.1) d
when_prefix follow d e f b s ts rest (inr h) stops = range_prefix follow e f b s ts rest h stops

-- ---- AS OF or DURING, without KEEP

abbrev AfterMoment : Option ℕ → When → Size → List Lexeme → Type 0
AfterMoment (Some m) = grammar.pure (AsOf m)
AfterMoment None = IsDuring

fewer_one : (x : Lexeme) → follow_moments x ≡ false → is_word (codes "AS") x ≡ false
fewer_one x h = or_left (is_word (codes "AS") x) (is_word (codes "DURING") x) h

pub fewer_moments : (x : Lexeme) → follow_moments x ≡ false → is_word (codes "DURING") x ≡ false
fewer_moments x h = or_right (is_word (codes "AS") x) (is_word (codes "DURING") x) h

after_moment_correct : (o : Option ℕ) → IsCorrectParser 0 32 (after_moment o) (AfterMoment o)
    follow_moments
after_moment_correct (Some m) = pure_correct 0 32 (AsOf m) follow_moments
after_moment_correct None = correct_follow 0 32 during IsDuring (is_word (codes "DURING"))
    follow_moments fewer_moments during_correct

-- what may begin a DURING stops what does not go on with it
pub during_prefix : (follow : Lexeme → Bool) → follow (word (codes "DURING")) ≡ false → (b : When)
    (s : Size) (ts rest : List Lexeme) → IsDuring b s ts → Stops follow rest
    → Stops follow (ts ++ rest)
during_prefix follow e b s ts rest h stops =
    option_prefix follow Always (word (codes "DURING")) DuringRest e b s ts rest h stops

after_one : (o : Option ℕ) (b : When) (s : Size) (ts rest : List Lexeme)
    → AfterMoment o b s ts → Stops follow_moments rest → Stops (is_word (codes "AS")) (ts ++ rest)
after_one (Some m) b s ts rest h stops = let P : List Lexeme
    → Type 0 = λ l. Stops (is_word (codes "AS")) (l ++ rest) in
    subst P (sym h.2) (stops_fewer (is_word (codes "AS")) follow_moments fewer_one rest stops)
after_one None b s ts rest h stops = during_prefix (is_word (codes "AS")) refl b s ts rest h
    (stops_fewer (is_word (codes "AS")) follow_moments fewer_one rest stops)

abbrev ByMoment : When → Size → List Lexeme → Type 0
ByMoment = grammar.seq IsMaybeAsOf AfterMoment

by_moment : (b : When) (s : Size) (l : List Lexeme) → ByMoment b s l → IsMoments b s l
by_moment b s l h = by_first h.7 h.8
  where
    by_first : IsMaybeAsOf h.0 h.1 h.3 → AfterMoment h.0 b h.2 h.4 → IsMoments b s l
    by_first (inl g) k =
        let P : Option ℕ → Type 0 = λ o. AfterMoment o b h.2 h.4 in
        let size : s ≡ h.2 = h.5 ∙ ap (λ z. both z h.2) g.1 ∙ none_both h.2 in
        let text : l ≡ h.4 = h.6 ∙ ap (λ t. t ++ h.4) g.2 in
        let Q : Size → Type 0 = λ z. IsDuring b z l in
        let R : List Lexeme → Type 0 = λ t. IsDuring b h.2 t in
        inr (subst Q (sym size) (subst R (sym text) (subst P g.0 k)))
    by_first (inr g) k =
        let m = g.2.2 in
        let P : Option ℕ → Type 0 = λ o. AfterMoment o b h.2 h.4 in
        let none = subst P m.1 k in
        let size : s ≡ h.1 = h.5 ∙ both_last h.1 h.2 none.1 in
        let text : l ≡ word (codes "AS") ∷ g.0 = h.6 ∙ ap (λ t. h.3 ++ t) none.2 ∙ append-nil h.3
        ∙ g.1 in
        let Q : Size → Type 0 = λ z. grammar.single (as_moment_or last_moment) m.0 z g.2.0 in
        inl (g.0, text, (g.2.0, g.2.1, (m.0, none.0, subst Q (sym size) m.2)))

as_by_moment : (b : When) (s : Size) (l : List Lexeme) → IsMoments b s l → ByMoment b s l
as_by_moment b s l (inl h) = let m = h.2.2 in (
  Some m.0,
  s,
  nothing_counted,
  l,
  [],
  sym (both_none s),
  sym (append-nil l),
  inr (h.0, h.1, (h.2.0, h.2.1, (m.0, refl, m.2))),
  (m.1, refl, refl),
)
as_by_moment b s l (inr h) = (
  None,
  nothing_counted,
  s,
  [],
  l,
  sym (none_both s),
  refl,
  inl (refl, refl, refl),
  h,
)

pub moments_correct : IsCorrectParser 0 32 moments IsMoments follow_moments
unfolding moments
moments_correct = correct_iff 0 32 (bind as_of after_moment) ByMoment IsMoments follow_moments
    by_moment as_by_moment
    (bind_correct 0 32 as_of after_moment IsMaybeAsOf AfterMoment (is_word (codes "AS"))
    follow_moments as_of_correct after_moment_correct after_one)

-- what may begin it stops what goes on with none of its first words
pub moments_prefix : (follow : Lexeme → Bool) → follow (word (codes "AS")) ≡ false
    → follow (word (codes "DURING")) ≡ false → (b : When) (s : Size) (ts rest : List Lexeme)
    → IsMoments b s ts → Stops follow rest → Stops follow (ts ++ rest)
moments_prefix follow d e b s ts rest (inl h) stops = let P : List Lexeme
    → Type 0 = λ l. Stops follow (l ++ rest) in subst P (sym h.1) d
moments_prefix follow d e b s ts rest (inr h) stops = during_prefix follow e b s ts rest h stops
