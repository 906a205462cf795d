-- The reader of what a session asks for is good for its grammar, and goes along the tokens at which
-- its counts pass limits.
use Rattle.std.proofs.Common.{◌≡◌, ℕ, Bool, false, cond, List, ◌∷◌, ◌++◌, inl, inr, refl, codes}
use Rattle.lexer_spec.specs.Lexemes.{Lexeme, word, is_word}
use Rattle.lexer_combinators.specs.Grammar.{Grammar, Size}
use Rattle.lexer_combinators.specs.Grammar as grammar
use Rattle.lexer_combinators.specs.Parsing.{IsCorrectParser, Arm, No, Takes, pure, map_to}
use Rattle.lexer_combinators.specs.ListOverflows.{Overflow, none_overflow, map_overflow}
use Rattle.lexer_combinators.specs.ListOverflows.{bind_overflow}
use Rattle.lexer_trees_spec.specs.Constants.{as_name, as_moment, as_small, name, name_grammar}
use Rattle.lexer_trees_spec.specs.Constants.{moment, moment_grammar, small, small_grammar}
use Rattle.lexer_spec.proofs.LexemeTests.{word_is, word_exact}
use Rattle.lexer_trees_spec.proofs.Singles.{name_correct, moment_correct, small_correct}
use Rattle.lexer_combinators.proofs.Parsing.{choose_correct, lead_correct, map_correct}
use Rattle.lexer_combinators.proofs.Parsing.{pure_correct, ArmCorrect}
use Rattle.lexer_combinators.proofs.Alternatives.{stops_never, NotNone, NotFirst, lead_not_none}
use Rattle.lexer_combinators.proofs.Alternatives.{lead_not_first, either_not_none}
use Rattle.lexer_combinators.proofs.Alternatives.{either_not_first, first_arm, last_arm}
use Rattle.lexer_combinators.proofs.AlongParts.{GoesAlong, Light, after_follow, map_follow}
use Rattle.lexer_combinators.proofs.AlongParts.{bind_follow, pure_light, single_light, lead_light}
use Rattle.lexer_combinators.proofs.AlongParts.{map_light, bind_light, light_along, light_follow}
use Rattle.temporal_lang_grammar_spec.specs.QueryGrammar.{IsAsk}
use Rattle.temporal_lang_grammar_spec.specs.QueryReader as query
use Rattle.temporal_lang_grammar_spec.specs.QueryOverflows.{ask_overflows}
use Rattle.sessions.specs.Requests.{Request, beginning, buffering, committing, aborting, opening}
use Rattle.sessions.specs.Requests.{fetching, closing}
use Rattle.script_parse.specs.Statements.{PlainStatement, session}
use Rattle.script_parse.specs.Productions.{IsListOfChanges, IsBegin, IsDo, IsCommit, IsAbort}
use Rattle.script_parse.specs.Productions.{IsOpen, IsFetch, IsClose, IsRequest}
use Rattle.script_parse.specs.StatementReader.{changes, do_rest, commit_rest, open_rest, fetch_rest}
use Rattle.script_parse.specs.StatementReader.{close_rest, request_arm, request, session_rest}
use Rattle.script_parse.specs.StatementOverflows.{list_of_changes_overflows, request_overflows}
use Rattle.script_parse.proofs.ChangeCorrectness.{ends, single_then}

-- ---- what stands after each first word

abbrev BeginRest : Grammar Request
BeginRest = grammar.pure beginning

abbrev DoRest : Grammar Request
DoRest = grammar.map (λ l. buffering l) IsListOfChanges

abbrev StampRest : Grammar Request
StampRest = grammar.map (λ m. committing m) moment_grammar

abbrev CommitRest : Grammar Request
CommitRest = grammar.lead (word (codes "AT")) StampRest

abbrev AbortRest : Grammar Request
AbortRest = grammar.pure aborting

abbrev OpenRest : Grammar Request
OpenRest = grammar.seq name_grammar (λ n. grammar.map (λ q. opening n q) IsAsk)

abbrev FetchRest : Grammar Request
FetchRest = grammar.seq name_grammar (λ n. grammar.map (λ k. fetching n k) small_grammar)

abbrev CloseRest : Grammar Request
CloseRest = grammar.map (λ n. closing n) name_grammar

abbrev FromFetch : Grammar Request
FromFetch = grammar.alt IsFetch IsClose

abbrev FromOpen : Grammar Request
FromOpen = grammar.alt IsOpen FromFetch

abbrev FromAbort : Grammar Request
FromAbort = grammar.alt IsAbort FromOpen

abbrev FromCommit : Grammar Request
FromCommit = grammar.alt IsCommit FromAbort

abbrev FromDo : Grammar Request
FromDo = grammar.alt IsDo FromCommit

-- ---- what begins with one word does not begin with another

apart : (v u : List ℕ) (G : Grammar Request) → is_word u (word v) ≡ false
    → NotFirst (grammar.lead (word u) G) (word v)
apart v u G e = lead_not_first (is_word u) (word v) (word u) G e (word_is u)

module _ (v : List ℕ) (no_close : is_word (codes "CLOSE") (word v) ≡ false) where
  close_first : NotFirst IsClose (word v)
  close_first = apart v (codes "CLOSE") CloseRest no_close

  module _ (no_fetch : is_word (codes "FETCH") (word v) ≡ false) where
    fetch_first : NotFirst FromFetch (word v)
    fetch_first = either_not_first (word v) IsFetch IsClose
        (apart v (codes "FETCH") FetchRest no_fetch) close_first

    module _ (no_open : is_word (codes "OPEN") (word v) ≡ false) where
      open_first : NotFirst FromOpen (word v)
      open_first = either_not_first (word v) IsOpen FromFetch
          (apart v (codes "OPEN") OpenRest no_open) fetch_first

      module _ (no_abort : is_word (codes "ABORT") (word v) ≡ false) where
        abort_first : NotFirst FromAbort (word v)
        abort_first = either_not_first (word v) IsAbort FromOpen
            (apart v (codes "ABORT") AbortRest no_abort) open_first

        module _ (no_commit : is_word (codes "COMMIT") (word v) ≡ false) where
          commit_first : NotFirst FromCommit (word v)
          commit_first = either_not_first (word v) IsCommit FromAbort
              (apart v (codes "COMMIT") CommitRest no_commit) abort_first

          do_first : is_word (codes "DO") (word v) ≡ false → NotFirst FromDo (word v)
          do_first e = either_not_first (word v) IsDo FromCommit
              (apart v (codes "DO") DoRest e) commit_first

request_not_none : NotNone IsRequest
request_not_none = either_not_none IsBegin FromDo (lead_not_none (word (codes "BEGIN")) BeginRest)
    (either_not_none IsDo FromCommit (lead_not_none (word (codes "DO")) DoRest)
    (either_not_none IsCommit FromAbort (lead_not_none (word (codes "COMMIT")) CommitRest)
    (either_not_none IsAbort FromOpen (lead_not_none (word (codes "ABORT")) AbortRest)
    (either_not_none IsOpen FromFetch (lead_not_none (word (codes "OPEN")) OpenRest)
    (either_not_none IsFetch IsClose (lead_not_none (word (codes "FETCH")) FetchRest)
    (lead_not_none (word (codes "CLOSE")) CloseRest))))))

-- the arms after that of BEGIN, and so on
abbrev close_arms : Lexeme → Arm Request
close_arms y = cond (is_word (codes "CLOSE") y) (Takes close_rest) No

abbrev fetch_arms : Lexeme → Arm Request
fetch_arms y = cond (is_word (codes "FETCH") y) (Takes fetch_rest) (close_arms y)

abbrev open_arms : Lexeme → Arm Request
open_arms y = cond (is_word (codes "OPEN") y) (Takes open_rest) (fetch_arms y)

abbrev abort_arms : Lexeme → Arm Request
abort_arms y = cond (is_word (codes "ABORT") y) (Takes (pure aborting)) (open_arms y)

abbrev commit_arms : Lexeme → Arm Request
commit_arms y = cond (is_word (codes "COMMIT") y) (Takes commit_rest) (abort_arms y)

abbrev do_arms : Lexeme → Arm Request
do_arms y = cond (is_word (codes "DO") y) (Takes do_rest) (commit_arms y)

-- ---- the readers are good for their grammars

-- a session's statement ends where changes and a query do
module _ (goes : Lexeme → Bool) (changes_then : IsCorrectParser 0 32 changes IsListOfChanges goes)
    (ask_then : IsCorrectParser 0 32 query.ask IsAsk goes) where
  do_correct : IsCorrectParser 0 32 do_rest DoRest goes
  unfolding do_rest
  do_correct = map_correct 0 32 (λ l. buffering l) changes IsListOfChanges goes changes_then

  commit_correct : IsCorrectParser 0 32 commit_rest CommitRest goes
  unfolding commit_rest
  commit_correct = lead_correct (is_word (codes "AT")) (word (codes "AT")) (word_is (codes "AT"))
      (word_exact (codes "AT")) 0 32 _ StampRest goes
      (map_correct 0 32 (λ m. committing m) moment moment_grammar goes (moment_correct 0 32 goes))

  open_correct : IsCorrectParser 0 32 open_rest OpenRest goes
  unfolding open_rest
  open_correct = single_then name _ name_grammar _ goes (name_correct 0 32 ends)
      (λ n. map_correct 0 32 (λ q. opening n q) query.ask IsAsk goes ask_then)

  fetch_correct : IsCorrectParser 0 32 fetch_rest FetchRest goes
  unfolding fetch_rest
  fetch_correct = single_then name _ name_grammar _ goes (name_correct 0 32 ends)
      (λ n. map_correct 0 32 (λ k. fetching n k) small small_grammar goes (small_correct 0 32 goes))

  close_correct : IsCorrectParser 0 32 close_rest CloseRest goes
  unfolding close_rest
  close_correct = map_correct 0 32 (λ n. closing n) name name_grammar goes (name_correct 0 32 goes)

  cursor_arms_correct : (x : Lexeme) → ArmCorrect 0 32 (open_arms x) x FromOpen goes
  cursor_arms_correct x = first_arm (is_word (codes "OPEN")) (word (codes "OPEN"))
      (word_is (codes "OPEN")) (word_exact (codes "OPEN")) 32 open_rest OpenRest goes open_correct
      fetch_arms FromFetch (fetch_first (codes "OPEN") refl refl) x
      (first_arm (is_word (codes "FETCH")) (word (codes "FETCH")) (word_is (codes "FETCH"))
      (word_exact (codes "FETCH")) 32 fetch_rest FetchRest goes fetch_correct close_arms IsClose
      (close_first (codes "FETCH") refl) x
      (last_arm (is_word (codes "CLOSE")) (word (codes "CLOSE")) (word_is (codes "CLOSE"))
      (word_exact (codes "CLOSE")) 32 close_rest CloseRest goes close_correct x))

  request_correct : IsCorrectParser 0 32 request IsRequest goes
  unfolding request
  request_correct = choose_correct 0 32 request_arm IsRequest goes
      (live (pure_correct 0 32 beginning goes).live) request_not_none
      (λ x. first_arm (is_word (codes "BEGIN")) (word (codes "BEGIN")) (word_is (codes "BEGIN"))
      (word_exact (codes "BEGIN")) 32 (pure beginning) BeginRest goes
      (pure_correct 0 32 beginning goes) do_arms FromDo
      (do_first (codes "BEGIN") refl refl refl refl refl refl) x
      (first_arm (is_word (codes "DO")) (word (codes "DO")) (word_is (codes "DO"))
      (word_exact (codes "DO")) 32 do_rest DoRest goes do_correct commit_arms FromCommit
      (commit_first (codes "DO") refl refl refl refl refl) x
      (first_arm (is_word (codes "COMMIT")) (word (codes "COMMIT")) (word_is (codes "COMMIT"))
      (word_exact (codes "COMMIT")) 32 commit_rest CommitRest goes commit_correct abort_arms
      FromAbort (abort_first (codes "COMMIT") refl refl refl refl) x
      (first_arm (is_word (codes "ABORT")) (word (codes "ABORT")) (word_is (codes "ABORT"))
      (word_exact (codes "ABORT")) 32 (pure aborting) AbortRest goes
      (pure_correct 0 32 aborting goes) open_arms FromOpen
      (open_first (codes "ABORT") refl refl refl) x (cursor_arms_correct x)))))
    where
      live : (a : Request) × (s : Size) × (ts : List Lexeme) × BeginRest a s ts → (a : Request)
          × (s : Size) × (ts : List Lexeme) × IsRequest a s ts
      live l = (l.0, l.1, word (codes "BEGIN") ∷ l.2, inl (l.2, refl, l.3))

abbrev pub SessionRest : Grammar PlainStatement
SessionRest = grammar.seq small_grammar (λ s. grammar.map (λ r. session s r) IsRequest)

module _ (goes : Lexeme → Bool) (changes_then : IsCorrectParser 0 32 changes IsListOfChanges goes)
    (ask_then : IsCorrectParser 0 32 query.ask IsAsk goes) where
  pub session_correct : IsCorrectParser 0 32 session_rest SessionRest goes
  unfolding session_rest
  session_correct = single_then small _ small_grammar _ goes (small_correct 0 32 ends)
      (λ s. map_correct 0 32 (λ r. session s r) request IsRequest goes
      (request_correct goes changes_then ask_then))

-- ---- they go along the tokens

begin_light : Light IsBegin
begin_light = lead_light _ _ (pure_light _)

commit_light : Light IsCommit
commit_light = lead_light _ _ (lead_light _ _
    (map_light _ moment_grammar (single_light as_moment)))

abort_light : Light IsAbort
abort_light = lead_light _ _ (pure_light _)

fetch_light : Light IsFetch
fetch_light = lead_light _ _ (bind_light name_grammar _ (single_light as_name)
    (λ n. map_light _ small_grammar (single_light as_small)))

close_light : Light IsClose
close_light = lead_light _ _ (map_light _ name_grammar (single_light as_name))

abbrev do_rest_overflows : Overflow DoRest
do_rest_overflows = map_overflow (λ l. buffering l) IsListOfChanges list_of_changes_overflows

abbrev open_rest_overflows : Overflow OpenRest
open_rest_overflows = bind_overflow name_grammar (λ n. grammar.map (λ q. opening n q) IsAsk)
    (none_overflow name_grammar) (λ n. map_overflow (λ q. opening n q) IsAsk ask_overflows)

abbrev pub session_rest_overflows : Overflow SessionRest
session_rest_overflows = bind_overflow small_grammar
    (λ s. grammar.map (λ r. session s r) IsRequest) (none_overflow small_grammar)
    (λ s. map_overflow (λ r. session s r) IsRequest request_overflows)

module _ (goes : Lexeme → Bool) (changes_then : IsCorrectParser 0 32 changes IsListOfChanges goes)
    (ask_then : IsCorrectParser 0 32 query.ask IsAsk goes)
    (changes_go : GoesAlong changes IsListOfChanges goes list_of_changes_overflows)
    (ask_goes : GoesAlong query.ask IsAsk goes ask_overflows) where
  do_along : GoesAlong do_rest DoRest goes do_rest_overflows
  unfolding do_rest
  do_along = map_follow (λ l. buffering l) changes IsListOfChanges goes list_of_changes_overflows
      changes_go

  open_along : GoesAlong open_rest OpenRest goes open_rest_overflows
  unfolding open_rest
  open_along = bind_follow name (λ n. map_to (λ q. opening n q) query.ask) name_grammar
      (λ n. grammar.map (λ q. opening n q) IsAsk) ends goes (none_overflow name_grammar) _
      (light_follow name name_grammar ends (name_correct 0 32 ends) (single_light as_name))
      (λ n. map_follow (λ q. opening n q) query.ask IsAsk goes ask_overflows ask_goes)
      (λ a b s ts rest h stops. stops_never (ts ++ rest))

  request_along : GoesAlong request IsRequest goes request_overflows
  unfolding request
  request_along a s f (inl h) us stops = light_along request IsRequest goes
      (request_correct goes changes_then ask_then) a s f (inl h) (begin_light a s f h) us stops
  request_along a s f (inr (inl h)) us stops = after_follow request do_rest (word (codes "DO"))
      (λ ts. refl) DoRest goes do_rest_overflows do_along a s f h us stops
  request_along a s f (inr (inr (inl h))) us stops = light_along request IsRequest goes
      (request_correct goes changes_then ask_then) a s f (inr (inr (inl h)))
      (commit_light a s f h) us stops
  request_along a s f (inr (inr (inr (inl h)))) us stops = light_along request IsRequest goes
      (request_correct goes changes_then ask_then) a s f (inr (inr (inr (inl h))))
      (abort_light a s f h) us stops
  request_along a s f (inr (inr (inr (inr (inl h))))) us stops = after_follow request open_rest
      (word (codes "OPEN")) (λ ts. refl) OpenRest goes open_rest_overflows open_along a s f h us
      stops
  request_along a s f (inr (inr (inr (inr (inr (inl h)))))) us stops = light_along request
      IsRequest goes (request_correct goes changes_then ask_then) a s f
      (inr (inr (inr (inr (inr (inl h)))))) (fetch_light a s f h) us stops
  request_along a s f (inr (inr (inr (inr (inr (inr h)))))) us stops = light_along request
      IsRequest goes (request_correct goes changes_then ask_then) a s f
      (inr (inr (inr (inr (inr (inr h)))))) (close_light a s f h) us stops

  pub session_along : GoesAlong session_rest SessionRest goes session_rest_overflows
  unfolding session_rest
  session_along = bind_follow small (λ s. map_to (λ r. session s r) request) small_grammar
      (λ s. grammar.map (λ r. session s r) IsRequest) ends goes (none_overflow small_grammar) _
      (light_follow small small_grammar ends (small_correct 0 32 ends) (single_light as_small))
      (λ s. map_follow (λ r. session s r) request IsRequest goes request_overflows request_along)
      (λ a b s ts rest h stops. stops_never (ts ++ rest))
