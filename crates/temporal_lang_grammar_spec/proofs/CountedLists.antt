-- Lists that are counted: one member, and more after separators, up to a limit.
use Rattle.std.proofs.Common.{◌≡◌, ℕ, ◌+◌, ◌<◌, Bool, true, false, ◌||◌, List, [], ◌∷◌, ◌++◌, inl}
use Rattle.std.proofs.Common.{inr, sym, ap, ◌∙◌, subst, append_assoc}
use Rattle.prima_base.specs.declared.refusal.What.{What}
use Rattle.lexer_spec.specs.Lexemes.{Lexeme}
use Rattle.lexer_combinators.specs.Grammar.{Grammar}
use Rattle.lexer_combinators.specs.Parsing.{Parser, IsCorrectParser, Stops, Exceeds, limit, map_to}
use Rattle.lexer_combinators.specs.Parsing.{more}
use Rattle.lexer_combinators.specs.Grammar.{Size, AreMore, so_wide}
use Rattle.lexer_combinators.specs.Grammar as grammar
use Rattle.lexer_combinators.specs.ListOverflows.{Overflow, map_overflow, counted_overflow}
use Rattle.lexer_combinators.proofs.Parsing.{more_correct, bind_more, map_correct, side}
use Rattle.lexer_combinators.proofs.AlongParts.{GoesAlong, map_follow, bind_follow, counted_follow}
use Rattle.temporal_lang_grammar_spec.specs.QueryGrammar.{counted_grammar}
use Rattle.temporal_lang_grammar_spec.specs.QueryReader.{counted}
use Rattle.temporal_lang_grammar_spec.specs.QueryOverflows.{list_overflows}
use Rattle.temporal_lang_grammar_spec.proofs.WholePrefixes.{StuckNowhere, map_nowhere, bind_nowhere}
use Rattle.temporal_lang_grammar_spec.proofs.WholePrefixes.{more_nowhere}

-- what may be missing stops what does not go on with its first lexeme
pub option_prefix : {A : Type 0} (follow : Lexeme → Bool) (v : A) (x : Lexeme) (G : Grammar A)
    → follow x ≡ false → (a : A) (s : Size) (ts rest : List Lexeme) → grammar.option v x G a s ts
    → Stops follow rest → Stops follow (ts ++ rest)
option_prefix follow v x G apart a s ts rest (inl h) stops = let P : List Lexeme
    → Type 0 = λ l. Stops follow (l ++ rest) in subst P (sym h.2) stops
option_prefix follow v x G apart a s ts rest (inr h) stops = let P : List Lexeme
    → Type 0 = λ l. Stops follow (l ++ rest) in subst P (sym h.1) apart

-- a member was added after those that were read
pub grown : {A : Type 0} (old read items new : List A) (x : A) → new ≡ items ++ x ∷ []
    → items ≡ old ++ read → new ≡ old ++ (read ++ x ∷ [])
grown old read items new x e f = e ∙ ap (λ l. l ++ x ∷ []) f ∙ append_assoc old read (x ∷ [])

module _ (is : Lexeme → Bool) (sep : Lexeme) (is_sep : is sep ≡ true) (exact : (x : Lexeme)
    → is x ≡ true → x ≡ sep) {A : Type 0} (item : Parser A) (G : Grammar A) (follow : Lexeme → Bool)
    (correct : IsCorrectParser 0 32 item G follow) (apart : follow sep ≡ false)
    (w : What) (over : (s : Size) (n : ℕ) → limit w < s.wide w → Exceeds w n 32 s) (k : ℕ)
    (e : limit w ≡ 1 + k) where
  abbrev follow_list : Lexeme → Bool
  follow_list x = is x || follow x

  more_is_correct : IsCorrectParser 0 32 (more is w item k) (AreMore sep (so_wide w) G 1)
      follow_list
  more_is_correct = more_correct is sep is_sep exact 32 item G follow correct apart w over k 1 e

  pub counted_correct : IsCorrectParser 0 32 (counted is w k item) (counted_grammar sep w G)
      follow_list
  counted_correct = bind_more is sep is_sep exact 32 item G follow correct apart (so_wide w) 0 1
      (more is w item k) (λ a l. a ∷ l) more_is_correct

  stopping : (a : A) (b : List A) (s : Size) (ts rest : List Lexeme)
      → grammar.map (λ l. a ∷ l) (AreMore sep (so_wide w) G 1) b s ts → Stops follow_list rest
      → Stops follow (ts ++ rest)
  stopping a b s ts rest h stops = side is sep is_sep exact 32 item G follow correct apart
      (so_wide w) 1 h.0 s ts rest h.2 stops

  pub counted_along : (ps : Overflow G) → GoesAlong item G follow ps
      → GoesAlong (counted is w k item) (counted_grammar sep w G) follow_list
      (list_overflows sep w G ps)
  counted_along ps along = bind_follow item (λ a. map_to (λ l. a ∷ l) (more is w item k)) G
      (λ a. grammar.map (λ l. a ∷ l) (AreMore sep (so_wide w) G 1)) follow follow_list ps
      (λ a. map_overflow (λ l. a ∷ l) (AreMore sep (so_wide w) G 1) (counted_overflow w sep G ps 1))
      along
      (λ a. map_follow (λ l. a ∷ l) (more is w item k) (AreMore sep (so_wide w) G 1) follow_list
      (counted_overflow w sep G ps 1)
      (counted_follow is sep is_sep exact item G follow correct apart ps along w k 1 e)) stopping

  pub counted_nowhere : StuckNowhere item G → StuckNowhere (counted is w k item)
      (counted_grammar sep w G)
  counted_nowhere nowhere = bind_nowhere item (λ a. map_to (λ l. a ∷ l) (more is w item k)) G
      (λ a. grammar.map (λ l. a ∷ l) (AreMore sep (so_wide w) G 1)) follow follow_list correct
      (λ a. map_correct 0 32 (λ l. a ∷ l) (more is w item k) (AreMore sep (so_wide w) G 1)
      follow_list more_is_correct) stopping nowhere
      (λ a. map_nowhere (λ l. a ∷ l) (more is w item k) (AreMore sep (so_wide w) G 1)
      (more_nowhere is sep is_sep exact item G follow correct apart w over nowhere k 1 e))
