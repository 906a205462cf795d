-- By the grammar a text has one reading.
use Rattle.std.proofs.Common.{◌≡◌, ℕ, zero, suc, ◌+◌, ◌-◌, ◌<◌, ◌≤◌, nat_lt, List, [], ◌∷◌, ◌++◌}
use Rattle.std.proofs.Common.{length, take, drop, inl, inr, refl, sym, ap, ◌∙◌, subst, append_assoc}
use Rattle.std.proofs.Common.{append-nil, arith}
use Rattle.std.proofs.lemmas.List.{take-append-drop}
use Rattle.std.proofs.lemmas.Bool.Decides.{nat_tests}
use Rattle.prima_base.specs.declared.refusal.Refusal.{Refusal}
use Rattle.prima_base.specs.declared.refusal.Refusal.TheVariants as refusal
use Rattle.prima_base.specs.declared.refusal.What.{What}
use Rattle.lexer_spec.specs.Lexemes.{Lexeme}
use Rattle.lexer_combinators.specs.Parsing.{Out, Parsed, Unexpected, LimitExceeded, CanGoOn, limit}
use Rattle.lexer_combinators.specs.Grammar.{Size}
use Rattle.lexer_combinators.specs.Found.{IsFirst}
use Rattle.lexer_spec.proofs.Cases.{by_test}
use Rattle.lexer_combinators.proofs.OverflowSteps.{back_reads, over_at}
use Rattle.script_parse.specs.Statements.{PlainStatement}
use Rattle.script_parse.specs.Lexing.{Placed, Lexed, Tokens, Faulty, lexed, saying}
use Rattle.script_parse.specs.Productions.{IsStatement}
use Rattle.script_parse.specs.StatementReader.{statement, follow_statement}
use Rattle.script_parse.specs.StatementOverflows.{statement_overflows}
use Rattle.script_parse.specs.Reading.{Reading, Blank, Refused, Whole, place, place_before}
use Rattle.script_parse.specs.Reading.{answered, read_as, reading, IsTooMuch, IsWrongAt}
use Rattle.script_parse.specs.Reading.{IsUnfinished, EndsWrong, IsReading, ReadingsAreOne}
use Rattle.script_parse.proofs.BlankTexts.{pads_are_blank}
use Rattle.script_parse.proofs.FirstFaults.{got_all, got_first, stuck_first, stuck_out}
use Rattle.script_parse.proofs.StatementCorrectness.{statement_correct}
use Rattle.script_parse.proofs.StatementAlong.{statement_reads, statement_sized}
use Rattle.script_parse.proofs.ReadingLaws.{wrong_at, at_end, are_read, too_much}

-- ---- what can go on could before

prefix_of : (k j : ℕ) → k ≤ j → (l : List Lexeme) → (suffix : List Lexeme)
    × (take j l ≡ take k l ++ suffix)
prefix_of zero j h l = (take j l, refl)
prefix_of (suc k) zero h l = absurd (omega (arith, h))
prefix_of (suc k) (suc j) h [] = ([], refl)
prefix_of (suc k) (suc j) h (x ∷ l) = let r = prefix_of k j (omega (arith, h)) l in
    (r.0, ap (λ u. x ∷ u) r.1)

module _ {A : Type 0} (G : A → Size → List Lexeme → Type 0) (ts : List Lexeme) where
  can_prefix : (prefix suffix : List Lexeme) → CanGoOn G (prefix ++ suffix) → CanGoOn G prefix
  can_prefix prefix suffix h = let P : List Lexeme
      → Type 0 = λ l. G h.1 h.2 l in (
        suffix ++ h.0,
        h.1,
        h.2,
        subst P (append_assoc prefix suffix h.0) h.3,
      )

  can_before : (k j : ℕ) → k ≤ j → CanGoOn G (take j ts) → CanGoOn G (take k ts)
  can_before k j h can = let r = prefix_of k j h ts in let P : List Lexeme
      → Type 0 = λ l. CanGoOn G l in can_prefix (take k ts) r.0 (subst P r.1 can)

  can_all : (k : ℕ) → CanGoOn G ts → CanGoOn G (take k ts)
  can_all k can = let P : List Lexeme → Type 0 = λ l. CanGoOn G l in
      can_prefix (take k ts) (drop k ts) (subst P (sym (take-append-drop k ts)) can)

  -- all go on, or one is the first with which nothing does
  not_all : (k : ℕ) → IsFirst G ts k → CanGoOn G ts → ⊥
  not_all k h can = h.2 h.0 (can_all (k + 1) can)

  is_all : (a : A) (s : Size) → G a s ts → CanGoOn G ts
  is_all a s g = let P : List Lexeme → Type 0 = λ l. G a s l in
      ([], a, s, subst P (sym (append-nil ts)) g)

  not_before : (j k : ℕ) → IsFirst G ts j → IsFirst G ts k → j < k → ⊥
  not_before j k h i less = h.2 h.0 (can_before (j + 1) k (omega (arith, less)) i.1)

  -- there is one first
  one_first : (j k : ℕ) → IsFirst G ts j → IsFirst G ts k → j ≡ k
  one_first j k h i = by_test (nat_lt j k)
      (λ e. absurd (not_before j k h i (grind (arith, nat_tests))))
      (λ e. by_test (nat_lt k j) (λ f. absurd (not_before k j i h (grind (arith, nat_tests))))
      (λ f. grind (arith, nat_tests)))

-- ---- by what the reader of statements says

module _ (tokens : List Placed) (end : ℕ) (none : (w : What) → IsTooMuch w tokens → ⊥) where
  abbrev all : List Lexeme
  all = saying tokens

  not_over : (w : What) (c : ℕ) (suffix : List Lexeme) → statement 0 all ≡ LimitExceeded w c suffix
      → ⊥
  not_over w c suffix e = none w (over_at statement IsStatement follow_statement statement_correct
      statement_overflows (back_reads statement IsStatement statement_overflows statement_reads)
      statement_sized all w c suffix e)

  same_place : (at left : ℕ) → IsWrongAt tokens at → IsFirst IsStatement all (length all - left)
      → Refused (refusal.Syntax (place_before tokens left end)) ≡ Refused (refusal.Syntax at)
  same_place at left h first =
      let found = wrong_at tokens end left first in
      let same : found.0 ≡ h.0 = one_first IsStatement all found.0 h.0 found.2 h.2 in
      ap (λ p. Refused (refusal.Syntax p)) (found.1 ∙ ap (λ k. place tokens k 0) same ∙ sym h.1)

  is_wrong : (at : ℕ) → IsWrongAt tokens at → (o : Out PlainStatement) → statement 0 all ≡ o
      → answered tokens end o ≡ Refused (refusal.Syntax at)
  is_wrong at h (Parsed s m []) e = let k = got_all statement IsStatement follow_statement
      statement_correct all s m e in absurd (not_all IsStatement all h.0 h.2
      (is_all IsStatement all s k.0 k.1))
  is_wrong at h (Parsed s m (x ∷ suffix)) e =
      same_place at (length (x ∷ suffix)) h (got_first statement IsStatement follow_statement
      statement_correct all s m x suffix e)
  is_wrong at h (Unexpected c []) e = let k =
      stuck_out statement IsStatement follow_statement statement_correct all c e in
      absurd (not_all IsStatement all h.0 h.2 k.0)
  is_wrong at h (Unexpected c (x ∷ suffix)) e =
      same_place at (length (x ∷ suffix)) h (stuck_first statement IsStatement follow_statement
      statement_correct all c x suffix e)
  is_wrong at h (LimitExceeded w c suffix) e = absurd (not_over w c suffix e)

  is_unfinished : CanGoOn IsStatement all → ((s : PlainStatement) (size : Size)
      → IsStatement s size all → ⊥) → (o : Out PlainStatement) → statement 0 all ≡ o
      → answered tokens end o ≡ Refused (refusal.Syntax end)
  is_unfinished can never (Parsed s m []) e = let k =
      got_all statement IsStatement follow_statement statement_correct all s m e in
      absurd (never s k.0 k.1)
  is_unfinished can never (Parsed s m (x ∷ suffix)) e =
      absurd (not_all IsStatement all (length all - length (x ∷ suffix))
      (got_first statement IsStatement follow_statement statement_correct all s m x suffix e) can)
  is_unfinished can never (Unexpected c []) e =
      ap (λ p. Refused (refusal.Syntax p)) (at_end tokens end)
  is_unfinished can never (Unexpected c (x ∷ suffix)) e =
      absurd (not_all IsStatement all (length all - length (x ∷ suffix))
      (stuck_first statement IsStatement follow_statement statement_correct all c x suffix e) can)
  is_unfinished can never (LimitExceeded w c suffix) e = absurd (not_over w c suffix e)

-- some token is wrong, or a statement goes on with them all, so there is one
wrong_read : (tokens : List Placed) (end at : ℕ) → ((w : What) → IsTooMuch w tokens → ⊥)
    → IsWrongAt tokens at → read_as end (Tokens tokens) ≡ Refused (refusal.Syntax at)
wrong_read [] end at none h = let k = h.2.0 in absurd (omega (arith, k))
wrong_read (t ∷ tokens) end at none h = is_wrong (t ∷ tokens) end none at h
    (statement 0 (saying (t ∷ tokens))) refl

unfinished_read : (tokens : List Placed) (end : ℕ) → ((w : What) → IsTooMuch w tokens → ⊥)
    → IsUnfinished tokens → read_as end (Tokens tokens) ≡ Refused (refusal.Syntax end)
unfinished_read [] end none h = absurd h
unfinished_read (t ∷ tokens) end none h = is_unfinished (t ∷ tokens) end none h.0 h.1
    (statement 0 (saying (t ∷ tokens))) refl

-- some token is too much, so there is one
over_read : (tokens : List Placed) (end : ℕ) (w : What) → IsTooMuch w tokens
    → read_as end (Tokens tokens) ≡ Refused (refusal.TooMany w (limit w))
over_read [] end w h = absurd (no_prefix h.0 h.1 h.2 h.3)
  where
    no_prefix : (prefix : List Lexeme) (x : Lexeme) (suffix : List Lexeme)
        → [] ≡ prefix ++ x ∷ suffix → ⊥
    no_prefix [] x suffix e = cc
    no_prefix (y ∷ prefix) x suffix e = cc
over_read (t ∷ tokens) end w h = let k = too_much (t ∷ tokens) w h in
    ap (answered (t ∷ tokens) end) k.2

-- ---- of a text

by_tokens : (text : List ℕ) (l : Lexed) (r : Reading) → lexed text ≡ l → read_as (length text) l ≡ r
    → reading text ≡ r
unfolding reading
by_tokens text l r e h = ap (read_as (length text)) e ∙ h

ends_wrong : (text : List ℕ) (tokens : List Placed) (at : ℕ) → lexed text ≡ Tokens tokens
    → ((w : What) → IsTooMuch w tokens → ⊥) → EndsWrong text tokens at
    → reading text ≡ Refused (refusal.Syntax at)
ends_wrong text tokens at e none (inl h) = by_tokens text (Tokens tokens)
    (Refused (refusal.Syntax at)) e (wrong_read tokens (length text) at none h)
ends_wrong text tokens at e none (inr h) =
    let P : ℕ → Type 0 = λ n. reading text ≡ Refused (refusal.Syntax n) in
    subst P (sym h.0) (by_tokens text (Tokens tokens) (Refused (refusal.Syntax (length text))) e
    (unfinished_read tokens (length text) none h.1))

syntax_read : (text : List ℕ) (at : ℕ) → IsReading text (Refused (refusal.Syntax at))
    → reading text ≡ Refused (refusal.Syntax at)
syntax_read text at (inl e) = by_tokens text (Faulty at) (Refused (refusal.Syntax at)) e refl
syntax_read text at (inr h) = ends_wrong text h.0 at h.1 h.3 h.2

refused_read : (text : List ℕ) (f : Refusal) → IsReading text (Refused f) → reading text ≡ Refused f
refused_read text (refusal.Syntax at) h = syntax_read text at h
refused_read text (refusal.TooMany w most) h =
    by_tokens text (Tokens h.1) (Refused (refusal.TooMany w most)) h.2
    (over_read h.1 (length text) w h.3 ∙ ap (λ n. Refused (refusal.TooMany w n)) (sym h.0))
refused_read text _ h = absurd h

pub are_one : ReadingsAreOne
are_one text Blank h = by_tokens text (Tokens []) Blank (pads_are_blank text h) refl
are_one text (Whole s) h = (are_read text h.0 s h.2 h.1 h.3).0 h.4
are_one text (Refused f) h = refused_read text f h
