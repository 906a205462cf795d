-- What a text is read as is so by the grammar, and what is a statement is read.
use Rattle.std.proofs.Common.{◌≡◌, ℕ, zero, suc, ◌-◌, ◌<◌, ◌≤◌, List, [], ◌∷◌, ◌++◌, length, inl}
use Rattle.std.proofs.Common.{inr, refl, sym, ap, ◌∙◌, subst, append_assoc, arith}
use Rattle.prima_base.specs.declared.refusal.What.{What}
use Rattle.lexer_spec.specs.Lexemes.{Lexeme}
use Rattle.lexer_combinators.specs.Parsing.{Out, Parsed, Unexpected, LimitExceeded, Fine}
use Rattle.lexer_combinators.specs.Grammar.{Size}
use Rattle.lexer_combinators.specs.Found.{IsFirst}
use Rattle.lexer_combinators.proofs.OverflowSteps.{back_reads, over_at, overflow_is_over}
use Rattle.script_parse.specs.Statements.{PlainStatement}
use Rattle.script_parse.specs.Lexing.{Placed, Lexed, Tokens, Faulty, lexed, saying}
use Rattle.script_parse.specs.Productions.{IsStatement}
use Rattle.script_parse.specs.StatementReader.{statement, follow_statement}
use Rattle.script_parse.specs.StatementOverflows.{statement_overflows}
use Rattle.script_parse.specs.Reading.{Whole, place, place_before, answered, read_as, reading}
use Rattle.script_parse.specs.Reading.{IsTooMuch, IsWrongAt, IsReading, IsReadAs}
use Rattle.script_parse.specs.Reading.{ReadingsAreOfTheGrammar, StatementsAreRead, LimitsAreKept}
use Rattle.script_parse.specs.Reading.{IsOver}
use Rattle.script_parse.proofs.BlankTexts.{blank_is_pads}
use Rattle.script_parse.proofs.FirstFaults.{within_none, explained, fine, got_all, got_first}
use Rattle.script_parse.proofs.FirstFaults.{stuck_first, stuck_out}
use Rattle.script_parse.proofs.StatementCorrectness.{statement_correct, statement_not_none}
use Rattle.script_parse.proofs.StatementAlong.{statement_reads, statement_sized}

-- ---- places

length_saying : (tokens : List Placed) → length (saying tokens) ≡ length tokens
length_saying [] = refl
length_saying (t ∷ tokens) = ap suc (length_saying tokens)

-- within the list the end does not matter
same_place : (tokens : List Placed) (k m n : ℕ) → k < length tokens
    → place tokens k m ≡ place tokens k n
same_place [] k m n h = absurd (omega (arith, h))
same_place (t ∷ tokens) zero m n h = refl
same_place (t ∷ tokens) (suc k) m n h = same_place tokens k m n (omega (arith, h))

-- after the last token is the end
past_all : (tokens : List Placed) (n : ℕ) → place tokens (length tokens) n ≡ n
past_all [] n = refl
past_all (t ∷ tokens) n = past_all tokens n

pub at_end : (tokens : List Placed) (n : ℕ) → place_before tokens 0 n ≡ n
at_end tokens n = let e : length tokens - 0 ≡ length tokens = omega arith in
    ap (λ k. place tokens k n) e ∙ past_all tokens n

pub wrong_at : (tokens : List Placed) (end left : ℕ)
    → IsFirst IsStatement (saying tokens) (length (saying tokens) - left)
    → IsWrongAt tokens (place_before tokens left end)
wrong_at tokens end left h =
    let P : ℕ → Type 0 = λ n. IsFirst IsStatement (saying tokens) (n - left) in
    let k = subst P (length_saying tokens) h in (
      length tokens - left,
      same_place tokens (length tokens - left) end 0
          (omega (arith, k.0, length_saying tokens)),
      k,
    )

-- ---- what is too much is refused there

pub too_much : (tokens : List Placed) (w : What) → IsTooMuch w tokens → (suffix : List Lexeme)
    × (c : ℕ) × (statement 0 (saying tokens) ≡ LimitExceeded w c suffix)
too_much tokens w h =
    let all = saying tokens in
    let prefix = h.0 in
    let x = h.1 in
    let can = h.4.0 in
    let P : List Lexeme → Type 0 = λ l. IsStatement can.1 can.2 l in
    let g : IsStatement can.1 can.2 (prefix ++ x ∷ can.0) =
    subst P (append_assoc prefix (x ∷ []) can.0) can.3 in
    let over = overflow_is_over statement IsStatement follow_statement statement_correct
    statement_overflows (back_reads statement IsStatement statement_overflows statement_reads)
    statement_sized all w prefix x h.2 h.3 can.0 can.1 can.2 g (h.4.1 can.0 can.1 can.2 g) in
    (x ∷ h.2, over.0, over.1)

-- ---- readings are of the grammar

module _ (text : List ℕ) (t : Placed) (others : List Placed)
    (l : lexed text ≡ Tokens (t ∷ others)) where
  abbrev tokens : List Placed
  tokens = t ∷ others

  got_none : (s : PlainStatement) (m : ℕ) (suffix : List Lexeme)
      → statement 0 (saying tokens) ≡ Parsed s m suffix → (w : What) → IsTooMuch w tokens → ⊥
  got_none s m suffix e w h = let k = too_much tokens w h in
      let z : Parsed s m suffix ≡ LimitExceeded w k.1 k.0 = sym e ∙ k.2 in cc

  stuck_none : (c : ℕ) (suffix : List Lexeme) → statement 0 (saying tokens) ≡ Unexpected c suffix
      → (w : What) → IsTooMuch w tokens → ⊥
  stuck_none c suffix e w h = let k = too_much tokens w h in
      let z : ◌≡◌ {A = Out PlainStatement} (Unexpected c suffix) (LimitExceeded w k.1 k.0) = sym e
      ∙ k.2 in cc

  by_out : (o : Out PlainStatement) → statement 0 (saying tokens) ≡ o
      → IsReading text (answered tokens (length text) o)
  by_out (Parsed s m []) e = let k = got_all statement IsStatement follow_statement
      statement_correct (saying tokens) s m e in (tokens, l, k.0, k.1, k.2)
  by_out (Parsed s m (x ∷ suffix)) e = inr (
    tokens,
    l,
    inl (wrong_at tokens (length text) (length (x ∷ suffix))
        (got_first statement IsStatement follow_statement statement_correct (saying tokens) s m x
        suffix e)),
    got_none s m (x ∷ suffix) e,
  )
  by_out (Unexpected c []) e = inr (
    tokens,
    l,
    inr (
      at_end tokens (length text),
      stuck_out statement IsStatement follow_statement
          statement_correct (saying tokens) c e,
    ),
    stuck_none c [] e,
  )
  by_out (Unexpected c (x ∷ suffix)) e = inr (
    tokens,
    l,
    inl (wrong_at tokens (length text) (length (x ∷ suffix))
        (stuck_first statement IsStatement follow_statement statement_correct (saying tokens) c x
        suffix e)),
    stuck_none c (x ∷ suffix) e,
  )
  by_out (LimitExceeded w c suffix) e = (
    refl,
    tokens,
    l,
    over_at statement IsStatement follow_statement statement_correct statement_overflows
        (back_reads statement IsStatement statement_overflows statement_reads) statement_sized
        (saying tokens) w c suffix e,
  )

by_lexed : (text : List ℕ) (l : Lexed) → lexed text ≡ l → IsReading text (read_as (length text) l)
by_lexed text (Faulty at) e = inl e
by_lexed text (Tokens []) e = blank_is_pads text e
by_lexed text (Tokens (t ∷ others)) e = by_out text t others e (statement 0 (saying (t ∷ others)))
    refl

pub of_the_grammar : ReadingsAreOfTheGrammar
unfolding reading
of_the_grammar text = by_lexed text (lexed text) refl

-- ---- statements are read

module _ (t : Placed) (others : List Placed) (end : ℕ) (s : PlainStatement) (size : Size)
    (g : IsStatement s size (saying (t ∷ others))) where
  abbrev all : List Placed
  all = t ∷ others

  by_fine : (o : Out PlainStatement) → statement 0 (saying all) ≡ o → Fine 32 s size 0 [] o
      → IsReadAs s size (answered all end o)
  by_fine (Parsed b m r) e f = (
    λ h. ap (λ u. answered all end (Parsed b m u)) f.1 ∙ ap Whole f.0,
    λ h. absurd (h (few, f.3)),
  )
    where
      few : size.nodes ≤ 256
      few = let x = explained statement IsStatement follow_statement statement_correct (saying all)
          (Parsed b m r) e in omega (arith, f.2, x.5 (omega arith))
  by_fine (Unexpected c r) e f = absurd f
  by_fine (LimitExceeded w c r) e f = (λ h. absurd (within_none w size h f), λ h. (w, f, refl))

pub are_read : StatementsAreRead
unfolding reading
are_read text [] s size e g = absurd (statement_not_none s size g)
are_read text (t ∷ others) s size e g =
    let h = by_fine t others (length text) s size g (statement 0 (saying (t ∷ others))) refl
    (fine statement IsStatement follow_statement statement_correct (saying (t ∷ others))
    (statement 0 (saying (t ∷ others))) refl s size g) in
    let P : Lexed → Type 0 = λ l. IsReadAs s size (read_as (length text) l) in
    subst P (sym e) h

-- ---- limits are kept

no_prefix : (prefix : List Lexeme) (x : Lexeme) (suffix : List Lexeme) → [] ≡ prefix ++ x ∷ suffix
    → ⊥
no_prefix [] x suffix e = cc
no_prefix (y ∷ prefix) x suffix e = cc

pub are_kept : LimitsAreKept
unfolding reading
are_kept text w [] prefix suffix more x s size h l e f = absurd (no_prefix prefix x suffix e)
are_kept text w (t ∷ others) prefix suffix more x s size h l e f =
    let over = overflow_is_over statement IsStatement follow_statement statement_correct
    statement_overflows (back_reads statement IsStatement statement_overflows statement_reads)
    statement_sized (saying (t ∷ others)) w prefix x suffix e more s size h f in
    let P : Lexed → Type 0 = λ u. IsOver w (read_as (length text) u) in
    let Q : Out PlainStatement → Type 0 = λ o. IsOver w (answered (t ∷ others) (length text) o) in
    subst P (sym l) (subst Q (sym over.1) refl)
