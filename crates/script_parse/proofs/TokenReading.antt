-- What tokens are read as, by where the reader of statements ends in them.
use Rattle.std.proofs.Common.{◌≡◌, ℕ, zero, suc, ◌-◌, ◌<◌, ◌≤◌, List, [], ◌∷◌, length, map}
use Rattle.std.proofs.Common.{slice_index_or, Option, Some, None, Err, Result, refl, sym, ap, ◌∙◌}
use Rattle.std.proofs.Common.{subst, arith, length-append}
use Rattle.prima_base.specs.declared.refusal.Refusal.TheVariants.{Syntax, TooMany}
use Rattle.prima_base.specs.declared.refusal.What.{What}
use Rattle.lexer_spec.specs.declared.fault.LexFault.{LexFault}
use Rattle.lexer_spec.specs.declared.fault.LexFault.TheVariants as lexical
use Rattle.lexer_spec.specs.declared.token.Token.{Token}
use Rattle.lexer_spec.specs.Lexed.{Lexes, Gives as FaultGives}
use Rattle.lexer_spec.specs.Lexemes.{Lexeme, lexeme}
use Rattle.lexer_spec.specs.Spaced.{Spaced}
use Rattle.lexer_combinators.specs.Parsing.{Parsed, Unexpected, LimitExceeded, limit}
use Rattle.lexer_combinators.proofs.Places.{length_map}
use Rattle.script_parse.specs.declared.statement.ReadFault.{ReadFault}
use Rattle.script_parse.specs.declared.statement.ReadFault.TheVariants as fault
use Rattle.script_parse.specs.declared.statement.Statement.{Statement}
use Rattle.script_parse.specs.Statements.{PlainStatement}
use Rattle.script_parse.specs.Lexing.{Placed, Tokens, placed, saying, lexed, fault_place}
use Rattle.script_parse.specs.Reading.{Reading, Blank, Refused, Whole, place, place_before}
use Rattle.script_parse.specs.Reading.{answered, read_as, reading, Gives, IsOfPlace}
use Rattle.script_parse.specs.Productions.{IsStatement}
use Rattle.script_parse.specs.StatementReader.{statement, follow_statement}
use Rattle.script_parse.proofs.FirstFaults.{explained}
use Rattle.script_parse.proofs.StatementCorrectness.{statement_correct}
use Rattle.script_parse.proofs.TextLexing.{texts_are_lexed}

same_says : (list : List Token) → saying (map placed list) ≡ map lexeme list
same_says [] = refl
same_says (t ∷ list) = ap (λ l. lexeme t ∷ l) (same_says list)

as_answered : (list : List Token) (end : ℕ) → 0 < length list
    → read_as end (Tokens (map placed list)) ≡ answered (map placed list) end
    (statement 0 (map lexeme list))
as_answered [] end h = absurd (omega arith)
as_answered (t ∷ list) end h = ap (λ l. answered (map placed (t ∷ list)) end (statement 0 l))
    (same_says (t ∷ list))

answered_all : (tokens : List Placed) (end : ℕ) (s : PlainStatement) (m : ℕ) (rest : List Lexeme)
    → length rest ≡ 0 → answered tokens end (Parsed s m rest) ≡ Whole s
answered_all tokens end s m [] h = refl
answered_all tokens end s m (x ∷ rest) h = absurd (omega (arith, h))

answered_some : (tokens : List Placed) (end : ℕ) (s : PlainStatement) (m : ℕ) (rest : List Lexeme)
    → 0 < length rest → answered tokens end (Parsed s m rest)
    ≡ Refused (Syntax (place_before tokens (length rest) end))
answered_some tokens end s m [] h = absurd (omega arith)
answered_some tokens end s m (x ∷ rest) h = refl

pub no_tokens : (list : List Token) (end : ℕ) → length list ≡ 0
    → Blank ≡ read_as end (Tokens (map placed list))
no_tokens [] end h = refl
no_tokens (t ∷ list) end h = absurd (omega (arith, h))

module _ (list rest : List Token) (end : ℕ) where
  abbrev at : ℕ → ℕ
  at left = place_before (map placed list) left end

  pub got_fits : (s : PlainStatement) (m : ℕ)
      → statement 0 (map lexeme list) ≡ Parsed s m (map lexeme rest) → length rest ≤ length list
  got_fits s m e =
      let h = explained statement IsStatement follow_statement statement_correct (map lexeme list)
      (Parsed s m (map lexeme rest)) e in
      omega (
        arith,
        ap length h.2,
        length-append h.0 (map lexeme rest),
        length_map lexeme list,
        length_map lexeme rest,
      )

  pub stuck_fits : (c : ℕ) → statement 0 (map lexeme list) ≡ Unexpected c (map lexeme rest)
      → length rest ≤ length list
  stuck_fits c e =
      let h = explained statement IsStatement follow_statement statement_correct (map lexeme list)
      (Unexpected c (map lexeme rest)) e in
      omega (
        arith,
        ap length h.1,
        length-append h.0 (map lexeme rest),
        length_map lexeme list,
        length_map lexeme rest,
      )

  module _ (some : 0 < length list) where
    pub got_whole : (s : PlainStatement) (m : ℕ)
        → statement 0 (map lexeme list) ≡ Parsed s m (map lexeme rest) → length rest ≡ 0
        → Whole s ≡ read_as end (Tokens (map placed list))
    got_whole s m e z = sym (as_answered list end some ∙ ap (answered (map placed list) end) e
        ∙ answered_all (map placed list) end s m (map lexeme rest) (length_map lexeme rest ∙ z))

    pub got_more : (s : PlainStatement) (m : ℕ)
        → statement 0 (map lexeme list) ≡ Parsed s m (map lexeme rest) → 0 < length rest → (p : ℕ)
        → p ≡ at (length rest) → Refused (Syntax p) ≡ read_as end (Tokens (map placed list))
    got_more s m e z p q =
        let k : 0 < length (map lexeme rest) = omega (arith, z, length_map lexeme rest) in
        sym (as_answered list end some ∙ ap (answered (map placed list) end) e
        ∙ answered_some (map placed list) end s m (map lexeme rest) k
        ∙ ap (λ n. Refused (Syntax (at n))) (length_map lexeme rest)
        ∙ ap (λ n. Refused (Syntax n)) (sym q))

    pub stuck_there : (c : ℕ) → statement 0 (map lexeme list) ≡ Unexpected c (map lexeme rest)
        → (p : ℕ) → p ≡ at (length rest) → Refused (Syntax p)
        ≡ read_as end (Tokens (map placed list))
    stuck_there c e p q = sym (as_answered list end some ∙ ap (answered (map placed list) end) e
        ∙ ap (λ n. Refused (Syntax (at n))) (length_map lexeme rest)
        ∙ ap (λ n. Refused (Syntax n)) (sym q))

    pub over_there : (w : What) (c : ℕ) → statement 0 (map lexeme list)
        ≡ LimitExceeded w c (map lexeme rest) → (most : ℕ) → most ≡ limit w
        → Refused (TooMany w most) ≡ read_as end (Tokens (map placed list))
    over_there w c e most q = sym (as_answered list end some ∙ ap (answered (map placed list) end) e
        ∙ ap (λ n. Refused (TooMany w n)) (sym q))

-- ---- places

token_place : (list : List Token) (k : ℕ) (d : Token) (n : ℕ) → k < length list
    → (slice_index_or list k d).at ≡ place (map placed list) k n
token_place [] k d n h = absurd (omega (arith, h))
token_place (t ∷ list) zero d n h = refl
token_place (t ∷ list) (suc k) d n h = token_place list k d n (omega (arith, h))

pub token_before : (list : List Token) (left end : ℕ) (d : Token) → 0 < left → left ≤ length list
    → (slice_index_or list (length list - left) d).at ≡ place_before (map placed list) left end
token_before list left end d h k =
    token_place list (length list - left) d end (omega (arith, h, k))
    ∙ ap (λ n. place (map placed list) (n - left) end) (sym (length_map placed list))

-- ---- of a text

pub text_read : (text : List ℕ) (ts : List Token) → Lexes 0 text ts None
    → read_as (length text) (Tokens (map placed ts)) ≡ reading text
unfolding reading
text_read text ts h = ap (read_as (length text)) (sym ((texts_are_lexed text ts).0 h))

pub text_faulty : (text : List ℕ) (f : LexFault) (found : ReadFault)
    → FaultGives f (λ e. (ts : List Token) × Lexes 0 text ts (Some e) × Spaced 0 text ts (Some e))
    → IsOfPlace (fault_place f) found → Gives (reading text) (Err found)
unfolding reading
text_faulty text f found g h = by_fault f g h
  where
    so : (f : LexFault) → (ts : List Token) × Lexes 0 text ts (Some f) × Spaced 0 text ts (Some f)
        → (at : ℕ) → Some at ≡ fault_place f → found ≡ fault.Syntax at
        → Gives (read_as (length text) (lexed text)) (Err found)
    so f k at e q =
        let x = (texts_are_lexed text k.0).1 f k.1 in
        let z : Some at ≡ Some x.0 = e ∙ x.1 in
        let y : at ≡ x.0 = cc in
        let P : ReadFault → Type 0 = λ r. Gives (read_as (length text) (lexed text)) (Err r) in
        subst P (sym q) (ap (λ n. Refused (Syntax n)) y ∙ sym (ap (read_as (length text)) x.2))

    by_fault : (f : LexFault) → FaultGives f (λ e. (ts : List Token) × Lexes 0 text ts (Some e)
        × Spaced 0 text ts (Some e)) → IsOfPlace (fault_place f) found
        → Gives (read_as (length text) (lexed text)) (Err found)
    by_fault lexical.NoMemory k e = let P : ReadFault
        → Type 0 = λ r. Gives (read_as (length text) (lexed text)) (Err r) in subst P (sym e) tt
    by_fault (lexical.BadByte n) k e = so (lexical.BadByte n) k n refl e
    by_fault (lexical.OpenQuote n) k e = so (lexical.OpenQuote n) k n refl e
    by_fault (lexical.BigNumber n) k e = so (lexical.BigNumber n) k n refl e
    by_fault (lexical.LongText n) k e = so (lexical.LongText n) k n refl e

pub text_answer : (text : List ℕ) (ts l : List Token) (found : Result (Option Statement) ReadFault)
    → Lexes 0 text ts None → l ≡ ts → Gives (read_as (length text) (Tokens (map placed l))) found
    → Gives (reading text) found
text_answer text ts l found h e g =
    let P : List Token → Type 0 = λ u. Gives (read_as (length text) (Tokens (map placed u)))
    found in
    let Q : Reading → Type 0 = λ r. Gives r found in
    subst Q (text_read text ts h) (subst P e g)
