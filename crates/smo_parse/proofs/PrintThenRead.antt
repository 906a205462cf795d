-- Reading the tokens of an operator's text gives the operator.
use Rattle.std.proofs.Common.{◌≡◌, ℕ, zero, suc, ◌+◌, ◌-◌, ◌≤◌, max, List, [], ◌∷◌, length, map}
use Rattle.std.proofs.Common.{take, drop, Result, Ok, Err, refl, sym, ap, ◌∙◌, subst, append-nil}
use Rattle.std.proofs.Common.{arith}
use Rattle.std.proofs.Math.Nat.{max-le}
use Rattle.prima_base.specs.declared.refusal.What.{What}
use Rattle.prima_base.specs.declared.refusal.What.TheVariants as what
use Rattle.smo_ops_types.specs.declared.op.Op.{Op}
use Rattle.smo_ops_types.specs.Operators.{Operator, operator_of}
use Rattle.lexer_spec.specs.declared.token.Token.{Token}
use Rattle.lexer_spec.specs.declared.kind.TokenKind.{TokenKind}
use Rattle.lexer_spec.specs.declared.kind.TokenKind.TheVariants.{Word, Number, Text, Sign}
use Rattle.lexer_spec.specs.declared.scan_of.Scanned.TheVariants.{Of}
use Rattle.lexer_combinators.specs.declared.fault.ParseFault.{ParseFault}
use Rattle.lexer_combinators.specs.declared.fault.ParseFault.TheVariants as fault
use Rattle.lexer_spec.specs.Bytes.{scan_of}
use Rattle.lexer_spec.specs.Lexemes.{Lexeme, says, lexeme}
use Rattle.lexer_combinators.specs.Parsing.{Out, Parsed, Unexpected, LimitExceeded, Fine, Exceeds}
use Rattle.lexer_combinators.specs.Parsing.{Valid as WithinLimits, limit}
use Rattle.lexer_combinators.specs.Grammar.{Size}
use Rattle.lexer_combinators.specs.Found.{IsRead, AnswersAs, lexemes_from}
use Rattle.lexer_spec.proofs.Valid.{named, texted}
use Rattle.smo_parse.specs.Productions.{IsOperator}
use Rattle.smo_parse.specs.OperatorReader.{operator}
use Rattle.smo_parse.specs.Texts.{operator_text}
use Rattle.smo_parse.specs.Printed.{tree_depth, IsWhole, IsReadAgain}
use Rattle.smo_parse.proofs.OperatorCorrectness.{operator_correct}
use Rattle.smo_parse.proofs.Spelled.{has_tokens}
use Rattle.smo_parse.proofs.PrintedTrees.{Valid, AllValid}
use Rattle.smo_parse.proofs.PrintedOperators.{operator_prints}

-- ---- tokens say what is valid

token_valid : (kind : TokenKind) (bytes : List ℕ) → scan_of bytes ≡ Of kind (length bytes)
    → Valid (says kind bytes)
token_valid Word bytes e = λ ok. named Word bytes e refl ok
token_valid Number bytes e = tt
token_valid Text bytes e = (texted bytes e).1
token_valid Sign bytes e = tt

pub all_valid : (ts : List Token) → AllValid (map lexeme ts)
all_valid [] = tt
all_valid (t ∷ ts) = (token_valid t.kind t.text.now t.whole, all_valid ts)

valid_prefix : (n : ℕ) (f : List Lexeme) → AllValid f → AllValid (take n f)
valid_prefix zero f h = tt
valid_prefix (suc n) [] h = tt
valid_prefix (suc n) (x ∷ f) h = (h.0, valid_prefix n f h.1)

-- ---- what is within the limits is read

not_over : (w : What) (s : Size) → s.nodes ≤ 256 → s.depth ≤ 32 → ((v : What) → s.wide v ≤ limit v)
    → Exceeds w 0 32 s → ⊥
not_over what.Nodes s few shallow narrow h = let k : max (0 + s.nodes) (s.wide what.Nodes) ≤ 256 =
    max-le (omega (arith, few)) (narrow what.Nodes) in omega (arith, h, k)
not_over what.Depth s few shallow narrow h = omega (arith, h, shallow)
not_over what.Parts s few shallow narrow h = omega (arith, h, narrow what.Parts)
not_over what.Tables s few shallow narrow h = omega (arith, h, narrow what.Tables)
not_over what.Branches s few shallow narrow h = omega (arith, h, narrow what.Branches)
not_over what.Outputs s few shallow narrow h = omega (arith, h, narrow what.Outputs)
not_over what.Keeps s few shallow narrow h = omega (arith, h, narrow what.Keeps)
not_over what.Changes s few shallow narrow h = omega (arith, h, narrow what.Changes)
not_over what.Columns s few shallow narrow h = omega (arith, h, narrow what.Columns)
not_over what.Inverse s few shallow narrow h = omega (arith, h, narrow what.Inverse)
not_over what.Versions s few shallow narrow h = omega (arith, h, narrow what.Versions)

pub got : (o : Operator) (s : Size) (out : Out Operator) → s.nodes ≤ 256 → s.depth ≤ 32
    → ((v : What) → s.wide v ≤ limit v) → Fine 32 o s 0 [] out → (m : ℕ) × (out ≡ Parsed o m [])
got o s (Parsed b m rest) few shallow narrow h =
    (m, ap (λ x. Parsed x m rest) h.0 ∙ ap (Parsed o m) h.1)
got o s (Unexpected m rest) few shallow narrow h = absurd h
got o s (LimitExceeded w m rest) few shallow narrow h = absurd (not_over w s few shallow narrow h)

-- ---- and so does whatever call reads operators

none_after : (ts : List Token) (n : ℕ) → map lexeme (drop n ts) ≡ [] → length ts ≤ n
none_after [] n e = omega arith
none_after (t ∷ ts) zero e = let z : lexeme t ∷ map lexeme ts ≡ [] = e in cc
none_after (t ∷ ts) (suc n) e = omega (arith, none_after ts n e)

same_got : (a b : Operator) (m n : ℕ) (f g : List Lexeme) → Parsed a m f ≡ Parsed b n g → (a ≡ b)
    × (f ≡ g)
same_got a b m n f g e = (cc, cc)

whole : (o : Operator) (m : ℕ) (ts : List Token) (r : Result (Op × ℕ) ParseFault)
    → operator 0 (lexemes_from ts 0) ≡ Parsed o m [] → IsRead operator_of IsOperator ts 0 r
    → AnswersAs operator_of (operator 0 (lexemes_from ts 0)) ts r → IsWhole o (length ts) r
whole o m ts (Ok r) e h k =
    let s = same_got (operator_of r.0) o k.0 m (lexemes_from ts r.1) [] (sym k.1 ∙ e) in
    (s.0, omega (arith, h.1, none_after ts r.1 s.1))
whole o m ts (Err fault.NoMemory) e h k = tt
whole o m ts (Err (fault.Syntax at)) e h k = let z : Unexpected k.3 (lexemes_from ts k.0)
    ≡ Parsed o m [] = sym k.4 ∙ e in cc
whole o m ts (Err fault.RanOut) e h k = let z : Unexpected k.0 (lexemes_from ts (length ts))
    ≡ Parsed o m [] = sym k.1 ∙ e in cc
whole o m ts (Err (fault.TooMany w most)) e h k =
    let z : LimitExceeded w k.3 (lexemes_from ts k.1) ≡ Parsed o m [] = sym k.4 ∙ e in cc

-- ---- print, then read

read_again : (o : Operator) (s : Size) (f : List Lexeme) → AllValid f → IsOperator o s f
    → s.nodes ≤ 256 → WithinLimits 32 s → tree_depth o ≤ 32 → IsReadAgain o
read_again o s f valid h few within deep = λ ts e l.
    let p = operator_prints o s f valid few within.1 deep h in
    let k = has_tokens p.prefix (operator_text o) p.spells 0 ts e l in
    let P : List Lexeme → Type 0 = λ x. Fine 32 o p.size 0 [] (operator 0 x) in
    let fine : Fine 32 o p.size 0 [] (operator 0 (lexemes_from ts 0)) =
    subst P (append-nil p.prefix ∙ sym k.0)
    (operator_correct.complete 0 (omega arith) o p.size p.prefix [] p.same tt) in
    let g = got o p.size (operator 0 (lexemes_from ts 0)) p.few p.shallow p.narrow fine in
    (k.1, g, λ r i j. whole o g.0 ts r g.1 i j)

pub printed_is_read : (o : Operator) (s : Size) (list : List Token)
    → IsOperator o s (map lexeme list) → s.nodes ≤ 256 → WithinLimits 32 s → tree_depth o ≤ 32
    → IsReadAgain o
printed_is_read o s list h few within deep = read_again o s (map lexeme list) (all_valid list) h few
    within deep

pub given_is_read : (list : List Token) (from : ℕ) (op : Op) (place : ℕ)
    → IsRead operator_of IsOperator list from (Ok (op, place)) → tree_depth (operator_of op) ≤ 32
    → IsReadAgain (operator_of op)
given_is_read list from op place h deep =
    read_again (operator_of op) h.2 (take (place - from) (lexemes_from list from))
    (valid_prefix (place - from) (lexemes_from list from) (all_valid (drop from list))) h.3 h.4
    h.5 deep
