-- The constants of what is read are valid: those of tokens are.
use Rattle.std.proofs.Common.{◌+◌, ◌≡◌, ◌≤◌, ℕ, zero, suc, Bool, true, List, [], ◌∷◌, ◌++◌, length}
use Rattle.std.proofs.Common.{take, drop, refl, sym, ap, subst, ◌∙◌, inl, inr, arith}
use Rattle.std.specs.Prelude.{ℤ, pos, negsuc, false, ⊤, codes}
use Rattle.std.proofs.lemmas.Bool.Decides.{nat_tests}
use Rattle.std.proofs.lemmas.Int.{ints}
use Rattle.std.proofs.lemmas.List.{length-take-le, length-append}
use Rattle.relations_spec.specs.Sets.{In}
use Rattle.relations_spec.proofs.SetLaws.{in_left, in_right}
use Rattle.prima_base.specs.Bytes.{IsTxt}
use Rattle.prima_base.specs.Columns.{IsValid}
use Rattle.prima_base.specs.declared.value.Value.TheVariants.{Int}
use Rattle.cond_expr.specs.Trees.{Tree, Test}
use Rattle.cond_expr.specs.Seen.{trees_of, tests_of}
use Rattle.piece_ir_spec.specs.Constants.{ValidInTree, ValidInTrees, ValidInTest, ValidInTests}
use Rattle.lexer_spec.specs.declared.kind.TokenKind.{TokenKind}
use Rattle.lexer_spec.specs.declared.kind.TokenKind.TheVariants.{Word, Number, Text, Sign}
use Rattle.lexer_spec.specs.declared.scan_of.Scanned.{Scanned}
use Rattle.lexer_spec.specs.declared.scan_of.Scanned.TheVariants.{End, Of, Bad, Open, Long}
use Rattle.lexer_spec.specs.declared.scan_of.Scanned.TheVariants.{Big}
use Rattle.lexer_spec.specs.Bytes.{gap_len, scan_of}
use Rattle.lexer_spec.specs.Lexed.{after_gap}
use Rattle.lexer_spec.specs.Lexemes.{Lexeme, word, number, text, sign, says, is_int}
use Rattle.lexer_spec.proofs.WholeTokens.{again}
use Rattle.lexer_spec.proofs.Shapes.{shape}
use Rattle.lexer_spec.proofs.Valid.{texted}
use Rattle.lexer_combinators.specs.Grammar.{Size}
use Rattle.lexer_trees_spec.specs.Grammar as g
use Rattle.lexer_trees_spec.specs.Grammar.{comparison_lexeme, IsExpr, AreParts, IsFact, AreFacts}
use Rattle.lexer_trees_spec.specs.Grammar.{IsConj}
use Rattle.lexer_trees_spec.specs.Grammar.{AreConjs, IsCond}
use Rattle.script_parse.specs.Lexing.{Placed, a_token, Lexed, Tokens, Faulty, after_token}
use Rattle.script_parse.specs.Lexing.{by_scanned}
use Rattle.script_parse.specs.Lexing.{lexed_from, saying}

-- ---- tokens

abbrev pub ValidLexeme : Lexeme → Type 0
ValidLexeme (word w) = ⊤
ValidLexeme (number z) = ⊤
ValidLexeme (text t) = IsTxt t
ValidLexeme (sign s) = ⊤

pub record AllValid (ts : List Lexeme) : Type 0 where
  pub each : (x : Lexeme) → In x ts → ValidLexeme x

text_valid : (n : ℕ) (bytes : List ℕ) → scan_of bytes ≡ Of Text n
    → ValidLexeme (says Text (take n bytes))
text_valid n bytes e =
    let h = shape bytes Text n e in
    let few : n ≤ length bytes = (let a = ap length h.2 ∙ length-append h.0 h.1 in let b = h.3 in
    omega (arith, a, b)) in
    let whole : n ≡ length (take n bytes) = sym (length-take-le n bytes few) in
    (texted (take n bytes) (again bytes Text n e ∙ ap (Of Text) whole)).1

token_valid : (kind : TokenKind) (n : ℕ) (bytes : List ℕ) → scan_of bytes ≡ Of kind n
    → ValidLexeme (says kind (take n bytes))
token_valid Word n bytes e = tt
token_valid Number n bytes e = tt
token_valid Text n bytes e = text_valid n bytes e
token_valid Sign n bytes e = tt

abbrev pub TokensValid : Lexed → Type 0
TokensValid (Tokens ts) = AllValid (saying ts)
TokensValid (Faulty at) = ⊤

one_valid : (t : Lexeme) (ts : List Lexeme) → ValidLexeme t → AllValid ts → (x : Lexeme)
    → In x (t ∷ ts) → ValidLexeme x
one_valid t ts h k x (inl e) = subst ValidLexeme e h
one_valid t ts h k x (inr m) = k.each x m

none_valid : AllValid []
none_valid = record { each = λ x m. absurd m }

one_more : (t : Placed) (l : Lexed) → ValidLexeme t.says → TokensValid l
    → TokensValid (after_token t l)
one_more t (Tokens ts) h k = record { each = one_valid t.says (saying ts) h k }
one_more t (Faulty at) h k = tt

pub lexed_valid : (n at : ℕ) (bytes : List ℕ) → TokensValid (lexed_from n at bytes)
unfolding lexed_from
lexed_valid zero at bytes = none_valid
lexed_valid (suc n) at bytes = step (λ k. lexed_valid n (at + gap_len false 0 bytes + k)
    (drop k (after_gap bytes))) (scan_of (after_gap bytes)) refl
  where
    step : ((k : ℕ) → TokensValid (lexed_from n (at + gap_len false 0 bytes + k)
        (drop k (after_gap bytes)))) → (p : Scanned) → scan_of (after_gap bytes) ≡ p
        → TokensValid (by_scanned (at + gap_len false 0 bytes) (after_gap bytes) (lexed_from n) p)
    step more End e = none_valid
    step more (Of kind k) e =
        one_more (a_token kind (take k (after_gap bytes)) (at + gap_len false 0 bytes))
        (lexed_from n (at + gap_len false 0 bytes + k) (drop k (after_gap bytes)))
        (token_valid kind k (after_gap bytes) e) (more k)
    step more (Bad k) e = tt
    step more Open e = tt
    step more Long e = tt
    step more Big e = tt

-- ---- trees

int_valid : (z : ℤ) → is_int z ≡ true → IsValid (Int z)
int_valid (pos n) e = (let l : n ≤ 9223372036854775807 = grind (arith, nat_tests) in
    (omega (arith, ints, l), omega (arith, ints, l)))
int_valid (negsuc n) e = (let l : n ≤ 9223372036854775807 = grind (arith, nat_tests) in
    (omega (arith, ints, l), omega (arith, ints, l)))

abbrev OPEN : Lexeme
OPEN = sign (codes "(")

abbrev CLOSE : Lexeme
CLOSE = sign (codes ")")

abbrev COMMA : Lexeme
COMMA = sign (codes ",")

abbrev LENGTH : Lexeme
LENGTH = word (codes "LENGTH")

abbrev CONCAT : Lexeme
CONCAT = word (codes "CONCAT")

abbrev CASE : Lexeme
CASE = word (codes "CASE")

abbrev WHEN : Lexeme
WHEN = word (codes "WHEN")

abbrev THEN : Lexeme
THEN = word (codes "THEN")

abbrev ELSE : Lexeme
ELSE = word (codes "ELSE")

abbrev END : Lexeme
END = word (codes "END")

abbrev NOT : Lexeme
NOT = word (codes "NOT")

abbrev AND : Lexeme
AND = word (codes "AND")

abbrev OR : Lexeme
OR = word (codes "OR")

pub after : (x : Lexeme) (ts : List Lexeme) → AllValid (x ∷ ts) → AllValid ts
after x ts h = record { each = λ y m. h.each y (inr m) }

after_two : (x y : Lexeme) (ts : List Lexeme) → AllValid (x ∷ y ∷ ts) → AllValid ts
after_two x y ts h = record { each = λ z m. h.each z (inr (inr m)) }

pub prefix : (ts us : List Lexeme) → AllValid (ts ++ us) → AllValid ts
prefix ts us h = record { each = λ y m. h.each y (in_left y ts us m) }

pub back : (ts us : List Lexeme) → AllValid (ts ++ us) → AllValid us
back ts us h = record { each = λ y m. h.each y (in_right y ts us m) }

mutual
  pub expr_valid : (q : Bool) (t : Tree) (s : Size) (ts : List Lexeme) → AllValid ts
      → IsExpr q t s ts → ValidInTree t
  expr_valid q t s ts l (g.an_int p z e) = int_valid z e
  expr_valid q t s ts l (g.a_text p v) = l.each (text v) (inl refl)
  expr_valid q t s ts l (g.of_atom n e) = tt
  expr_valid q t s ts l (g.of_free n e) = tt
  expr_valid q t s ts l (g.of_alias a n d e) = tt
  expr_valid q t s ts l (g.a_length p x u k h) =
      expr_valid p x u k (prefix k (CLOSE ∷ []) (after_two LENGTH OPEN (k ++ CLOSE ∷ []) l)) h
  expr_valid q t s ts l (g.a_concat p x xs u v k m h hs) =
      let r = after_two CONCAT OPEN (k ++ (m ++ CLOSE ∷ [])) l in (
        expr_valid p x u k (prefix k (m ++ CLOSE ∷ []) r) h,
        parts_valid p 1 xs v m (prefix m (CLOSE ∷ []) (back k (m ++ CLOSE ∷ []) r)) hs,
      )
  expr_valid q t s ts l (g.a_case p c a b u v w k m o hc ha hb) =
      let last : List Lexeme = ELSE ∷ (o ++ END ∷ []) in
      let later : List Lexeme = THEN ∷ (m ++ ELSE ∷ (o ++ END ∷ [])) in
      let r = after_two CASE WHEN (k ++ later) l in
      let r2 = after THEN (m ++ last) (back k later r) in
      let r3 = after ELSE (o ++ END ∷ []) (back m last r2) in (
        cond_valid p c u k (prefix k later r) hc,
        expr_valid p a v m (prefix m last r2) ha,
        expr_valid p b w o (prefix o (END ∷ []) r3) hb,
      )

  parts_valid : (q : Bool) (j : ℕ) (xs : List Tree) (s : Size) (ts : List Lexeme) → AllValid ts
      → AreParts q j xs s ts → ValidInTrees (trees_of xs)
  parts_valid q j xs s ts l (g.no_part p i) = tt
  parts_valid q j xs s ts l (g.a_part p i x others u v k m h hs) =
      let r = after COMMA (k ++ m) l in
      (expr_valid p x u k (prefix k m r) h, parts_valid p (i + 1) others v m (back k m r) hs)

  fact_valid : (q : Bool) (c : Test) (s : Size) (ts : List Lexeme) → AllValid ts → IsFact q c s ts
      → ValidInTest c
  fact_valid q c s ts l (g.negated p d u k h) = fact_valid p d u k (after NOT k l) h
  fact_valid q c s ts l (g.bracketed p d u k h) =
      cond_valid p d u k (prefix k (CLOSE ∷ []) (after OPEN (k ++ CLOSE ∷ []) l)) h
  fact_valid q c s ts l (g.truth p) = tt
  fact_valid q c s ts l (g.falsehood p) = tt
  fact_valid q c s ts l (g.comparison p o a b u v k m ha hb) = (
    expr_valid p a u k (prefix k (comparison_lexeme o ∷ m) l) ha,
    expr_valid p b v m (after (comparison_lexeme o) m (back k (comparison_lexeme o ∷ m) l)) hb,
  )

  facts_valid : (q : Bool) (cs : List Test) (s : Size) (ts : List Lexeme) → AllValid ts
      → AreFacts q cs s ts → ValidInTests (tests_of cs)
  facts_valid q cs s ts l (g.no_fact p) = tt
  facts_valid q cs s ts l (g.a_fact p c others u v k m h hs) =
      let r = after AND (k ++ m) l in
      (fact_valid p c u k (prefix k m r) h, facts_valid p others v m (back k m r) hs)

  conj_valid : (q : Bool) (c : Test) (s : Size) (ts : List Lexeme) → AllValid ts → IsConj q c s ts
      → ValidInTest c
  conj_valid q c s ts l (g.one_fact p d u k h) = fact_valid p d u k l h
  conj_valid q c s ts l (g.an_and p d e others u v w k m o h i hs) =
      let r = after AND (m ++ o) (back k (AND ∷ (m ++ o)) l) in (
        fact_valid p d u k (prefix k (AND ∷ (m ++ o)) l) h,
        (fact_valid p e v m (prefix m o r) i, facts_valid p others w o (back m o r) hs),
      )

  conjs_valid : (q : Bool) (cs : List Test) (s : Size) (ts : List Lexeme) → AllValid ts
      → AreConjs q cs s ts → ValidInTests (tests_of cs)
  conjs_valid q cs s ts l (g.no_conj p) = tt
  conjs_valid q cs s ts l (g.a_conj p c others u v k m h hs) =
      let r = after OR (k ++ m) l in
      (conj_valid p c u k (prefix k m r) h, conjs_valid p others v m (back k m r) hs)

  pub cond_valid : (q : Bool) (c : Test) (s : Size) (ts : List Lexeme) → AllValid ts
      → IsCond q c s ts → ValidInTest c
  cond_valid q c s ts l (g.one_conj p d u k h) = conj_valid p d u k l h
  cond_valid q c s ts l (g.an_or p d e others u v w k m o h i hs) =
      let r = after OR (m ++ o) (back k (OR ∷ (m ++ o)) l) in (
        conj_valid p d u k (prefix k (OR ∷ (m ++ o)) l) h,
        (conj_valid p e v m (prefix m o r) i, conjs_valid p others w o (back m o r) hs),
      )
