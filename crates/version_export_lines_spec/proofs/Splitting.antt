-- What spells lexemes holds no `;` outside texts, opens no comment and closes its texts: so the
-- splitter cuts a script into the lines of which it was made.
use Rattle.std.specs.Prelude.{◌≡◌, ◌≤◌, ◌<◌, ◌==◌, ◌||◌, ℕ, pos, negsuc, suc, Bool, true, false}
use Rattle.std.specs.Prelude.{cond}
use Rattle.std.specs.Prelude.{List, [], ◌∷◌, ◌++◌, length, codes, nat_le, decimal}
use Rattle.std.proofs.Common.{refl, sym, ap, subst, ◌∙◌, arith, append_assoc}
use Rattle.std.proofs.lemmas.Bool.Decides.{nat_tests}
use Rattle.std.specs.Str.{bytes_eq}
use Rattle.prima_base.specs.Bytes.{is_name_byte, is_digit}
use Rattle.lexer_spec.specs.Spaced.{Each as EachByte}
use Rattle.lexer_spec.specs.Lexemes.{Lexeme, word, number, text, sign, is_one_of}
use Rattle.lexer_spec.proofs.Cases.{true_false}
use Rattle.lexer_spec.proofs.WholeTokens.{or_true}
use Rattle.lexer_spec.proofs.LexemeTests.{sign_exact}
use Rattle.smo_ops_types.specs.Commands.{PlainCommand}
use Rattle.smo_parse.specs.TreeTexts.{doubled}
use Rattle.smo_parse.proofs.Spellings.{written, Writable, signs, name_is_bytes, number_is_digits}
use Rattle.smo_parse.proofs.Spelled.{Spells, none, a_space, a_token, an_open, a_point}
use Rattle.script_parse.specs.declared.mode.Mode.{Mode}
use Rattle.script_parse.specs.declared.mode.Mode.TheVariants.{Plain, Dash, Quoted, Comment}
use Rattle.script_parse.specs.declared.splitter.Tail.TheVariants.{Clean}
use Rattle.script_parse.specs.Script.{next, is_end, mode_after, statements_of, tail_of, ending}
use Rattle.script_parse.specs.Joining.{joined, has_end, IsTail, IsStatement, Each}
use Rattle.script_parse.proofs.Joins.{statements_again, tail_again}
use Rattle.version_export_lines_spec.specs.Lines.{command_text, script}

-- ---- bytes from one mode to another, with no end on the way

pub record Leads (from : Mode) (bytes : List ℕ) (to : Mode) : Type 0 where
  pub open_ended : has_end from bytes ≡ false
  pub leaves : mode_after from bytes ≡ to

nothing_leads : (m : Mode) → Leads m [] m
nothing_leads m = record { open_ended = refl; leaves = refl }

byte_leads : (m k l : Mode) (b : ℕ) (bytes : List ℕ) → is_end m b ≡ false → next m b ≡ k
    → Leads k bytes l → Leads m (b ∷ bytes) l
byte_leads m k l b bytes e n h = record {
  open_ended = ap (λ t. t || has_end (next m b) bytes) e
      ∙ ap (λ x. has_end x bytes) n ∙ h.open_ended;
  leaves = ap (λ x. mode_after x bytes) n ∙ h.leaves;
}

both_lead : (m k l : Mode) (a b : List ℕ) → Leads m a k → Leads k b l → Leads m (a ++ b) l
both_lead m k l [] b h g = subst (λ (x : Mode). Leads x b l) (sym (h.leaves)) g
both_lead m k l (x ∷ a) b h g = step (is_end m x) refl h.open_ended
    (λ rest. both_lead (next m x) k l a b (record { open_ended = rest; leaves = h.leaves }) g)
  where
    step : (t : Bool) → is_end m x ≡ t → (t || has_end (next m x) a) ≡ false
        → (has_end (next m x) a ≡ false → Leads (next m x) (a ++ b) l)
        → Leads m (x ∷ (a ++ b)) l
    step true e o more = absurd (cc)
    step false e o more = byte_leads m (next m x) l x (a ++ b) e refl (more o)

-- ---- plain bytes

-- no quote, no dash and no `;`
plain_byte : (b : ℕ) → (b == 39) ≡ false → (b == 45) ≡ false → next Plain b ≡ Plain
plain_byte b q d = ap (λ t. cond t Quoted (cond (b == 45) Dash Plain)) q
    ∙ ap (λ t. cond t Dash Plain) d

after_dash : (b : ℕ) → (b == 39) ≡ false → (b == 45) ≡ false → next Dash b ≡ Plain
after_dash b q d = ap (λ t. cond t Quoted (cond (b == 45) Comment Plain)) q
    ∙ ap (λ t. cond t Comment Plain) d

name_no_quote : (b : ℕ) → is_name_byte b ≡ true → (b == 39) ≡ false
name_no_quote b e = grind (arith, nat_tests)

name_no_dash : (b : ℕ) → is_name_byte b ≡ true → (b == 45) ≡ false
name_no_dash b e = grind (arith, nat_tests)

name_no_end : (b : ℕ) → is_name_byte b ≡ true → (b == 59) ≡ false
name_no_end b e = grind (arith, nat_tests)

digit_no_quote : (b : ℕ) → is_digit b ≡ true → (b == 39) ≡ false
digit_no_quote b e = grind (arith, nat_tests)

digit_no_dash : (b : ℕ) → is_digit b ≡ true → (b == 45) ≡ false
digit_no_dash b e = grind (arith, nat_tests)

digit_no_end : (b : ℕ) → is_digit b ≡ true → (b == 59) ≡ false
digit_no_end b e = grind (arith, nat_tests)

name_leads : (w : List ℕ) → EachByte is_name_byte w → Leads Plain w Plain
name_leads [] h = nothing_leads Plain
name_leads (b ∷ w) h = byte_leads Plain Plain Plain b w (name_no_end b h.0)
    (plain_byte b (name_no_quote b h.0) (name_no_dash b h.0)) (name_leads w h.1)

digits_lead : (w : List ℕ) → EachByte is_digit w → Leads Plain w Plain
digits_lead [] h = nothing_leads Plain
digits_lead (b ∷ w) h = byte_leads Plain Plain Plain b w (digit_no_end b h.0)
    (plain_byte b (digit_no_quote b h.0) (digit_no_dash b h.0)) (digits_lead w h.1)

minus_leads : (w : List ℕ) → EachByte is_digit w → 0 < length w → Leads Plain (45 ∷ w) Plain
minus_leads [] h some = absurd (omega (arith, some))
minus_leads (b ∷ w) h some = byte_leads Plain Dash Plain 45 (b ∷ w) refl refl
    (byte_leads Dash Plain Plain b w (digit_no_end b h.0)
    (after_dash b (digit_no_quote b h.0) (digit_no_dash b h.0)) (digits_lead w h.1))

-- ---- texts

quoted_byte : (b : ℕ) → (b == 39) ≡ false → next Quoted b ≡ Quoted
quoted_byte b q = ap (λ t. cond t Plain Quoted) q

inside_leads : (t : List ℕ) → Leads Quoted (doubled t) Quoted
inside_leads [] = nothing_leads Quoted
inside_leads (b ∷ t) = step (inside_leads t) (b == 39) refl
  where
    step : Leads Quoted (doubled t) Quoted → (v : Bool) → (b == 39) ≡ v
        → Leads Quoted (cond v (39 ∷ 39 ∷ doubled t) (b ∷ doubled t)) Quoted
    step more true e = byte_leads Quoted Plain Quoted 39 (39 ∷ doubled t) refl refl
        (byte_leads Plain Quoted Quoted 39 (doubled t) refl refl more)
    step more false e = byte_leads Quoted Quoted Quoted b (doubled t) refl (quoted_byte b e) more

text_leads : (t : List ℕ) → Leads Plain (39 ∷ (doubled t ++ 39 ∷ [])) Plain
text_leads t = byte_leads Plain Quoted Plain 39 (doubled t ++ 39 ∷ []) refl refl
    (both_lead Quoted Quoted Plain (doubled t) (39 ∷ []) (inside_leads t)
    (byte_leads Quoted Plain Plain 39 [] refl refl (nothing_leads Plain)))

-- ---- signs

sign_leads : (s : List ℕ) → is_one_of signs s ≡ true → Leads Plain s Plain
sign_leads s h =
    or_true (bytes_eq s (codes "(")) _ h (at (codes "(") (now1 40 refl refl)) (λ h.
    or_true (bytes_eq s (codes ")")) _ h (at (codes ")") (now1 41 refl refl)) (λ h.
    or_true (bytes_eq s (codes ",")) _ h (at (codes ",") (now1 44 refl refl)) (λ h.
    or_true (bytes_eq s (codes ".")) _ h (at (codes ".") (now1 46 refl refl)) (λ h.
    or_true (bytes_eq s (codes "=")) _ h (at (codes "=") (now1 61 refl refl)) (λ h.
    or_true (bytes_eq s (codes "<>")) _ h (at (codes "<>") (now2 60 62 refl refl refl refl)) (λ h.
    or_true (bytes_eq s (codes "<")) _ h (at (codes "<") (now1 60 refl refl)) (λ h.
    or_true (bytes_eq s (codes "<=")) _ h (at (codes "<=") (now2 60 61 refl refl refl refl)) (λ h.
    or_true (bytes_eq s (codes ">")) _ h (at (codes ">") (now1 62 refl refl)) (λ h.
    or_true (bytes_eq s (codes ">=")) _ h (at (codes ">=") (now2 62 61 refl refl refl refl))
    (λ h. true_false (sym h)))))))))))
  where
    now1 : (a : ℕ) → is_end Plain a ≡ false → next Plain a ≡ Plain → Leads Plain (a ∷ []) Plain
    now1 a e n = byte_leads Plain Plain Plain a [] e n (nothing_leads Plain)

    now2 : (a b : ℕ) → is_end Plain a ≡ false → next Plain a ≡ Plain → is_end Plain b ≡ false
        → next Plain b ≡ Plain → Leads Plain (a ∷ b ∷ []) Plain
    now2 a b e n f o = byte_leads Plain Plain Plain a (b ∷ []) e n (now1 b f o)

    at : (w : List ℕ) → Leads Plain w Plain → bytes_eq s w ≡ true → Leads Plain s Plain
    at w l e = subst (λ (x : Lexeme). Leads Plain (written x) Plain)
        (sym (sign_exact w (sign s) e)) l

-- ---- lexemes

written_leads : (x : Lexeme) → Writable x → Leads Plain (written x) Plain
written_leads (word w) h = name_leads w (name_is_bytes w h)
written_leads (number (pos n)) h = digits_lead (decimal n) (number_is_digits n h).0
written_leads (number (negsuc n)) h =
    let k = number_is_digits (suc n) (more n h) in
    minus_leads (decimal (suc n)) k.0 k.1
  where
    more : (n : ℕ) → nat_le n 9223372036854775807 ≡ true
        → nat_le (suc n) 18446744073709551615 ≡ true
    more n h = (let l : n ≤ 9223372036854775807 = grind (arith, nat_tests, h) in
        grind (arith, nat_tests, l))
written_leads (text t) h = text_leads t
written_leads (sign s) h = sign_leads s h

pub spells_lead : (f : List Lexeme) (bytes : List ℕ) → Spells f bytes → Leads Plain bytes Plain
spells_lead f bytes none = nothing_leads Plain
spells_lead f bytes (a_space g rest s) = byte_leads Plain Plain Plain 32 rest refl refl
    (spells_lead g rest s)
spells_lead f bytes (a_token x g rest w z s) = both_lead Plain Plain Plain (written x) rest
    (written_leads x w) (spells_lead g rest s)
spells_lead f bytes (an_open g rest s) = byte_leads Plain Plain Plain 40 rest refl refl
    (spells_lead g rest s)
spells_lead f bytes (a_point g rest s) = byte_leads Plain Plain Plain 46 rest refl refl
    (spells_lead g rest s)

-- ---- the script

pub leads_statement : (bytes : List ℕ) → Leads Plain bytes Plain → IsStatement bytes
leads_statement bytes h = record {
  whole = h.open_ended;
  closed = ap (λ m. is_end m 59) h.leaves;
}

after_line : (bytes : List ℕ) → Leads Plain bytes Plain → Leads Plain (10 ∷ bytes) Plain
after_line bytes h = byte_leads Plain Plain Plain 10 bytes refl refl h

-- the texts of lines after an LF
abbrev pub later_texts : List PlainCommand → List (List ℕ)
later_texts [] = []
later_texts (c ∷ commands) = (10 ∷ command_text c) ∷ later_texts commands

-- the statements of a script: the first one, and the others, each after an LF
abbrev pub texts_in : List PlainCommand → List (List ℕ)
texts_in [] = []
texts_in (c ∷ commands) = command_text c ∷ later_texts commands

abbrev pub rest_in : List PlainCommand → List ℕ
rest_in [] = []
rest_in (c ∷ commands) = 10 ∷ []

-- each of the commands has a text that spells some lexemes
abbrev pub AllLead : List PlainCommand → Type 0
AllLead [] = Unit {0}
AllLead (c ∷ commands) = Leads Plain (command_text c) Plain × AllLead commands

later_joined : (commands : List PlainCommand)
    → 10 ∷ script commands ≡ joined (later_texts commands) (10 ∷ [])
later_joined [] = refl
later_joined (c ∷ commands) = ap (λ l. 10 ∷ l)
    (append_assoc (command_text c) (codes ";") (10 ∷ script commands))
    ∙ ap (λ l. 10 ∷ (command_text c ++ 59 ∷ l)) (later_joined commands)

pub script_joined : (commands : List PlainCommand)
    → script commands ≡ joined (texts_in commands) (rest_in commands)
script_joined [] = refl
script_joined (c ∷ commands) =
    append_assoc (command_text c) (codes ";") (10 ∷ script commands)
    ∙ ap (λ l. command_text c ++ 59 ∷ l) (later_joined commands)

later_statements : (commands : List PlainCommand) → AllLead commands
    → Each IsStatement (later_texts commands)
later_statements [] h = tt
later_statements (c ∷ commands) h = (
  leads_statement (10 ∷ command_text c) (after_line (command_text c) h.0),
  later_statements commands h.1,
)

all_statements : (commands : List PlainCommand) → AllLead commands
    → Each IsStatement (texts_in commands)
all_statements [] h = tt
all_statements (c ∷ commands) h = (
  leads_statement (command_text c) h.0,
  later_statements commands h.1,
)

rest_is_tail : (commands : List PlainCommand) → IsTail (rest_in commands)
rest_is_tail [] = refl
rest_is_tail (c ∷ commands) = refl

-- the splitter's statements are the lines' texts
pub script_statements : (commands : List PlainCommand) → AllLead commands
    → statements_of (script commands) ≡ texts_in commands
script_statements commands h = ap statements_of (script_joined commands)
    ∙ statements_again (texts_in commands) (rest_in commands) (all_statements commands h)
    (rest_is_tail commands)

-- and after them nothing is left
pub script_ends : (commands : List PlainCommand) → AllLead commands
    → ending (tail_of (script commands)) ≡ Clean
script_ends commands h = ap (λ l. ending (tail_of l)) (script_joined commands)
    ∙ ap ending (tail_again (texts_in commands) (rest_in commands) (all_statements commands h)
    (rest_is_tail commands)) ∙ clean commands
  where
    clean : (cs : List PlainCommand) → ending (rest_in cs) ≡ Clean
    clean [] = refl
    clean (c ∷ cs) = refl
