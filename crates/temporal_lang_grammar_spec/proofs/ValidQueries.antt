-- What is read is a query: it has a branch, each branch has an output and an item, and the end of
-- time is a second bound alone.
use Rattle.std.proofs.Common.{◌≡◌, ℕ, suc, ◌+◌, ◌≤◌, Bool, true, false, cond, ◌&&◌, Some, None, pos}
use Rattle.std.proofs.Common.{negsuc, nat_le, nat_lt, List, [], ◌∷◌, length, inl, inr, refl, sym}
use Rattle.std.proofs.Common.{ap, ◌∙◌, subst, arith, codes}
use Rattle.std.proofs.lemmas.Bool.Decides.{nat_tests}
use Rattle.std.specs.List.{list_all}
use Rattle.relations_spec.specs.Spans.{forever}
use Rattle.prima_base.specs.declared.refusal.What.{What}
use Rattle.prima_base.specs.declared.refusal.What.TheVariants.{Outputs, Tables, Branches, Keeps}
use Rattle.prima_base.specs.declared.keep.Keep.{Keep}
use Rattle.lexer_spec.specs.Lexemes.{Lexeme, word, sign, is_word}
use Rattle.lexer_spec.specs.Lexemes as lexeme
use Rattle.lexer_combinators.specs.Grammar.{Grammar}
use Rattle.lexer_combinators.specs.Parsing.{Out, Parsed, Parser, IsCorrectParser, Explains}
use Rattle.lexer_combinators.specs.Grammar.{Size, AreMore, so_wide}
use Rattle.lexer_combinators.specs.Derivations.{Derivation, derivation, after_lexeme, first_of}
use Rattle.lexer_combinators.specs.Derivations.{rest_of, source_of, lexeme_of}
use Rattle.lexer_combinators.proofs.DerivationLaws.{made_value, lexeme_says}
use Rattle.lexer_trees_spec.specs.Constants.{as_natural, as_moment}
use Rattle.temporal_lang_types.specs.declared.when.When.{When}
use Rattle.plain_answers_spec.specs.Branches.{PlainBranch}
use Rattle.temporal_lang_types.specs.Branches.{has_parts, have_parts, is_when, is_keep, are_keeps}
use Rattle.temporal_lang_grammar_spec.specs.QueryGrammar.{as_moment_or, last_moment}
use Rattle.temporal_lang_grammar_spec.specs.QueryGrammar.{counted_grammar, AreBounds}
use Rattle.temporal_lang_grammar_spec.specs.QueryGrammar.{IsOutput, IsItem, IsBranch, AreBranches}
use Rattle.temporal_lang_grammar_spec.specs.QueryGrammar.{IsDuring}
use Rattle.temporal_lang_grammar_spec.specs.QueryGrammar.{IsCovering, IsKeep, IsKeeping, IsWhen}
use Rattle.temporal_lang_grammar_spec.specs.QueryGrammar.{IsMoments}
use Rattle.temporal_lang_grammar_spec.specs.QueryReader.{branches, when_part, follow_branches}
use Rattle.temporal_lang_grammar_spec.specs.QueryReader.{follow_when, moments, follow_moments}
use Rattle.temporal_lang_grammar_spec.proofs.BranchCorrectness.{branches_correct}
use Rattle.temporal_lang_grammar_spec.proofs.WhenCorrectness.{when_correct, moments_correct}

-- ---- moments

natural_most : (most : ℕ) (x : Lexeme) (n : ℕ) → as_natural most x ≡ Some n → n ≤ most
natural_most most (lexeme.number (pos k)) n e = step (nat_le k most) refl e
  where
    step : (b : Bool) → nat_le k most ≡ b → cond b (Some k) None ≡ Some n → n ≤ most
    step true q h = let i : k ≡ n = cc in grind (arith, nat_tests)
    step false q h = cc
natural_most most (lexeme.number (negsuc k)) n e = cc
natural_most most (lexeme.word w) n e = cc
natural_most most (lexeme.text t) n e = cc
natural_most most (lexeme.sign s) n e = cc

before : (n : ℕ) → n ≤ 18446744073709551614 → nat_lt n forever ≡ true
before n h = grind (arith, nat_tests)

moment_before : (x : Lexeme) (n : ℕ) → as_moment x ≡ Some n → nat_lt n forever ≡ true
moment_before x n e = before n (natural_most 18446744073709551614 x n e)

as_of_before : (x : Lexeme) (n : ℕ) → as_moment_or last_moment x ≡ Some n → nat_lt n forever ≡ true
as_of_before x n e = step (is_word (codes "now") x) e
  where
    step : (b : Bool) → cond b (Some last_moment) (as_moment x) ≡ Some n → nat_lt n forever ≡ true
    step true h = let i : last_moment ≡ n = cc in before n (omega (arith, i))
    step false h = moment_before x n h

bounds_before : (b : ℕ × ℕ) (s : Size) (f : List Lexeme) → AreBounds b s f
    → nat_lt b.0 forever ≡ true
bounds_before b s f h =
    let whole : Derivation AreBounds = derivation b s f h in
    let least = first_of whole in
    ap (λ (p : ℕ × ℕ). nat_lt p.0 forever) (made_value (after_lexeme (rest_of whole)))
    ∙ moment_before (lexeme_of least) least.value (lexeme_says least)

-- ---- lists

module _ {A : Type 0} (p : A → Bool) (G : A → Size → List Lexeme → Type 0)
    (each : (a : A) (s : Size) (f : List Lexeme) → G a s f → p a ≡ true) where
  more_are : (sep : Lexeme) (end : ℕ → Size) (j : ℕ) (l : List A) (s : Size) (f : List Lexeme)
      → AreMore sep end G j l s f → list_all p l ≡ true
  more_are sep end j [] s f h = refl
  more_are sep end j (a ∷ l) s f h = ap (λ b. b && list_all p l) (each a h.0 h.2 h.6)
      ∙ more_are sep end (j + 1) l h.1 h.3 h.7

  counted_are : (sep : Lexeme) (w : What) (l : List A) (s : Size) (f : List Lexeme)
      → counted_grammar sep w G l s f → list_all p l ≡ true
  counted_are sep w l s f h = ap (list_all p) h.8.1
      ∙ ap (λ b. b && list_all p h.8.0) (each h.0 h.1 h.3 h.7)
      ∙ more_are sep (so_wide w) 1 h.8.0 h.2 h.4 h.8.2

counted_some : {A : Type 0} (sep : Lexeme) (w : What) (G : Grammar A) (l : List A) (s : Size)
    (f : List Lexeme) → counted_grammar sep w G l s f → nat_le 1 (length l) ≡ true
counted_some {A} sep w G l s f h = ap (λ (l : List A). nat_le 1 (length l)) h.8.1
    ∙ some (length h.8.0)
  where
    some : (n : ℕ) → nat_le 1 (suc n) ≡ true
    some n = grind (arith, nat_tests)

-- ---- branches

branch_has_parts : (b : PlainBranch) (s : Size) (f : List Lexeme) → IsBranch b s f
    → has_parts b ≡ true
branch_has_parts b s f h =
    let outs = h.2 in
    let from = outs.8.2 in
    ap has_parts from.8.1 ∙ ap (λ t. t && nat_le 1 (length from.0))
    (counted_some (sign (codes ",")) Outputs IsOutput outs.0 outs.1 outs.3 outs.7)
    ∙ counted_some (sign (codes ",")) Tables IsItem from.0 from.1 from.3 from.7

-- what was read is in the grammar
read : {A : Type 0} (p : Parser A) (G : Grammar A) (follow : Lexeme → Bool)
    → IsCorrectParser 0 32 p G follow → (n : ℕ) (ts : List Lexeme) (a : A) (m : ℕ)
    (rest : List Lexeme) → p n ts ≡ Parsed a m rest → (s : Size) × (f : List Lexeme) × G a s f
read {A} p G follow correct n ts a m rest e =
    let P : Out A → Type 0 = λ o. Explains 32 (p n) G n ts o in
    let x = subst P e (correct.explains n (omega arith) ts) in
    (x.1, x.0, x.3)

pub branches_have_parts : (n : ℕ) (ts : List Lexeme) (l : List PlainBranch) (m : ℕ)
    (rest : List Lexeme) → branches n ts ≡ Parsed l m rest → (1 ≤ length l) × (have_parts l ≡ true)
branches_have_parts n ts l m rest e =
    let x = read branches AreBranches follow_branches branches_correct n ts l m rest e in
    let some : nat_le 1 (length l) ≡ true = counted_some (word (codes "UNION")) Branches IsBranch l
    x.0 x.1 x.2 in (
      (let i : 1 ≤ length l = grind (arith, nat_tests) in i),
      counted_are has_parts IsBranch branch_has_parts (word (codes "UNION")) Branches l x.0 x.1
          x.2,
    )

-- ---- which moments are asked of, and which entries are kept

keep_before : (k : Keep) (s : Size) (f : List Lexeme) → IsKeep k s f → is_keep k ≡ true
keep_before k s f (inl h) = ap is_keep h.2.1 ∙ bounds_before h.2.0 s h.0 h.2.2
keep_before k s f (inr (inl h)) = ap is_keep h.2.1 ∙ bounds_before h.2.0 s h.0 h.2.2
keep_before k s f (inr (inr (inl h))) = ap is_keep h.2.1 ∙ bounds_before h.2.0 s h.0 h.2.2
keep_before k s f (inr (inr (inr (inl h)))) = ap is_keep h.2.1 ∙ bounds_before h.2.0 s h.0 h.2.2
keep_before k s f (inr (inr (inr (inr h)))) =
    let whole : Derivation IsCovering = derivation k s f h in
    let moment = source_of (after_lexeme whole) in
    ap is_keep (made_value (after_lexeme whole))
    ∙ moment_before (lexeme_of moment) moment.value (lexeme_says moment)

keeping_before : (l : List Keep) (s : Size) (f : List Lexeme) → IsKeeping l s f → are_keeps l ≡ true
keeping_before l s f (inl h) = ap are_keeps h.0
keeping_before l s f (inr h) = counted_are is_keep IsKeep keep_before (word (codes "AND")) Keeps l s
    h.0 h.2

during_before : (w : When) (s : Size) (f : List Lexeme) → IsDuring w s f → is_when w ≡ true
during_before w s f (inl h) = ap is_when h.0
during_before w s f (inr h) = ap is_when h.2.1 ∙ bounds_before h.2.0 s h.0 h.2.2

abbrev IsBefore : When × List Keep → Type 0
IsBefore w = (is_when w.0 ≡ true) × (are_keeps w.1 ≡ true)

when_before : (w : When × List Keep) (s : Size) (f : List Lexeme) → IsWhen w s f → IsBefore w
when_before w s f (inl h) =
    let m = h.2.2 in
    subst IsBefore (sym m.1) (as_of_before m.2.0 m.0 m.2.1, refl)
when_before w s f (inr h) = subst IsBefore (sym h.8.1)
    (during_before h.0 h.1 h.3 h.7, keeping_before h.8.0 h.2 h.4 h.8.2)

pub when_is_before : (n : ℕ) (ts : List Lexeme) (w : When × List Keep) (m : ℕ) (rest : List Lexeme)
    → when_part n ts ≡ Parsed w m rest → (is_when w.0 ≡ true) × (are_keeps w.1 ≡ true)
when_is_before n ts w m rest e = let x = read when_part IsWhen follow_when when_correct n ts w m
    rest e in when_before w x.0 x.1 x.2

moments_before : (w : When) (s : Size) (f : List Lexeme) → IsMoments w s f → is_when w ≡ true
moments_before w s f (inl h) = let m = h.2.2 in ap is_when m.1 ∙ as_of_before m.2.0 m.0 m.2.1
moments_before w s f (inr h) = during_before w s f h

pub moments_are_before : (n : ℕ) (ts : List Lexeme) (w : When) (m : ℕ) (rest : List Lexeme)
    → moments n ts ≡ Parsed w m rest → is_when w ≡ true
moments_are_before n ts w m rest e = let x = read moments IsMoments follow_moments moments_correct n
    ts w m rest e in moments_before w x.0 x.1 x.2
