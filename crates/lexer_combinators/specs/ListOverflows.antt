-- At which tokens of what a grammar spells a count passes its limit, by how the grammar is made of
-- others.
use Rattle.std.specs.Prelude.{ℕ, ◌+◌, if◌then◌else◌, nat_lt, List, [], ◌∷◌, ◌++◌, Option, Some}
use Rattle.std.specs.Prelude.{None}
use mathlib.Core.Logic.{inl, inr}
use Rattle.prima_base.specs.declared.refusal.What.{What}
use Rattle.lexer_spec.specs.Lexemes.{Lexeme}
use Rattle.lexer_combinators.specs.Grammar.{Grammar}
use Rattle.lexer_combinators.specs.Parsing.{limit}
use Rattle.lexer_combinators.specs.Grammar.{Size, AreMore, no_end, so_wide}
use Rattle.lexer_combinators.specs.Grammar as grammar
use Rattle.lexer_combinators.specs.Derivations.{Derivation, derivation, after_lexeme, first_of}
use Rattle.lexer_combinators.specs.Derivations.{rest_of, source_of, counted_anew, element_of}
use Rattle.lexer_combinators.specs.Derivations.{others_of}
use Rattle.lexer_combinators.specs.TokenCounts.{TokenCounts}
use Rattle.lexer_combinators.specs.Overflows.{overflows, no_overflows}

-- of each of its texts, at each token the count that passes its limit there, if one does
abbrev pub Overflow : {A : Type 0} → Grammar A → Type 0
Overflow {A} G = (a : A) (s : Size) (f : List Lexeme) → G a s f → List (Option What)

-- at the tokens of one of them
abbrev pub overflows_of : {A : Type 0} {G : Grammar A} → Overflow G → Derivation G
    → List (Option What)
overflows_of ps d = ps d.value d.size d.lexemes d.derives

-- nothing is counted
abbrev pub none_overflow : {A : Type 0} (G : Grammar A) → Overflow G
none_overflow G a s f h = no_overflows f

-- what is counted at each token of each of its texts
abbrev pub CountsOf : {A : Type 0} → Grammar A → Type 0
CountsOf {A} G = (a : A) (s : Size) (f : List Lexeme) → G a s f → List TokenCounts

-- of what is counted at each token
abbrev pub count_overflow : {A : Type 0} (G : Grammar A) → CountsOf G → Overflow G
count_overflow G counts a s f h = overflows (counts a s f h)

-- with counts of its own
abbrev pub fresh_overflow : {A : Type 0} (G : Grammar A) → CountsOf G → Overflow (grammar.fresh G)
fresh_overflow G counts a s f h =
    let whole : Derivation (grammar.fresh G) = derivation a s f h in
    overflows_of (count_overflow G counts) (counted_anew whole)

abbrev pub lead_overflow : {A : Type 0} (x : Lexeme) (G : Grammar A) → Overflow G
    → Overflow (grammar.lead x G)
lead_overflow x G ps a s f h =
    let whole : Derivation (grammar.lead x G) = derivation a s f h in
    None ∷ overflows_of ps (after_lexeme whole)

abbrev pub map_overflow : {A B : Type 0} (m : A → B) (G : Grammar A) → Overflow G
    → Overflow (grammar.map m G)
map_overflow m G ps b s f h =
    let whole : Derivation (grammar.map m G) = derivation b s f h in
    overflows_of ps (source_of whole)

abbrev pub bind_overflow : {A B : Type 0} (G : Grammar A) (H : A → Grammar B) → Overflow G
    → ((a : A) → Overflow (H a)) → Overflow (grammar.seq G H)
bind_overflow G H ps qs b s f h =
    let whole : Derivation (grammar.seq G H) = derivation b s f h in
    overflows_of ps (first_of whole) ++ overflows_of (qs (first_of whole).value) (rest_of whole)

abbrev pub option_overflow : {A : Type 0} (a : A) (x : Lexeme) (G : Grammar A) → Overflow G
    → Overflow (grammar.option a x G)
option_overflow a x G ps b s f (inl h) = []
option_overflow a x G ps b s f (inr h) = lead_overflow x G ps b s f h

abbrev pub either_overflow : {A : Type 0} (G H : Grammar A) → Overflow G → Overflow H
    → Overflow (grammar.alt G H)
either_overflow G H ps qs a s f (inl h) = ps a s f h
either_overflow G H ps qs a s f (inr h) = qs a s f h

-- each after a separator, as many as there are
abbrev pub more_overflow : {A : Type 0} (sep : Lexeme) (G : Grammar A) → Overflow G → (j : ℕ)
    → Overflow (AreMore sep no_end G j)
more_overflow sep G ps j [] s f h = []
more_overflow sep G ps j (a ∷ l) s f h =
    let element : Derivation G = element_of no_end j a l h in
    let others : Derivation (AreMore sep no_end G (j + 1)) = others_of no_end j a l h in
    None
    ∷ (overflows_of ps element
    ++ more_overflow sep G ps (j + 1) l others.size others.lexemes others.derives)

abbrev pub list_overflow : {A : Type 0} (sep : Lexeme) (G : Grammar A) → Overflow G
    → Overflow (grammar.list sep G)
list_overflow sep G ps = bind_overflow G (λ a. grammar.map (λ l. a ∷ l) (AreMore sep no_end G 0)) ps
    (λ a. map_overflow (λ l. a ∷ l) (AreMore sep no_end G 0) (more_overflow sep G ps 0))

-- the separator after so many is one too many of this kind
abbrev pub full_at : What → ℕ → Option What
full_at w j = if nat_lt j (limit w) then None else Some w

-- each after a separator, and counted: so many are before them
abbrev pub counted_overflow : {A : Type 0} (w : What) (sep : Lexeme) (G : Grammar A) → Overflow G
    → (j : ℕ) → Overflow (AreMore sep (so_wide w) G j)
counted_overflow w sep G ps j [] s f h = []
counted_overflow w sep G ps j (a ∷ l) s f h =
    let element : Derivation G = element_of (so_wide w) j a l h in
    let others : Derivation (AreMore sep (so_wide w) G (j + 1)) = others_of (so_wide w) j a l h in
    full_at w j
    ∷ (overflows_of ps element
    ++ counted_overflow w sep G ps (j + 1) l others.size others.lexemes others.derives)
