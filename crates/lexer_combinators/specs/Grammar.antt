-- Grammars over lexemes: which lists of lexemes spell which value, and of what size.
use Rattle.std.specs.Prelude.{◌≡◌, ℕ, zero, ◌+◌, max, ◌==◌, if◌then◌else◌, List, [], ◌∷◌, ◌++◌}
use Rattle.std.specs.Prelude.{Option, Some, ◌⊎◌}
use Rattle.prima_base.specs.declared.refusal.What.{What}
use Rattle.prima_base.specs.declared.refusal.What.TheVariants as what
use Rattle.lexer_spec.specs.Lexemes.{Lexeme}

-- the nodes of what is read, the most constructs that are open at once, and the longest list of
-- each kind; of kind Nodes, the nodes of the largest part with counts of its own
pub record Size : Type 0 where
  pub nodes : ℕ
  pub depth : ℕ
  pub wide : What → ℕ

abbrev pub nothing_counted : Size
nothing_counted = record { nodes = 0; depth = 0; wide = λ w. 0 }

-- one after the other
abbrev pub both : Size → Size → Size
both s t = record {
  nodes = s.nodes + t.nodes;
  depth = max s.depth t.depth;
  wide = λ w.
      max (s.wide w) (t.wide w);
}

abbrev pub one_node : Size → Size
one_node s = record { nodes = s.nodes + 1; depth = s.depth; wide = s.wide }

abbrev pub one_open : Size → Size
one_open s = record { nodes = s.nodes; depth = s.depth + 1; wide = s.wide }

abbrev pub rank : What → ℕ
rank what.Nodes = 0
rank what.Depth = 1
rank what.Parts = 2
rank what.Tables = 3
rank what.Branches = 4
rank what.Outputs = 5
rank what.Keeps = 6
rank what.Changes = 7
rank what.Columns = 8
rank what.Inverse = 9
rank what.Versions = 10

-- a list of so many
abbrev pub so_wide : What → ℕ → Size
so_wide w j = record { nodes = 0; depth = 0; wide = λ v. if rank v == rank w then j else 0 }

-- a part with counts of its own: its nodes are none of those around it
abbrev pub fresh_size : Size → Size
fresh_size s = record {
  nodes = 0;
  depth = s.depth;
  wide = λ w. if rank w == 0
      then max s.nodes (s.wide w) else s.wide w;
}

-- a grammar: these lexemes spell this value, of this size
abbrev pub Grammar : Type 0 → Type 1
Grammar A = A → Size → List Lexeme → Type 0

abbrev pub seq : {A B : Type 0} → Grammar A → (A → Grammar B) → Grammar B
seq {A} G H b s ts = (a : A) × (s1 : Size) × (s2 : Size) × (f1 : List Lexeme) × (f2 : List Lexeme)
    × (s ≡ both s1 s2) × (ts ≡ f1 ++ f2) × G a s1 f1 × H a b s2 f2

abbrev pub pure : {A : Type 0} → A → Grammar A
pure a b s ts = (b ≡ a) × (s ≡ nothing_counted) × (ts ≡ [])

abbrev pub map : {A B : Type 0} → (A → B) → Grammar A → Grammar B
map {A} f G b s ts = (a : A) × (b ≡ f a) × G a s ts

abbrev pub lead : {A : Type 0} → Lexeme → Grammar A → Grammar A
lead x G a s ts = (more : List Lexeme) × (ts ≡ x ∷ more) × G a s more

-- and with it a node, or an open construct
abbrev pub node : {A : Type 0} → Grammar A → Grammar A
node G a s ts = (t : Size) × (s ≡ one_node t) × G a t ts

abbrev pub opened : {A : Type 0} → Grammar A → Grammar A
opened G a s ts = (t : Size) × (s ≡ one_open t) × G a t ts

abbrev pub option : {A : Type 0} → A → Lexeme → Grammar A → Grammar A
option a x G b s ts = pure a b s ts ⊎ lead x G b s ts

-- each after the separator; so many were before them, and the list's end has a size by how many
-- they are in all
abbrev pub AreMore : {A : Type 0} → Lexeme → (ℕ → Size) → Grammar A → ℕ → Grammar (List A)
AreMore sep end G j [] s ts = (s ≡ end j) × (ts ≡ [])
AreMore sep end G j (a ∷ others) s ts = (s1 : Size) × (s2 : Size) × (f : List Lexeme)
    × (g : List Lexeme) × (s ≡ both s1 s2) × (ts ≡ sep ∷ (f ++ g)) × G a s1 f
    × AreMore sep end G (j + 1) others s2 g

-- the size of the end of a list that is not counted
abbrev pub no_end : ℕ → Size
no_end j = nothing_counted

abbrev pub fresh : {A : Type 0} → Grammar A → Grammar A
fresh G a s ts = (t : Size) × (s ≡ fresh_size t) × G a t ts

abbrev pub single : {A : Type 0} → (Lexeme → Option A) → Grammar A
single says a s ts = (x : Lexeme) × (says x ≡ Some a) × (s ≡ nothing_counted) × (ts ≡ x ∷ [])

abbrev pub maybe : {A : Type 0} → (Lexeme → Option A) → A → Grammar A
maybe says a b s ts = pure a b s ts ⊎ single says b s ts

-- the one or the other
abbrev pub alt : {A : Type 0} → Grammar A → Grammar A → Grammar A
alt G H a s ts = G a s ts ⊎ H a s ts

-- G { separator G }
abbrev pub list : {A : Type 0} → Lexeme → Grammar A → Grammar (List A)
list separator G = seq G (λ a. map (λ l. a ∷ l) (AreMore separator no_end G 0))
