-- What is counted at each token of an expression or a condition, and which count passes its limit
-- there.
use Rattle.std.specs.Prelude.{◌≡◌, ℕ, ◌+◌, if◌then◌else◌, nat_lt, List, [], ◌∷◌, max, length, map}
use Rattle.std.specs.Prelude.{Option, Some, None}
use Rattle.prima_base.specs.declared.refusal.What.{What}
use Rattle.prima_base.specs.declared.refusal.What.TheVariants as what
use Rattle.prima_base.specs.Limits.{max_nodes, max_parts}
use Rattle.lexer_spec.specs.Lexemes.{Lexeme}
use Rattle.lexer_combinators.specs.Grammar.{Grammar}
use Rattle.lexer_combinators.specs.Grammar.{Size}

-- the nodes counted at a token (none or one), the brackets, CASEs and NOTs that are open at it, and
-- which part of a CONCAT it begins
pub record TokenCounts : Type 0 where
  pub nodes : ℕ
  pub depth : ℕ
  pub part : ℕ

abbrev pub plain : TokenCounts
plain = record { nodes = 0; depth = 0; part = 0 }

abbrev pub node : TokenCounts
node = record { nodes = 1; depth = 0; part = 0 }

abbrev pub begins : ℕ → TokenCounts
begins j = record { nodes = 0; depth = 0; part = j }

abbrev pub deeper : TokenCounts → TokenCounts
deeper m = record { nodes = m.nodes; depth = m.depth + 1; part = m.part }

-- the tokens of a construct that is open from its first to its last
abbrev pub opened : List TokenCounts → List TokenCounts
opened ms = map deeper ms

-- the nodes of a prefix
abbrev pub nodes_in : List TokenCounts → ℕ
nodes_in [] = 0
nodes_in (m ∷ ms) = m.nodes + nodes_in ms

-- the most constructs that are open at one token
abbrev pub deepest : List TokenCounts → ℕ
deepest [] = 0
deepest (m ∷ ms) = max m.depth (deepest ms)

-- the counts of each lexeme, and together the size
abbrev pub AddUp : Grammar (List TokenCounts)
AddUp ms s f = (length ms ≡ length f) × (nodes_in ms ≡ s.nodes) × (deepest ms ≡ s.depth)

-- with so many nodes up to this token, and constructs that may be opened: the first of its counts
-- that passes its limit
abbrev pub crossed_by : ℕ → ℕ → TokenCounts → Option What
crossed_by d n m = if nat_lt max_nodes n then Some what.Nodes
    else (if nat_lt d m.depth then Some what.Depth
    else (if nat_lt max_parts m.part then Some what.Parts else None))
