-- Worked rows: pieces over made tables, unfolded.
use Rattle.std.specs.Prelude.{◌≡◌, ℕ, List, [], ◌∷◌, map, pos}
use Rattle.std.proofs.Common.{refl}
use Rattle.prima_base.specs.declared.value.Value.TheVariants.{Int}
use Rattle.cond_expr.specs.declared.expr.CmpOp.TheVariants.{Lt, Eq}
use Rattle.cond_expr.specs.declared.expr.Whose.TheVariants.{Atom}
use Rattle.cond_expr.specs.Trees.{Tree, column, constant, length_of, choose, Test, always, compared}
use Rattle.cond_expr.specs.Trees.{all_of, fails}
use Rattle.cond_expr.specs.Seen.{tests_of}
use Rattle.piece_ir_spec.specs.Pieces.{PlainPiece}
use Rattle.piece_ir_spec.specs.Views.{PlainView, whole, Views}
use Rattle.piece_ir_spec.specs.Unfolding.{unfoldings}

abbrev r : List ℕ
r = 114 ∷ []

abbrev s : List ℕ
s = 115 ∷ []

abbrev t : List ℕ
t = 116 ∷ []

abbrev u : List ℕ
u = 117 ∷ []

abbrev a : List ℕ
a = 97 ∷ []

abbrev b : List ℕ
b = 98 ∷ []

abbrev below_ten : ℕ → Test
below_ten i = compared Lt (column (Atom i) a) (constant (Int (pos 10)))

abbrev equal_at : ℕ → ℕ → Test
equal_at i j = compared Eq (column (Atom i) a) (column (Atom j) a)

abbrev piece : List (List ℕ) → Test → List (List ℕ × Tree) → PlainPiece
piece atoms cond outs = record { atoms = atoms; cond = cond; outs = outs }

abbrev some_rows : List ℕ → Test → List PlainView
some_rows table part = record { atoms = table ∷ []; parts = part ∷ []; outs = [] } ∷ []

-- MERGE of r and s into t: a piece that names t twice is four pieces
merged : unfoldings ((t, whole r ∷ whole s ∷ []) ∷ []) (piece (t ∷ t ∷ []) (equal_at 0 1) [])
    ≡ map (λ atoms. piece atoms (equal_at 0 1) [])
    ((r ∷ r ∷ []) ∷ (r ∷ s ∷ []) ∷ (s ∷ r ∷ []) ∷ (s ∷ s ∷ []) ∷ [])
merged = refl

-- PARTITION of t into s, where a < 10, and u: the part stands after those of the piece's own
-- condition, and TRUE is no part
partitioned : unfoldings ((s, some_rows t (below_ten 0)) ∷ (u, some_rows t (fails (below_ten 0)))
    ∷ []) (piece (s ∷ []) always ((a, column (Atom 0) a) ∷ []))
    ≡ piece (t ∷ []) (all_of (tests_of (below_ten 0 ∷ []))) ((a, column (Atom 0) a) ∷ []) ∷ []
partitioned = refl

-- beside a table that stays, and the other part: each part is said of its own atom
beside_another : unfoldings ((s, some_rows t (below_ten 0)) ∷ (u, some_rows t (fails (below_ten 0)))
    ∷ [])
    (piece (r ∷ s ∷ u ∷ []) (all_of (tests_of
    (equal_at 0 1 ∷ all_of (tests_of (equal_at 1 2 ∷ [])) ∷ []))) [])
    ≡ piece (r ∷ t ∷ t ∷ []) (all_of (tests_of
    (equal_at 0 1 ∷ equal_at 1 2 ∷ below_ten 1 ∷ fails (below_ten 2) ∷ []))) [] ∷ []
beside_another = refl

-- ADD COLUMN b with the length of a to r, which makes r under its own name: the column is replaced
-- in outputs and condition, under NOT and in CASE
abbrev added : Views
added = (
  r,
  record { atoms = r ∷ []; parts = []; outs = (b, length_of (column (Atom 0) a)) ∷ [] }
      ∷ [],
) ∷ []

column_added : unfoldings added (piece (s ∷ r ∷ [])
    (fails (compared Eq (column (Atom 1) b) (column (Atom 0) b)))
    ((
      a,
      choose (compared Eq (column (Atom 1) b) (column (Atom 1) a)) (column (Atom 1) b)
          (column (Atom 0) b),
    ) ∷ []))
    ≡ piece (s ∷ r ∷ []) (fails (compared Eq (length_of (column (Atom 1) a)) (column (Atom 0) b)))
    ((
      a,
      choose (compared Eq (length_of (column (Atom 1) a)) (column (Atom 1) a))
          (length_of (column (Atom 1) a)) (column (Atom 0) b),
    ) ∷ []) ∷ []
column_added = refl

-- JOIN of r and s into t: two atoms for one, so that the atoms after it are one place further
joined : unfoldings ((
  t,
  record {
    atoms = r ∷ s ∷ [];
    parts = equal_at 0 1 ∷ [];
    outs =
        (b, column (Atom 1) b) ∷ [];
  } ∷ [],
) ∷ [])
    (piece (t ∷ u ∷ []) (equal_at 0 1) ((a, column (Atom 0) a) ∷ (b, column (Atom 0) b) ∷ []))
    ≡ piece (r ∷ s ∷ u ∷ []) (all_of (tests_of (equal_at 0 2 ∷ equal_at 0 1 ∷ [])))
    ((a, column (Atom 0) a) ∷ (b, column (Atom 1) b) ∷ []) ∷ []
joined = refl

-- CREATE TABLE t: a table without rows has no view, and a piece that names it is no piece
created : unfoldings ((t, []) ∷ []) (piece (r ∷ t ∷ []) (equal_at 0 1) []) ≡ []
created = refl

-- a table that is not made is itself
stays : unfoldings ((t, []) ∷ []) (piece (r ∷ []) (below_ten 0) ((a, column (Atom 0) a) ∷ []))
    ≡ piece (r ∷ []) (below_ten 0) ((a, column (Atom 0) a) ∷ []) ∷ []
stays = refl

-- no atoms and no outputs
nothing : unfoldings added (piece [] always []) ≡ piece [] always [] ∷ []
nothing = refl
