-- The rows of a stored table's relation are those of the keys that hold.
use Rattle.std.proofs.Common.{◌≡◌, ◌<◌, ◌+◌, ℕ, zero, suc, Bool, true, false, List, [], ◌∷◌, length}
use Rattle.std.proofs.Common.{get_or, cond, refl, sym, ap, ◌∙◌, subst, arith, inl, inr}
use Rattle.relations_spec.specs.Sets.{In}
use Rattle.relations_spec.specs.Spans.{Span, span, covers}
use Rattle.relations_spec.proofs.SetLaws.{in_set, from_set}
use Rattle.prima_base.specs.Order.{row_cmp}
use Rattle.prima_base.specs.OrderLaws.{row_exact}
use Rattle.prima_base.specs.declared.value.Value.{Value}
use Rattle.history_store.specs.Store.{Cell, Store, row_at, rows_from, relation_at, Holds}

-- the rows by key
from_rows : (base m : ℕ) (keys : List Span) (columns : List (List Cell)) (x : List Value) (d : Span)
    → In x (rows_from base m keys columns)
    → (k : ℕ) × (k < length keys) × (covers (get_or keys k d) m ≡ true)
    × (row_at (base + k) m columns ≡ x)
from_rows base m [] columns x d h = absurd h
from_rows base m (p ∷ keys) columns x d h = step (from_rows (base + 1) m keys columns x d)
    (covers p m) refl h
  where
    more : ((k : ℕ) × (k < length keys) × (covers (get_or keys k d) m ≡ true)
        × (row_at (base + 1 + k) m columns ≡ x)) → (k : ℕ) × (k < length (p ∷ keys))
        × (covers (get_or (p ∷ keys) k d) m ≡ true) × (row_at (base + k) m columns ≡ x)
    more r =
        let e : base + suc r.0 ≡ base + 1 + r.0 = omega arith in
        (suc r.0, omega arith, r.2, ap (λ i. row_at i m columns) e ∙ r.3)

    step : (In x (rows_from (base + 1) m keys columns) → (k : ℕ) × (k < length keys)
        × (covers (get_or keys k d) m ≡ true) × (row_at (base + 1 + k) m columns ≡ x)) → (b : Bool)
        → covers p m ≡ b
        → In x (cond b (row_at base m columns ∷ rows_from (base + 1) m keys columns)
        (rows_from (base + 1) m keys columns)) → (k : ℕ) × (k < length (p ∷ keys))
        × (covers (get_or (p ∷ keys) k d) m ≡ true) × (row_at (base + k) m columns ≡ x)
    step f true q (inl e) = let z : base + 0 ≡ base = omega arith in
        (0, omega arith, q, ap (λ i. row_at i m columns) z ∙ e)
    step f true q (inr k) = more (f k)
    step f false q k = more (f k)

in_rows : (base m : ℕ) (keys : List Span) (columns : List (List Cell)) (d : Span) (k : ℕ)
    → k < length keys → covers (get_or keys k d) m ≡ true
    → In (row_at (base + k) m columns) (rows_from base m keys columns)
in_rows base m [] columns d k h c = absurd (omega arith)
in_rows base m (p ∷ keys) columns d zero h c = let z : base + 0 ≡ base = omega arith in
    rw (c, z) (inl refl)
in_rows base m (p ∷ keys) columns d (suc k) h c =
    let e : base + suc k ≡ base + 1 + k = omega arith in
    let there : In (row_at (base + suc k) m columns) (rows_from (base + 1) m keys columns) =
    rw e (in_rows (base + 1) m keys columns d k (omega arith) c) in
    elim (covers p m) as (λ b. In (row_at (base + suc k) m columns)
    (cond b (row_at base m columns ∷ rows_from (base + 1) m keys columns)
    (rows_from (base + 1) m keys columns))) [ true ↦ inr there | false ↦ there ]

-- a row of the relation is that of a key that holds
pub relation_row : (s : Store) (m : ℕ) (x : List Value) → In x (relation_at s m) → (id : ℕ)
    × Holds s.keys id m × (row_at id m s.cells ≡ x)
unfolding relation_at
relation_row s m x h =
    let r = from_rows 0 m s.keys s.cells x (span 0 0)
    (from_set row_cmp row_exact x (rows_from 0 m s.keys s.cells) h) in
    let z : 0 + r.0 ≡ r.0 = omega arith in
    (r.0, (r.1, r.2), ap (λ i. row_at i m s.cells) (sym z) ∙ r.3)

pub row_of_key : (s : Store) (m id : ℕ) → Holds s.keys id m
    → In (row_at id m s.cells) (relation_at s m)
unfolding relation_at
row_of_key s m id t =
    let z : 0 + id ≡ id = omega arith in
    let there : In (row_at (0 + id) m s.cells) (rows_from 0 m s.keys s.cells) =
    in_rows 0 m s.keys s.cells (span 0 0) id t.0 t.1 in
    in_set row_cmp row_exact (row_at id m s.cells) (rows_from 0 m s.keys s.cells)
    (subst (λ i. In (row_at i m s.cells) (rows_from 0 m s.keys s.cells)) z there)
