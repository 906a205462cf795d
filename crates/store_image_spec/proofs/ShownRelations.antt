-- What a stored table shows at each moment is a relation of its columns, whose values are those of
-- its entries.
use Rattle.std.proofs.Common.{◌≡◌, ◌+◌, ℕ, suc, Bool, true, false, cond, List, [], ◌∷◌, ◌++◌, refl}
use Rattle.std.proofs.Common.{sym, ap, subst, ◌∙◌, inl, inr, arith, ◌&&◌, ◌==◌}
use Rattle.relations_spec.specs.Sets.{In, set_of}
use Rattle.relations_spec.specs.Spans.{Span, covers}
use Rattle.relations_spec.proofs.SetLaws.{set_ascends, from_set, in_append}
use Rattle.prima_base.specs.Order.{row_cmp}
use Rattle.prima_base.specs.OrderLaws.{row_exact}
use Rattle.prima_base.specs.Columns.{IsRow, IsRelation, IsValid}
use Rattle.prima_base.specs.declared.value.Value.{Value}
use Rattle.history_store_spec.specs.Store.{Cell, Store, IsStore, Holds, shown_at, row_at, rows_from}
use Rattle.history_store_spec.specs.Store.{relation_at}

-- ---- a relation of the columns

record IsShown (low m : ℕ) (keys : List Span) (cells : List (List Cell)) (row : List Value) :
    Type 0 where
  id : ℕ
  holds : Holds keys id m
  is : row_at (low + id) m cells ≡ row

-- each row is that of an id whose key has the moment
from_rows : (low m : ℕ) (keys : List Span) (cells : List (List Cell)) (row : List Value)
    → In row (rows_from low m keys cells) → IsShown low m keys cells row
from_rows low m [] cells row i = absurd i
from_rows low m (k ∷ keys) cells row i = step (covers k m) refl i
    (from_rows (low + 1) m keys cells row)
  where
    more : IsShown (low + 1) m keys cells row → IsShown low m (k ∷ keys) cells row
    more h = record {
      id = suc h.id;
      holds = (let l = h.holds.0 in omega (arith, l), h.holds.1);
      is = (let q : low + suc h.id ≡ (low + 1) + h.id = omega arith in ap (λ x. row_at x m cells) q
          ∙ h.is);
    }

    step : (b : Bool) → covers k m ≡ b → In row
        (cond b (row_at low m cells ∷ rows_from (low + 1) m keys cells)
        (rows_from (low + 1) m keys cells))
        → (In row (rows_from (low + 1) m keys cells) → IsShown (low + 1) m keys cells row)
        → IsShown low m (k ∷ keys) cells row
    step true e (inl q) rest = record {
      id = 0;
      holds = (omega arith, e);
      is = (let z : low + 0 ≡ low = omega arith in ap (λ x. row_at x m cells) z ∙ q);
    }
    step true e (inr i) rest = more (rest i)
    step false e i rest = more (rest i)

-- the id of a row that is shown
pub shown_row : (s : Store) (m : ℕ) (row : List Value) → In row (relation_at s m) → (id : ℕ)
    × Holds s.keys id m × (row_at id m s.cells ≡ row)
unfolding relation_at
shown_row s m row i =
    let h = from_rows 0 m s.keys s.cells row (from_set row_cmp row_exact row
    (rows_from 0 m s.keys s.cells) i) in
    let same : h.id ≡ 0 + h.id = omega arith in
    (h.id, h.holds, ap (λ x. row_at x m s.cells) same ∙ h.is)

pub shown_relation : (s : Store) (m : ℕ) → IsStore s → IsRelation s.columns (relation_at s m)
unfolding relation_at
shown_relation s m is = record {
  ascending = set_ascends row_cmp row_exact (rows_from 0 m s.keys s.cells);
  fitting = λ row i. (let h = shown_row s m row i in
      subst (IsRow s.columns) h.2 (is.fitting m h.0 h.1));
}

-- ---- values

-- each value that is shown is that of an entry
shown_value : (id m : ℕ) (cells : List Cell) (v : Value) → In v (shown_at id m cells) → (c : Cell)
    × In c cells × (c.value ≡ v)
shown_value id m [] v i = absurd i
shown_value id m (c ∷ cells) v i = step (c.id == id && covers c.period m) i
    (shown_value id m cells v)
  where
    step : (b : Bool) → In v (cond b (c.value ∷ shown_at id m cells) (shown_at id m cells))
        → (In v (shown_at id m cells) → (d : Cell) × In d cells × (d.value ≡ v))
        → (d : Cell) × In d (c ∷ cells) × (d.value ≡ v)
    step true (inl q) rest = (c, inl refl, q)
    step true (inr j) rest = (let h = rest j in (h.0, inr h.1, h.2))
    step false j rest = (let h = rest j in (h.0, inr h.1, h.2))

row_value : (id m : ℕ) (columns : List (List Cell)) (v : Value) → In v (row_at id m columns)
    → (cells : List Cell) × In cells columns × ((c : Cell) × In c cells × (c.value ≡ v))
row_value id m [] v i = absurd i
row_value id m (cells ∷ columns) v i = elim (in_append v (shown_at id m cells) (row_at id m columns)
    i) [
      | inl a ↦ (cells, inl refl, shown_value id m cells v a)
      | inr b ↦ (let h = row_value id m columns v b in (h.0, inr h.1, h.2))
    ]

pub shown_values : (s : Store) (m : ℕ) → ((cells : List Cell) → In cells s.cells → (c : Cell)
    → In c cells → IsValid c.value)
    → (row : List Value) → In row (relation_at s m) → (v : Value) → In v row → IsValid v
shown_values s m valid row i v j =
    let r = shown_row s m row i in
    let h = row_value r.0 m s.cells v (subst (In v) (sym r.2) j) in
    subst IsValid h.2.2 (valid h.0 h.1 h.2.0 h.2.1)

-- ---- the same at two moments

module _ (s m : ℕ) where
  abbrev pub AreAlike : List Span → Type 0
  AreAlike keys = (p : Span) → In p keys → covers p m ≡ covers p s

  shown_alike : (id : ℕ) (cells : List Cell) → ((c : Cell) → In c cells
      → covers c.period m ≡ covers c.period s) → shown_at id m cells ≡ shown_at id s cells
  shown_alike id [] f = refl
  shown_alike id (c ∷ cells) f =
      ap (λ b. cond (c.id == id && b) (c.value ∷ shown_at id m cells) (shown_at id m cells))
      (f c (inl refl))
      ∙ ap (λ (vs : List Value). cond (c.id == id && covers c.period s) (c.value ∷ vs) vs)
      (shown_alike id cells (λ d i. f d (inr i)))

  row_alike : (id : ℕ) (columns : List (List Cell))
      → ((cells : List Cell) → In cells columns → (c : Cell) → In c cells
      → covers c.period m ≡ covers c.period s) → row_at id m columns ≡ row_at id s columns
  row_alike id [] f = refl
  row_alike id (cells ∷ columns) f =
      ap (λ (vs : List Value). vs ++ row_at id m columns)
      (shown_alike id cells (f cells (inl refl)))
      ∙ ap (λ (vs : List Value). shown_at id s cells ++ vs)
      (row_alike id columns (λ d i. f d (inr i)))

  rows_alike : (id : ℕ) (keys : List Span) (columns : List (List Cell)) → AreAlike keys
      → ((cells : List Cell) → In cells columns → (c : Cell) → In c cells
      → covers c.period m ≡ covers c.period s)
      → rows_from id m keys columns ≡ rows_from id s keys columns
  rows_alike id [] columns f g = refl
  rows_alike id (k ∷ keys) columns f g =
      ap (λ b. cond b (row_at id m columns ∷ rows_from (id + 1) m keys columns)
      (rows_from (id + 1) m keys columns)) (f k (inl refl))
      ∙ ap (λ (row : List Value). cond (covers k s) (row ∷ rows_from (id + 1) m keys columns)
      (rows_from (id + 1) m keys columns)) (row_alike id columns g)
      ∙ ap (λ (rows : List (List Value)). cond (covers k s) (row_at id s columns ∷ rows) rows)
      (rows_alike (id + 1) keys columns (λ p i. f p (inr i)) g)

  pub relation_alike : (t : Store) → AreAlike t.keys
      → ((cells : List Cell) → In cells t.cells → (c : Cell) → In c cells
      → covers c.period m ≡ covers c.period s)
      → relation_at t m ≡ relation_at t s
  unfolding relation_at
  relation_alike t f g = ap (set_of row_cmp) (rows_alike 0 t.keys t.cells f g)
