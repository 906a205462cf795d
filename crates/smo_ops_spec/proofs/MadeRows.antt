-- The relations that operators make are relations of the made columns.
use Rattle.std.proofs.Common.{◌≡◌, ◌+◌, ℕ, Bool, true, false, List, [], ◌∷◌, ◌++◌, map, refl, sym}
use Rattle.std.proofs.Common.{ap, subst, ◌∙◌, inl, inr}
use Rattle.std.specs.Prelude.{cond, ◌&&◌, ◌||◌, ◌⊎◌, is_none, Option, Some, None, if◌then◌else◌}
use Rattle.std.specs.List.{filter, flat_map, list_all}
use Rattle.std.specs.Option.{unwrap_or}
use Rattle.std.specs.declared.cmp.Ordering.{Ordering}
use Rattle.std.specs.declared.cmp.Ordering.TheVariants.{Less, Equal, Greater}
use Rattle.relations_spec.specs.Sets.{In, put_in, placed, set_of}
use Rattle.relations_spec.proofs.SetLaws.{from_filter, from_map, from_flat_map, in_append}
use Rattle.relations_spec.proofs.SetLaws.{set_ascends}
use Rattle.relations_spec.proofs.SetLaws.{from_set}
use Rattle.prima_base.specs.declared.value.Value.{Value}
use Rattle.prima_base.specs.declared.value.ColType.{ColType}
use Rattle.prima_base.specs.declared.value.ColType.TheVariants.{Int as INT}
use Rattle.prima_base.specs.Order.{row_cmp}
use Rattle.prima_base.specs.OrderLaws.{row_exact, same_is}
use Rattle.prima_base.specs.Columns.{Column, names_of, AreColumns, IsRow, IsRelation, has_type}
use Rattle.schema_catalog.specs.Databases.{cell}
use Rattle.cond_expr.specs.Trees.{Tree, column, constant, length_of, joined, choose, Test}
use Rattle.cond_expr.specs.Faults.{untyped, trees_untyped, test_untyped, if_so, first_of}
use Rattle.cond_expr.specs.Sizes.{nodes_of, test_nodes}
use Rattle.cond_expr.specs.Kinds.{Kinds, kind_of, same_type, same_kind}
use Rattle.cond_expr.specs.Values.{value}
use Rattle.smo_ops_spec.specs.OneRow.{Row, Relation, same, own_kinds, own_cells, meets}
use Rattle.smo_ops_spec.specs.Preconditions.{among, type_in, same_columns}
use Rattle.smo_ops_spec.specs.Making.{column_cmp, in_order, renamed, with_column, type_of_value}
use Rattle.smo_ops_spec.specs.Making.{joined_columns, image, union, added_value, moved, agree}
use Rattle.smo_ops_spec.specs.Making.{joined_value, joined_row, join_rows}
use Rattle.smo_ops_spec.proofs.NameLaws.{same_types, same_itself, in_among, among_in}
use Rattle.smo_ops_spec.proofs.NameLaws.{in_names, own_type, of_type, cell_typed, row_from}
use Rattle.smo_ops_spec.proofs.TypeLaws.{own_value_typed}
use Rattle.smo_ops_spec.proofs.RelationLaws.{filter_ascends}

-- what stands in columns that are put in order
module _ {X : Type 0} (cmp : X → X → Ordering) where
  from_put : (x z : X) (ys : List X) → In z (put_in cmp x ys) → In z (x ∷ ys)
  from_put x z [] m = m
  from_put x z (y ∷ ys) m = step (from_put x z ys) (cmp x y) m
    where
      step : (In z (put_in cmp x ys) → In z (x ∷ ys)) → (r : Ordering)
          → In z (placed r x y ys (put_in cmp x ys)) → In z (x ∷ (y ∷ ys))
      step more Less m = m
      step more Equal m = inr m
      step more Greater (inl q) = inr (inl q)
      step more Greater (inr n) = elim (more n) [ inl q ↦ inl q | inr k ↦ inr (inr k) ]

  from_ordered : (z : X) (xs : List X) → In z (set_of cmp xs) → In z xs
  unfolding set_of
  from_ordered z [] m = m
  from_ordered z (x ∷ xs) m = elim (from_put x z (set_of cmp xs) m) [
    | inl e ↦ inl e
    | inr n ↦ inr (from_ordered z xs n)
  ]

pub from_with : (c : List ℕ) (k : ColType) (columns : List Column) (d : Column)
    → In d (with_column c k columns) → In d ((c, k) ∷ columns)
from_with c k columns d m = from_put column_cmp (c, k) d columns m

pub from_in_order : (columns : List Column) (d : Column) → In d (in_order columns) → In d columns
from_in_order columns d m = from_ordered column_cmp d columns m

-- filters, unions and images of relations
pub filtered : (columns : List Column) (p : Row → Bool) (rows : Relation) → IsRelation columns rows
    → IsRelation columns (filter p rows)
filtered columns p rows r = record {
  ascending = filter_ascends p rows r.ascending;
  fitting = λ row m. r.fitting row (from_filter p row rows m).0;
}

pub united : (columns : List Column) (a b : Relation) → IsRelation columns a → IsRelation columns b
    → IsRelation columns (union a b)
united columns a b r s = record {
  ascending = set_ascends row_cmp row_exact (a ++ b);
  fitting = λ row m. elim (in_append row a b (from_set row_cmp row_exact row (a ++ b) m))
      [ inl x ↦ r.fitting row x | inr y ↦ s.fitting row y ];
}

pub imaged : (columns new : List Column) (f : Row → List ℕ → Value) (rows : Relation)
    → IsRelation columns rows
    → ((row : Row) → IsRow columns row → (c : Column) → In c new → has_type c.1 (f row c.0) ≡ true)
    → IsRelation new (image new f rows)
imaged columns new f rows r h = record {
  ascending = set_ascends row_cmp row_exact (map (λ row. map (λ (c : Column). f row c.0) new) rows);
  fitting = λ row m. made row (from_map (λ old. map (λ (c : Column). f old c.0) new) row rows
      (from_set row_cmp row_exact row (map (λ old. map (λ (c : Column). f old c.0) new) rows) m));
}
  where
    made : (row : Row) → (old : Row) × In old rows × (map (λ (c : Column). f old c.0) new ≡ row)
        → IsRow new row
    made row (old, m, q) = subst (IsRow new) q
        (row_from new (λ c. f old c.0) (h old (r.fitting old m)))

-- a column's own cell, of kept columns
pub cell_of : (columns : List Column) (row : Row) (c : Column) → AreColumns columns
    → IsRow columns row → In c columns → has_type c.1 (cell columns row c.0) ≡ true
cell_of columns row c a r m = cell_typed columns row c.0 c.1 r (own_type columns c a m)

pub kept_cells : (columns : List Column) (p : Column → Bool) (rows : Relation) → AreColumns columns
    → IsRelation columns rows → IsRelation (filter p columns)
    (image (filter p columns) (cell columns) rows)
kept_cells columns p rows a r =
    imaged columns (filter p columns) (cell columns) rows r
    (λ row i c m. cell_of columns row c a i (from_filter p c columns m).0)

-- a name that is not among these
pub not_this : (c n : List ℕ) (names : List (List ℕ)) → among c names ≡ false → In n names
    → same c n ≡ false
not_this c n names e m = step (same c n) refl
  where
    step : (b : Bool) → same c n ≡ b → same c n ≡ false
    step false q = q
    step true q = (let h = in_among c names (subst (λ (x : List ℕ). In x names)
        (sym (same_is c n q)) m) in absurd (cc))

-- an expression none of whose nodes is without a type has one
last_none : (xs : List ℕ) (b : Bool) (at : ℕ) → first_of (xs ++ if_so b at) ≡ None → b ≡ false
last_none [] true at e = absurd (cc)
last_none [] false at e = refl
last_none (x ∷ xs) b at e = absurd (cc)

last_after : (xs ys : List ℕ) → first_of (xs ++ ys) ≡ None → first_of ys ≡ None
last_after [] ys e = e
last_after (x ∷ xs) ys e = absurd (cc)

has_kind : (of : Kinds) (at : ℕ) (t : Tree) → first_of (untyped of at t) ≡ None
    → is_none (kind_of of t) ≡ false
has_kind of at (column w n) e = last_none [] (is_none (of w n)) at e
has_kind of at (constant v) e = refl
has_kind of at (length_of t) e = last_none (untyped of (at + 1) t)
    (is_none (kind_of of (length_of t))) at e
has_kind of at (joined ts) e = last_none (trees_untyped of (at + 1) ts)
    (is_none (kind_of of (joined ts))) at e
has_kind of at (choose c a b) e =
    last_none (untyped of (at + 1 + test_nodes c + nodes_of a) b)
    (is_none (kind_of of (choose c a b))) at
    (last_after (untyped of (at + 1 + test_nodes c) a)
    (untyped of (at + 1 + test_nodes c + nodes_of a) b
    ++ if_so (is_none (kind_of of (choose c a b))) at)
    (last_after (test_untyped of (at + 1) c)
    (untyped of (at + 1 + test_nodes c) a ++ (untyped of (at + 1 + test_nodes c + nodes_of a) b
    ++ if_so (is_none (kind_of of (choose c a b))) at)) e))

pub value_has_type : (columns : List Column) (t : Tree)
    → first_of (untyped (own_kinds columns) 0 t) ≡ None
    → kind_of (own_kinds columns) t ≡ Some (type_of_value columns t)
value_has_type columns t e = step (kind_of (own_kinds columns) t)
    (has_kind (own_kinds columns) 0 t e)
  where
    step : (o : Option ColType) → is_none o ≡ false → o ≡ Some (unwrap_or o INT)
    step None h = absurd (cc)
    step (Some k) h = refl

-- one column more
pub one_column_more : (columns : List Column) (c : List ℕ) (e : Tree) (k : ColType)
    (rows : Relation) → AreColumns columns → IsRelation columns rows
    → kind_of (own_kinds columns) e ≡ Some k → among c (names_of columns) ≡ false
    → IsRelation (with_column c k columns)
    (image (with_column c k columns) (added_value columns c e) rows)
one_column_more columns c e k rows a r typed new =
    imaged columns (with_column c k columns) (added_value columns c e) rows r
    (λ row i d m. step row i d (from_with c k columns d m))
  where
    step : (row : Row) → IsRow columns row → (d : Column) → In d ((c, k) ∷ columns)
        → has_type d.1 (added_value columns c e row d.0) ≡ true
    step row i d (inl q) = subst (λ (x : Column).
        has_type x.1 (added_value columns c e row x.0) ≡ true) q
        (subst (λ b. has_type k (cond b (value (own_cells columns row) e) (cell columns row c))
        ≡ true) (sym (same_itself c))
        (of_type (value (own_cells columns row) e) k (own_value_typed columns row e k i typed)))
    step row i d (inr m) = subst (λ b. has_type d.1
        (cond b (value (own_cells columns row) e) (cell columns row d.0)) ≡ true)
        (sym (not_this c d.0 (names_of columns) new (in_names columns d m)))
        (cell_of columns row d a i m)

-- a column under another name
pub column_renamed : (columns : List Column) (b c : List ℕ) (rows : Relation) → AreColumns columns
    → IsRelation columns rows → among c (names_of columns) ≡ false
    → IsRelation (renamed b c columns) (image (renamed b c columns) (moved columns b c) rows)
column_renamed columns b c rows a r new =
    imaged columns (renamed b c columns) (moved columns b c) rows r
    (λ row i d m. from row i d (from_map change d columns (from_in_order (map change columns) d m)))
  where
    change : Column → Column
    change d = if same d.0 b then (c, d.1) else d

    step : (row : Row) → IsRow columns row → (d x : Column) → In x columns → (t : Bool)
        → same x.0 b ≡ t → (if t then (c, x.1) else x) ≡ d
        → has_type d.1 (moved columns b c row d.0) ≡ true
    step row i d x m true q e = subst (λ (y : Column).
        has_type y.1 (moved columns b c row y.0) ≡ true) e
        (subst (λ t. has_type x.1 (cond t (cell columns row b) (cell columns row c)) ≡ true)
        (sym (same_itself c))
        (subst (λ (n : List ℕ). has_type x.1 (cell columns row n) ≡ true) (same_is x.0 b q)
        (cell_of columns row x a i m)))
    step row i d x m false q e = subst (λ (y : Column).
        has_type y.1 (moved columns b c row y.0) ≡ true) e
        (subst (λ t. has_type x.1 (cond t (cell columns row b) (cell columns row x.0)) ≡ true)
        (sym (not_this c x.0 (names_of columns) new (in_names columns x m)))
        (cell_of columns row x a i m))

    from : (row : Row) → IsRow columns row → (d : Column) → (x : Column) × In x columns
        × (change x ≡ d) → has_type d.1 (moved columns b c row d.0) ≡ true
    from row i d (x, m, e) = step row i d x m (same x.0 b) refl e

-- what holds of each
pub both : (a b : Bool) → (a && b) ≡ true → (a ≡ true) × (b ≡ true)
both true b e = (refl, e)
both false b e = absurd (cc)

pub each_is : {X : Type 0} (p : X → Bool) (xs : List X) (x : X) → list_all p xs ≡ true → In x xs
    → p x ≡ true
each_is p [] x e m = absurd m
each_is p (y ∷ xs) x e (inl q) = subst (λ z. p z ≡ true) q (both (p y) (list_all p xs) e).0
each_is p (y ∷ xs) x e (inr m) = each_is p xs x (both (p y) (list_all p xs) e).1 m

-- joined rows
abbrev pub Joinable : List Column → List Column → Type 0
Joinable cs ds = list_all (λ (c : Column). is_none (type_in ds c.0)
    || same_kind (type_in ds c.0) (Some c.1)) cs ≡ true

pub column_named : (columns : List Column) (n : List ℕ) → In n (names_of columns) → (c : Column)
    × In c columns × (c.0 ≡ n)
column_named [] n m = absurd m
column_named (c ∷ columns) n (inl e) = (c, inl refl, e)
column_named (c ∷ columns) n (inr m) = (let h = column_named columns n m in (h.0, inr h.1, h.2))

pub one_kind : (o : Option ColType) (k x : ColType) → o ≡ Some k
    → (is_none o || same_kind o (Some x)) ≡ true → x ≡ k
one_kind None k x e h = absurd (cc)
one_kind (Some y) k x e h = sym (same_types y x h) ∙ some y k e
  where
    some : (y k : ColType) → Some y ≡ Some k → y ≡ k
    some y k e = cc

module _ (cs ds : List Column) (first : AreColumns cs) (second : AreColumns ds)
    (types : Joinable cs ds) where
  joined_type : (a b : Row) → IsRow cs a → IsRow ds b → (d : Column) → In d cs ⊎ In d ds
      → (t : Bool) → among d.0 (names_of cs) ≡ t
      → has_type d.1 (cond t (cell cs a d.0) (cell ds b d.0)) ≡ true
  joined_type a b i j d (inl m) true q = cell_of cs a d first i m
  joined_type a b i j d (inl m) false q = (let h = in_among d.0 (names_of cs) (in_names cs d m) in
      absurd (cc))
  joined_type a b i j d (inr m) true q = common (column_named cs d.0 (among_in d.0 (names_of cs) q))
    where
      common : (c : Column) × In c cs × (c.0 ≡ d.0) → has_type d.1 (cell cs a d.0) ≡ true
      common (c, n, e) =
          let k : c.1 ≡ d.1 = one_kind (type_in ds c.0) d.1 c.1
          (ap (type_in ds) e ∙ own_type ds d second m) (each_is _ cs c types n) in
          subst (λ (x : ColType). has_type x (cell cs a d.0) ≡ true) k
          (subst (λ (x : List ℕ). has_type c.1 (cell cs a x) ≡ true) e
          (cell_of cs a c first i n))
  joined_type a b i j d (inr m) false q = cell_of ds b d second j m

  joined_is_row : (a b : Row) → IsRow cs a → IsRow ds b
      → IsRow (joined_columns cs ds) (joined_row cs ds a b)
  joined_is_row a b i j =
      row_from (joined_columns cs ds) (λ c. joined_value cs ds a b c.0)
      (λ c m. joined_type a b i j c (in_append c cs ds (from_in_order (cs ++ ds) c m))
      (among c.0 (names_of cs)) refl)

  pub rows_joined : (c : Test) (a b : Relation) → IsRelation cs a → IsRelation ds b
      → IsRelation (joined_columns cs ds) (join_rows cs ds c a b)
  rows_joined c a b r s = record {
    ascending = set_ascends row_cmp row_exact
        (filter (meets (joined_columns cs ds) c) (flat_map pairs a));
    fitting = λ row m. of_pair row (from_flat_map pairs row a
        (from_filter (meets (joined_columns cs ds) c) row (flat_map pairs a)
        (from_set row_cmp row_exact row (filter (meets (joined_columns cs ds) c)
        (flat_map pairs a)) m)).0);
  }
    where
      pairs : Row → List Row
      pairs x = map (joined_row cs ds x) (filter (agree cs ds x) b)

      of_row : (row x : Row) → In x a → (y : Row) × In y (filter (agree cs ds x) b)
          × (joined_row cs ds x y ≡ row) → IsRow (joined_columns cs ds) row
      of_row row x m (y, n, e) = subst (IsRow (joined_columns cs ds)) e
          (joined_is_row x y (r.fitting x m) (s.fitting y (from_filter (agree cs ds x) y b n).0))

      of_pair : (row : Row) → (x : Row) × In x a × In row (pairs x)
          → IsRow (joined_columns cs ds) row
      of_pair row (x, m, n) = of_row row x m (from_map (joined_row cs ds x) row
          (filter (agree cs ds x) b) n)

-- two lists of columns that are one
pub columns_same : (cs ds : List Column) → same_columns cs ds ≡ true → cs ≡ ds
columns_same [] [] e = refl
columns_same [] (d ∷ ds) e = absurd (cc)
columns_same (c ∷ cs) [] e = absurd (cc)
columns_same ((m, k) ∷ cs) ((n, l) ∷ ds) e =
    let h = both (same m n) (same_type k l && same_columns cs ds) e in
    let g = both (same_type k l) (same_columns cs ds) h.1 in
    let name : m ≡ n = same_is m n h.0 in
    let kind : k ≡ l = same_types k l g.0 in
    let rest : cs ≡ ds = columns_same cs ds g.1 in
    cc
