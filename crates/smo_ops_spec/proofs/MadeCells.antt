-- The cells of made rows: what each column has by its name, and nothing under another name.
use Rattle.std.proofs.Common.{◌≡◌, ℕ, Bool, true, false, List, [], ◌∷◌, map, refl, sym, ap, subst}
use Rattle.std.proofs.Common.{◌∙◌, inl, inr, pos}
use Rattle.std.specs.Prelude.{cond}
use Rattle.std.specs.List.{filter}
use Rattle.std.specs.declared.cmp.Ordering.{Ordering}
use Rattle.std.specs.declared.cmp.Ordering.TheVariants.{Less, Equal, Greater}
use Rattle.relations_spec.specs.Sets.{In, put_in, placed, set_of}
use Rattle.relations_spec.proofs.SetLaws.{in_map, from_map, in_set, from_set, in_filter}
use Rattle.prima_base.specs.declared.value.Value.{Value}
use Rattle.prima_base.specs.declared.value.Value.TheVariants.{Int}
use Rattle.prima_base.specs.declared.value.ColType.{ColType}
use Rattle.prima_base.specs.Order.{bytes_cmp, row_cmp}
use Rattle.prima_base.specs.OrderLaws.{bytes_exact, row_exact, same_is}
use Rattle.prima_base.specs.Columns.{Column, names_of}
use Rattle.schema_catalog.specs.Databases.{cell}
use Rattle.smo_ops_spec.specs.OneRow.{Row, Relation, same}
use Rattle.smo_ops_spec.specs.Preconditions.{among}
use Rattle.smo_ops_spec.specs.Making.{in_order, with_column, image}
use Rattle.smo_ops_spec.specs.RowMeaning.{RowsFollow}
use Rattle.smo_ops_spec.proofs.NameLaws.{same_itself, same_turned, among_in, in_among}
use Rattle.smo_ops_spec.proofs.NameLaws.{in_names}
use Rattle.smo_ops_spec.proofs.ColumnLaws.{names_put, names_in_order}
use Rattle.smo_ops_spec.proofs.MadeRows.{column_named}
use Rattle.smo_ops_spec.proofs.TouchedTables.{neither}

-- the cell of a made row
pub made_cell : (new : List Column) (f : List ℕ → Value) (n : List ℕ) → In n (names_of new)
    → cell new (map (λ (c : Column). f c.0) new) n ≡ f n
made_cell [] f n m = absurd m
made_cell (c ∷ new) f n m = step (made_cell new f n) (same c.0 n) refl m
  where
    step : (In n (names_of new) → cell new (map (λ (d : Column). f d.0) new) n ≡ f n) → (b : Bool)
        → same c.0 n ≡ b → In n (c.0 ∷ names_of new)
        → cond b (f c.0) (cell new (map (λ (d : Column). f d.0) new) n) ≡ f n
    step more true q i = ap f (same_is c.0 n q)
    step more false q (inl e) = (let h = ap (same c.0) (sym e) ∙ same_itself c.0 in absurd (cc))
    step more false q (inr i) = more i

pub no_cell : (columns : List Column) (row : Row) (n : List ℕ) → among n (names_of columns) ≡ false
    → cell columns row n ≡ Int (pos 0)
no_cell [] row n e = refl
no_cell (c ∷ columns) [] n e = refl
no_cell (c ∷ columns) (v ∷ row) n e =
    let h = neither (same n c.0) (among n (names_of columns)) e in
    ap (λ b. cond b v (cell columns row n)) (same_turned c.0 n ∙ h.0) ∙ no_cell columns row n h.1

-- it is the old row's, where each old column's name is also a new one's
pub same_cell : (columns new : List Column) (f : List ℕ → Value) (row : Row) (n : List ℕ)
    → f n ≡ cell columns row n
    → (among n (names_of columns) ≡ true → among n (names_of new) ≡ true)
    → cell new (map (λ (c : Column). f c.0) new) n ≡ cell columns row n
same_cell columns new f row n e h = step (among n (names_of new)) refl (among n (names_of columns))
    refl
  where
    step : (b : Bool) → among n (names_of new) ≡ b → (d : Bool) → among n (names_of columns) ≡ d
        → cell new (map (λ (c : Column). f c.0) new) n ≡ cell columns row n
    step true q d p = made_cell new f n (among_in n (names_of new) q) ∙ e
    step false q false p = no_cell new (map (λ (c : Column). f c.0) new) n q
        ∙ sym (no_cell columns row n p)
    step false q true p = (let k = h p in absurd (cc))

-- the rows of an image follow the old ones
module _ (IsSo : Row → Row → Type 0) (new : List Column) (f : Row → List ℕ → Value) where
  abbrev made : Row → Row
  made row = map (λ (c : Column). f row c.0) new

  pub image_follows : (rows : Relation) → ((row : Row)
      → IsSo row (map (λ (c : Column). f row c.0) new)) → RowsFollow IsSo rows (image new f rows)
  image_follows rows h = record {
    there = λ row m. (
      made row,
      in_set row_cmp row_exact (made row) (map made rows)
          (in_map made row rows m),
      h row,
    );
    back = λ row m. from row (from_map made row rows
        (from_set row_cmp row_exact row (map made rows) m));
  }
    where
      from : (row : Row) → (old : Row) × In old rows × (made old ≡ row) → (old : Row) × In old rows
          × IsSo old row
      from row (old, m, e) = (old, m, subst (IsSo old) e (h old))

-- names of columns with one more, in order, and of those kept
pub into_put : {X : Type 0} (cmp : X → X → Ordering) (x z : X) (ys : List X)
    → ((y : X) → In y ys → cmp x y ≡ Equal → x ≡ y) → In z (x ∷ ys) → In z (put_in cmp x ys)
into_put cmp x z [] same m = m
into_put {X} cmp x z (y ∷ ys) same m = step (into_put cmp x z ys (λ w i. same w (inr i))) (cmp x y)
    refl m
  where
    step : (In z (x ∷ ys) → In z (put_in cmp x ys)) → (r : Ordering) → cmp x y ≡ r
        → In z (x ∷ (y ∷ ys)) → In z (placed r x y ys (put_in cmp x ys))
    step more Less e m = m
    step more Equal e (inl q) = inl (sym (same y (inl refl) e) ∙ q)
    step more Equal e (inr n) = n
    step more Greater e (inl q) = inr (more (inl q))
    step more Greater e (inr (inl q)) = inl q
    step more Greater e (inr (inr k)) = inr (more (inr k))

pub among_with : (c : List ℕ) (k : ColType) (columns : List Column) (n : List ℕ)
    → In n (c ∷ names_of columns) → among n (names_of (with_column c k columns)) ≡ true
among_with c k columns n m =
    ap (among n) (names_put (c, k) columns) ∙ in_among n (put_in bytes_cmp c (names_of columns))
    (into_put bytes_cmp c n (names_of columns) (λ y i. bytes_exact.same c y) m)

pub among_in_order : (columns : List Column) (n : List ℕ) → In n (names_of columns)
    → among n (names_of (in_order columns)) ≡ true
among_in_order columns n m =
    ap (among n) (names_in_order columns) ∙ in_among n (set_of bytes_cmp (names_of columns))
    (in_set bytes_cmp bytes_exact n (names_of columns) m)

pub among_kept : (p : Column → Bool) (columns : List Column) (n : List ℕ)
    → ((c : Column) → c.0 ≡ n → p c ≡ true) → among n (names_of columns) ≡ true
    → among n (names_of (filter p columns)) ≡ true
among_kept p columns n h e = step (column_named columns n (among_in n (names_of columns) e))
  where
    step : (c : Column) × In c columns × (c.0 ≡ n) → among n (names_of (filter p columns)) ≡ true
    step (c, m, q) =
        subst (λ (x : List ℕ). among x (names_of (filter p columns)) ≡ true) q
        (in_among c.0 (names_of (filter p columns))
        (in_names (filter p columns) c (in_filter p c columns m (h c q))))
