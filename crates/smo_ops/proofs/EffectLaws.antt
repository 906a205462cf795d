-- A row that is borrowed as that of atom 0, and the rows that an INSERT and an UPDATE make.
use Rattle.std.proofs.Common.{◌≡◌, ℕ, ◌+◌, ◌<◌, Bool, true, false, cond, List, [], ◌∷◌, ◌++◌}
use Rattle.std.proofs.Common.{Option, length, map, take, drop, get_or, refl, sym, ap, ◌∙◌}
use Rattle.std.proofs.Common.{pos, arith}
use Rattle.std.specs.Prelude.{◌==◌, zero, suc, if◌then◌else◌, All, IfSome, Some, None}
use Rattle.std.specs.List.{AllZip, zip}
use Rattle.std.specs.Option.{option_map, unwrap_or}
use Rattle.std.proofs.lemmas.List.{take_more}
use Rattle.std.proofs.lemmas.Slice.Zip.{all_zipped_more}
use Rattle.std.specs.Cmp.Lexicographic.{nat_list_cmp_total}
use Rattle.std.proofs.lemmas.Cmp.{eq_by_cmp_equiv}
use Rattle.std.proofs.lemmas.Bool.Decides.{nat_tests}
use Rattle.std.specs.Ordering.{is_eq}
use Rattle.prima_base.specs.declared.value.Value.{Value}
use Rattle.prima_base.specs.declared.value.Value.TheVariants.{Int}
use Rattle.prima_base.specs.declared.value.Val.{Val}
use Rattle.prima_base.specs.Order.{bytes_cmp, same, shown}
use Rattle.prima_base.specs.Columns.{Column, AreColumns, IsValid, IsRow}
use Rattle.schema_catalog.specs.Databases.{cell}
use Rattle.schema_catalog.proofs.Cells.{cells_again}
use Rattle.cond_expr.specs.declared.expr.Whose.{Whose}
use Rattle.cond_expr.specs.declared.expr.Whose.TheVariants.{Free, Alias, Atom}
use Rattle.cond_expr.specs.Rows.{flat, AreValid}
use Rattle.cond_expr.specs.declared.expr.Expr.{Expr}
use Rattle.cond_expr.specs.Seen.{tree}
use Rattle.cond_expr.specs.Values.{value}
use Rattle.cond_expr.specs.Trees.{Tree}
use Rattle.smo_ops_spec.specs.OneRow.{own_cells, given, set_value, with_sets}
use Rattle.cond_expr.specs.AtomColumns.{columns_at}
use Rattle.smo_ops_types.specs.Changes.{sets_of}
use Rattle.smo_ops_spec.proofs.Firsts.{drop_at}

none_free : (columns : List Column) (vs : List Val) (n : List ℕ)
    → flat (columns_at 0 columns) vs Free n ≡ Int (pos 0)
none_free [] vs n = refl
none_free (c ∷ columns) [] n = refl
none_free (c ∷ columns) (v ∷ vs) n = none_free columns vs n

none_alias : (columns : List Column) (vs : List Val) (a n : List ℕ)
    → flat (columns_at 0 columns) vs (Alias a) n ≡ Int (pos 0)
none_alias [] vs a n = refl
none_alias (c ∷ columns) [] a n = refl
none_alias (c ∷ columns) (v ∷ vs) a n = none_alias columns vs a n

-- two names are one in either order
same_turn : (a b : List ℕ) → is_eq (bytes_cmp a b) ≡ is_eq (bytes_cmp b a)
same_turn a b = (eq_by_cmp_equiv nat_list_cmp_total).symm a b

no_atom : (i : ℕ) → (0 == suc i) ≡ false
no_atom i = grind (arith, nat_tests)

none_other : (columns : List Column) (vs : List Val) (i : ℕ) (n : List ℕ)
    → flat (columns_at 0 columns) vs (Atom (suc i)) n ≡ Int (pos 0)
none_other [] vs i n = refl
none_other (c ∷ columns) [] i n = refl
none_other (c ∷ columns) (v ∷ vs) i n = rw (no_atom i) (none_other columns vs i n)

own : (columns : List Column) (vs : List Val) (n : List ℕ)
    → flat (columns_at 0 columns) vs (Atom zero) n ≡ cell columns (map shown vs) n
own [] vs n = refl
own (c ∷ columns) [] n = refl
own (c ∷ columns) (v ∷ vs) n = ap (λ b. cond b (shown v)
    (flat (columns_at 0 columns) vs (Atom zero) n)) (same_turn n c.0)
    ∙ ap (λ x. cond (is_eq (bytes_cmp c.0 n)) (shown v) x) (own columns vs n)

each : (columns : List Column) (vs : List Val) (w : Whose) (n : List ℕ)
    → flat (columns_at 0 columns) vs w n ≡ own_cells columns (map shown vs) w n
each columns vs Free n = none_free columns vs n
each columns vs (Alias a) n = none_alias columns vs a n
each columns vs (Atom zero) n = own columns vs n
each columns vs (Atom (suc i)) n = none_other columns vs i n
    ∙ sym (ap (λ b. cond b (cell columns (map shown vs) n) (Int (pos 0))) (no_atom i))

-- a borrowed row has what the row has
pub borrowed_cells : (columns : List Column) (vs : List Val) (row : List Value) → map shown vs ≡ row
    → flat (columns_at 0 columns) vs ≡ own_cells columns row
borrowed_cells columns vs row e = (λ i. λ w n. each columns vs w n i) ∙ ap (own_cells columns) e

-- what is given from a place on
module _ (cells : List (List ℕ × Value)) (name : List ℕ) (i : ℕ) (cell : List ℕ × Value)
    (below : i < length cells) (is : cell ≡ get_or cells i cell) where
  given_at : (b : Bool) → b ≡ same cell.0 name
      → given (drop i cells) name ≡ (if b then cell.1 else given (drop (i + 1) cells) name)
  given_at b e = ap (λ l. given l name) (drop_at cells i cell below is)
      ∙ ap (λ t. cond t cell.1 (given (drop (i + 1) cells) name)) (sym e)

  pub given_here : true ≡ same cell.0 name → given (drop i cells) name ≡ cell.1
  given_here e = given_at true e

  pub given_later : false ≡ same cell.0 name
      → given (drop i cells) name ≡ given (drop (i + 1) cells) name
  given_later e = given_at false e

-- what is set from a place on
module _ (columns : List Column) (row : List Value) (sets : List (List ℕ × Expr)) (name : List ℕ)
    (i : ℕ) (s : List ℕ × Expr) (below : i < length sets) (is : s ≡ get_or sets i s) where
  set_at : (b : Bool) → b ≡ same s.0 name
      → set_value columns row (sets_of (drop i sets)) name
      ≡ (if b then value (own_cells columns row) (tree s.1)
      else set_value columns row (sets_of (drop (i + 1) sets)) name)
  set_at b e = ap (λ l. set_value columns row (sets_of l) name) (drop_at sets i s below is)
      ∙ ap (λ t. cond t (value (own_cells columns row) (tree s.1))
      (set_value columns row (sets_of (drop (i + 1) sets)) name))
      (sym e)

  pub set_here : true ≡ same s.0 name
      → set_value columns row (sets_of (drop i sets)) name
      ≡ value (own_cells columns row) (tree s.1)
  set_here e = set_at true e

  pub set_later : false ≡ same s.0 name
      → set_value columns row (sets_of (drop i sets)) name
      ≡ set_value columns row (sets_of (drop (i + 1) sets)) name
  set_later e = set_at false e

pub zipped_more : {A B : Type 0} (R : A → B → Type 0) (xs : List A) (ys more : List B) (i : ℕ)
    (x : A) (y : B) → i < length xs → x ≡ get_or xs i x → AllZip R (take i xs) ys → R x y
    → more ≡ ys ++ y ∷ []
    → AllZip R (take (i + 1) xs) more
zipped_more R xs ys more i x y below is h r e =
    let prefix : take (i + 1) xs ≡ take i xs ++ x ∷ [] = take_more xs i x below
    ∙ ap (λ z. take i xs ++ z ∷ []) (sym is) in
    rw (prefix, e) (all_zipped_more R (take i xs) ys x y h r)

-- what is set put for what was there
zipped_map : {A B : Type 0} (f g : A → B) (xs : List A) (os : List (Option B))
    → AllZip (λ x o. unwrap_or o (f x) ≡ g x) xs os
    → map (λ (p : B × Option B). unwrap_or p.1 p.0) (zip (map f xs) os) ≡ map g xs
zipped_map f g [] [] h = refl
zipped_map f g [] (o ∷ os) h = absurd h
zipped_map f g (x ∷ xs) [] h = absurd h
zipped_map f g (x ∷ xs) (o ∷ os) h = ap (λ v. v ∷ map (λ p. unwrap_or p.1 p.0) (zip (map f xs) os))
    h.0 ∙ ap (λ l. g x ∷ l) (zipped_map f g xs os h.1)

pub sets_replaced : (columns : List Column) (sets : List (List ℕ × Tree)) (row : List Value)
    (os : List (Option Value)) → AreColumns columns → IsRow columns row
    → AllZip (λ (c : Column) (o : Option Value).
    unwrap_or o (cell columns row c.0) ≡ set_value columns row sets c.0) columns os
    → map (λ (p : Value × Option Value). unwrap_or p.1 p.0) (zip row os)
    ≡ with_sets columns sets row
sets_replaced columns sets row os a r h = ap (λ l.
    map (λ (p : Value × Option Value). unwrap_or p.1 p.0) (zip l os))
    (sym (cells_again columns row a r))
    ∙ zipped_map (λ (c : Column). cell columns row c.0)
    (λ (c : Column). set_value columns row sets c.0) columns os h

-- ---- the same of values that are borrowed or owned

-- a value, or what is set in its place
abbrev pub put_for : Val × Option Val → Val
put_for p = unwrap_or p.1 p.0

shown_replaced : (vs : List Val) (os : List (Option Val))
    → map shown (map put_for (zip vs os)) ≡ map (λ (p : Value × Option Value). unwrap_or p.1 p.0)
    (zip (map shown vs) (map (option_map shown) os))
shown_replaced [] [] = refl
shown_replaced [] (o ∷ os) = refl
shown_replaced (v ∷ vs) [] = refl
shown_replaced (v ∷ vs) (None ∷ os) = ap (λ l. shown v ∷ l) (shown_replaced vs os)
shown_replaced (v ∷ vs) (Some w ∷ os) = ap (λ l. shown w ∷ l) (shown_replaced vs os)

zipped_shown : {A : Type 0} (f g : A → Value) (xs : List A) (os : List (Option Val))
    → AllZip (λ x (o : Option Val). unwrap_or (option_map shown o) (f x) ≡ g x) xs os
    → AllZip (λ x (o : Option Value). unwrap_or o (f x) ≡ g x) xs (map (option_map shown) os)
zipped_shown f g [] [] h = tt
zipped_shown f g [] (o ∷ os) h = absurd h
zipped_shown f g (x ∷ xs) [] h = absurd h
zipped_shown f g (x ∷ xs) (o ∷ os) h = (h.0, zipped_shown f g xs os h.1)

pub values_replaced : (columns : List Column) (sets : List (List ℕ × Tree)) (vs : List Val)
    (os : List (Option Val)) → AreColumns columns → IsRow columns (map shown vs)
    → AllZip (λ (c : Column) (o : Option Val).
    unwrap_or (option_map shown o) (cell columns (map shown vs) c.0)
    ≡ set_value columns (map shown vs) sets c.0) columns os
    → map shown (map put_for (zip vs os)) ≡ with_sets columns sets (map shown vs)
values_replaced columns sets vs os a r h = shown_replaced vs os
    ∙ sets_replaced columns sets (map shown vs) (map (option_map shown) os) a r
    (zipped_shown (λ (c : Column). cell columns (map shown vs) c.0)
    (λ (c : Column). set_value columns (map shown vs) sets c.0) columns os h)

abbrev IsSetValid : Option Val → Type 0
IsSetValid o = IfSome o (λ v. IsValid (shown v))

valid_put : (v : Val) (o : Option Val) → IsValid (shown v) → IsSetValid o
    → IsValid (shown (unwrap_or o v))
valid_put v None l s = l
valid_put v (Some w) l s = s

pub valid_replaced : (vs : List Val) (os : List (Option Val)) → All (λ v. IsValid (shown v)) vs
    → All (λ o. IfSome o (λ v. IsValid (shown v))) os
    → All (λ v. IsValid (shown v)) (map put_for (zip vs os))
valid_replaced [] [] l s k d h = absurd (omega arith)
valid_replaced [] (o ∷ os) l s k d h = absurd (omega arith)
valid_replaced (v ∷ vs) [] l s k d h = absurd (omega arith)
valid_replaced (v ∷ vs) (o ∷ os) l s zero d h =
    valid_put v o (l 0 v (omega arith)) (s 0 o (omega arith))
valid_replaced (v ∷ vs) (o ∷ os) l s (suc k) d h =
    valid_replaced vs os (λ j e b. l (suc j) e (omega arith)) (λ j e b. s (suc j) e (omega arith)) k
    d (omega arith)

-- valid one by one
pub each_valid : (vs : List Val) → AreValid vs → All (λ v. IsValid (shown v)) vs
each_valid [] a k d h = absurd (omega arith)
each_valid (v ∷ vs) a zero d h = a.0
each_valid (v ∷ vs) a (suc k) d h = each_valid vs a.1 k d (omega arith)
