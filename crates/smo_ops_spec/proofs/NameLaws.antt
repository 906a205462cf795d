-- Names of columns, and the type and the cell under a name.
use Rattle.std.proofs.Common.{◌≡◌, ℕ, Bool, true, false, List, [], ◌∷◌, map, refl, ap, subst, ◌∙◌}
use Rattle.std.proofs.Common.{inl, inr}
use Rattle.std.specs.Prelude.{cond, not, Option, Some, None}
use Rattle.std.specs.Ordering.{is_eq}
use Rattle.std.specs.declared.cmp.Ordering.TheVariants.{Less}
use Rattle.std.specs.Cmp.Lexicographic.{nat_list_cmp_total}
use Rattle.std.proofs.lemmas.Cmp.{tied_itself, eq_by_cmp_equiv}
use Rattle.relations_spec.specs.Sets.{In, BeforeAll}
use Rattle.relations_spec.proofs.SetLaws.{has_in, in_has, before_in}
use Rattle.prima_base.specs.declared.value.Value.{Value}
use Rattle.prima_base.specs.declared.value.Value.TheVariants.{Int, Text}
use Rattle.prima_base.specs.declared.value.ColType.{ColType}
use Rattle.prima_base.specs.declared.value.ColType.TheVariants.{Int as INT, Text as TEXT}
use Rattle.prima_base.specs.Order.{bytes_cmp}
use Rattle.prima_base.specs.OrderLaws.{bytes_exact}
use Rattle.prima_base.specs.Columns.{Column, names_of, AreColumns, IsRow, has_type}
use Rattle.schema_catalog.specs.Databases.{cell}
use Rattle.cond_expr.specs.Kinds.{value_kind, same_type, same_kind}
use Rattle.smo_ops_spec.specs.OneRow.{Row, same}
use Rattle.smo_ops_spec.specs.Preconditions.{among, type_in, first_not_among}

pub same_itself : (a : List ℕ) → same a a ≡ true
same_itself a = ap is_eq (tied_itself nat_list_cmp_total a)

pub same_turned : (a b : List ℕ) → same a b ≡ same b a
same_turned a b = (eq_by_cmp_equiv nat_list_cmp_total).symm a b

pub same_not : (a b : List ℕ) → bytes_cmp a b ≡ Less → same a b ≡ false
same_not a b e = ap is_eq e

pub in_among : (n : List ℕ) (names : List (List ℕ)) → In n names → among n names ≡ true
in_among n names m = in_has bytes_cmp bytes_exact n names m

pub among_in : (n : List ℕ) (names : List (List ℕ)) → among n names ≡ true → In n names
among_in n names e = has_in bytes_cmp bytes_exact n names e

pub in_names : (columns : List Column) (c : Column) → In c columns → In c.0 (names_of columns)
in_names [] c m = m
in_names (d ∷ columns) c (inl e) = inl (ap (λ (x : Column). x.0) e)
in_names (d ∷ columns) c (inr m) = inr (in_names columns c m)

-- a column stands after those with lesser names
pub before_column : (d : Column) (columns : List Column) (c : Column)
    → BeforeAll bytes_cmp d.0 (names_of columns) → In c columns → bytes_cmp d.0 c.0 ≡ Less
before_column d columns c b m = before_in bytes_cmp d.0 c.0 (names_of columns) b
    (in_names columns c m)

-- a column's type is found under its name
pub own_type : (columns : List Column) (c : Column) → AreColumns columns → In c columns
    → type_in columns c.0 ≡ Some c.1
own_type [] c a m = absurd m
own_type (d ∷ columns) c a (inl e) =
    ap (λ b. cond b (Some d.1) (type_in columns c.0))
    (ap (λ (x : Column). same x.0 c.0) e ∙ same_itself c.0) ∙ ap (λ (x : Column). Some x.1) e
own_type (d ∷ columns) c a (inr m) =
    ap (λ b. cond b (Some d.1) (type_in columns c.0))
    (same_not d.0 c.0 (before_column d columns c a.0 m)) ∙ own_type columns c a.1 m

-- types and values
pub of_type : (v : Value) (k : ColType) → value_kind v ≡ k → has_type k v ≡ true
of_type (Int n) INT e = refl
of_type (Int n) TEXT e = absurd (cc)
of_type (Text t) INT e = absurd (cc)
of_type (Text t) TEXT e = refl

pub type_of : (v : Value) (k : ColType) → has_type k v ≡ true → value_kind v ≡ k
type_of (Int n) INT e = refl
type_of (Int n) TEXT e = absurd (cc)
type_of (Text t) INT e = absurd (cc)
type_of (Text t) TEXT e = refl

pub same_types : (x y : ColType) → same_type x y ≡ true → x ≡ y
same_types INT INT h = refl
same_types INT TEXT h = absurd (cc)
same_types TEXT INT h = absurd (cc)
same_types TEXT TEXT h = refl

-- two types that are one, of which the first is known
pub same_known : (o p : Option ColType) (k : ColType) → same_kind o p ≡ true → o ≡ Some k
    → p ≡ Some k
same_known None p k h e = absurd (cc)
same_known (Some x) None k h e = absurd (cc)
same_known (Some x) (Some y) k h e = (let s = same_types x y h in cc)

-- a row's cell is of the type under its name
first_typed : (b : Bool) (v x : Value) (c k : ColType) (o : Option ColType) → has_type c v ≡ true
    → (o ≡ Some k → has_type k x ≡ true)
    → cond b (Some c) o ≡ Some k → has_type k (cond b v x) ≡ true
first_typed true v x c k o f step h = (let e : c ≡ k = cc in
    subst (λ (t : ColType). has_type t v ≡ true) e f)
first_typed false v x c k o f step h = step h

pub cell_typed : (columns : List Column) (row : Row) (n : List ℕ) (k : ColType) → IsRow columns row
    → type_in columns n ≡ Some k → has_type k (cell columns row n) ≡ true
cell_typed [] row n k r e = absurd (cc)
cell_typed (c ∷ columns) [] n k r e = absurd r
cell_typed (c ∷ columns) (v ∷ row) n k r e = first_typed (same c.0 n) v (cell columns row n) c.1 k
    (type_in columns n) r.0 (cell_typed columns row n k r.1) e

-- the row that has a value of its type for each column
pub row_from : (columns : List Column) (f : Column → Value)
    → ((c : Column) → In c columns → has_type c.1 (f c) ≡ true) → IsRow columns (map f columns)
row_from [] f h = tt
row_from (c ∷ columns) f h = (h c (inl refl), row_from columns f (λ d m. h d (inr m)))

-- where none is missing, each is among them
pub none_missing : (names others : List (List ℕ)) (n : List ℕ) → first_not_among others names ≡ None
    → In n names → In n others
none_missing [] others n e m = absurd m
none_missing (x ∷ names) others n e m = step (none_missing names others n) (among x others) refl e m
  where
    step : (first_not_among others names ≡ None → In n names → In n others) → (b : Bool)
        → among x others ≡ b
        → cond (not b) (Some x) (first_not_among others names) ≡ None → In n (x ∷ names)
        → In n others
    step more true q h (inl p) = subst (λ (y : List ℕ). In y others) p (among_in x others q)
    step more true q h (inr k) = more h k
    step more false q h k = absurd (cc)
