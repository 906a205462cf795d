-- Over a row of a table's columns, what has a type has a value of that type.
use Rattle.std.proofs.Common.{◌≡◌, ℕ, Bool, true, false, List, [], ◌∷◌, refl, sym, ap, ◌∙◌}
use Rattle.std.specs.Prelude.{cond, ◌==◌, ◌&&◌, Some, None, pos, if◌then◌else◌}
use Rattle.prima_base.specs.declared.value.Value.TheVariants.{Int}
use Rattle.prima_base.specs.declared.value.ColType.{ColType}
use Rattle.prima_base.specs.Columns.{Column, IsRow}
use Rattle.schema_catalog.specs.Databases.{cell}
use Rattle.cond_expr.specs.declared.expr.Whose.TheVariants.{Free, Alias, Atom}
use Rattle.cond_expr.specs.Trees.{Tree}
use Rattle.cond_expr.specs.Values.{value}
use Rattle.cond_expr.specs.Kinds.{value_kind, kind_of, Fits}
use Rattle.cond_expr.proofs.KindLaws.{kept}
use Rattle.smo_ops_spec.specs.OneRow.{Row, same, own_kinds, own_cells}
use Rattle.smo_ops_spec.specs.Preconditions.{type_in}
use Rattle.smo_ops_spec.proofs.NameLaws.{same_turned, type_of, cell_typed}

none_free : (columns : List Column) (n : List ℕ) → own_kinds columns Free n ≡ None
none_free [] n = refl
none_free (c ∷ columns) n = none_free columns n

none_alias : (columns : List Column) (a n : List ℕ) → own_kinds columns (Alias a) n ≡ None
none_alias [] a n = refl
none_alias (c ∷ columns) a n = none_alias columns a n

-- a reference to atom 0 is to the column with its name
pub own_atom : (columns : List Column) (i : ℕ) (n : List ℕ) → (0 == i) ≡ true
    → own_kinds columns (Atom i) n ≡ type_in columns n
own_atom [] i n z = refl
own_atom (c ∷ columns) i n z =
    ap (λ b. cond (b && same n c.0) (Some c.1) (own_kinds columns (Atom i) n)) z
    ∙ ap (λ b. cond b (Some c.1) (own_kinds columns (Atom i) n)) (same_turned n c.0)
    ∙ ap (λ o. cond (same c.0 n) (Some c.1) o) (own_atom columns i n z)

pub other_atom : (columns : List Column) (i : ℕ) (n : List ℕ) → (0 == i) ≡ false
    → own_kinds columns (Atom i) n ≡ None
other_atom [] i n z = refl
other_atom (c ∷ columns) i n z = ap (λ b. cond (b && same n c.0) (Some c.1)
    (own_kinds columns (Atom i) n)) z ∙ other_atom columns i n z

atom_fits : (columns : List Column) (row : Row) (i : ℕ) (n : List ℕ) (k : ColType)
    → IsRow columns row → (b : Bool) → (0 == i) ≡ b
    → own_kinds columns (Atom i) n ≡ Some k → value_kind
    (if b then cell columns row n else Int (pos 0)) ≡ k
atom_fits columns row i n k r true z e = type_of (cell columns row n) k
    (cell_typed columns row n k r (sym (own_atom columns i n z) ∙ e))
atom_fits columns row i n k r false z e = absurd (let h = other_atom columns i n z in cc)

pub own_fits : (columns : List Column) (row : Row) → IsRow columns row
    → Fits (own_kinds columns) (own_cells columns row)
own_fits columns row r Free n k e = absurd (let h = none_free columns n in cc)
own_fits columns row r (Alias a) n k e = absurd (let h = none_alias columns a n in cc)
own_fits columns row r (Atom i) n k e = atom_fits columns row i n k r (0 == i) refl e

pub own_value_typed : (columns : List Column) (row : Row) (t : Tree) (k : ColType)
    → IsRow columns row → kind_of (own_kinds columns) t ≡ Some k
    → value_kind (value (own_cells columns row) t) ≡ k
own_value_typed columns row t k r e = kept (own_kinds columns) (own_cells columns row) t k
    (own_fits columns row r) e
