-- The types of the columns of atoms, by the atoms' places.
use Rattle.std.specs.Prelude.{◌≡◌, ℕ, zero, suc, ◌+◌, ◌==◌, ◌<◌, List, [], ◌∷◌, ◌++◌, Bool, true}
use Rattle.std.specs.Prelude.{false, ◌&&◌, Option, Some, None, is_some, cond, if◌then◌else◌}
use Rattle.std.proofs.Common.{refl, ap, subst, ◌∙◌, arith, inl, inr}
use Rattle.relations_spec.specs.Sets.{In}
use Rattle.prima_base.specs.declared.value.ColType.{ColType}
use Rattle.prima_base.specs.Columns.{Column, names_of}
use Rattle.prima_base.specs.OrderLaws.{same_is}
use Rattle.cond_expr.specs.declared.expr.Whose.{Whose}
use Rattle.cond_expr.specs.declared.expr.Whose.TheVariants.{Free, Alias, Atom}
use Rattle.cond_expr.specs.declared.expr.Column.{Column as AtomColumn}
use Rattle.cond_expr.specs.Kinds.{kinds_of}
use Rattle.smo_ops_spec.specs.OneRow.{same}
use Rattle.smo_ops_spec.specs.Preconditions.{type_in}
use Rattle.smo_ops_spec.proofs.NameLaws.{same_turned}
use Rattle.cond_expr.specs.AtomColumns.{columns_at, atoms_from, kinds_of_atoms}
use Rattle.piece_ir_spec.proofs.KnownKinds.{Known}

-- the type of a column of the atom at a place
abbrev pub atom_kind : List (List Column) → ℕ → List ℕ → Option ColType
atom_kind [] i n = None
atom_kind (cs ∷ columns) zero n = type_in cs n
atom_kind (cs ∷ columns) (suc i) n = atom_kind columns i n

no_free : (columns : List AtomColumn) (n : List ℕ) → kinds_of columns Free n ≡ None
no_free [] n = refl
no_free (c ∷ columns) n = no_free columns n

no_alias : (columns : List AtomColumn) (a n : List ℕ) → kinds_of columns (Alias a) n ≡ None
no_alias [] a n = refl
no_alias (c ∷ columns) a n = no_alias columns a n

apart : (j i : ℕ) → (j ≡ i → ⊥) → (j == i) ≡ false
apart j i h = step (j == i) refl
  where
    step : (b : Bool) → (j == i) ≡ b → (j == i) ≡ false
    step true e = absurd (h (grind (arith, e)))
    step false e = e

itself : (j : ℕ) → (j == j) ≡ true
itself j = grind (arith)

other_at : (j i : ℕ) (n : List ℕ) (cs : List Column) (rest : List AtomColumn) → (j == i) ≡ false
    → kinds_of (columns_at j cs ++ rest) (Atom i) n ≡ kinds_of rest (Atom i) n
other_at j i n [] rest e = refl
other_at j i n (c ∷ cs) rest e =
    ap (λ b. cond (b && same n c.0) (Some c.1) (kinds_of (columns_at j cs ++ rest) (Atom i) n)) e
    ∙ other_at j i n cs rest e

here_at : (j : ℕ) (n : List ℕ) (cs : List Column) (rest : List AtomColumn)
    → kinds_of rest (Atom j) n ≡ None
    → kinds_of (columns_at j cs ++ rest) (Atom j) n ≡ type_in cs n
here_at j n [] rest e = e
here_at j n (c ∷ cs) rest e =
    ap (λ b. cond (b && same n c.0) (Some c.1) (kinds_of (columns_at j cs ++ rest) (Atom j) n))
    (itself j)
    ∙ ap (λ b. cond b (Some c.1) (kinds_of (columns_at j cs ++ rest) (Atom j) n))
    (same_turned n c.0)
    ∙ ap (λ o. cond (same c.0 n) (Some c.1) o) (here_at j n cs rest e)

none_below : (j i : ℕ) (n : List ℕ) (columns : List (List Column)) → i < j
    → kinds_of (atoms_from j columns) (Atom i) n ≡ None
none_below j i n [] l = refl
none_below j i n (cs ∷ columns) l =
    let m : i < j + 1 = omega arith in
    other_at j i n cs (atoms_from (j + 1) columns) (apart j i (λ e. omega arith))
    ∙ none_below (j + 1) i n columns m

from_place : (j i k : ℕ) (n : List ℕ) (columns : List (List Column)) → k ≡ j + i
    → kinds_of (atoms_from j columns) (Atom k) n ≡ atom_kind columns i n
from_place j i k n [] e = refl
from_place j zero k n (cs ∷ columns) e =
    let f : k ≡ j = omega arith in
    let l : j < j + 1 = omega arith in
    ap (λ (m : ℕ). kinds_of (atoms_from j (cs ∷ columns)) (Atom m) n) f
    ∙ here_at j n cs (atoms_from (j + 1) columns) (none_below (j + 1) j n columns l)
from_place j (suc i) k n (cs ∷ columns) e =
    let f : k ≡ (j + 1) + i = omega arith in
    other_at j k n cs (atoms_from (j + 1) columns) (apart j k (λ q. omega arith))
    ∙ from_place (j + 1) i k n columns f

pub kinds_at : (columns : List (List Column)) (i : ℕ) (n : List ℕ)
    → kinds_of_atoms columns (Atom i) n ≡ atom_kind columns i n
kinds_at columns i n = from_place 0 i i n columns (omega arith)

-- what is known is a column of an atom
pub known_atom : (columns : List (List Column)) (P : Whose → Type 0) (w : Whose) (n : List ℕ)
    → Known (kinds_of_atoms columns) w n
    → ((i : ℕ) → is_some (atom_kind columns i n) ≡ true → P (Atom i)) → P w
known_atom columns P Free n k f = absurd (let e = no_free (atoms_from 0 columns) n in cc)
known_atom columns P (Alias a) n k f = absurd (let e = no_alias (atoms_from 0 columns) a n in cc)
known_atom columns P (Atom i) n k f = f i (subst (λ (o : Option ColType). is_some o ≡ true)
    (kinds_at columns i n) k)

-- a column that has a type has a name
pub typed_named : (columns : List Column) (n : List ℕ) → is_some (type_in columns n) ≡ true
    → In n (names_of columns)
typed_named [] n e = absurd (cc)
typed_named (c ∷ columns) n e = step (same c.0 n) refl e (typed_named columns n)
  where
    step : (b : Bool) → same c.0 n ≡ b → is_some (if b then Some c.1 else type_in columns n) ≡ true
        → (is_some (type_in columns n) ≡ true → In n (names_of columns))
        → In n (c.0 ∷ names_of columns)
    step true q f more = inl (same_is c.0 n q)
    step false q f more = inr (more f)
