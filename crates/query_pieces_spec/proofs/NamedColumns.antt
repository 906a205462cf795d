-- A reference to an atom that names something names a column of that atom.
use Rattle.std.proofs.Common.{◌≡◌, ◌+◌, ◌<◌, ℕ, Bool, true, false, cond, List, [], ◌∷◌, ◌++◌, refl}
use Rattle.std.proofs.Common.{sym, ap, subst, ◌∙◌, inl, inr, arith}
use Rattle.std.specs.Prelude.{◌==◌, ◌&&◌, Some, None, is_none}
use Rattle.std.proofs.lemmas.Bool.Decides.{nat_tests}
use Rattle.relations_spec.specs.Sets.{In}
use Rattle.prima_base.specs.Columns.{Column, names_of}
use Rattle.prima_base.specs.OrderLaws.{same_is}
use Rattle.cond_expr.specs.declared.expr.Column.{Column as AtomColumn}
use Rattle.cond_expr.specs.declared.expr.ColRef.{ColRef}
use Rattle.cond_expr.specs.declared.expr.Whose.TheVariants.{Atom}
use Rattle.cond_expr.specs.Kinds.{Kinds, kinds_of}
use Rattle.cond_expr.specs.Faults.{first_unknown}
use Rattle.smo_ops_spec.specs.OneRow.{same}
use Rattle.cond_expr.specs.AtomColumns.{columns_at, atoms_from}

-- each of these references names something
pub known_each : (of : Kinds) (rs : List ColRef) → first_unknown of rs ≡ None → (r : ColRef)
    → In r rs → is_none (of r.whose r.name) ≡ false
known_each of [] e r m = absurd m
known_each of (x ∷ rs) e r m = step (known_each of rs) (is_none (of x.whose x.name)) refl e m
  where
    step : (first_unknown of rs ≡ None → (s : ColRef) → In s rs
        → is_none (of s.whose s.name) ≡ false) → (b : Bool) → is_none (of x.whose x.name) ≡ b
        → cond b (Some x.name) (first_unknown of rs) ≡ None → In r (x ∷ rs)
        → is_none (of r.whose r.name) ≡ false
    step rec true q e m = absurd (cc)
    step rec false q e (inl s) = subst (λ (y : ColRef). is_none (of y.whose y.name) ≡ false) s q
    step rec false q e (inr m) = rec e r m

itself : (i : ℕ) → (i == i) ≡ true
itself i = grind (arith)

pub apart : (i j : ℕ) → i < j → (i == j) ≡ false
apart i j l = grind (arith, nat_tests)

pub apart_too : (i j : ℕ) → j < i → (i == j) ≡ false
apart_too i j l = grind (arith, nat_tests)

-- columns of another atom name nothing of it
pub other_columns : (i j : ℕ) → (i == j) ≡ false
    → (n : List ℕ) (cs : List Column) (rest : List AtomColumn)
    → kinds_of (columns_at i cs ++ rest) (Atom j) n ≡ kinds_of rest (Atom j) n
other_columns i j e n [] rest = refl
other_columns i j e n (c ∷ cs) rest =
    ap (λ b. cond (b && same n c.0) (Some c.1) (kinds_of (columns_at i cs ++ rest) (Atom j) n)) e
    ∙ other_columns i j e n cs rest

absent : (k j : ℕ) → j < k → (n : List ℕ) (columns : List (List Column))
    → kinds_of (atoms_from k columns) (Atom j) n ≡ None
absent k j l n [] = refl
absent k j l n (cs ∷ columns) = other_columns k j (apart_too k j l) n cs
    (atoms_from (k + 1) columns) ∙ absent (k + 1) j (omega (arith, l)) n columns

among_own : (i : ℕ) (n : List ℕ) (cs : List Column) (rest : List AtomColumn)
    → kinds_of rest (Atom i) n ≡ None → is_none (kinds_of (columns_at i cs ++ rest) (Atom i) n)
    ≡ false
    → In n (names_of cs)
among_own i n [] rest none e = absurd (let f : true ≡ false = sym (ap is_none none) ∙ e in cc)
among_own i n (c ∷ cs) rest none e = step (among_own i n cs rest none) (same n c.0) refl
  where
    first : is_none (kinds_of (columns_at i (c ∷ cs) ++ rest) (Atom i) n)
        ≡ is_none (cond (same n c.0) (Some c.1) (kinds_of (columns_at i cs ++ rest) (Atom i) n))
    first = ap (λ b. is_none (cond (b && same n c.0) (Some c.1)
        (kinds_of (columns_at i cs ++ rest) (Atom i) n))) (itself i)

    step : (is_none (kinds_of (columns_at i cs ++ rest) (Atom i) n) ≡ false → In n (names_of cs))
        → (b : Bool) → same n c.0 ≡ b → In n (c.0 ∷ names_of cs)
    step rec true q = inl (sym (same_is n c.0 q))
    step rec false q = inr (rec (sym (first ∙ ap
        (λ b. is_none (cond b (Some c.1) (kinds_of (columns_at i cs ++ rest) (Atom i) n))) q) ∙ e))

-- what names something of the first of these atoms names a column of it
pub in_first : (i : ℕ) (n : List ℕ) (cs : List Column) (columns : List (List Column))
    → is_none (kinds_of (atoms_from i (cs ∷ columns)) (Atom i) n) ≡ false → In n (names_of cs)
in_first i n cs columns e = among_own i n cs (atoms_from (i + 1) columns)
    (absent (i + 1) i (omega arith) n columns) e

-- and what names something of a later one does so among those after the first
pub in_later : (i j : ℕ) → i < j → (n : List ℕ) (cs : List Column) (columns : List (List Column))
    → is_none (kinds_of (atoms_from i (cs ∷ columns)) (Atom j) n) ≡ false
    → is_none (kinds_of (atoms_from (i + 1) columns) (Atom j) n) ≡ false
in_later i j l n cs columns e = sym (ap is_none
    (other_columns i j (apart i j l) n cs (atoms_from (i + 1) columns))) ∙ e
