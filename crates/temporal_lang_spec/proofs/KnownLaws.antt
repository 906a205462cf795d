-- A reference that is accepted is made one to a column of its item.
use Rattle.std.specs.Prelude.{◌≡◌, ◌==◌, ◌&&◌, ◌||◌, not, ℕ, ◌+◌, Bool, true, false, cond, List, []}
use Rattle.std.specs.Prelude.{◌∷◌, ◌++◌, length, map, nat_le, is_none, Option, Some, None}
use Rattle.std.proofs.Common.{refl, sym, ap, ◌∙◌, arith}
use Rattle.std.specs.List.{filter, find, position_or_len}
use Rattle.prima_base.specs.declared.refusal.Refusal.TheVariants.{NoColumn, Ambiguous}
use Rattle.prima_base.specs.Columns.{Column, names_of}
use Rattle.cond_expr.specs.declared.expr.Whose.{Whose}
use Rattle.cond_expr.specs.declared.expr.Whose.TheVariants.{Free, Alias, Atom}
use Rattle.cond_expr.specs.declared.expr.ColRef.{ColRef}
use Rattle.cond_expr.specs.declared.expr.Column.{Column as AtomColumn}
use Rattle.cond_expr.specs.Rows.{same}
use Rattle.cond_expr.specs.Kinds.{kinds_of}
use Rattle.cond_expr.specs.Faults.{references, first_unknown}
use Rattle.smo_ops_spec.specs.First.{unless}
use Rattle.smo_ops_spec.specs.Preconditions.{among}
use Rattle.smo_ops_spec.proofs.Firsts.{none_of_first, met}
use Rattle.cond_expr.specs.AtomColumns.{columns_at, atoms_from}
use Rattle.temporal_lang_spec.specs.Atoms.{Source, has_column, has_alias, place_of_column}
use Rattle.temporal_lang_spec.specs.Atoms.{place_of_alias, to_atoms}
use Rattle.temporal_lang_spec.specs.Checking.{holders, column_fault, whose_fault, reference_test}

-- the columns of each
abbrev pub source_columns : List Source → List (List Column)
source_columns sources = map (λ (s : Source). s.columns) sources

itself : (i : ℕ) → (i == i) ≡ true
itself i = grind (arith)

other : (i j : ℕ) → (i == (i + (1 + j))) ≡ false
other i j = grind (arith)

-- no column has the name in the atom
abbrev none_there : List AtomColumn → List ℕ → ℕ → Bool
none_there columns n i = is_none (kinds_of columns (Atom i) n)

-- the columns of an item, before others
own : (i : ℕ) (n : List ℕ) (cs : List Column) (rest : List AtomColumn)
    → among n (names_of cs) ≡ true → none_there (columns_at i cs ++ rest) n i ≡ false
own i n [] rest h = absurd (cc)
own i n (c ∷ cs) rest h = step (own i n cs rest) (same n c.0) refl
  where
    first : none_there (columns_at i (c ∷ cs) ++ rest) n i
        ≡ is_none (cond (same n c.0) (Some c.1) (kinds_of (columns_at i cs ++ rest) (Atom i) n))
    first = ap (λ b. is_none (cond (b && same n c.0) (Some c.1)
        (kinds_of (columns_at i cs ++ rest) (Atom i) n))) (itself i)

    step : (among n (names_of cs) ≡ true → none_there (columns_at i cs ++ rest) n i ≡ false)
        → (b : Bool) → same n c.0 ≡ b → none_there (columns_at i (c ∷ cs) ++ rest) n i ≡ false
    step rec true e = first ∙ ap (λ b. is_none
        (cond b (Some c.1) (kinds_of (columns_at i cs ++ rest) (Atom i) n))) e
    step rec false e = first ∙ ap (λ b. is_none
        (cond b (Some c.1) (kinds_of (columns_at i cs ++ rest) (Atom i) n))) e
        ∙ rec (ap (λ b. b || among n (names_of cs)) (sym e) ∙ h)

-- and those of a later one
after : (i j : ℕ) (n : List ℕ) (cs : List Column) (rest : List AtomColumn)
    → kinds_of (columns_at i cs ++ rest) (Atom (i + (1 + j))) n
    ≡ kinds_of rest (Atom (i + (1 + j))) n
after i j n [] rest = refl
after i j n (c ∷ cs) rest = ap (λ b. cond (b && same n c.0) (Some c.1)
    (kinds_of (columns_at i cs ++ rest) (Atom (i + (1 + j))) n)) (other i j) ∙ after i j n cs rest

shifted : (i j : ℕ) → i + (1 + j) ≡ i + 1 + j
shifted i j = omega arith

-- the first item that meets a test, and has the column
at_place : (test : Source → Bool) (n : List ℕ) (i : ℕ) (sources : List Source) (s : Source)
    → find test sources ≡ Some s → has_column n s ≡ true
    → none_there (atoms_from i (source_columns sources)) n (i + position_or_len test sources)
    ≡ false
at_place test n i [] s e h = absurd (cc)
at_place test n i (x ∷ sources) s e h = step (at_place test n (i + 1) sources s) (test x) refl
  where
    there : Some x ≡ Some s → x ≡ s
    there p = cc

    step : (find test sources ≡ Some s → has_column n s ≡ true
        → none_there (atoms_from (i + 1) (source_columns sources)) n
        (i + 1 + position_or_len test sources) ≡ false)
        → (b : Bool) → test x ≡ b → none_there (atoms_from i (source_columns (x ∷ sources))) n
        (i + cond (not b) (1 + position_or_len test sources) 0) ≡ false
    step rec true q =
        let found : x ≡ s = there (ap (λ b. cond b (Some x) (find test sources)) (sym q) ∙ e) in
        let here : i + 0 ≡ i = omega arith in
        ap (λ k. none_there (columns_at i x.columns ++ atoms_from (i + 1) (source_columns sources))
        n k) here
        ∙ own i n x.columns (atoms_from (i + 1) (source_columns sources))
        (ap (λ (y : Source). has_column n y) found ∙ h)
    step rec false q =
        ap is_none (after i (position_or_len test sources) n x.columns
        (atoms_from (i + 1) (source_columns sources)))
        ∙ ap (λ k. none_there (atoms_from (i + 1) (source_columns sources)) n k)
        (shifted i (position_or_len test sources))
        ∙ rec (ap (λ b. cond b (Some x) (find test sources)) (sym q) ∙ e) h

-- an item has the column where several have it, or one
abbrev Holder : List Source → List ℕ → Type 0
Holder sources n = (s : Source) × (find (has_column n) sources ≡ Some s) × (has_column n s ≡ true)

a_holder : (sources : List Source) (n : List ℕ) → nat_le 1 (holders sources n) ≡ true
    → Holder sources n
a_holder [] n h = absurd (cc)
a_holder (x ∷ sources) n h = step (a_holder sources n) (has_column n x) refl
  where
    step : (nat_le 1 (holders sources n) ≡ true → Holder sources n) → (b : Bool)
        → has_column n x ≡ b → Holder (x ∷ sources) n
    step rec true q = (x, ap (λ b. cond b (Some x) (find (has_column n) sources)) q, q)
    step rec false q =
        let rest = rec (ap (λ b. nat_le 1 (length
        (cond b (x ∷ filter (has_column n) sources) (filter (has_column n) sources)))) (sym q)
        ∙ h) in
        (rest.0, ap (λ b. cond b (Some x) (find (has_column n) sources)) q ∙ rest.1, rest.2)

from_nought : (sources : List Source) (p : ℕ) (n : List ℕ)
    → none_there (atoms_from 0 (source_columns sources)) n (0 + p) ≡ false
    → none_there (atoms_from 0 (source_columns sources)) n p ≡ false
from_nought sources p n h = (let same : p ≡ 0 + p = omega arith in
    ap (λ k. none_there (atoms_from 0 (source_columns sources)) n k) same ∙ h)

is_known : (sources : List Source) (place : ℕ) (n : List ℕ)
    → none_there (atoms_from 0 (source_columns sources)) n place ≡ false
    → cond (none_there (atoms_from 0 (source_columns sources)) n place) (Some n) None ≡ None
is_known sources place n h = ap (λ b. cond b (Some n) None) h

pub known_reference : (sources : List Source) (r : ColRef) → reference_test sources r ≡ None
    → first_unknown (kinds_of (atoms_from 0 (source_columns sources)))
    (references (to_atoms sources r.whose r.name)) ≡ None
known_reference sources r h = step r.whose r.name h
  where
    in_alias : (o : Option Source) (alias n : List ℕ) → find (has_alias alias) sources ≡ o
        → column_fault o alias n ≡ None
        → none_there (atoms_from 0 (source_columns sources)) n (place_of_alias sources alias)
        ≡ false
    in_alias None alias n e h = absurd (cc)
    in_alias (Some s) alias n e h = from_nought sources (place_of_alias sources alias) n
        (at_place (has_alias alias) n 0 sources s e (met (has_column n s) (NoColumn n) h))

    step : (w : Whose) (n : List ℕ) → whose_fault sources w n ≡ None
        → first_unknown (kinds_of (atoms_from 0 (source_columns sources)))
        (references (to_atoms sources w n)) ≡ None
    step Free n h =
        let parts = none_of_first (unless (nat_le 1 (holders sources n)) (NoColumn n))
        (unless (nat_le (holders sources n) 1) (Ambiguous n) ∷ []) h in
        let held = a_holder sources n (met (nat_le 1 (holders sources n)) (NoColumn n) parts.0) in
        is_known sources (place_of_column sources n) n
        (from_nought sources (place_of_column sources n) n
        (at_place (has_column n) n 0 sources held.0 held.1 held.2))
    step (Alias alias) n h = is_known sources (place_of_alias sources alias) n
        (in_alias (find (has_alias alias) sources) alias n refl h)
    step (Atom i) n h = absurd (cc)
