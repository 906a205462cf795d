-- One of the atoms that are left put after those before.
use Rattle.std.proofs.Common.{◌≡◌, ◌<◌, ℕ, zero, suc, List, [], ◌∷◌, ◌++◌, append_assoc, length}
use Rattle.std.proofs.Common.{take, drop, get_or, refl, sym, ap, ◌∙◌, subst, arith}
use Rattle.std.specs.List.{remove}
use Rattle.std.proofs.lemmas.List.Concat.{flat_map-append}
use Rattle.prima_base.specs.declared.value.Value.{Value}
use Rattle.cond_expr.specs.declared.expr.Column.{Column}
use Rattle.std.proofs.lemmas.List.{append-nil, map-append}
use Rattle.relations_spec.proofs.Held.{in_at}
use Rattle.prima_base.specs.Order.{row_cmp}
use Rattle.prima_base.specs.OrderLaws.{row_exact}
use Rattle.prima_base.specs.Timed.{entries_of, rows_at}
use Rattle.cond_expr.specs.Trees.{Tree, Test}
use Rattle.join_exec_engine.specs.declared.atom.Atom.{Atom}
use Rattle.join_exec_levels.specs.declared.source.Source.{Source}
use Rattle.join_exec_spec.specs.BorrowedOutputs.{BorrowedValues, RowsBorrow}
use Rattle.join_exec_spec.specs.Blocks.{Block, answered, IsBlock, Apart, AreBlocks, types_of}
use Rattle.join_exec_spec.specs.Blocks.{rows_of}
use Rattle.join_exec_spec.proofs.Reordering.{moved}
use Rattle.join_exec_levels.specs.Sources.{SourcesBorrow}
use Rattle.join_exec_engine.specs.Atoms.{AtomsBorrow, atom_rows, block_of, blocks_of}
use Rattle.join_exec_engine.specs.Atoms.{IsNumbered, AreNumbered, columns_of_atoms}

pub is_block : (m : ℕ) (a : Atom) → IsBlock (block_of m a)
is_block m a = record {
  own = a.own;
  wide = λ row i. (let h = (in_at row_cmp row_exact (entries_of a.rows.items) row m).0 i in
      ap length (sym h.2) ∙ (a.fit h.0 h.1).0);
}

pub are_blocks : (m : ℕ) (atoms : List Atom) → AreBlocks (blocks_of m atoms)
are_blocks m [] = tt
are_blocks m (a ∷ atoms) = (is_block m a, are_blocks m atoms)

numbered_at : (k : ℕ) (xs ys : List Atom) (a : Atom) → IsNumbered k (xs ++ a ∷ ys)
    → (a.number ≡ k → ⊥) × IsNumbered k (xs ++ ys)
numbered_at k [] ys a h = h
numbered_at k (x ∷ xs) ys a h = let r = numbered_at k xs ys a h.1 in (r.0, (h.0, r.1))

numbered_without : (xs ys : List Atom) (a : Atom) → AreNumbered (xs ++ a ∷ ys)
    → AreNumbered (xs ++ ys)
numbered_without [] ys a h = h.1
numbered_without (x ∷ xs) ys a h = (
  (numbered_at x.number xs ys a h.0).1,
  numbered_without xs ys a h.1,
)

pub apart_of : (m : ℕ) (xs ys : List Atom) (a : Atom) → AreNumbered (xs ++ a ∷ ys)
    → Apart a.number (blocks_of m xs)
apart_of m [] ys a h = tt
apart_of m (x ∷ xs) ys a h = (
  λ e. (numbered_at x.number xs ys a h.0).0 (sym e),
  apart_of m xs ys a h.1,
)

split_at : {X : Type 0} (xs : List X) (i : ℕ) (x : X) → i < length xs → x ≡ get_or xs i x
    → xs ≡ take i xs ++ x ∷ drop (suc i) xs
split_at [] i x l e = absurd (omega arith)
split_at {X} (y ∷ xs) zero x l e = ap (λ (z : X). z ∷ xs) (sym e)
split_at {X} (y ∷ xs) (suc i) x l e = ap (λ (zs : List X). y ∷ zs) (split_at xs i x (omega arith) e)

pub numbered_left : (left more : List Atom) (i : ℕ) (a : Atom) → i < length left
    → a ≡ get_or left i a → more ≡ remove left i → AreNumbered left → AreNumbered more
numbered_left left more i a l e r h = subst AreNumbered (sym r)
    (numbered_without (take i left) (drop (suc i) left) a
    (subst AreNumbered (split_at left i a l e) h))

pub one_moved : (done left next more : List Atom) (i : ℕ) (a : Atom) → i < length left
    → a ≡ get_or left i a → AreNumbered left → next ≡ done ++ a ∷ [] → more ≡ remove left i
    → (outs : List Tree) (c : Test) (m : ℕ) → answered outs c (blocks_of m next ++ blocks_of m more)
    ≡ answered outs c (blocks_of m done ++ blocks_of m left)
one_moved done left next more i a l e h n r outs c m =
    let prefix : List Atom = take i left in
    let back : List Atom = drop (suc i) left in
    let s : left ≡ prefix ++ a ∷ back = split_at left i a l e in
    sym (
    ap (λ (bs : List Block). answered outs c (blocks_of m done ++ bs))
    (ap (blocks_of m) s ∙ map-append (block_of m) prefix (a ∷ back))
    ∙ moved outs c (blocks_of m done) (blocks_of m prefix) (block_of m a) (blocks_of m back)
    (are_blocks m done) (are_blocks m prefix) (is_block m a)
    (apart_of m prefix back a (subst AreNumbered s h))
    ∙ ap (answered outs c) (sym (
    ap (λ (bs : List Block). bs ++ blocks_of m more)
    (ap (blocks_of m) n ∙ map-append (block_of m) done (a ∷ []))
    ∙ ap (λ (bs : List Block). (blocks_of m done ++ block_of m a ∷ []) ++ bs)
    (ap (blocks_of m) r ∙ map-append (block_of m) prefix back)
    ∙ append_assoc (blocks_of m done) (block_of m a ∷ []) (blocks_of m prefix ++ blocks_of m back)
    ))
    )

-- the columns and the rows of atoms, one more and all
pub columns_more : (atoms : List Atom) (a : Atom) (types more : List Column)
    → types ≡ columns_of_atoms atoms → more ≡ types ++ a.columns.items
    → more ≡ columns_of_atoms (atoms ++ a ∷ [])
columns_more atoms a types more e f =
    f ∙ ap (λ (cs : List Column). cs ++ a.columns.items) e
    ∙ sym (flat_map-append (λ (x : Atom). x.columns.items) atoms (a ∷ [])
    ∙ ap (λ (cs : List Column). columns_of_atoms atoms ++ cs) (append-nil a.columns.items))

pub rows_more : (m : ℕ) (atoms : List Atom) (a : Atom) (rows more : List (List (List Value)))
    → rows ≡ rows_of (blocks_of m atoms) → more ≡ rows ++ rows_at a.rows.items m ∷ []
    → more ≡ rows_of (blocks_of m (atoms ++ a ∷ []))
rows_more m atoms a rows more e f =
    f ∙ ap (λ (rs : List (List (List Value))). rs ++ rows_at a.rows.items m ∷ []) e
    ∙ sym (ap rows_of (map-append (block_of m) atoms (a ∷ []))
    ∙ map-append (λ (b : Block). b.rows) (blocks_of m atoms) (block_of m a ∷ []))

pub types_is : (m : ℕ) (atoms : List Atom) → columns_of_atoms atoms ≡ types_of (blocks_of m atoms)
types_is m [] = refl
types_is m (a ∷ atoms) = ap (λ (cs : List Column). a.columns.items ++ cs) (types_is m atoms)

pub rows_is : (m : ℕ) (atoms : List Atom) → rows_of (blocks_of m atoms) ≡ atom_rows atoms m
rows_is m [] = refl
rows_is m (a ∷ atoms) = ap (λ (rs : List (List (List Value))). rows_at a.rows.items m ∷ rs)
    (rows_is m atoms)

-- what atoms and lists borrow
module _ (which : BorrowedValues) where
  pub atoms_borrow : (xs ys : List Atom) → AtomsBorrow which (xs ++ ys) → AtomsBorrow which xs
      × AtomsBorrow which ys
  atoms_borrow [] ys h = (tt, h)
  atoms_borrow (x ∷ xs) ys h = let r = atoms_borrow xs ys h.1 in ((h.0, r.0), r.1)

  pub both_atoms : (xs ys : List Atom) → AtomsBorrow which xs → AtomsBorrow which ys
      → AtomsBorrow which (xs ++ ys)
  both_atoms [] ys h k = k
  both_atoms (x ∷ xs) ys h k = (h.0, both_atoms xs ys h.1 k)

  pub one_borrows : (done left next more : List Atom) (i : ℕ) (a : Atom) → i < length left
      → a ≡ get_or left i a → next ≡ done ++ a ∷ [] → more ≡ remove left i
      → AtomsBorrow which done × AtomsBorrow which left → AtomsBorrow which next
      × AtomsBorrow which more
  one_borrows done left next more i a l e n r h =
      let s = atoms_borrow (take i left) (a ∷ drop (suc i) left)
      (subst (AtomsBorrow which) (split_at left i a l e) h.1) in (
        subst (AtomsBorrow which) (sym n) (both_atoms done (a ∷ []) h.0 (s.1.0, tt)),
        subst (AtomsBorrow which) (sym r) (both_atoms (take i left) (drop (suc i) left) s.0 s.1.1),
      )

  pub sources_with : (before own : List Column) (sources : List Source) (s : Source)
      → SourcesBorrow which before sources → RowsBorrow which own s.rows.items
      → SourcesBorrow which (before ++ own) (sources ++ s ∷ [])
  sources_with before own [] s h k = (
    own,
    [],
    ap (λ (cs : List Column). cs ++ own) h ∙ sym (append-nil own),
    k,
    refl,
  )
  sources_with before own (t ∷ sources) s h k = (
    h.0,
    h.1 ++ own,
    ap (λ (cs : List Column). cs ++ own) h.2 ∙ append_assoc h.0 h.1 own,
    h.3,
    sources_with h.1 own sources s h.4 k,
  )
