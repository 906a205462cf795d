-- Atoms with those of their rows that meet the parts that speak of one atom alone.
use Rattle.std.proofs.Common.{◌≡◌, ℕ, true, List, [], ◌∷◌, ◌++◌, append_assoc, refl, sym, ap, ◌∙◌}
use Rattle.std.proofs.Common.{subst}
use Rattle.std.specs.List.{filter}
use Rattle.std.specs.Borrow.{Bor}
use Rattle.std.proofs.lemmas.List.{append-nil, map-append}
use Rattle.relations_spec.specs.Sets.{In}
use Rattle.relations_spec.specs.Timed.{Entry}
use Rattle.relations_spec.proofs.Held.{in_at}
use Rattle.relations_spec.proofs.SetLaws.{in_filter, from_filter}
use Rattle.prima_base.specs.declared.value.Value.{Value}
use Rattle.prima_base.specs.declared.timed_row.TimedRow.{TimedRow}
use Rattle.prima_base.specs.Order.{row_cmp}
use Rattle.prima_base.specs.OrderLaws.{row_exact}
use Rattle.prima_base.specs.Timed.{entry_of, entries_of, rows_at}
use Rattle.cond_expr.specs.declared.expr.Column.{Column}
use Rattle.cond_expr.specs.declared.expr.Cond.{Cond}
use Rattle.cond_expr.specs.Trees.{Tree, Test}
use Rattle.join_exec_engine.specs.declared.atom.Atom.{Atom}
use Rattle.join_exec_spec.specs.Keeping.{meets_all, borrowed_tests, AreOwnParts}
use Rattle.cond_expr.specs.Parts.{parts}
use Rattle.prima_base.specs.declared.value.Val.{Val}
use Rattle.join_exec_spec.specs.BorrowedOutputs.{EachRow, BorrowedValues, RowsBorrow}
use Rattle.join_exec_spec.specs.Fitting.{Fit}
use Rattle.join_exec_spec.specs.Blocks.{answered, IsPruned}
use Rattle.join_exec_spec.proofs.Groups.{shown_kept}
use Rattle.join_exec_spec.proofs.BorrowedLaws.{each_kept}
use Rattle.join_exec_spec.proofs.PrunedAtoms.{one_pruned}
use Rattle.join_exec_engine.proofs.AtomOrder.{is_block, are_blocks, apart_of, atoms_borrow}
use Rattle.join_exec_engine.proofs.AtomOrder.{both_atoms}
use Rattle.join_exec_engine.specs.Atoms.{AtomsBorrow, block_of, blocks_of, IsNumbered, AreNumbered}

-- the rows that meet some conditions
module _ (columns : List Column) (own : List Test) (rows kept : List TimedRow)
    (made : kept ≡ filter (λ (t : TimedRow). meets_all columns own (entry_of t).item) rows) where
  entries_kept : entries_of kept ≡ filter (λ (e : Entry (List Value)). meets_all columns own e.item)
      (entries_of rows)
  entries_kept = ap entries_of made ∙ shown_kept
      (λ (e : Entry (List Value)). meets_all columns own e.item) rows

  from_kept : (e : Entry (List Value)) → In e (entries_of kept) → In e (entries_of rows)
  from_kept e i = (from_filter (λ (f : Entry (List Value)). meets_all columns own f.item) e
      (entries_of rows) (subst (λ (es : List (Entry (List Value))). In e es) entries_kept i)).0

  pub fit_kept : (n : ℕ) → Fit n (entries_of rows) → Fit n (entries_of kept)
  fit_kept n f = λ e i. f e (from_kept e i)

  pub each_kept_too : (so : List Val → Type 0) → EachRow so rows → EachRow so kept
  each_kept_too so l = subst (EachRow so) (sym made)
      (each_kept so (λ (t : TimedRow). meets_all columns own (entry_of t).item) rows l)

  only_kept : (m : ℕ) (row : List Value) → In row (rows_at kept m) → In row (rows_at rows m)
  only_kept m row i = let h = (in_at row_cmp row_exact (entries_of kept) row m).0 i in
      (in_at row_cmp row_exact (entries_of rows) row m).1 (h.0, from_kept h.0 h.1, h.2, h.3)

  all_kept : (m : ℕ) (row : List Value) → In row (rows_at rows m) → meets_all columns own row ≡ true
      → In row (rows_at kept m)
  all_kept m row i t =
      let h = (in_at row_cmp row_exact (entries_of rows) row m).0 i in
      let there = in_filter (λ (f : Entry (List Value)). meets_all columns own f.item) h.0
      (entries_of rows) h.1 (ap (meets_all columns own) h.2 ∙ t) in
      (in_at row_cmp row_exact (entries_of kept) row m).1 (
        h.0,
        subst (λ (es : List (Entry (List Value))). In h.0 es) (sym entries_kept) there,
        h.2,
        h.3,
      )

-- as they are at a call
pub kept_by : (columns given : List Column) (own conds : List (Bor Cond))
    (rows kept : List TimedRow) → kept ≡ filter
    (λ (t : TimedRow). meets_all given (borrowed_tests conds) (entry_of t).item) rows
    → given ≡ columns → conds ≡ own
    → kept ≡ filter (λ (t : TimedRow). meets_all columns (borrowed_tests own) (entry_of t).item)
    rows
kept_by columns given own conds rows kept made c o =
    made
    ∙ ap (λ (cs : List Column). filter (λ (t : TimedRow).
    meets_all cs (borrowed_tests conds) (entry_of t).item) rows) c
    ∙ ap (λ (os : List (Bor Cond)). filter (λ (t : TimedRow).
    meets_all columns (borrowed_tests os) (entry_of t).item) rows) o

pub pruned_by : (conds own : List Test) (was : Atom) (kept : List TimedRow)
    → kept ≡ filter (λ (t : TimedRow). meets_all was.columns.items own (entry_of t).item)
    was.rows.items
    → AreOwnParts was.columns.items conds own → (m : ℕ)
    → IsPruned conds (block_of m was) (record
    { number = was.number; columns = was.columns.items; rows = rows_at kept m })
pruned_by conds own was kept made parts m = record {
  number = refl;
  columns = refl;
  only = λ row i. only_kept was.columns.items own was.rows.items kept made m row i;
  useful = λ row i rest more t. all_kept was.columns.items own was.rows.items kept made m row i
      (parts rest row more ((is_block m was).wide row i) t);
}

-- numbers stay
numbered_like : (k : ℕ) (xs ys : List Atom) (a d : Atom) → d.number ≡ a.number
    → IsNumbered k (xs ++ a ∷ ys) → IsNumbered k (xs ++ d ∷ ys)
numbered_like k [] ys a d e h = (λ q. h.0 (sym e ∙ q), h.1)
numbered_like k (x ∷ xs) ys a d e h = (h.0, numbered_like k xs ys a d e h.1)

all_numbered_like : (xs ys : List Atom) (a d : Atom) → d.number ≡ a.number
    → AreNumbered (xs ++ a ∷ ys) → AreNumbered (xs ++ d ∷ ys)
all_numbered_like [] ys a d e h = (subst (λ k. IsNumbered k ys) (sym e) h.0, h.1)
all_numbered_like (x ∷ xs) ys a d e h = (
  numbered_like x.number xs ys a d e h.0,
  all_numbered_like xs ys a d e h.1,
)

-- one more of the atoms
module _ (before done more : List Atom) (a d : Atom) (made : more ≡ done ++ d ∷ [])
    (numbered : (rest : List Atom) → AreNumbered (before ++ rest)
    → AreNumbered (done ++ rest)) where
  with_rest : (rest : List Atom) → AreNumbered ((before ++ a ∷ []) ++ rest)
      → AreNumbered (done ++ a ∷ rest)
  with_rest rest h = numbered (a ∷ rest) (subst AreNumbered (append_assoc before (a ∷ []) rest) h)

  pub numbered_more : d.number ≡ a.number → (rest : List Atom)
      → AreNumbered ((before ++ a ∷ []) ++ rest) → AreNumbered (more ++ rest)
  numbered_more e rest h = subst (λ (xs : List Atom). AreNumbered (xs ++ rest)) (sym made)
      (subst AreNumbered (sym (append_assoc done (d ∷ []) rest))
      (all_numbered_like done rest a d e (with_rest rest h)))

  pub borrows_more : (which : BorrowedValues) → (AtomsBorrow which before → AtomsBorrow which done)
      → (RowsBorrow which a.columns.items a.rows.items
      → RowsBorrow which d.columns.items d.rows.items)
      → AtomsBorrow which (before ++ a ∷ []) → AtomsBorrow which more
  borrows_more which f g h = let p = atoms_borrow which before (a ∷ []) h in
      subst (AtomsBorrow which) (sym made) (both_atoms which done (d ∷ []) (f p.0) (g p.1.0, tt))

  pub same_more : (outs : List Tree) (cond : Test) (m : ℕ)
      → IsPruned (parts cond) (block_of m a) (block_of m d)
      → ((rest : List Atom) → AreNumbered (before ++ rest)
      → answered outs cond (blocks_of m (done ++ rest))
      ≡ answered outs cond (blocks_of m (before ++ rest)))
      → (rest : List Atom) → AreNumbered ((before ++ a ∷ []) ++ rest)
      → answered outs cond (blocks_of m (more ++ rest))
      ≡ answered outs cond (blocks_of m ((before ++ a ∷ []) ++ rest))
  same_more outs cond m p same rest h =
      ap (λ (xs : List Atom). answered outs cond (blocks_of m xs))
      (ap (λ (xs : List Atom). xs ++ rest) made ∙ append_assoc done (d ∷ []) rest)
      ∙ ap (answered outs cond) (map-append (block_of m) done (d ∷ rest))
      ∙ sym (one_pruned outs cond (block_of m a) (block_of m d) p (blocks_of m done)
      (blocks_of m rest) (are_blocks m done) (is_block m a)
      (apart_of m done rest a (with_rest rest h)))
      ∙ sym (ap (answered outs cond) (map-append (block_of m) done (a ∷ rest)))
      ∙ same (a ∷ rest) (subst AreNumbered (append_assoc before (a ∷ []) rest) h)
      ∙ sym (ap (λ (xs : List Atom). answered outs cond (blocks_of m xs))
      (append_assoc before (a ∷ []) rest))

-- all of them
module _ (atoms before done : List Atom) (all : before ≡ atoms) (h : AreNumbered atoms) where
  with_none : AreNumbered (before ++ [])
  with_none = subst AreNumbered (sym (append-nil before ∙ all)) h

  pub numbered_all : ((rest : List Atom) → AreNumbered (before ++ rest)
      → AreNumbered (done ++ rest)) → AreNumbered done
  numbered_all f = subst AreNumbered (append-nil done) (f [] with_none)

  pub same_all : (outs : List Tree) (cond : Test) (m : ℕ)
      → ((rest : List Atom) → AreNumbered (before ++ rest)
      → answered outs cond (blocks_of m (done ++ rest))
      ≡ answered outs cond (blocks_of m (before ++ rest)))
      → answered outs cond (blocks_of m done) ≡ answered outs cond (blocks_of m atoms)
  same_all outs cond m f =
      ap (λ (xs : List Atom). answered outs cond (blocks_of m xs)) (sym (append-nil done))
      ∙ f [] with_none
      ∙ ap (λ (xs : List Atom). answered outs cond (blocks_of m xs)) (append-nil before ∙ all)
