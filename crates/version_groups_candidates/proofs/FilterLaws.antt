-- A row that meets a condition passes its filters.
use Rattle.std.proofs.Common.{◌≡◌, ℕ, zero, suc, ◌+◌, ◌<◌, true, List, [], ◌∷◌, length}
use Rattle.std.proofs.Common.{get_or, drop, refl, sym, ap, ◌∙◌, subst, arith}
use Rattle.std.specs.Prelude.{Some, slice_get, ◌&&◌}
use Rattle.std.proofs.lemmas.List.{drop_more}
use Rattle.prima_base.specs.declared.value.Value.{Value}
use Rattle.prima_base.specs.Columns.{Column, AreColumns, IsRow}
use Rattle.cond_expr.specs.declared.expr.Whose.TheVariants.{Atom}
use Rattle.cond_expr.specs.declared.expr.CmpOp.{CmpOp}
use Rattle.cond_expr.specs.declared.expr.Column.{Column as AtomColumn}
use Rattle.cond_expr.specs.AtomColumns.{columns_at}
use Rattle.cond_expr.specs.Trees.{Test}
use Rattle.cond_expr.specs.Values.{Cells, truth}
use Rattle.cond_expr.specs.PinnedParts.{pinned}
use Rattle.smo_ops_spec.specs.OneRow.{Row, own_cells, meets}
use Rattle.version_groups_candidates.specs.Filters.{ColumnTest, is_passed_by, lets, passes}
use Rattle.version_groups_candidates.specs.Filters.{IsFilter}
use Rattle.version_groups_candidates.proofs.RangeLaws.{Shows, compares, its_values}

-- the row's value in a column compares as a part says
module _ (at : Cells) (t : Test) (met : truth at t ≡ true) where
  agree : (columns : List AtomColumn) (row : List Value) (k : ℕ) (c : AtomColumn) (o : CmpOp)
      (x : Value) → Shows at columns row → slice_get columns k ≡ Some c → pinned o c t ≡ Some x
      → is_passed_by o x (slice_get row k) ≡ true
  agree [] row k c o x s g e = absurd (cc)
  agree (d ∷ columns) [] k c o x s g e = absurd s
  agree (d ∷ columns) (v ∷ row) zero c o x s g e =
      let is : d ≡ c = cc in
      compares at t met o c x v e (subst (λ (a : AtomColumn). at (Atom a.atom) a.name ≡ v) is s.0)
  agree (d ∷ columns) (v ∷ row) (suc k) c o x s g e = agree columns row k c o x s.1 g e

module _ (columns : List Column) (t : Test) (row : List Value) (a : AreColumns columns)
    (r : IsRow columns row) (m : meets columns t row ≡ true) where
  pub hit_passes : (tests : List ColumnTest) → IsFilter (columns_at 0 columns) t tests
      → passes tests row ≡ true
  hit_passes [] f = refl
  hit_passes (x ∷ tests) f =
      let p = f 0 x (omega arith) in
      let first : lets x row ≡ true = agree (own_cells columns row) t m (columns_at 0 columns) row
      x.column p.column x.op x.constant (its_values columns t row a r m) p.there p.pins in
      ap (λ b. b && passes tests row) first ∙ hit_passes tests
      (λ k d h. f (suc k) d (omega (arith, h)))

-- ---- test by test

pub passes_next : (tests : List ColumnTest) (i : ℕ) (x : ColumnTest) (row : Row) → i < length tests
    → x ≡ get_or tests i x → passes (drop i tests) row
    ≡ (lets x row && passes (drop (i + 1) tests) row)
passes_next tests i x row h is = ap (λ ts. passes ts row)
    (drop_more tests i x h ∙ ap (λ (y : ColumnTest). y ∷ drop (i + 1) tests) (sym is))
