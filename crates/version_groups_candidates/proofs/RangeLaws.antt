-- A row that meets a condition is between the condition's cuts.
use Rattle.std.proofs.Common.{◌≡◌, ℕ, zero, suc, ◌+◌, ◌<◌, ◌≤◌, Bool, true, false, List, [], ◌∷◌}
use Rattle.std.proofs.Common.{◌++◌, length, map, take, drop, get_or, refl, sym, ap, ◌∙◌, subst}
use Rattle.std.proofs.Common.{arith, append_assoc}
use Rattle.std.specs.Prelude.{Option, Some, None, ⊤, not, if◌then◌else◌}
use Rattle.std.proofs.lemmas.List.{length-map, drop_more}
use Rattle.std.specs.declared.cmp.Ordering.{Ordering}
use Rattle.std.specs.declared.cmp.Ordering.TheVariants.{Less, Equal, Greater}
use Rattle.std.specs.Ordering.{is_lt, is_le, ordering_then}
use Rattle.prima_base.specs.declared.value.Value.{Value}
use Rattle.prima_base.specs.Order.{value_cmp, row_cmp}
use Rattle.prima_base.specs.Columns.{Column, AreColumns, IsRow}
use Rattle.schema_catalog.specs.Databases.{cell}
use Rattle.schema_catalog.proofs.Cells.{cells_again}
use Rattle.cond_expr.specs.declared.expr.Whose.TheVariants.{Atom}
use Rattle.cond_expr.specs.declared.expr.CmpOp.{CmpOp}
use Rattle.cond_expr.specs.declared.expr.CmpOp.TheVariants.{Eq}
use Rattle.cond_expr.specs.declared.expr.Column.{Column as AtomColumn}
use Rattle.cond_expr.specs.AtomColumns.{columns_at}
use Rattle.cond_expr.specs.Trees.{Test}
use Rattle.cond_expr.specs.Values.{Cells, truth, agrees}
use Rattle.cond_expr.specs.Parts.{parts}
use Rattle.cond_expr.specs.PinnedParts.{pinned}
use Rattle.cond_expr.proofs.PinnedLaws.{pinned_holds}
use Rattle.history_store.specs.Cuts.{Cut, is_before}
use Rattle.history_store.specs.Handing.{at_column}
use Rattle.history_store_columns.proofs.Puts.{exact_values}
use Rattle.smo_ops_spec.specs.OneRow.{own_cells, meets}
use Rattle.version_groups_candidates.specs.declared.end.Side.{Side}
use Rattle.version_groups_candidates.specs.declared.end.Side.TheVariants.{Low, High}
use Rattle.version_groups_candidates.specs.Ranges.{End, cut_at, with_lead, led_by, is_low, tightest}
use Rattle.version_groups_candidates.specs.Ranges.{bounded}
use Rattle.version_groups_candidates.specs.Ranges.{low_cut, high_cut}
use Rattle.version_groups_candidates.proofs.RangeEnds.{hit_within, no_end}

-- the columns hold the row's values
abbrev pub Shows : Cells → List AtomColumn → List Value → Type 0
Shows at [] [] = ⊤
Shows at [] (v ∷ row) = ⊥
Shows at (c ∷ columns) [] = ⊥
Shows at (c ∷ columns) (v ∷ row) = (at (Atom c.atom) c.name ≡ v) × Shows at columns row

is_equal : (o : Ordering) → agrees Eq o ≡ true → o ≡ Equal
is_equal Less e = absurd (cc)
is_equal Equal e = refl
is_equal Greater e = absurd (cc)

-- the first value is that of the cut
led : (x : Value) (k : Cut) (v : Value) (row : List Value) → value_cmp v x ≡ Equal
    → is_before (with_lead (x ∷ []) k) (v ∷ row) ≡ is_before k row
led x k v row e =
    ap (λ o. if k.after then is_le (ordering_then o (row_cmp (take (length k.values) row) k.values))
    else is_lt (ordering_then o (row_cmp (take (length k.values) row) k.values))) e

module _ (at : Cells) (t : Test) (met : truth at t ≡ true) where
  pub compares : (o : CmpOp) (c : AtomColumn) (x v : Value) → pinned o c t ≡ Some x
      → at (Atom c.atom) c.name ≡ v → agrees o (value_cmp v x) ≡ true
  compares o c x v e h = subst (λ y. agrees o (value_cmp y x) ≡ true) h
      (pinned_holds at o c t x met e)

  ends : (side : Side) (c : AtomColumn) (v : Value) (row : List Value) → at (Atom c.atom) c.name ≡ v
      → is_before (bounded (tightest side c (parts t) None) (not (is_low side))) (v ∷ row)
      ≡ not (is_low side)
  ends side c v row h = hit_within v row at c h side t None met (no_end v row side)

  not_below : (columns : List AtomColumn) (row : List Value) → Shows at columns row
      → is_before (low_cut columns t) row ≡ false
  not_below [] [] s = refl
  not_below [] (v ∷ row) s = absurd s
  not_below (c ∷ columns) [] s = absurd s
  not_below (c ∷ columns) (v ∷ row) s = step (pinned Eq c t) refl (not_below columns row s.1)
    where
      step : (o : Option Value) → pinned Eq c t ≡ o → is_before (low_cut columns t) row ≡ false
          → is_before (led_by o (low_cut columns t) (bounded (tightest Low c (parts t) None) false))
          (v ∷ row) ≡ false
      step None e r = ends Low c v row s.0
      step (Some x) e r = led x (low_cut columns t) v row
          (is_equal (value_cmp v x) (compares Eq c x v e s.0)) ∙ r

  not_above : (columns : List AtomColumn) (row : List Value) → Shows at columns row
      → is_before (high_cut columns t) row ≡ true
  not_above [] [] s = refl
  not_above [] (v ∷ row) s = absurd s
  not_above (c ∷ columns) [] s = absurd s
  not_above (c ∷ columns) (v ∷ row) s = step (pinned Eq c t) refl (not_above columns row s.1)
    where
      step : (o : Option Value) → pinned Eq c t ≡ o → is_before (high_cut columns t) row ≡ true
          → is_before (led_by o (high_cut columns t)
          (bounded (tightest High c (parts t) None) true)) (v ∷ row) ≡ true
      step None e r = ends High c v row s.0
      step (Some x) e r = led x (high_cut columns t) v row
          (is_equal (value_cmp v x) (compares Eq c x v e s.0)) ∙ r

  -- where a column is equal to a constant, the row has that value there
  pinned_at : (columns : List AtomColumn) (row : List Value) (k : ℕ) (v : Value)
      → Shows at columns row → k < length columns
      → ((d : AtomColumn) → pinned Eq (get_or columns k d) t ≡ Some v) → at_column k row ≡ v ∷ []
  pinned_at [] row k v s h e = absurd (omega arith)
  pinned_at (c ∷ columns) [] k v s h e = absurd s
  pinned_at (c ∷ columns) (x ∷ row) zero v s h e =
      ap (λ y. y ∷ []) (exact_values x v (is_equal (value_cmp x v) (compares Eq c v x (e c) s.0)))
  pinned_at (c ∷ columns) (x ∷ row) (suc k) v s h e =
      pinned_at columns row k v s.1 (omega arith) (λ d. e d)

-- the columns of a table hold a row's values
shown_in : (at : Cells) (f : List ℕ → Value) (columns : List Column) (row : List Value)
    → ((n : List ℕ) → at (Atom 0) n ≡ f n) → map (λ (c : Column). f c.0) columns ≡ row
    → Shows at (columns_at 0 columns) row
shown_in at f [] [] h e = tt
shown_in at f [] (v ∷ row) h e = absurd (cc)
shown_in at f (c ∷ columns) [] h e = absurd (cc)
shown_in at f (c ∷ columns) (v ∷ row) h e = (
  let first : f c.0 ≡ v = cc in h c.0 ∙ first,
  let rest : map (λ (d : Column). f d.0) columns ≡ row = cc in shown_in at f columns row h rest,
)

module _ (columns : List Column) (t : Test) (row : List Value) (a : AreColumns columns)
    (r : IsRow columns row) (m : meets columns t row ≡ true) where
  pub its_values : Shows (own_cells columns row) (columns_at 0 columns) row
  its_values = shown_in (own_cells columns row) (cell columns row) columns row (λ n. refl)
      (cells_again columns row a r)

  pub hit_not_below : is_before (low_cut (columns_at 0 columns) t) row ≡ false
  hit_not_below = not_below (own_cells columns row) t m (columns_at 0 columns) row its_values

  pub hit_not_above : is_before (high_cut (columns_at 0 columns) t) row ≡ true
  hit_not_above = not_above (own_cells columns row) t m (columns_at 0 columns) row its_values

  pub hit_has_pinned : (k : ℕ) (v : Value) → k < length (columns_at 0 columns)
      → ((d : AtomColumn) → pinned Eq (get_or (columns_at 0 columns) k d) t ≡ Some v)
      → at_column k row ≡ v ∷ []
  hit_has_pinned k v h e = pinned_at (own_cells columns row) t m (columns_at 0 columns) row k v
      its_values h e

-- ---- no more values than columns

few_bounded : (end : Option End) (free : Bool) → length (bounded end free).values ≤ 1
few_bounded (Some end) free = omega arith
few_bounded None free = omega arith

few_led : (o : Option Value) (later here : Cut) (n : ℕ) → length later.values ≤ n
    → length here.values ≤ 1 → length (led_by o later here).values ≤ suc n
few_led None later here n l h = omega (arith, h)
few_led (Some v) later here n l h = omega (arith, l)

low_few : (columns : List AtomColumn) (t : Test)
    → length (low_cut columns t).values ≤ length columns
low_few [] t = omega arith
low_few (c ∷ columns) t = few_led (pinned Eq c t) (low_cut columns t)
    (bounded (tightest Low c (parts t) None) false) (length columns) (low_few columns t)
    (few_bounded (tightest Low c (parts t) None) false)

high_few : (columns : List AtomColumn) (t : Test)
    → length (high_cut columns t).values ≤ length columns
high_few [] t = omega arith
high_few (c ∷ columns) t = few_led (pinned Eq c t) (high_cut columns t)
    (bounded (tightest High c (parts t) None) true) (length columns) (high_few columns t)
    (few_bounded (tightest High c (parts t) None) true)

pub low_narrow : (columns : List Column) (t : Test)
    → length (low_cut (columns_at 0 columns) t).values ≤ length columns
low_narrow columns t = subst (λ n. length (low_cut (columns_at 0 columns) t).values ≤ n)
    (length-map columns (λ (c : Column). record { atom = 0; name = c.0; kind = c.1 }))
    (low_few (columns_at 0 columns) t)

pub high_narrow : (columns : List Column) (t : Test)
    → length (high_cut (columns_at 0 columns) t).values ≤ length columns
high_narrow columns t = subst (λ n. length (high_cut (columns_at 0 columns) t).values ≤ n)
    (length-map columns (λ (c : Column). record { atom = 0; name = c.0; kind = c.1 }))
    (high_few (columns_at 0 columns) t)

-- ---- column by column

pub lead_more : (values : List Value) (x : Value) (k : Cut)
    → with_lead values (with_lead (x ∷ []) k) ≡ with_lead (values ++ x ∷ []) k
lead_more values x k = ap (λ vs. cut_at vs k.after) (sym (append_assoc values (x ∷ []) k.values))

pub column_here : (columns : List AtomColumn) (i : ℕ) (c : AtomColumn) → i < length columns
    → c ≡ get_or columns i c → drop i columns ≡ c ∷ drop (i + 1) columns
column_here columns i c h is = drop_more columns i c h
    ∙ ap (λ (x : AtomColumn). x ∷ drop (i + 1) columns) (sym is)

-- the default is never asked for
pub any_default : (columns : List AtomColumn) (k : ℕ) (c d : AtomColumn) → k < length columns
    → get_or columns k c ≡ get_or columns k d
any_default [] k c d h = absurd (omega arith)
any_default (x ∷ columns) zero c d h = refl
any_default (x ∷ columns) (suc k) c d h = any_default columns k c d (omega arith)
