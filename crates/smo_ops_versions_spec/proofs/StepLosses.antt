-- What is looked up in the losses over one step: over an operator, over a filling, and back over an
-- operator with no way back.
use Rattle.std.proofs.Common.{◌≡◌, ℕ, Bool, true, false, List, [], ◌∷◌, refl, sym, ap, ◌∙◌}
use Rattle.std.proofs.Common.{inl, inr}
use Rattle.std.specs.Prelude.{Option, Some, None, cond, ◌||◌, if◌then◌else◌}
use Rattle.std.specs.Option.{option_or, option_map}
use Rattle.std.specs.FinMap.{FinMap, get, insert, remove, get-insert, get-remove, get-empty}
use Rattle.std.specs.Cmp.Lexicographic.{nat_list_cmp_total}
use Rattle.relations_spec.specs.Sets.{In}
use Rattle.prima_base.specs.Order.{bytes_cmp}
use Rattle.prima_base.specs.OrderLaws.{same_is}
use Rattle.prima_base.specs.Columns.{Column, names_of}
use Rattle.schema_catalog.specs.Tables.{Tables, columns_of}
use Rattle.cond_expr.specs.Trees.{Test}
use Rattle.cond_expr.specs.References.{written_names}
use Rattle.cond_expr.specs.Faults.{references, test_references}
use Rattle.smo_ops_types.specs.Operators.{Operator, nop, create_table, drop_table, rename_table}
use Rattle.smo_ops_types.specs.Operators.{copy_table, merge_table, partition_table, decompose_table}
use Rattle.smo_ops_types.specs.Operators.{join_table, add_column, drop_column, rename_column}
use Rattle.smo_ops_spec.specs.OneRow.{same}
use Rattle.smo_ops_spec.specs.Preconditions.{among}
use Rattle.smo_ops_spec.specs.Making.{common_names}
use Rattle.smo_ops_spec.specs.OperatorTable.{Made, line, made_names, with_all, without_all}
use Rattle.smo_ops_spec.specs.Touching.{makes, consumes}
use Rattle.smo_ops_spec.specs.Losses.{Loss, first_loss}
use Rattle.smo_ops_spec.specs.After.{schema_after}
use Rattle.smo_ops_spec.specs.WaysBack.{FilledColumn}
use Rattle.smo_ops_spec.proofs.NameLaws.{same_itself}
use Rattle.smo_ops_versions_spec.specs.ColumnLosses.{TableLoss, WholeTable, OfColumns, Losses}
use Rattle.smo_ops_versions_spec.specs.ColumnLosses.{whole_loss, lost_columns, table_loss}
use Rattle.smo_ops_versions_spec.specs.ColumnLosses.{column_loss, put_loss, gathered}
use Rattle.smo_ops_versions_spec.specs.LostNames.{first_named, in_inputs, rows_lost, made_loss}
use Rattle.smo_ops_versions_spec.specs.LostNames.{made_column_loss, gives_column, made_as}
use Rattle.smo_ops_versions_spec.specs.LostNames.{none_lost, all_lost, with_made, losses_over}
use Rattle.smo_ops_versions_spec.specs.LostNames.{filled_at, losses_filled, losses_undone}

-- ---- several names

none_at : (names : List (List ℕ)) (a : Losses) (n : List ℕ)
    → get (none_lost names a) n ≡ cond (among n names) None (get a n)
none_at [] a n = refl
none_at (r ∷ names) a n = none_at names (remove a r) n
    ∙ ap (λ (o : Option TableLoss). cond (among n names) None o)
    (get-remove nat_list_cmp_total a r n)
    ∙ step (same n r) (among n names) (get a n)
  where
    step : (s b : Bool) (o : Option TableLoss) → cond b None (cond s None o) ≡ cond (s || b) None o
    step true true o = refl
    step true false o = refl
    step false b o = refl

all_at : (loss : Loss) (names : List (List ℕ)) (a : Losses) (n : List ℕ)
    → get (all_lost loss names a) n ≡ cond (among n names) (Some (WholeTable loss)) (get a n)
all_at loss [] a n = refl
all_at loss (r ∷ names) a n = all_at loss names (insert a r (WholeTable loss)) n
    ∙ ap (λ (o : Option TableLoss). cond (among n names) (Some (WholeTable loss)) o)
    (get-insert nat_list_cmp_total a r (WholeTable loss) n)
    ∙ step (same n r) (among n names) (get a n)
  where
    step : (s b : Bool) (o : Option TableLoss)
        → cond b (Some (WholeTable loss)) (cond s (Some (WholeTable loss)) o)
        ≡ cond (s || b) (Some (WholeTable loss)) o
    step true true o = refl
    step true false o = refl
    step false b o = refl

-- ---- what is made

module _ (of : List Column → TableLoss) where
  made_others : (made : List Made) (a : Losses) (n : List ℕ) → among n (made_names made) ≡ false
      → get (with_made of made a) n ≡ get a n
  made_others [] a n e = refl
  made_others (m ∷ made) a n e =
      step (made_others made (insert a m.name (of m.columns)) n) (same n m.name) refl e
    where
      step : (among n (made_names made) ≡ false
          → get (with_made of made (insert a m.name (of m.columns))) n
          ≡ get (insert a m.name (of m.columns)) n)
          → (s : Bool) → same n m.name ≡ s → (s || among n (made_names made)) ≡ false
          → get (with_made of made (insert a m.name (of m.columns))) n ≡ get a n
      step more true q f = absurd (cc)
      step more false q f = more f
          ∙ get-insert nat_list_cmp_total a m.name (of m.columns) n
          ∙ ap (λ (s : Bool). cond s (Some (of m.columns)) (get a n)) q

  whole_at : (x : Option Loss) → ((cs : List Column) → whole_loss (Some (of cs)) ≡ x)
      → (made : List Made) (a : Losses) (n : List ℕ)
      → table_loss (with_made of made a) n ≡ cond (among n (made_names made)) x (table_loss a n)
  whole_at x w [] a n = refl
  whole_at x w (m ∷ made) a n = whole_at x w made (insert a m.name (of m.columns)) n
      ∙ ap (λ (o : Option TableLoss). cond (among n (made_names made)) x (whole_loss o))
      (get-insert nat_list_cmp_total a m.name (of m.columns) n)
      ∙ step (same n m.name) (among n (made_names made)) (get a n)
    where
      step : (s b : Bool) (o : Option TableLoss)
          → cond b x (whole_loss (cond s (Some (of m.columns)) o)) ≡ cond (s || b) x (whole_loss o)
      step true true o = refl
      step true false o = w m.columns
      step false b o = refl

  -- a name that the tables and the losses have from one made table, they have so after the others
  along : (made : List Made) (t : Tables) (a : Losses) (n : List ℕ)
      → get a n ≡ option_map of (get t n)
      → get (with_made of made a) n ≡ option_map of (get (with_all made t) n)
  along [] t a n h = h
  along (m ∷ made) t a n h =
      along made (insert t m.name m.columns) (insert a m.name (of m.columns)) n
      (get-insert nat_list_cmp_total a m.name (of m.columns) n
      ∙ step (same n m.name)
      ∙ sym (ap (option_map of) (get-insert nat_list_cmp_total t m.name m.columns n)))
    where
      step : (s : Bool) → cond s (Some (of m.columns)) (get a n)
          ≡ option_map of (cond s (Some m.columns) (get t n))
      step true = refl
      step false = h

  made_along : (made : List Made) (t : Tables) (a : Losses) (n : List ℕ)
      → among n (made_names made) ≡ true
      → get (with_made of made a) n ≡ option_map of (get (with_all made t) n)
  made_along [] t a n e = absurd (cc)
  made_along (m ∷ made) t a n e = step (made_along made (insert t m.name m.columns)
      (insert a m.name (of m.columns)) n) (same n m.name) refl e
    where
      step : (among n (made_names made) ≡ true
          → get (with_made of made (insert a m.name (of m.columns))) n
          ≡ option_map of (get (with_all made (insert t m.name m.columns)) n))
          → (s : Bool) → same n m.name ≡ s → (s || among n (made_names made)) ≡ true
          → get (with_made of made (insert a m.name (of m.columns))) n
          ≡ option_map of (get (with_all made (insert t m.name m.columns)) n)
      step more true q f = along made (insert t m.name m.columns) (insert a m.name (of m.columns)) n
          (get-insert nat_list_cmp_total a m.name (of m.columns) n
          ∙ ap (λ (s : Bool). cond s (Some (of m.columns)) (get a n)) q
          ∙ sym (ap (option_map of) (get-insert nat_list_cmp_total t m.name m.columns n
          ∙ ap (λ (s : Bool). cond s (Some m.columns) (get t n)) q)))
      step more false q f = more f

-- ---- the losses of columns that are gathered

put_is : (o : Option Loss) (c n : List ℕ) (lost : FinMap bytes_cmp Loss)
    → get (put_loss o c lost) n ≡ cond (same n c) (option_or o (get lost n)) (get lost n)
put_is None c n lost = either (same n c) (get lost n)
  where
    either : (s : Bool) (o : Option Loss) → o ≡ cond s o o
    either true o = refl
    either false o = refl
put_is (Some l) c n lost = get-insert nat_list_cmp_total lost c l n

gathered_is : (columns : List Column) (loss : List ℕ → Option Loss) (n : List ℕ)
    → get (gathered columns loss) n ≡ cond (among n (names_of columns)) (loss n) None
gathered_is [] loss n = get-empty bytes_cmp n
gathered_is (c ∷ columns) loss n = put_is (loss c.0) c.0 n (gathered columns loss)
    ∙ ap (λ (o : Option Loss). cond (same n c.0) (option_or (loss c.0) o) o)
    (gathered_is columns loss n)
    ∙ step (same n c.0) refl (among n (names_of columns))
  where
    again : (b : Bool) (o : Option Loss) → option_or o (cond b o None) ≡ o
    again b (Some l) = refl
    again true None = refl
    again false None = refl

    step : (s : Bool) → same n c.0 ≡ s → (b : Bool)
        → cond s (option_or (loss c.0) (cond b (loss n) None)) (cond b (loss n) None)
        ≡ cond (s || b) (loss n) None
    step true q b = ap (λ (m : List ℕ). option_or (loss m) (cond b (loss n) None))
        (sym (same_is n c.0 q)) ∙ again b (loss n)
    step false q b = refl

in_among : (n : List ℕ) (names : List (List ℕ)) → In n names → among n names ≡ true
in_among n [] m = absurd m
in_among n (x ∷ names) (inl q) = ap (λ (y : List ℕ). same y x || among n names) (sym q)
    ∙ ap (λ (b : Bool). b || among n names) (same_itself x)
in_among n (x ∷ names) (inr m) = ap (λ (b : Bool). same n x || b) (in_among n names m)
    ∙ either (same n x)
  where
    either : (s : Bool) → (s || true) ≡ true
    either true = refl
    either false = refl

gathered_at : (columns : List Column) (loss : List ℕ → Option Loss) (n : List ℕ)
    → In n (names_of columns) → get (gathered columns loss) n ≡ loss n
gathered_at columns loss n m = gathered_is columns loss n
    ∙ ap (λ (b : Bool). cond b (loss n) None) (in_among n (names_of columns) m)

-- ---- over an operator

or_end : (o : Option Loss) → option_or o None ≡ o
or_end None = refl
or_end (Some l) = refl

first_same : (f g : List ℕ → Option Loss) → ((n : List ℕ) → f n ≡ g n) → (names : List (List ℕ))
    → first_loss f names ≡ first_loss g names
first_same f g h [] = refl
first_same f g h (n ∷ names) = ap (λ (o : Option Loss). option_or o (first_loss f names)) (h n)
    ∙ ap (option_or (g n)) (first_same f g h names)

module _ (tables : Tables) (op : Operator) (losses : Losses) where
  abbrev less : Losses
  less = none_lost (line tables op).consumed losses

  abbrev over_with : Option Loss → Losses
  over_with o = with_made (made_as o (made_column_loss op losses)) (line tables op).made
      (none_lost (line tables op).consumed losses)

  pub is_lost : (n : List ℕ) (loss : Loss) → made_loss tables op losses ≡ Some loss
      → makes tables op n ≡ true → table_loss (losses_over tables op losses) n ≡ Some loss
  is_lost n loss e m = ap (λ (o : Option Loss). table_loss (over_with o) n) e
      ∙ whole_at (made_as (Some loss) (made_column_loss op losses)) (Some loss) (λ cs. refl)
      (line tables op).made less n
      ∙ ap (λ (b : Bool). cond b (Some loss) (table_loss less n)) m

  pub is_kept : (n : List ℕ) → made_loss tables op losses ≡ None
      → makes tables op n ≡ true → table_loss (losses_over tables op losses) n ≡ None
  is_kept n e m = ap (λ (o : Option Loss). table_loss (over_with o) n) e
      ∙ whole_at (made_as None (made_column_loss op losses)) None (λ cs. refl)
      (line tables op).made less n
      ∙ ap (λ (b : Bool). cond b None (table_loss less n)) m

  pub is_gone : (n : List ℕ) → makes tables op n ≡ false → consumes tables op n ≡ true
      → get (losses_over tables op losses) n ≡ None
  is_gone n e m =
      made_others (made_as (made_loss tables op losses) (made_column_loss op losses))
      (line tables op).made less n e
      ∙ none_at (line tables op).consumed losses n
      ∙ ap (λ (b : Bool). cond b None (get losses n)) m

  pub is_other : (n : List ℕ) → makes tables op n ≡ false → consumes tables op n ≡ false
      → get (losses_over tables op losses) n ≡ get losses n
  is_other n e m =
      made_others (made_as (made_loss tables op losses) (made_column_loss op losses))
      (line tables op).made less n e
      ∙ none_at (line tables op).consumed losses n
      ∙ ap (λ (b : Bool). cond b None (get losses n)) m

  pub column_is : (n : List ℕ) (columns : List Column) (c : List ℕ)
      → makes tables op n ≡ true → get (schema_after tables op) n ≡ Some columns
      → In c (names_of columns) → made_loss tables op losses ≡ None
      → column_loss (losses_over tables op losses) n c ≡ made_column_loss op losses c
  column_is n columns c m e i k = ap (λ (o : Option Loss). column_loss (over_with o) n c) k
      ∙ ap (λ (o : Option TableLoss). get (lost_columns o) c)
      (made_along (made_as None (made_column_loss op losses)) (line tables op).made
      (without_all (line tables op).consumed tables) less n m
      ∙ ap (option_map (made_as None (made_column_loss op losses))) e)
      ∙ gathered_at columns (made_column_loss op losses) c i

pub by_inputs : (op : Operator) (losses : Losses) (c : List ℕ) → gives_column op c ≡ false
    → made_column_loss op losses c ≡ in_inputs losses op c
by_inputs nop losses c e = refl
by_inputs (create_table r cs) losses c e = refl
by_inputs (drop_table r) losses c e = refl
by_inputs (rename_table r t) losses c e = refl
by_inputs (copy_table r t) losses c e = refl
by_inputs (merge_table r s t) losses c e = refl
by_inputs (partition_table r s x t) losses c e = refl
by_inputs (decompose_table r s xs t ys) losses c e = refl
by_inputs (join_table r s t x) losses c e = refl
by_inputs (add_column x t r) losses c e =
    ap (λ (b : Bool). if b then first_named (column_loss losses r) (references t)
    else column_loss losses r c) e ∙ sym (or_end (column_loss losses r c))
by_inputs (drop_column x r) losses c e = refl
by_inputs (rename_column b r x) losses c e =
    ap (λ (s : Bool). if s then column_loss losses r b else column_loss losses r c) e
    ∙ sym (or_end (column_loss losses r c))

-- ---- a JOIN

module _ (tables : Tables) (r s t : List ℕ) (c : Test) (losses : Losses)
    (no_first : table_loss losses r ≡ None) (no_second : table_loss losses s ≡ None) where
  abbrev op : Operator
  op = join_table r s t c

  in_both : (n : List ℕ) → in_inputs losses op n
      ≡ option_or (column_loss losses r n) (column_loss losses s n)
  in_both n = ap (option_or (column_loss losses r n)) (or_end (column_loss losses s n))

  commons : first_loss (in_inputs losses op)
      (common_names (columns_of tables r) (columns_of tables s))
      ≡ first_loss (λ n. option_or (column_loss losses r n) (column_loss losses s n))
      (common_names (columns_of tables r) (columns_of tables s))
  commons = first_same (in_inputs losses op)
      (λ n. option_or (column_loss losses r n) (column_loss losses s n)) in_both
      (common_names (columns_of tables r) (columns_of tables s))

  by_rows : made_loss tables op losses ≡ rows_lost tables op losses
  by_rows =
      ap (λ (o : Option Loss). option_or (option_or o (option_or (table_loss losses s) None))
      (rows_lost tables op losses)) no_first
      ∙ ap (λ (o : Option Loss). option_or (option_or o None) (rows_lost tables op losses))
      no_second

  made_here : makes tables op t ≡ true
  made_here = ap (λ (b : Bool). b || false) (same_itself t)

  pub common_lost : (loss : Loss)
      → first_loss (λ n. option_or (column_loss losses r n) (column_loss losses s n))
      (common_names (columns_of tables r) (columns_of tables s)) ≡ Some loss
      → table_loss (losses_over tables op losses) t ≡ Some loss
  common_lost loss e = is_lost tables op losses t loss
      (by_rows ∙ ap (λ (o : Option Loss). option_or o
      (first_named (in_inputs losses op) (test_references c))) (commons ∙ e)) made_here

  pub condition_lost : (loss : Loss)
      → first_loss (λ n. option_or (column_loss losses r n) (column_loss losses s n))
      (common_names (columns_of tables r) (columns_of tables s)) ≡ None
      → first_named (λ n. option_or (column_loss losses r n) (column_loss losses s n))
      (test_references c) ≡ Some loss
      → table_loss (losses_over tables op losses) t ≡ Some loss
  condition_lost loss none e = is_lost tables op losses t loss
      (by_rows ∙ ap (λ (o : Option Loss). option_or o
      (first_named (in_inputs losses op) (test_references c))) (commons ∙ none)
      ∙ first_same (in_inputs losses op)
      (λ n. option_or (column_loss losses r n) (column_loss losses s n)) in_both
      (written_names (test_references c)) ∙ e) made_here

-- ---- over a filling, and back over an operator with no way back

module _ (f : FilledColumn) (loss : Loss) (losses : Losses) where
  abbrev with_loss : TableLoss
  with_loss = OfColumns (insert (lost_columns (get losses f.table)) f.name loss)

  filled_is : table_loss losses f.table ≡ None → (n : List ℕ)
      → get (losses_filled loss f losses) n
      ≡ cond (same n f.table) (Some with_loss) (get losses n)
  filled_is e n = ap (λ (o : Option Loss). get (filled_at loss f o losses) n) e
      ∙ get-insert nat_list_cmp_total losses f.table with_loss n

  its_table : table_loss losses f.table ≡ None
      → get (losses_filled loss f losses) f.table ≡ Some with_loss
  its_table e = filled_is e f.table
      ∙ ap (λ (s : Bool). cond s (Some with_loss) (get losses f.table)) (same_itself f.table)

  pub filled_whole : table_loss losses f.table ≡ None
      → table_loss (losses_filled loss f losses) f.table ≡ None
  filled_whole e = ap whole_loss (its_table e)

  filled_column_is : table_loss losses f.table ≡ None → (c : List ℕ)
      → column_loss (losses_filled loss f losses) f.table c
      ≡ cond (same c f.name) (Some loss) (column_loss losses f.table c)
  filled_column_is e c = ap (λ (o : Option TableLoss). get (lost_columns o) c) (its_table e)
      ∙ get-insert nat_list_cmp_total (lost_columns (get losses f.table)) f.name loss c

  pub filled_column : table_loss losses f.table ≡ None
      → column_loss (losses_filled loss f losses) f.table f.name ≡ Some loss
  filled_column e = filled_column_is e f.name
      ∙ ap (λ (s : Bool). cond s (Some loss) (column_loss losses f.table f.name))
      (same_itself f.name)

  pub filled_columns : (c : List ℕ) → table_loss losses f.table ≡ None → same c f.name ≡ false
      → column_loss (losses_filled loss f losses) f.table c ≡ column_loss losses f.table c
  filled_columns c e q = filled_column_is e c
      ∙ ap (λ (s : Bool). cond s (Some loss) (column_loss losses f.table c)) q

  pub filled_others : (n : List ℕ) → same n f.table ≡ false
      → get (losses_filled loss f losses) n ≡ get losses n
  filled_others n q = either (table_loss losses f.table) refl
    where
      either : (o : Option Loss) → table_loss losses f.table ≡ o
          → get (losses_filled loss f losses) n ≡ get losses n
      either None e = filled_is e n
          ∙ ap (λ (s : Bool). cond s (Some with_loss) (get losses n)) q
      either (Some whole) e = ap (λ (o : Option Loss). get (filled_at loss f o losses) n) e

  pub filled_lost : (whole : Loss) → table_loss losses f.table ≡ Some whole
      → losses_filled loss f losses ≡ losses
  filled_lost whole e = ap (λ (o : Option Loss). filled_at loss f o losses) e

module _ (before : Tables) (op : Operator) (loss : Loss) (losses : Losses) (n : List ℕ) where
  undone_is : get (losses_undone loss before op losses) n
      ≡ cond (consumes before op n) (Some (WholeTable loss))
      (cond (makes before op n) None (get losses n))
  undone_is =
      all_at loss (line before op).consumed
      (none_lost (made_names (line before op).made) losses) n
      ∙ ap (λ (o : Option TableLoss). cond (consumes before op n) (Some (WholeTable loss)) o)
      (none_at (made_names (line before op).made) losses n)

  pub undone_lost : consumes before op n ≡ true
      → table_loss (losses_undone loss before op losses) n ≡ Some loss
  undone_lost e = ap whole_loss (undone_is ∙ ap (λ (b : Bool). cond b (Some (WholeTable loss))
      (cond (makes before op n) None (get losses n))) e)

  pub undone_gone : makes before op n ≡ true → consumes before op n ≡ false
      → get (losses_undone loss before op losses) n ≡ None
  undone_gone m e = undone_is ∙ ap (λ (b : Bool). cond b (Some (WholeTable loss))
      (cond (makes before op n) None (get losses n))) e
      ∙ ap (λ (b : Bool). cond b None (get losses n)) m

  pub undone_others : makes before op n ≡ false → consumes before op n ≡ false
      → get (losses_undone loss before op losses) n ≡ get losses n
  undone_others m e = undone_is ∙ ap (λ (b : Bool). cond b (Some (WholeTable loss))
      (cond (makes before op n) None (get losses n))) e
      ∙ ap (λ (b : Bool). cond b None (get losses n)) m
