-- What is lost of a table on the way from a version is lost of it on the way from each later one:
-- the table itself, and its columns.
use Rattle.std.proofs.Common.{◌≡◌, ◌≤◌, ℕ, Bool, true, false, List, [], ◌∷◌, refl, sym, ap, subst}
use Rattle.std.proofs.Common.{◌∙◌, inl, inr}
use Rattle.std.specs.Prelude.{cond, Option, Some, None, if◌then◌else◌}
use Rattle.std.specs.Ordering.{eq_by_cmp}
use Rattle.std.specs.FinMap.{get, insert, remove, empty, get-insert, get-remove, get-empty}
use Rattle.std.specs.Cmp.Lexicographic.{nat_list_cmp_total}
use Rattle.relations_spec.specs.Sets.{In}
use Rattle.prima_base.specs.Order.{bytes_cmp}
use Rattle.prima_base.specs.OrderLaws.{same_is}
use Rattle.prima_base.specs.Columns.{Column, names_of}
use Rattle.schema_catalog.specs.Tables.{Tables}
use Rattle.cond_expr.specs.declared.expr.ColRef.{ColRef}
use Rattle.cond_expr.specs.References.{written_names}
use Rattle.cond_expr.specs.Faults.{references, test_references}
use Rattle.smo_ops_types.specs.Operators.{Operator, nop, create_table, drop_table, rename_table}
use Rattle.smo_ops_types.specs.Operators.{copy_table, merge_table, partition_table, decompose_table}
use Rattle.smo_ops_types.specs.Operators.{join_table, add_column, drop_column, rename_column}
use Rattle.smo_ops_types.specs.Commands.{PlainVersion}
use Rattle.smo_ops_spec.specs.OneRow.{same}
use Rattle.smo_ops_spec.specs.Effects.{columns_of}
use Rattle.smo_ops_spec.specs.Making.{common_names}
use Rattle.smo_ops_spec.specs.OperatorTable.{Made, line, made_names}
use Rattle.smo_ops_spec.specs.Touching.{made_of}
use Rattle.smo_ops_spec.specs.Losses.{Loss, first_loss}
use Rattle.smo_ops_spec.specs.WaysBack.{FilledColumn}
use Rattle.smo_ops_versions_spec.specs.Steps.{Step, carrying, filling, undoing}
use Rattle.smo_ops_versions_spec.specs.Ways.{way}
use Rattle.smo_ops_versions_spec.specs.ColumnLosses.{TableLoss, WholeTable, OfColumns, Losses}
use Rattle.smo_ops_versions_spec.specs.ColumnLosses.{whole_loss, lost_columns, table_loss}
use Rattle.smo_ops_versions_spec.specs.ColumnLosses.{column_loss, gathered, put_loss}
use Rattle.smo_ops_versions_spec.specs.LostNames.{first_named, in_inputs, rows_lost, made_loss}
use Rattle.smo_ops_versions_spec.specs.LostNames.{made_column_loss, made_as, none_lost, all_lost}
use Rattle.smo_ops_versions_spec.specs.LostNames.{with_made, losses_over, filled_at}
use Rattle.smo_ops_versions_spec.specs.LostNames.{losses_filled, losses_undone, losses_stepped}
use Rattle.smo_ops_versions_spec.specs.LostNames.{lost_names}
use Rattle.smo_ops_versions_spec.proofs.StepLaws.{taken_so}
use Rattle.smo_ops_versions_spec.proofs.WaySteps.{taken_back_by}
use Rattle.smo_ops_versions_spec.proofs.LossMaps.{first_none, or_none, none_or, none_first}
use Rattle.smo_ops_versions_spec.proofs.LossMaps.{gathered_none}
use Rattle.smo_ops_versions_spec.proofs.LossCauses.{gathered_some}

some_or_none : (o : Option Loss) → ((l : Loss) → o ≡ Some l → ⊥) → o ≡ None
some_or_none None h = refl
some_or_none (Some l) h = absurd (h l refl)

-- ---- of one table

-- what is not lost of the second is not lost of the first
abbrev pub KeptAt : Option TableLoss → Option TableLoss → Type 0
KeptAt a b = whole_loss b ≡ None → (whole_loss a ≡ None)
    × ((c : List ℕ) → get (lost_columns b) c ≡ None → get (lost_columns a) c ≡ None)

abbrev pub LostToo : Losses → Losses → Type 0
LostToo a b = (n : List ℕ) → KeptAt (get a n) (get b n)

none_at : (o : Option TableLoss) → KeptAt None o
none_at o e = (refl, λ c f. get-empty bytes_cmp c)

lost_at : (o : Option TableLoss) (l : Loss) → KeptAt o (Some (WholeTable l))
lost_at o l e = absurd (cc)

by_cond : (b : Bool) (x y u v : Option TableLoss) → KeptAt x y → KeptAt u v
    → KeptAt (cond b x u) (cond b y v)
by_cond true x y u v p q = p
by_cond false x y u v p q = q

kept_so : (a b x y : Option TableLoss) → a ≡ x → b ≡ y → KeptAt x y → KeptAt a b
kept_so a b x y p q h = subst (λ (o : Option TableLoss). KeptAt o b) (sym p)
    (subst (λ (o : Option TableLoss). KeptAt x o) (sym q) h)

one_out : (a b : Losses) (n : List ℕ) → LostToo a b → LostToo (remove a n) (remove b n)
one_out a b n h q = kept_so _ _ _ _ (get-remove nat_list_cmp_total a n q)
    (get-remove nat_list_cmp_total b n q)
    (by_cond (eq_by_cmp bytes_cmp q n) None None (get a q) (get b q) (none_at None) (h q))

one_in : (a b : Losses) (n : List ℕ) (x y : TableLoss) → KeptAt (Some x) (Some y) → LostToo a b
    → LostToo (insert a n x) (insert b n y)
one_in a b n x y p h q = kept_so _ _ _ _ (get-insert nat_list_cmp_total a n x q)
    (get-insert nat_list_cmp_total b n y q)
    (by_cond (eq_by_cmp bytes_cmp q n) (Some x) (Some y) (get a q) (get b q) p (h q))

all_out : (names : List (List ℕ)) (a b : Losses) → LostToo a b
    → LostToo (none_lost names a) (none_lost names b)
all_out [] a b h = h
all_out (n ∷ names) a b h = all_out names (remove a n) (remove b n) (one_out a b n h)

all_in : (l : Loss) (names : List (List ℕ)) (a b : Losses) → LostToo a b
    → LostToo (all_lost l names a) (all_lost l names b)
all_in l [] a b h = h
all_in l (n ∷ names) a b h = all_in l names (insert a n (WholeTable l)) (insert b n (WholeTable l))
    (one_in a b n (WholeTable l) (WholeTable l) (lost_at (Some (WholeTable l)) l) h)

made_in : (f g : List Column → TableLoss)
    → ((columns : List Column) → KeptAt (Some (f columns)) (Some (g columns)))
    → (made : List Made) (a b : Losses) → LostToo a b
    → LostToo (with_made f made a) (with_made g made b)
made_in f g p [] a b h = h
made_in f g p (m ∷ made) a b h = made_in f g p made (insert a m.name (f m.columns))
    (insert b m.name (g m.columns)) (one_in a b m.name (f m.columns) (g m.columns) (p m.columns) h)

-- a column that is gathered as lost is one of them
named_one : (columns : List Column) (f : List ℕ → Option Loss) (c : List ℕ) (l : Loss)
    → get (gathered columns f) c ≡ Some l → In c (names_of columns)
named_one [] f c l e = absurd (let g : get (gathered [] f) c ≡ None = get-empty bytes_cmp c in cc)
named_one (d ∷ columns) f c l e = step (f d.0) (same c d.0) refl (named_one columns f c l) e
  where
    step : (o : Option Loss) (b : Bool) → same c d.0 ≡ b
        → (get (gathered columns f) c ≡ Some l → In c (names_of columns))
        → get (put_loss o d.0 (gathered columns f)) c ≡ Some l → In c (d.0 ∷ names_of columns)
    step o true q more h = inl (sym (same_is c d.0 q))
    step None false q more h = inr (more h)
    step (Some x) false q more h = inr (more
        (sym (get-insert nat_list_cmp_total (gathered columns f) d.0 x c
        ∙ ap (λ b. cond b (Some x) (get (gathered columns f) c)) q) ∙ h))

gathered_kept : (columns : List Column) (f g : List ℕ → Option Loss)
    → ((n : List ℕ) → g n ≡ None → f n ≡ None) → (c : List ℕ)
    → get (gathered columns g) c ≡ None → get (gathered columns f) c ≡ None
gathered_kept columns f g h c e = some_or_none (get (gathered columns f) c) (λ l q.
    let k : f c ≡ Some l = gathered_some columns f c l q in
    let there : In c (names_of columns) = named_one columns f c l q in
    let n : f c ≡ None = h c (gathered_none columns g c there e) in cc)

-- ---- over each step

module _ (a b : Losses) (h : LostToo a b) where
  column_kept : (r c : List ℕ) → table_loss b r ≡ None → column_loss b r c ≡ None
      → column_loss a r c ≡ None
  column_kept r c e q = (h r e).1 c q

  module _ (op : Operator) (found : (r : List ℕ) → In r (made_of op) → table_loss b r ≡ None) where
    inputs_kept : (n : List ℕ) → in_inputs b op n ≡ None → in_inputs a op n ≡ None
    inputs_kept n e = first_none (λ r. column_loss a r n) (made_of op) (λ r m.
        column_kept r n (found r m) (none_first (λ r. column_loss b r n) (made_of op) e r m))

  pub named_kept : (r : List ℕ) → table_loss b r ≡ None → (refs : List ColRef)
      → first_named (column_loss b r) refs ≡ None → first_named (column_loss a r) refs ≡ None
  named_kept r found refs e = first_none (column_loss a r) (written_names refs) (λ n m.
      column_kept r n found (none_first (column_loss b r) (written_names refs) e n m))

  both_kept : (f g : List ℕ → Option Loss) → ((n : List ℕ) → g n ≡ None → f n ≡ None)
      → (names : List (List ℕ)) → first_loss g names ≡ None → first_loss f names ≡ None
  both_kept f g p names e = first_none f names (λ n m. p n (none_first g names e n m))

  if_kept : (d : Bool) (x y u v : Option Loss) → (y ≡ None → x ≡ None) → (v ≡ None → u ≡ None)
      → (if d then y else v) ≡ None → (if d then x else u) ≡ None
  if_kept true x y u v p q e = p e
  if_kept false x y u v p q e = q e

  rows_kept : (tables : Tables) (op : Operator)
      → ((r : List ℕ) → In r (made_of op) → table_loss b r ≡ None)
      → rows_lost tables op b ≡ None → rows_lost tables op a ≡ None
  rows_kept tables nop f e = refl
  rows_kept tables (create_table r cs) f e = refl
  rows_kept tables (drop_table r) f e = refl
  rows_kept tables (rename_table r t) f e = refl
  rows_kept tables (copy_table r t) f e = refl
  rows_kept tables (merge_table r s t) f e = refl
  rows_kept tables (partition_table r s c t) f e = named_kept r (f r (inl refl)) (test_references c)
      e
  rows_kept tables (decompose_table r s xs t ys) f e = refl
  rows_kept tables (join_table r s t c) f e =
      let op : Operator = join_table r s t c in
      let k = or_none (first_loss (in_inputs b (join_table r s t c))
      (common_names (columns_of tables r) (columns_of tables s)))
      (first_named (in_inputs b (join_table r s t c)) (test_references c)) e in
      none_or (first_loss (in_inputs a (join_table r s t c))
      (common_names (columns_of tables r) (columns_of tables s)))
      (first_named (in_inputs a (join_table r s t c)) (test_references c))
      (both_kept (in_inputs a op) (in_inputs b op) (inputs_kept op f) _ k.0)
      (both_kept (in_inputs a op) (in_inputs b op) (inputs_kept op f) _ k.1)
  rows_kept tables (add_column c t r) f e = refl
  rows_kept tables (drop_column c r) f e = refl
  rows_kept tables (rename_column x r c) f e = refl

  made_kept : (op : Operator) → ((r : List ℕ) → In r (made_of op) → table_loss b r ≡ None)
      → (n : List ℕ) → made_column_loss op b n ≡ None → made_column_loss op a n ≡ None
  made_kept nop f n e = inputs_kept nop f n e
  made_kept (create_table r cs) f n e = inputs_kept (create_table r cs) f n e
  made_kept (drop_table r) f n e = inputs_kept (drop_table r) f n e
  made_kept (rename_table r t) f n e = inputs_kept (rename_table r t) f n e
  made_kept (copy_table r t) f n e = inputs_kept (copy_table r t) f n e
  made_kept (merge_table r s t) f n e = inputs_kept (merge_table r s t) f n e
  made_kept (partition_table r s c t) f n e = inputs_kept (partition_table r s c t) f n e
  made_kept (decompose_table r s xs t ys) f n e = inputs_kept (decompose_table r s xs t ys) f n e
  made_kept (join_table r s t c) f n e = inputs_kept (join_table r s t c) f n e
  made_kept (add_column c t r) f n e = if_kept (same c n)
      (first_named (column_loss a r) (references t)) (first_named (column_loss b r) (references t))
      (column_loss a r n) (column_loss b r n) (named_kept r (f r (inl refl)) (references t))
      (column_kept r n (f r (inl refl))) e
  made_kept (drop_column c r) f n e = inputs_kept (drop_column c r) f n e
  made_kept (rename_column x r c) f n e = if_kept (same c n) (column_loss a r x)
      (column_loss b r x) (column_loss a r n) (column_loss b r n)
      (column_kept r x (f r (inl refl))) (column_kept r n (f r (inl refl))) e

  made_at : (f g : List ℕ → Option Loss) (o p : Option Loss)
      → (p ≡ None → (o ≡ None) × ((n : List ℕ) → g n ≡ None → f n ≡ None))
      → (columns : List Column) → KeptAt (Some (made_as o f columns)) (Some (made_as p g columns))
  made_at f g o (Some l) k columns = lost_at (Some (made_as o f columns)) l
  made_at f g None None k columns = λ e. (refl, gathered_kept columns f g (k refl).1)
  made_at f g (Some l) None k columns = absurd (let e = (k refl).0 in cc)

  over_kept : (tables : Tables) (op : Operator) → LostToo (losses_over tables op a)
      (losses_over tables op b)
  over_kept tables op = made_in
      (made_as (made_loss tables op a) (made_column_loss op a))
      (made_as (made_loss tables op b) (made_column_loss op b))
      (made_at (made_column_loss op a) (made_column_loss op b) (made_loss tables op a)
      (made_loss tables op b) parts) (line tables op).made
      (none_lost (line tables op).consumed a) (none_lost (line tables op).consumed b)
      (all_out (line tables op).consumed a b h)
    where
      parts : made_loss tables op b ≡ None → (made_loss tables op a ≡ None)
          × ((n : List ℕ) → made_column_loss op b n ≡ None → made_column_loss op a n ≡ None)
      parts e =
          let k = or_none (first_loss (table_loss b) (made_of op)) (rows_lost tables op b) e in
          let found = none_first (table_loss b) (made_of op) k.0 in (
            none_or (first_loss (table_loss a) (made_of op)) (rows_lost tables op a)
                (first_none (table_loss a) (made_of op) (λ r m. (h r (found r m)).0))
                (rows_kept tables op found k.1),
            made_kept op found,
          )

  filled_kept : (loss : Loss) (f : FilledColumn) → LostToo (losses_filled loss f a)
      (losses_filled loss f b)
  filled_kept loss f = step (table_loss a f.table) refl (table_loss b f.table) refl
    where
      one : table_loss b f.table ≡ None → KeptAt
          (Some (OfColumns (insert (lost_columns (get a f.table)) f.name loss)))
          (Some (OfColumns (insert (lost_columns (get b f.table)) f.name loss)))
      one q e = (
        refl,
        λ c k.
            get-insert nat_list_cmp_total (lost_columns (get a f.table)) f.name loss c
            ∙ pick c (eq_by_cmp bytes_cmp c f.name)
            (sym (get-insert nat_list_cmp_total (lost_columns (get b f.table)) f.name loss c) ∙ k),
      )
        where
          pick : (c : List ℕ) (d : Bool)
              → cond d (Some loss) (get (lost_columns (get b f.table)) c) ≡ None
              → cond d (Some loss) (get (lost_columns (get a f.table)) c) ≡ None
          pick c true k = absurd (cc)
          pick c false k = column_kept f.table c q k

      -- where the second is lost itself
      other : (l : Loss) → table_loss b f.table ≡ Some l → LostToo
          (insert a f.table (OfColumns (insert (lost_columns (get a f.table)) f.name loss))) b
      other l q n = kept_so _ _ _ _ (get-insert nat_list_cmp_total a f.table
          (OfColumns (insert (lost_columns (get a f.table)) f.name loss)) n) refl
          (pick (same n f.table) refl)
        where
          pick : (d : Bool) → same n f.table ≡ d → KeptAt (cond d
              (Some (OfColumns (insert (lost_columns (get a f.table)) f.name loss))) (get a n))
              (get b n)
          pick false p e = h n e
          pick true p e = absurd (let s = sym (ap (table_loss b) (same_is n f.table p) ∙ q) ∙ e in
              cc)

      step : (o : Option Loss) → table_loss a f.table ≡ o → (p : Option Loss)
          → table_loss b f.table ≡ p → LostToo (filled_at loss f o a) (filled_at loss f p b)
      step None e None q = one_in a b f.table
          (OfColumns (insert (lost_columns (get a f.table)) f.name loss))
          (OfColumns (insert (lost_columns (get b f.table)) f.name loss)) (one q) h
      step None e (Some l) q = other l q
      step (Some l) e None q = absurd (let k = (h f.table q).0 in cc)
      step (Some l) e (Some m) q = h

  undone_kept : (loss : Loss) (before : Tables) (op : Operator)
      → LostToo (losses_undone loss before op a) (losses_undone loss before op b)
  undone_kept loss before op = all_in loss (line before op).consumed
      (none_lost (made_names (line before op).made) a)
      (none_lost (made_names (line before op).made) b)
      (all_out (made_names (line before op).made) a b h)

-- ---- the way

step_kept : (s : Step) (a b : Losses) → LostToo a b
    → LostToo (losses_stepped s a) (losses_stepped s b)
step_kept (carrying tables op) a b h = over_kept a b h tables op
step_kept (filling loss tables f) a b h = filled_kept a b h loss f
step_kept (undoing loss before op) a b h = undone_kept a b h loss before op

pub stays_lost : (versions : List PlainVersion) (w v q : ℕ) → q ≤ v → v ≤ w
    → LostToo (lost_names versions v q) (lost_names versions w q)
stays_lost versions w v q l r =
    subst (λ (x : Losses). LostToo (lost_names versions v q) x)
    (sym (taken_back_by versions losses_stepped w v q empty l r))
    (taken_so LostToo losses_stepped losses_stepped step_kept (way versions v q) empty
    (lost_names versions w v) (λ n. subst (λ (o : Option TableLoss).
    KeptAt o (get (lost_names versions w v) n)) (sym (get-empty bytes_cmp n))
    (none_at (get (lost_names versions w v) n))))
