-- What is lost on a way is lost by a version that is gone back over, names no inverse, and has a
-- member with none derived.
use Rattle.std.proofs.Common.{◌++◌, length, length-append, append_assoc}
use Rattle.std.proofs.Common.{◌≡◌, ◌+◌, ◌<◌, ◌≤◌, ℕ, Bool, true, false, List, []}
use Rattle.std.proofs.Common.{◌∷◌, refl, sym, ap, subst, ◌∙◌, arith}
use Rattle.std.proofs.lemmas.Option.{same_Some}
use Rattle.std.specs.Prelude.{cond, Option, Some, None, slice_get, ⊤, if◌then◌else◌}
use Rattle.std.specs.Option.{option_or}
use Rattle.std.specs.Ordering.{eq_by_cmp}
use Rattle.std.specs.FinMap.{FinMap, get, insert, remove, empty, get-insert, get-remove, get-empty}
use Rattle.std.specs.Cmp.Lexicographic.{nat_list_cmp_total}
use Rattle.prima_base.specs.Order.{bytes_cmp}
use Rattle.prima_base.specs.OrderLaws.{same_is}
use Rattle.prima_base.specs.Columns.{Column}
use Rattle.schema_catalog.specs.Tables.{Tables}
use Rattle.cond_expr.specs.Faults.{references, test_references}
use Rattle.smo_ops_types.specs.Operators.{Operator, nop, create_table, drop_table, rename_table}
use Rattle.smo_ops_types.specs.Operators.{copy_table, merge_table, partition_table, decompose_table}
use Rattle.smo_ops_types.specs.Operators.{join_table, add_column, drop_column, rename_column}
use Rattle.smo_ops_types.specs.Commands.{PlainVersion}
use Rattle.smo_ops_spec.specs.OneRow.{same}
use Rattle.smo_ops_spec.specs.Effects.{columns_of}
use Rattle.smo_ops_spec.specs.Making.{common_names}
use Rattle.smo_ops_spec.specs.OperatorTable.{Made, line, made_names}
use Rattle.smo_ops_spec.specs.Touching.{made_of}
use Rattle.smo_ops_spec.specs.Losses.{Loss, first_loss}
use Rattle.smo_ops_spec.specs.After.{schema_after}
use Rattle.smo_ops_spec.specs.Evolutions.{schema_after_each, members_of_all}
use Rattle.smo_ops_spec.proofs.MemberLaws.{schema_after_both}
use Rattle.smo_ops_spec.specs.Past.{no_tables, tables_from}
use Rattle.smo_ops_spec.specs.WaysBack.{FilledColumn, WayBack, by_inverse, by_filling, no_way}
use Rattle.smo_ops_spec.specs.WaysBack.{way_back_over}
use Rattle.smo_ops_versions_spec.specs.Steps.{Step, carrying, filling, undoing, carrying_each}
use Rattle.smo_ops_versions_spec.specs.Steps.{taken, AllSteps}
use Rattle.smo_ops_versions_spec.specs.Ways.{step_by, step_back, back_over_members, back_over}
use Rattle.smo_ops_versions_spec.specs.Ways.{over_version, back_over_version, way}
use Rattle.smo_ops_versions_spec.specs.ColumnLosses.{TableLoss, WholeTable, OfColumns, Losses}
use Rattle.smo_ops_versions_spec.specs.ColumnLosses.{whole_loss, lost_columns, table_loss}
use Rattle.smo_ops_versions_spec.specs.ColumnLosses.{column_loss, put_loss, gathered}
use Rattle.smo_ops_versions_spec.specs.LostNames.{first_named, in_inputs, rows_lost, made_loss}
use Rattle.smo_ops_versions_spec.specs.LostNames.{made_column_loss, made_as, none_lost, all_lost}
use Rattle.smo_ops_versions_spec.specs.LostNames.{with_made, losses_over, filled_at}
use Rattle.smo_ops_versions_spec.specs.LostNames.{losses_filled, losses_undone, losses_stepped}
use Rattle.smo_ops_versions_spec.specs.LostNames.{lost_names, Loses, IsUnnamed}
use Rattle.smo_ops_versions_spec.proofs.StepLaws.{taken_kept, all_both}
use Rattle.smo_ops_versions_spec.proofs.WaySteps.{way_all}

-- the first loss of several is that of one of them
pub one_is_first : (loss : List ℕ → Option Loss) (names : List (List ℕ)) (l : Loss)
    → first_loss loss names ≡ Some l → (n : List ℕ) × (loss n ≡ Some l)
one_is_first loss [] l e = absurd (cc)
one_is_first loss (n ∷ names) l e = either (loss n) refl (one_is_first loss names l) e
  where
    either : (o : Option Loss) → loss n ≡ o
        → (first_loss loss names ≡ Some l → (m : List ℕ) × (loss m ≡ Some l))
        → option_or o (first_loss loss names) ≡ Some l → (m : List ℕ) × (loss m ≡ Some l)
    either None p rest q = rest q
    either (Some k) p rest q = (n, p ∙ q)

pub gathered_some : (columns : List Column) (loss : List ℕ → Option Loss) (n : List ℕ) (l : Loss)
    → get (gathered columns loss) n ≡ Some l → loss n ≡ Some l
gathered_some [] loss n l e = absurd (let g : get (gathered [] loss) n ≡ None =
    get-empty bytes_cmp n in cc)
gathered_some (c ∷ columns) loss n l e =
    at (loss c.0) refl (same n c.0) refl (gathered_some columns loss n l) e
  where
    at : (o : Option Loss) → loss c.0 ≡ o → (b : Bool) → same n c.0 ≡ b
        → (get (gathered columns loss) n ≡ Some l → loss n ≡ Some l)
        → get (put_loss o c.0 (gathered columns loss)) n ≡ Some l → loss n ≡ Some l
    at None p b q more h = more h
    at (Some x) p true q more h = ap loss (same_is n c.0 q) ∙ p
        ∙ (sym (get-insert nat_list_cmp_total (gathered columns loss) c.0 x n
        ∙ ap (λ d. cond d (Some x) (get (gathered columns loss) n)) q) ∙ h)
    at (Some x) p false q more h = more
        (sym (get-insert nat_list_cmp_total (gathered columns loss) c.0 x n
        ∙ ap (λ d. cond d (Some x) (get (gathered columns loss) n)) q) ∙ h)

-- ---- what is so of each loss stays so of each

module _ (P : Loss → Type 0) where
  abbrev So : Option Loss → Type 0
  So o = (l : Loss) → o ≡ Some l → P l

  abbrev EachAt : Option TableLoss → Type 0
  EachAt o = So (whole_loss o) × ((c : List ℕ) → So (get (lost_columns o) c))

  abbrev Each : Losses → Type 0
  Each losses = (n : List ℕ) → EachAt (get losses n)

  of_nothing : So None
  of_nothing l e = absurd (cc)

  in_empty : (c : List ℕ) → So (get (empty {R = bytes_cmp}) c)
  in_empty c l e = absurd (let g : ◌≡◌ {A = Option Loss} (get (empty {R = bytes_cmp}) c) None =
      get-empty bytes_cmp c in cc)

  at_none : EachAt None
  at_none = (of_nothing, in_empty)

  of_none : Each empty
  of_none n = subst EachAt (sym (get-empty bytes_cmp n)) at_none

  by_cond : (b : Bool) (x y : Option TableLoss) → EachAt x → EachAt y → EachAt (cond b x y)
  by_cond true x y p q = p
  by_cond false x y p q = q

  removed : (losses : Losses) (n : List ℕ) → Each losses → Each (remove losses n)
  removed losses n h q = subst EachAt (sym (get-remove nat_list_cmp_total losses n q))
      (by_cond (eq_by_cmp bytes_cmp q n) None (get losses q) at_none (h q))

  put : (losses : Losses) (n : List ℕ) (x : TableLoss) → EachAt (Some x) → Each losses
      → Each (insert losses n x)
  put losses n x p h q = subst EachAt (sym (get-insert nat_list_cmp_total losses n x q))
      (by_cond (eq_by_cmp bytes_cmp q n) (Some x) (get losses q) p (h q))

  all_removed : (names : List (List ℕ)) (losses : Losses) → Each losses
      → Each (none_lost names losses)
  all_removed [] losses h = h
  all_removed (n ∷ names) losses h = all_removed names (remove losses n) (removed losses n h)

  at_whole : (x : Loss) → P x → EachAt (Some (WholeTable x))
  at_whole x p = (λ l e. subst P (same_Some x l e) p, in_empty)

  all_put : (x : Loss) (names : List (List ℕ)) (losses : Losses) → P x → Each losses
      → Each (all_lost x names losses)
  all_put x [] losses p h = h
  all_put x (n ∷ names) losses p h = all_put x names (insert losses n (WholeTable x)) p
      (put losses n (WholeTable x) (at_whole x p) h)

  made_put : (of : List Column → TableLoss) → ((columns : List Column) → EachAt (Some (of columns)))
      → (made : List Made) (losses : Losses) → Each losses → Each (with_made of made losses)
  made_put of p [] losses h = h
  made_put of p (m ∷ made) losses h = made_put of p made (insert losses m.name (of m.columns))
      (put losses m.name (of m.columns) (p m.columns) h)

  so_first : (loss : List ℕ → Option Loss) → ((n : List ℕ) → So (loss n))
      → (names : List (List ℕ)) → So (first_loss loss names)
  so_first loss h names l e = (let o = one_is_first loss names l e in h o.0 l o.1)

  so_or : (x y : Option Loss) → So x → So y → So (option_or x y)
  so_or None y p q = q
  so_or (Some k) y p q = p

  so_if : (b : Bool) (x y : Option Loss) → So x → So y → So (if b then x else y)
  so_if true x y p q = p
  so_if false x y p q = q

  module _ (losses : Losses) (h : Each losses) where
    so_column : (r n : List ℕ) → So (column_loss losses r n)
    so_column r n = (h r).1 n

    so_inputs : (op : Operator) (n : List ℕ) → So (in_inputs losses op n)
    so_inputs op n = so_first (λ r. column_loss losses r n) (λ r. so_column r n) (made_of op)

    so_rows : (tables : Tables) (op : Operator) → So (rows_lost tables op losses)
    so_rows tables nop = of_nothing
    so_rows tables (create_table r cs) = of_nothing
    so_rows tables (drop_table r) = of_nothing
    so_rows tables (rename_table r t) = of_nothing
    so_rows tables (copy_table r t) = of_nothing
    so_rows tables (merge_table r s t) = of_nothing
    so_rows tables (partition_table r s c t) = so_first (column_loss losses r) (so_column r) _
    so_rows tables (decompose_table r s xs t ys) = of_nothing
    so_rows tables (join_table r s t c) = so_or
        (first_loss (in_inputs losses (join_table r s t c))
        (common_names (columns_of tables r) (columns_of tables s)))
        (first_named (in_inputs losses (join_table r s t c)) (test_references c))
        (so_first (in_inputs losses (join_table r s t c)) (so_inputs (join_table r s t c)) _)
        (so_first (in_inputs losses (join_table r s t c)) (so_inputs (join_table r s t c)) _)
    so_rows tables (add_column c e r) = of_nothing
    so_rows tables (drop_column c r) = of_nothing
    so_rows tables (rename_column b r c) = of_nothing

    so_made : (op : Operator) (n : List ℕ) → So (made_column_loss op losses n)
    so_made nop n = so_inputs nop n
    so_made (create_table r cs) n = so_inputs (create_table r cs) n
    so_made (drop_table r) n = so_inputs (drop_table r) n
    so_made (rename_table r t) n = so_inputs (rename_table r t) n
    so_made (copy_table r t) n = so_inputs (copy_table r t) n
    so_made (merge_table r s t) n = so_inputs (merge_table r s t) n
    so_made (partition_table r s c t) n = so_inputs (partition_table r s c t) n
    so_made (decompose_table r s xs t ys) n = so_inputs (decompose_table r s xs t ys) n
    so_made (join_table r s t c) n = so_inputs (join_table r s t c) n
    so_made (add_column c e r) n = so_if (same c n)
        (first_named (column_loss losses r) (references e)) (column_loss losses r n)
        (so_first (column_loss losses r) (so_column r) _) (so_column r n)
    so_made (drop_column c r) n = so_inputs (drop_column c r) n
    so_made (rename_column b r c) n = so_if (same c n) (column_loss losses r b)
        (column_loss losses r n) (so_column r b) (so_column r n)

    made_at : (o : Option Loss) (f : List ℕ → Option Loss) → So o → ((n : List ℕ) → So (f n))
        → (columns : List Column) → EachAt (Some (made_as o f columns))
    made_at None f p q columns = (of_nothing, λ c l e. q c l (gathered_some columns f c l e))
    made_at (Some x) f p q columns = at_whole x (p x refl)

    over_one : (tables : Tables) (op : Operator) → Each (losses_over tables op losses)
    over_one tables op = made_put
        (made_as (made_loss tables op losses) (made_column_loss op losses))
        (made_at (made_loss tables op losses) (made_column_loss op losses)
        (so_or (first_loss (table_loss losses) (made_of op)) (rows_lost tables op losses)
        (so_first (table_loss losses) (λ n. (h n).0) (made_of op)) (so_rows tables op))
        (so_made op))
        (line tables op).made (none_lost (line tables op).consumed losses)
        (all_removed (line tables op).consumed losses h)

    with_one : (n : List ℕ) (x : Loss) (lost : FinMap bytes_cmp Loss) → P x
        → ((c : List ℕ) → So (get lost c)) → EachAt (Some (OfColumns (insert lost n x)))
    with_one n x lost p q = (
      of_nothing,
      λ c. subst So
          (sym (get-insert nat_list_cmp_total lost n x c))
          (pick (eq_by_cmp bytes_cmp c n) (get lost c) (q c)),
    )
      where
        pick : (b : Bool) (o : Option Loss) → So o → So (cond b (Some x) o)
        pick true o s l e = subst P (same_Some x l e) p
        pick false o s l e = s l e

    filled_one : (loss : Loss) (f : FilledColumn) → P loss → Each (losses_filled loss f losses)
    filled_one loss f p = step (table_loss losses f.table)
      where
        step : (o : Option Loss) → Each (filled_at loss f o losses)
        step None = put losses f.table
            (OfColumns (insert (lost_columns (get losses f.table)) f.name loss))
            (with_one f.name loss (lost_columns (get losses f.table)) p ((h f.table).1)) h
        step (Some x) = h

    undone_one : (loss : Loss) (before : Tables) (op : Operator) → P loss
        → Each (losses_undone loss before op losses)
    undone_one loss before op p = all_put loss (line before op).consumed
        (none_lost (made_names (line before op).made) losses) p
        (all_removed (made_names (line before op).made) losses h)

  -- the loss that a step brings
  abbrev Brings : Step → Type 0
  Brings (carrying tables op) = ⊤
  Brings (filling loss tables f) = P loss
  Brings (undoing loss tables op) = P loss

  step_one : (s : Step) (losses : Losses) → Brings s → Each losses → Each (losses_stepped s losses)
  step_one (carrying tables op) losses b h = over_one losses h tables op
  step_one (filling loss tables f) losses b h = filled_one losses h loss f b
  step_one (undoing loss tables op) losses b h = undone_one losses h loss tables op b

  steps_all : (steps : List Step) → AllSteps Brings steps
      → Each (taken losses_stepped steps empty)
  steps_all steps b = taken_kept Each Brings losses_stepped step_one steps empty b of_none

  carrying_brings : (tables : Tables) (ops : List Operator)
      → AllSteps Brings (carrying_each tables ops)
  carrying_brings tables [] = tt
  carrying_brings tables (op ∷ ops) = (tt, carrying_brings (schema_after tables op) ops)

-- ---- along the versions

module _ (versions : List PlainVersion) (v q : ℕ) where
  abbrev Cause : Loss → Type 0
  Cause loss = IsUnnamed versions v q loss

  over_next : (before : Tables) (o : Option PlainVersion)
      → AllSteps (Brings Cause) (over_version before o)
  over_next before None = tt
  over_next before (Some w) = carrying_brings Cause before w.op

  cause : (k : ℕ) (w : PlainVersion) (earlier : List Operator) (op : Operator)
      (later : List Operator) → q ≤ k → k < v → slice_get versions k ≡ Some w → w.inverse ≡ []
      → w.op ≡ earlier ++ op ∷ later → (place : ℕ) → place ≡ length earlier + 1 → (t : Tables)
      → t ≡ schema_after_each (tables_from no_tables versions k) earlier
      → Loses (way_back_over t op) → Cause (k + 1, place)
  cause k w earlier op later a b is e m place p t s u = record {
    before = k;
    by = w;
    is = is;
    unnamed = e;
    earlier = earlier;
    member = op;
    later = later;
    members = m;
    underived = subst (λ (x : Tables). Loses (way_back_over x op)) s u;
    from = a;
    to = b;
    lost = ap (λ (x : ℕ). (k + 1, x)) p;
  }

  by_one : (k : ℕ) (w : PlainVersion) (earlier : List Operator) (op : Operator)
      (later : List Operator) → q ≤ k → k < v → slice_get versions k ≡ Some w → w.inverse ≡ []
      → w.op ≡ earlier ++ op ∷ later → (place : ℕ) → place ≡ length earlier + 1 → (t : Tables)
      → t ≡ schema_after_each (tables_from no_tables versions k) earlier
      → (way : WayBack) → way_back_over t op ≡ way
      → Brings Cause (step_by (k + 1, place) t op way)
  by_one k w earlier op later a b is e m place p t s (by_inverse d) n = tt
  by_one k w earlier op later a b is e m place p t s (by_filling f) n =
      cause k w earlier op later a b is e m place p t s (subst Loses (sym n) tt)
  by_one k w earlier op later a b is e m place p t s no_way n =
      cause k w earlier op later a b is e m place p t s (subst Loses (sym n) tt)

  back_members : (k : ℕ) (w : PlainVersion) (earlier ops : List Operator) → q ≤ k → k < v
      → slice_get versions k ≡ Some w → w.inverse ≡ [] → w.op ≡ earlier ++ ops → (place : ℕ)
      → place ≡ length earlier + 1 → (t : Tables)
      → t ≡ schema_after_each (tables_from no_tables versions k) earlier
      → AllSteps (Brings Cause) (back_over_members (k + 1) place t ops)
  back_members k w earlier [] a b is e m place p t s = tt
  back_members k w earlier (op ∷ ops) a b is e m place p t s =
      all_both (Brings Cause) (back_over_members (k + 1) (place + 1) (schema_after t op) ops)
      (step_back (k + 1, place) t op ∷ [])
      (back_members k w (earlier ++ op ∷ []) ops a b is e
      (m ∙ sym (append_assoc earlier (op ∷ []) ops)) (place + 1)
      (let l = length-append earlier (op ∷ []) in omega (arith, p, l)) (schema_after t op)
      (ap (λ (x : Tables). schema_after x op) s
      ∙ sym (schema_after_both (tables_from no_tables versions k) earlier (op ∷ []))))
      (by_one k w earlier op ops a b is e m place p t s (way_back_over t op) refl, tt)

  back_one : (k : ℕ) (w : PlainVersion) (ops : List (List Operator)) → q ≤ k → k < v
      → slice_get versions k ≡ Some w → w.inverse ≡ ops
      → AllSteps (Brings Cause) (back_over (k + 1) (tables_from no_tables versions k) w.op w.tables
      ops)
  back_one k w [] a b is e = back_members k w [] w.op a b is e refl 1 refl
      (tables_from no_tables versions k) refl
  back_one k w (i ∷ ops) a b is e = carrying_brings Cause w.tables (members_of_all (i ∷ ops))

  back_next : (k : ℕ) (o : Option PlainVersion) → q ≤ k → k < v → slice_get versions k ≡ o
      → AllSteps (Brings Cause) (back_over_version (k + 1) (tables_from no_tables versions k) o)
  back_next k None a b is = tt
  back_next k (Some w) a b is = back_one k w w.inverse a b is refl

  each_cause : Each Cause (lost_names versions v q)
  each_cause = steps_all Cause (way versions v q)
      (way_all versions (Brings Cause) v q
      (λ k. over_next (tables_from no_tables versions k) (slice_get versions k))
      (λ k a b. back_next k (slice_get versions k) a b refl))

  pub table_cause : (n : List ℕ) (loss : Loss) → table_loss (lost_names versions v q) n ≡ Some loss
      → IsUnnamed versions v q loss
  table_cause n loss e = (each_cause n).0 loss e

  pub column_cause : (n c : List ℕ) (loss : Loss)
      → column_loss (lost_names versions v q) n c ≡ Some loss → IsUnnamed versions v q loss
  column_cause n c loss e = (each_cause n).1 c loss e

-- ---- forward nothing is lost

none_there : (o : Option Loss) → ((l : Loss) → o ≡ Some l → ⊥) → o ≡ None
none_there None h = refl
none_there (Some l) h = absurd (h l refl)

module _ (versions : List PlainVersion) (v q : ℕ) (l : v ≤ q) where
  not_forward : (loss : Loss) → IsUnnamed versions v q loss → ⊥
  not_forward loss u = (let a = u.from in let b = u.to in omega (arith, a, b, l))

  pub no_table_forward : (n : List ℕ) → table_loss (lost_names versions v q) n ≡ None
  no_table_forward n = none_there (table_loss (lost_names versions v q) n)
      (λ loss e. not_forward loss (table_cause versions v q n loss e))

  pub no_column_forward : (n c : List ℕ) → column_loss (lost_names versions v q) n c ≡ None
  no_column_forward n c = none_there (column_loss (lost_names versions v q) n c)
      (λ loss e. not_forward loss (column_cause versions v q n c loss e))
