-- Databases that agree up to losses agree again behind two fillings of one column, by constants of
-- one type.
use Rattle.std.proofs.Common.{◌≡◌, ℕ, Bool, true, false, List, [], ◌∷◌, refl, sym, ap, subst, ◌∙◌}
use Rattle.std.proofs.Common.{inl}
use Rattle.std.specs.Prelude.{Option, Some, None, cond, if◌then◌else◌}
use Rattle.std.specs.FinMap.{FinMap, get, insert, remove, get-insert, get-remove}
use Rattle.std.specs.Cmp.Lexicographic.{nat_list_cmp_total}
use Rattle.relations_spec.specs.Sets.{In}
use Rattle.prima_base.specs.declared.value.Value.{Value}
use Rattle.prima_base.specs.declared.value.ColType.{ColType}
use Rattle.prima_base.specs.Order.{bytes_cmp}
use Rattle.prima_base.specs.OrderLaws.{same_is}
use Rattle.prima_base.specs.Columns.{Column, names_of}
use Rattle.schema_catalog.specs.Tables.{Tables}
use Rattle.schema_catalog.specs.Databases.{cell, DatabaseEntry, Database}
use Rattle.cond_expr.specs.Trees.{Tree, constant}
use Rattle.cond_expr.specs.Kinds.{value_kind}
use Rattle.smo_ops_types.specs.Operators.{Operator, add_column}
use Rattle.smo_ops_spec.specs.First.{first_refusal}
use Rattle.smo_ops_spec.specs.OneRow.{Relation, same}
use Rattle.smo_ops_spec.specs.Effects.{columns_of, rows_of}
use Rattle.smo_ops_spec.specs.Preconditions.{is_there, is_new, few_columns}
use Rattle.smo_ops_spec.specs.Making.{with_column, image, added_value, from_one}
use Rattle.smo_ops_spec.specs.OperatorTable.{Made, a_table}
use Rattle.smo_ops_spec.specs.Losses.{Loss, IsEntryOrLost}
use Rattle.smo_ops_spec.specs.After.{op_fault, schema_after, migrate, IsValid}
use Rattle.smo_ops_spec.proofs.NameLaws.{same_itself, same_turned}
use Rattle.smo_ops_versions_spec.specs.LostAsEmpty.{whole}
use Rattle.smo_ops_versions_spec.proofs.WholeDatabases.{whole_database}
use Rattle.piece_ir_spec.specs.Views.{PlainView}
use Rattle.piece_ir_spec.specs.Given.{AreGiven}
use Rattle.piece_ir_spec.specs.OperatorViews.{computed}
use Rattle.piece_ir_spec.proofs.OneViews.{add_column_views}
use Rattle.piece_ir_spec.proofs.OneTable.{only_one}
use Rattle.smo_ops_spec.specs.WaysBack.{FilledColumn}
use Rattle.smo_ops_versions_spec.specs.ColumnLosses.{TableLoss, OfColumns, Losses, table_loss}
use Rattle.smo_ops_versions_spec.specs.ColumnLosses.{column_loss}
use Rattle.smo_ops_versions_spec.specs.ColumnLosses.{whole_loss, lost_columns, kept_columns}
use Rattle.smo_ops_versions_spec.specs.LostNames.{filled_at, losses_filled}
use Rattle.temporal_lang_losses_spec.specs.Agreeing.{AgreeAt, AgreeUpTo}
use Rattle.temporal_lang_losses_spec.proofs.KeptRows.{FollowIn, follow_kept}
use Rattle.temporal_lang_losses_spec.proofs.AlikeChoices.{NoneLost}
use Rattle.temporal_lang_losses_spec.proofs.MadeFollow.{IfKnown, with_outs, given_follow}
use Rattle.temporal_lang_losses_spec.proofs.WholeAgree.{first_is, second_is, whole_agree}
use Rattle.temporal_lang_losses_spec.proofs.MadeAgree.{agree_turned, entry_is, entry_found}
use Rattle.temporal_lang_losses_spec.proofs.MadeAgree.{same_whole}
use Rattle.temporal_lang_losses_spec.proofs.EachName.{agree_at}
use Rattle.temporal_lang_losses_spec.proofs.OneTells.{computed_tells}

-- one table anew, and all others as they were
module _ {X : Type 0} (m : FinMap bytes_cmp X) (r : List ℕ) (x : X) where
  anew_at : (q : List ℕ) → get (insert (remove m r) r x) q
      ≡ cond (same q r) (Some x) (cond (same q r) None (get m q))
  anew_at q = get-insert nat_list_cmp_total (remove m r) r x q
      ∙ ap (λ (o : Option X). cond (same q r) (Some x) o) (get-remove nat_list_cmp_total m r q)

one_anew : (tables : Tables) (losses later : Losses) (a b : Database) (r : List ℕ)
    (columns : List Column) (x y : DatabaseEntry)
    → ((q : List ℕ) → same q r ≡ false → get later q ≡ get losses q)
    → AgreeAt (Some columns) (get later r) (Some x) (Some y) → AgreeUpTo tables losses a b
    → AgreeUpTo (insert (remove tables r) r columns) later (insert (remove a r) r x)
    (insert (remove b r) r y)
one_anew tables losses later a b r columns x y others here h = λ q.
    agree_at _ _ _ _ _ _ _ _ (anew_at tables r columns q) refl (anew_at a r x q) (anew_at b r y q)
    (step q (same q r) refl)
  where
    step : (q : List ℕ) (c : Bool) → same q r ≡ c
        → AgreeAt (cond c (Some columns) (cond c None (get tables q))) (get later q)
        (cond c (Some x) (cond c None (get a q))) (cond c (Some y) (cond c None (get b q)))
    step q true e = subst (λ (l : Option TableLoss). AgreeAt (Some columns) l (Some x) (Some y))
        (ap (get later) (sym (same_is q r e))) here
    step q false e = subst (λ (l : Option TableLoss). AgreeAt (get tables q) l (get a q) (get b q))
        (sym (others q e)) (h q)

abbrev pub filling_by : List ℕ → List ℕ → Value → Operator
filling_by r c v = add_column c (constant v) r

-- a constant's type alone decides whether its filling is accepted
pub same_filling : (tables : Tables) (r c : List ℕ) (v w : Value) → value_kind v ≡ value_kind w
    → op_fault tables (filling_by r c v) ≡ op_fault tables (filling_by r c w)
same_filling tables r c v w e = ap (λ (k : ColType). first_refusal (is_there tables r
    ∷ is_new r (columns_of tables r) c ∷ None ∷ None
    ∷ few_columns (with_column c k (columns_of tables r)) ∷ [])) e

module _ (tables : Tables) (losses : Losses) (r c : List ℕ) (loss : Loss)
    (valid : IsValid tables) where
  abbrev cs : List Column
  cs = columns_of tables r

  abbrev new : Value → List Column
  new v = with_column c (value_kind v) cs

  abbrev entry : Value → Database → DatabaseEntry
  entry v db = from_one (image (new v) (added_value cs c (constant v))) (get db r)

  abbrev it : Value → Made
  it v = a_table r (new v) (entry v)

  -- the column is lost now, and of the others those that were
  abbrev map : FinMap bytes_cmp Loss
  map = insert (lost_columns (get losses r)) c loss

  abbrev lost : List ℕ → Option Loss
  lost n = if same c n then Some loss else column_loss losses r n

  map_tells : (columns : List Column) (n : List ℕ) → In n (names_of columns) → get map n ≡ None
      → lost n ≡ None
  map_tells columns n m e =
      step (same n c) (same c n) (same_turned n c)
      (sym (get-insert nat_list_cmp_total (lost_columns (get losses r)) c loss n) ∙ e)
    where
      step : (b d : Bool) → b ≡ d → cond b (Some loss) (get (lost_columns (get losses r)) n) ≡ None
          → (if d then Some loss else column_loss losses r n) ≡ None
      step true d q h = absurd (cc)
      step false true q h = absurd (cc)
      step false false q h = h

  tells : table_loss losses r ≡ None → (columns : List Column) (v w : Value)
      → IfKnown losses lost columns (computed r c (constant v)) ((c, constant w) ∷ [])
  tells found columns v w = computed_tells losses r found lost columns c (constant v) (constant w)
      (λ n q e. sym (ap (λ (b : Bool). if b then Some loss else column_loss losses r n) q) ∙ e)
      (λ f g l n q e. absurd (let h = sym (ap (λ (b : Bool).
      if b then Some loss else column_loss losses r n) q) ∙ e in cc))

  -- rows that are filled by one constant follow those that are filled by the other
  follow : table_loss losses r ≡ None → (a b : Database) → AgreeUpTo tables losses a b
      → (v w : Value) → op_fault tables (filling_by r c v) ≡ None
      → op_fault tables (filling_by r c w) ≡ None → (columns : List Column)
      → new v ≡ columns → new w ≡ columns
      → FollowIn map columns (rows_of (entry v (whole a))) (rows_of (entry w (whole b)))
  follow found a b agree v w accepted too columns p q =
      given_follow tables losses (whole a) (whole b) (whole_agree tables losses a b agree) columns
      map lost (map_tells columns) (rows_of (entry v (whole a))) (rows_of (entry w (whole b)))
      (computed r c (constant v) ∷ []) (computed r c (constant w) ∷ [])
      (subst (λ (k : List Column). AreGiven tables (whole a) k (rows_of (entry v (whole a)))
      (computed r c (constant v) ∷ [])) p
      ((add_column_views tables r valid c (constant v) accepted).0.rows (whole a)
      (whole_database tables a (first_is tables losses a b agree))))
      (subst (λ (k : List Column). AreGiven tables (whole b) k (rows_of (entry w (whole b)))
      (computed r c (constant w) ∷ [])) q
      ((add_column_views tables r valid c (constant w) too).0.rows (whole b)
      (whole_database tables b (second_is tables losses a b agree))))
      (λ x m. subst (λ (y : PlainView). (outs : List (List ℕ × Tree))
      × In (with_outs y outs) (computed r c (constant w) ∷ []) × IfKnown losses lost columns y outs)
      (only_one (computed r c (constant v)) x m)
      ((c, constant w) ∷ [], inl refl, tells found columns v w))

  module _ (a b : Database) (agree : AgreeUpTo tables losses a b) (v w : Value)
      (alike : value_kind v ≡ value_kind w) (accepted : op_fault tables (filling_by r c v) ≡ None)
    where
      too : op_fault tables (filling_by r c w) ≡ None
      too = sym (same_filling tables r c v w alike) ∙ accepted

      columns_alike : new w ≡ new v
      columns_alike = ap (λ (k : ColType). with_column c k cs) (sym alike)

      first_entry : IsEntryOrLost (Some (new v)) (Some (entry v a))
      first_entry = entry_is tables (filling_by r c v) losses a b agree accepted valid.schema a
          (first_is tables losses a b agree) (it v) (inl refl)

      second_entry : IsEntryOrLost (Some (new v)) (Some (entry w b))
      second_entry = subst (λ (k : List Column). IsEntryOrLost (Some k) (Some (entry w b)))
          columns_alike
          (entry_is tables (filling_by r c w) losses a b agree too valid.schema b
          (second_is tables losses a b agree) (it w) (inl refl))

      -- where the table is lost itself
      lost_table : (later : Option TableLoss) (whole : Loss) → whole_loss later ≡ Some whole
          → AgreeAt (Some (new v)) later (Some (entry v a)) (Some (entry w b))
      lost_table later whole e = record {
        first = first_entry;
        second = second_entry;
        first_there = λ h. absurd (let q = sym e ∙ h in cc);
        second_there = λ h. absurd (let q = sym e ∙ h in cc);
        rows = λ h. absurd (let q = sym e ∙ h in cc);
      }

      -- where it is not
      kept_table : table_loss losses r ≡ None
          → AgreeAt (Some (new v)) (Some (OfColumns map)) (Some (entry v a)) (Some (entry w b))
      kept_table found =
          let shown : Relation → Relation = image (kept_columns map (new v)) (cell (new v)) in
          let inputs : NoneLost losses (r ∷ []) =
          λ n m. subst (λ (x : List ℕ). table_loss losses x ≡ None) (only_one r n m) found in
          record {
            first = first_entry;
            second = second_entry;
            first_there = λ e. entry_found tables (filling_by r c v) losses a b agree accepted
                valid.schema inputs a (λ n. (agree n).first_there) (it v) (inl refl);
            second_there = λ e. entry_found tables (filling_by r c w) losses a b agree too
                valid.schema inputs b (λ n. (agree n).second_there) (it w) (inl refl);
            rows = λ e.
                sym (ap (λ (x : DatabaseEntry). shown (rows_of x))
                (same_whole tables (filling_by r c v) losses a b agree accepted valid.schema inputs
                a
                (λ n. (agree n).first_there) (it v) (inl refl)))
                ∙ follow_kept map (new v) (rows_of (entry v (whole a)))
                (rows_of (entry w (whole b)))
                (follow found a b agree v w accepted too (new v) refl columns_alike)
                (follow found b a (agree_turned tables losses a b agree) w v too accepted (new v)
                columns_alike refl)
                ∙ ap (λ (x : DatabaseEntry). shown (rows_of x))
                (same_whole tables (filling_by r c w) losses a b agree too valid.schema inputs b
                (λ n. (agree n).second_there) (it w) (inl refl));
          }

      pub filled_agrees : (kind : ColType)
          → AgreeUpTo (schema_after tables (filling_by r c v))
          (losses_filled loss (record { table = r; name = c; kind = kind }) losses)
          (migrate tables (filling_by r c v) a) (migrate tables (filling_by r c w) b)
      filled_agrees kind = step (table_loss losses r) refl
        where
          f : FilledColumn
          f = record { table = r; name = c; kind = kind }

          step : (o : Option Loss) → table_loss losses r ≡ o
              → AgreeUpTo (schema_after tables (filling_by r c v)) (filled_at loss f o losses)
              (migrate tables (filling_by r c v) a) (migrate tables (filling_by r c w) b)
          step (Some l) e = one_anew tables losses losses a b r (new v) (entry v a) (entry w b)
              (λ q h. refl) (lost_table (get losses r) l e) agree
          step None e = one_anew tables losses (insert losses r (OfColumns map)) a b r (new v)
              (entry v a) (entry w b)
              (λ q h. get-insert nat_list_cmp_total losses r (OfColumns map) q
              ∙ ap (λ (d : Bool). cond d (Some (OfColumns map)) (get losses q)) h)
              (subst (λ (l : Option TableLoss).
              AgreeAt (Some (new v)) l (Some (entry v a)) (Some (entry w b)))
              (sym (get-insert nat_list_cmp_total losses r (OfColumns map) r
              ∙ ap (λ (d : Bool). cond d (Some (OfColumns map)) (get losses r)) (same_itself r)))
              (kept_table e)) agree
