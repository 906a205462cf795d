-- The plain answer of branches none of whose items is lost is the same over databases that agree up
-- to the losses.
use Rattle.std.proofs.Common.{◌≡◌, ℕ, zero, suc, ◌+◌, true, List, [], ◌∷◌, map}
use Rattle.std.proofs.Common.{refl, sym, ap, subst, ◌∙◌, inl, inr, arith}
use Rattle.std.specs.Prelude.{Option, Some, None, ◌==◌}
use Rattle.std.specs.List.{filter, flat_map}
use Rattle.std.specs.FinMap.{get}
use Rattle.relations_spec.specs.Sets.{In}
use Rattle.relations_spec.proofs.SetLaws.{in_map, in_filter, in_flat_map, from_flat_map, set_same}
use Rattle.prima_base.specs.declared.value.Value.{Value}
use Rattle.prima_base.specs.Order.{row_cmp}
use Rattle.prima_base.specs.OrderLaws.{row_exact}
use Rattle.prima_base.specs.Columns.{Column}
use Rattle.schema_catalog.specs.Tables.{Tables}
use Rattle.schema_catalog.specs.Databases.{Database}
use Rattle.cond_expr.specs.declared.expr.ColRef.{ColRef}
use Rattle.cond_expr.specs.declared.expr.Whose.{Whose}
use Rattle.cond_expr.specs.declared.expr.Whose.TheVariants.{Free, Alias, Atom}
use Rattle.cond_expr.specs.Trees.{Tree}
use Rattle.cond_expr.specs.Values.{over, value}
use Rattle.cond_expr.specs.Faults.{references, test_references}
use Rattle.cond_expr.proofs.ReferenceLaws.{Each, each_first, each_second, within_each}
use Rattle.cond_expr.proofs.ReferenceLaws.{test_within_each}
use Rattle.cond_expr.proofs.TreeLaws.{value_like, truth_like}
use Rattle.smo_ops_spec.specs.First.{first_refusal as first_there}
use Rattle.smo_ops_spec.specs.OneRow.{Row, Relation}
use Rattle.smo_ops_spec.specs.Effects.{columns_of, rows_under}
use Rattle.smo_ops_spec.specs.Losses.{Loss}
use Rattle.plain_answers_spec.specs.Choosing.{chosen_cell, Gives}
use Rattle.plain_answers_spec.specs.Branches.{Item, PlainBranch, item_columns, item_rows}
use Rattle.plain_answers_spec.specs.Branches.{branch_answers}
use Rattle.plain_answers_spec.specs.Branches.{plain, BranchGives}
use Rattle.plain_answers_spec.specs.Naming.{is_to, all_references, IsNamed, written_names}
use Rattle.plain_answers_spec.proofs.PlainRows.{in_answers, from_answers}
use Rattle.piece_ir_spec.specs.Pieces.{atom_columns, atom_rows}
use Rattle.smo_ops_versions_spec.specs.ColumnLosses.{Losses, table_loss, column_loss}
use Rattle.temporal_lang_losses_spec.specs.Agreeing.{AgreeUpTo}
use Rattle.smo_ops_versions_spec.specs.LostNames.{first_named}
use Rattle.temporal_lang_spec.specs.Losing.{item_loss, items_from, branch_losses, items_loss}
use Rattle.temporal_lang_losses_spec.proofs.AlikeChoices.{Alike, atom_loss, NoneLost, alike_choice}
use Rattle.smo_ops_versions_spec.proofs.LossMaps.{or_none, none_first}
use Rattle.temporal_lang_losses_spec.proofs.MadeAgree.{agree_turned}
use Rattle.temporal_lang_losses_spec.proofs.OneTells.{LikeAt}

-- of several none is there just where each is none
each_none : (losses : List (Option Loss)) → first_there losses ≡ None → (o : Option Loss)
    → In o losses → o ≡ None
each_none [] e o m = absurd m
each_none (None ∷ losses) e o (inl q) = sym q
each_none (None ∷ losses) e o (inr m) = each_none losses e o m
each_none (Some l ∷ losses) e o m = absurd (cc)

itself : (i : ℕ) → (i == i) ≡ true
itself i = grind (arith)

first_place : (i : ℕ) → i + 0 ≡ i
first_place i = omega arith

next_place : (i j : ℕ) → i + suc j ≡ i + 1 + j
next_place i j = omega arith

from_nought : (i : ℕ) → 0 + i ≡ i
from_nought i = omega arith

abbrev tables_in : List Item → List (List ℕ)
tables_in from = map (λ (i : Item). i.0) from

same_columns : (tables : Tables) (from : List Item)
    → item_columns tables from ≡ atom_columns tables (tables_in from)
same_columns tables [] = refl
same_columns tables (i ∷ from) = ap (λ (rest : List (List Column)). columns_of tables i.0 ∷ rest)
    (same_columns tables from)

same_relations : (db : Database) (from : List Item)
    → item_rows db from ≡ atom_rows db (tables_in from)
same_relations db [] = refl
same_relations db (i ∷ from) = ap (λ (rest : List Relation). rows_under (get db i.0) ∷ rest)
    (same_relations db from)

module _ (losses : Losses) (b : PlainBranch) where
  abbrev refs : List ColRef
  refs = all_references b.outs b.cond

  abbrev NoItemLost : ℕ → List Item → Type 0
  NoItemLost k from = (o : Option Loss) → In o (items_from losses b k from) → o ≡ None

  tables_found : (k : ℕ) (from : List Item) → NoItemLost k from
      → NoneLost losses (tables_in from)
  tables_found k [] h n m = absurd m
  tables_found k (i ∷ from) h n (inl e) =
      subst (λ (x : List ℕ). table_loss losses x ≡ None) e
      (or_none (table_loss losses i.0)
      (first_named (column_loss losses i.0) (filter (is_to k) refs))
      (h (item_loss losses b k i.0) (inl refl))).0
  tables_found k (i ∷ from) h n (inr m) = tables_found (k + 1) from (λ o j. h o (inr j)) n m

  columns_found : (k : ℕ) (from : List Item) → NoItemLost k from → (j : ℕ) (n : List ℕ)
      → IsNamed (k + j) refs n → atom_loss losses (tables_in from) j n ≡ None
  columns_found k [] h j n m = refl
  columns_found k (i ∷ from) h zero n m =
      none_first (column_loss losses i.0) (written_names (filter (is_to k) refs))
      (or_none (table_loss losses i.0)
      (first_named (column_loss losses i.0) (filter (is_to k) refs))
      (h (item_loss losses b k i.0) (inl refl))).1 n
      (in_map (λ (r : ColRef). r.name) (record { whose = Atom k; name = n }) (filter (is_to k) refs)
      (in_filter (is_to k) (record { whose = Atom k; name = n }) refs
      (subst (λ (x : ℕ). IsNamed x refs n) (first_place k) m) (itself k)))
  columns_found k (i ∷ from) h (suc j) n m =
      columns_found (k + 1) from (λ o q. h o (inr q)) j n
      (subst (λ (x : ℕ). IsNamed x refs n) (next_place k j) m)

  module _ (h : NoItemLost 0 b.from) where
    like_refs : (f g : ℕ → List ℕ → Value) → Alike losses (tables_in b.from) f g
        → Each (LikeAt f g) refs
    like_refs f g l r m = step r.whose refl
      where
        step : (w : Whose) → r.whose ≡ w → LikeAt f g w r.name
        step Free q = refl
        step (Alias x) q = refl
        step (Atom i) q = l i r.name (columns_found 0 b.from h i r.name
            (subst (λ (x : ℕ). IsNamed x refs r.name) (sym (from_nought i))
            (subst (λ (y : ColRef). In y refs)
            (ap (λ (w : Whose). record { whose = w; name = r.name }) q) m)))

    values_alike : (f g : ℕ → List ℕ → Value) (ts : List Tree)
        → Each (LikeAt f g) (flat_map references ts)
        → map (value (over f)) ts ≡ map (value (over g)) ts
    values_alike f g [] w = refl
    values_alike f g (t ∷ ts) w =
        ap (λ (v : Value). v ∷ map (value (over f)) ts)
        (value_like (LikeAt f g) (over f) (over g) (λ x n q. q) t
        (within_each (LikeAt f g) t (each_first (LikeAt f g) (references t)
        (flat_map references ts) w)))
        ∙ ap (λ (vs : Row). value (over g) t ∷ vs)
        (values_alike f g ts (each_second (LikeAt f g) (references t) (flat_map references ts) w))

    module _ (tables : Tables) (x y : Database) (agree : AgreeUpTo tables losses x y) where
      abbrev columns : List (List Column)
      columns = atom_columns tables (tables_in b.from)

      gives_too : (row : Row)
          → Gives columns (atom_rows x (tables_in b.from)) b.outs b.cond row
          → Gives columns (atom_rows y (tables_in b.from)) b.outs b.cond row
      gives_too row g =
          let o = alike_choice tables losses x y agree (tables_in b.from)
          (tables_found 0 b.from h) g.choice g.chosen in
          let f : ℕ → List ℕ → Value = chosen_cell columns g.choice in
          let k : ℕ → List ℕ → Value = chosen_cell columns o.0 in
          let like : Each (LikeAt f k) refs = like_refs f k o.2 in
          record {
            choice = o.0;
            chosen = o.1;
            met = sym (truth_like (LikeAt f k) (over f) (over k) (λ w n q. q) b.cond
                (test_within_each (LikeAt f k) b.cond (each_second (LikeAt f k)
                (flat_map references b.outs) (test_references b.cond) like))) ∙ g.met;
            is = sym (values_alike f k b.outs (each_first (LikeAt f k)
                (flat_map references b.outs) (test_references b.cond) like)) ∙ g.is;
          }

      pub branch_gives_too : (row : Row) → BranchGives tables x b row → BranchGives tables y b row
      branch_gives_too row g =
          subst (λ (cs : List (List Column)). Gives cs (item_rows y b.from) b.outs b.cond row)
          (sym (same_columns tables b.from))
          (subst (λ (rs : List Relation). Gives columns rs b.outs b.cond row)
          (sym (same_relations y b.from))
          (gives_too row
          (subst (λ (rs : List Relation). Gives columns rs b.outs b.cond row)
          (same_relations x b.from)
          (subst (λ (cs : List (List Column)). Gives cs (item_rows x b.from) b.outs b.cond row)
          (same_columns tables b.from) g))))

module _ (tables : Tables) (losses : Losses) (branches : List PlainBranch)
    (none : items_loss losses branches ≡ None) where
  found : (b : PlainBranch) → In b branches → (o : Option Loss)
      → In o (items_from losses b 0 b.from) → o ≡ None
  found b m o i = each_none (flat_map (branch_losses losses) branches) none o
      (in_flat_map (branch_losses losses) b o branches m i)

  answered_too : (x y : Database) → AgreeUpTo tables losses x y → (row : Row)
      → In row (flat_map (branch_answers tables x) branches)
      → In row (flat_map (branch_answers tables y) branches)
  answered_too x y agree row m =
      let f = from_flat_map (branch_answers tables x) row branches m in
      let b = f.0 in
      in_flat_map (branch_answers tables y) b row branches f.1
      (in_answers (item_columns tables b.from) (item_rows y b.from) b.outs b.cond row
      (branch_gives_too losses b (found b f.1) tables x y agree row
      (from_answers (item_columns tables b.from) (item_rows x b.from) b.outs b.cond row f.2)))

  pub plain_alike : (x y : Database) → AgreeUpTo tables losses x y
      → plain tables branches x ≡ plain tables branches y
  plain_alike x y agree = set_same row_cmp row_exact (flat_map (branch_answers tables x) branches)
      (flat_map (branch_answers tables y) branches) (record {
        there = answered_too x y agree;
        back = answered_too y x (agree_turned tables losses x y agree);
      })
