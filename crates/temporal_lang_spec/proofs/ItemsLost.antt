-- An item of a query that is lost on the way from a version is lost on the way from each later one;
-- and where no item is lost, no item's table is.
use Rattle.std.proofs.Common.{◌≡◌, ◌+◌, ◌≤◌, ℕ, List, [], ◌∷◌, refl, ap, subst}
use Rattle.std.proofs.Common.{◌∙◌, inl, inr, sym}
use Rattle.std.specs.Prelude.{None}
use Rattle.std.specs.List.{filter, flat_map}
use Rattle.relations_spec.specs.Sets.{In}
use Rattle.cond_expr.specs.References.{is_to, written_names}
use Rattle.smo_ops_types.specs.Commands.{PlainVersion}
use Rattle.smo_ops_spec.specs.First.{first_refusal as first_there}
use Rattle.smo_ops_spec.proofs.Firsts.{none_of_first, first_later, none_of_both, first_after}
use Rattle.smo_ops_versions_spec.specs.ColumnLosses.{Losses, table_loss, column_loss}
use Rattle.smo_ops_versions_spec.specs.ColumnLosses.{NothingLost}
use Rattle.smo_ops_versions_spec.specs.LostNames.{first_named, lost_names}
use Rattle.smo_ops_versions_spec.proofs.LossMaps.{or_none, none_or, first_none}
use Rattle.smo_ops_versions_spec.proofs.LossCauses.{no_table_forward, no_column_forward}
use Rattle.smo_ops_versions_spec.proofs.ColumnsStayLost.{LostToo, named_kept, stays_lost}
use Rattle.plain_answers_spec.specs.Branches.{Item, PlainBranch}
use Rattle.plain_answers_spec.specs.Naming.{all_references}
use Rattle.temporal_lang_spec.specs.Losing.{item_loss, items_from, branch_losses, items_loss}

-- what is lost of each item of the first losses is lost of it by the second
module _ (a b : Losses) (kept : (x : PlainBranch) (i : ℕ) (table : List ℕ)
    → item_loss b x i table ≡ None → item_loss a x i table ≡ None) where
  from_kept : (x : PlainBranch) (i : ℕ) (from : List Item)
      → first_there (items_from b x i from) ≡ None → first_there (items_from a x i from) ≡ None
  from_kept x i [] e = refl
  from_kept x i (item ∷ from) e =
      let k = none_of_first (item_loss b x i item.0) (items_from b x (i + 1) from) e in
      first_later (item_loss a x i item.0) (items_from a x (i + 1) from)
      (kept x i item.0 k.0)
      ∙ from_kept x (i + 1) from k.1

  pub items_kept : (branches : List PlainBranch) → items_loss b branches ≡ None
      → items_loss a branches ≡ None
  items_kept [] e = refl
  items_kept (x ∷ branches) e =
      let k = none_of_both (branch_losses b x) (flat_map (branch_losses b) branches) e in
      first_after (branch_losses a x) (flat_map (branch_losses a) branches)
      (from_kept x 0 x.from k.0)
      ∙ items_kept branches k.1

module _ (a b : Losses) (h : LostToo a b) where
  pub item_kept : (x : PlainBranch) (i : ℕ) (table : List ℕ) → item_loss b x i table ≡ None
      → item_loss a x i table ≡ None
  item_kept x i table e =
      let k = or_none (table_loss b table) (first_named (column_loss b table)
      (filter (is_to i) (all_references x.outs x.cond))) e in
      none_or (table_loss a table) (first_named (column_loss a table)
      (filter (is_to i) (all_references x.outs x.cond))) (h table k.0).0
      (named_kept a b h table k.0 (filter (is_to i) (all_references x.outs x.cond)) k.1)

-- of a version no more is lost than of a later one
pub items_stay_lost : (versions : List PlainVersion) (w v q : ℕ) → q ≤ v → v ≤ w
    → (branches : List PlainBranch) → items_loss (lost_names versions w q) branches ≡ None
    → items_loss (lost_names versions v q) branches ≡ None
items_stay_lost versions w v q l r branches e =
    items_kept (lost_names versions v q) (lost_names versions w q)
    (item_kept (lost_names versions v q) (lost_names versions w q) (stays_lost versions w v q l r))
    branches e

-- ---- where nothing is lost no item is

module _ (losses : Losses) (none : NothingLost losses) where
  item_none : (x : PlainBranch) (i : ℕ) (table : List ℕ) → item_loss losses x i table ≡ None
  item_none x i table =
      none_or (table_loss losses table) (first_named (column_loss losses table)
      (filter (is_to i) (all_references x.outs x.cond))) (none table).0
      (first_none (column_loss losses table)
      (written_names (filter (is_to i) (all_references x.outs x.cond))) (λ n m. (none table).1 n))

  from_none : (x : PlainBranch) (i : ℕ) (from : List Item)
      → first_there (items_from losses x i from) ≡ None
  from_none x i [] = refl
  from_none x i (item ∷ from) =
      first_later (item_loss losses x i item.0) (items_from losses x (i + 1) from)
      (item_none x i item.0)
      ∙ from_none x (i + 1) from

  pub no_item_lost : (branches : List PlainBranch) → items_loss losses branches ≡ None
  no_item_lost [] = refl
  no_item_lost (x ∷ branches) =
      first_after (branch_losses losses x) (flat_map (branch_losses losses) branches)
      (from_none x 0 x.from)
      ∙ no_item_lost branches

pub no_item_forward : (versions : List PlainVersion) (v q : ℕ) → v ≤ q
    → (branches : List PlainBranch) → items_loss (lost_names versions v q) branches ≡ None
no_item_forward versions v q l = no_item_lost (lost_names versions v q)
    (λ n. (no_table_forward versions v q l n, no_column_forward versions v q l n))

-- ---- where no item is lost no item's table is

table_of_item : (losses : Losses) (x : PlainBranch) (i : ℕ) (from : List Item)
    → first_there (items_from losses x i from) ≡ None → (item : Item) → In item from
    → table_loss losses item.0 ≡ None
table_of_item losses x i [] e item m = absurd m
table_of_item losses x i (first ∷ from) e item (inl s) =
    ap (λ (y : Item). table_loss losses y.0) (sym s)
    ∙ (or_none (table_loss losses first.0) (first_named (column_loss losses first.0)
    (filter (is_to i) (all_references x.outs x.cond)))
    (none_of_first (item_loss losses x i first.0) (items_from losses x (i + 1) from) e).0).0
table_of_item losses x i (first ∷ from) e item (inr m) = table_of_item losses x (i + 1) from
    (none_of_first (item_loss losses x i first.0) (items_from losses x (i + 1) from) e).1 item m

pub tables_there : (losses : Losses) (branches : List PlainBranch)
    → items_loss losses branches ≡ None → (b : PlainBranch) → In b branches → (item : Item)
    → In item b.from → table_loss losses item.0 ≡ None
tables_there losses [] e b m item i = absurd m
tables_there losses (x ∷ branches) e b (inl s) item i =
    table_of_item losses x 0 x.from
    (none_of_both (branch_losses losses x) (flat_map (branch_losses losses) branches) e).0 item
    (subst (λ (y : PlainBranch). In item y.from) (sym s) i)
tables_there losses (x ∷ branches) e b (inr m) item i = tables_there losses branches
    (none_of_both (branch_losses losses x) (flat_map (branch_losses losses) branches) e).1 b m item i
