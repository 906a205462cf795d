-- What is lost in a database is mapped by the losses of tables and columns.
use Rattle.std.proofs.Common.{◌≡◌, ◌≤◌, ℕ, Bool, true, false, List, [], ◌∷◌, refl, sym, ap, ◌∙◌}
use Rattle.std.specs.Prelude.{cond, Option, Some, None}
use Rattle.std.specs.Option.{option_or}
use Rattle.std.specs.FinMap.{get, insert, remove, empty, get-insert, get-remove, get-empty}
use Rattle.std.specs.Cmp.Lexicographic.{nat_list_cmp_total}
use Rattle.prima_base.specs.Order.{bytes_cmp}
use Rattle.prima_base.specs.OrderLaws.{same_is}
use Rattle.prima_base.specs.Columns.{Column}
use Rattle.schema_catalog.specs.Tables.{Tables}
use Rattle.smo_ops_types.specs.Operators.{Operator}
use Rattle.smo_ops_types.specs.Commands.{PlainVersion}
use Rattle.smo_ops_spec.specs.OneRow.{same}
use Rattle.smo_ops_spec.specs.OperatorTable.{Made, line, made_names}
use Rattle.smo_ops_spec.specs.Touching.{made_of}
use Rattle.smo_ops_spec.specs.Losses.{Loss, first_loss}
use Rattle.smo_ops_spec.specs.WaysBack.{FilledColumn, blank, filled_with}
use Rattle.smo_ops_versions_spec.specs.Steps.{Step, carrying, filling, undoing}
use Rattle.smo_ops_versions_spec.specs.Ways.{way}
use Rattle.smo_ops_versions_spec.specs.LostTables as tables
use Rattle.smo_ops_versions_spec.specs.LostTables.{LostTables, lost_stepped, lost_tables}
use Rattle.smo_ops_versions_spec.proofs.StepLaws.{taken_so}
use Rattle.smo_ops_versions_spec.proofs.LossMaps.{or_none, none_first, first_none}
use Rattle.smo_ops_versions_spec.proofs.LossCauses.{no_table_forward}
use Rattle.smo_ops_versions_spec.specs.ColumnLosses.{TableLoss, WholeTable, OfColumns, Losses}
use Rattle.smo_ops_versions_spec.specs.ColumnLosses.{whole_loss}
use Rattle.smo_ops_versions_spec.specs.ColumnLosses.{table_loss, lost_columns}
use Rattle.smo_ops_versions_spec.specs.LostNames.{made_loss, made_column_loss, made_as, rows_lost}
use Rattle.smo_ops_versions_spec.specs.LostNames.{none_lost}
use Rattle.smo_ops_versions_spec.specs.LostNames.{all_lost, with_made, losses_over, filled_at}
use Rattle.smo_ops_versions_spec.specs.LostNames.{losses_filled}
use Rattle.smo_ops_versions_spec.specs.LostNames.{losses_undone, losses_stepped, lost_names}

-- a table that is not mapped among the first is not lost among the second
abbrev Maps : Losses → LostTables → Type 0
Maps a b = (n : List ℕ) → table_loss a n ≡ None → get b n ≡ None

none_maps : (names : List (List ℕ)) (a : Losses) (b : LostTables) → Maps a b
    → Maps (none_lost names a) (tables.none_lost names b)
none_maps [] a b h = h
none_maps (n ∷ names) a b h = none_maps names (remove a n) (remove b n)
    (λ q e. get-remove nat_list_cmp_total b n q
    ∙ step q (same q n) (sym (ap whole_loss (get-remove nat_list_cmp_total a n q)) ∙ e))
  where
    step : (q : List ℕ) (c : Bool) → whole_loss (cond c None (get a q)) ≡ None
        → cond c None (get b q) ≡ None
    step q true e = refl
    step q false e = h q e

all_maps : (loss : Loss) (names : List (List ℕ)) (a : Losses) (b : LostTables) → Maps a b
    → Maps (all_lost loss names a) (tables.all_lost loss names b)
all_maps loss [] a b h = h
all_maps loss (n ∷ names) a b h = all_maps loss names (insert a n (WholeTable loss))
    (insert b n loss)
    (λ q e. get-insert nat_list_cmp_total b n loss q
    ∙ step q (same q n) (sym (ap whole_loss (get-insert nat_list_cmp_total a n (WholeTable loss) q))
    ∙ e))
  where
    step : (q : List ℕ) (c : Bool) → whole_loss (cond c (Some (WholeTable loss)) (get a q)) ≡ None
        → cond c (Some loss) (get b q) ≡ None
    step q true e = absurd (cc)
    step q false e = h q e

-- made tables that are mapped, whatever is said of them among the second
mapped_put : (of : List Column → TableLoss) (loss : Loss) (made : List Made) (a : Losses)
    (b : LostTables) → ((cs : List Column) → of cs ≡ WholeTable loss) → (x : Option Loss)
    → Maps a b → Maps (with_made of made a) (tables.with_loss x (made_names made) b)
mapped_put of loss [] a b w None h = h
mapped_put of loss [] a b w (Some x) h = h
mapped_put of loss (m ∷ made) a b w None h =
    mapped_put of loss made (insert a m.name (of m.columns)) (remove b m.name) w None
    (λ q e. get-remove nat_list_cmp_total b m.name q
    ∙ step q (same q m.name)
    (sym (ap whole_loss (get-insert nat_list_cmp_total a m.name (of m.columns) q)) ∙ e))
  where
    step : (q : List ℕ) (c : Bool) → whole_loss (cond c (Some (of m.columns)) (get a q)) ≡ None
        → cond c None (get b q) ≡ None
    step q true e = refl
    step q false e = h q e
mapped_put of loss (m ∷ made) a b w (Some x) h =
    mapped_put of loss made (insert a m.name (of m.columns)) (insert b m.name x) w (Some x)
    (λ q e. get-insert nat_list_cmp_total b m.name x q
    ∙ step q (same q m.name)
    (sym (ap whole_loss (get-insert nat_list_cmp_total a m.name (of m.columns) q)) ∙ e))
  where
    step : (q : List ℕ) (c : Bool) → whole_loss (cond c (Some (of m.columns)) (get a q)) ≡ None
        → cond c (Some x) (get b q) ≡ None
    step q true e = absurd (let s = sym (ap (λ t. whole_loss (Some t)) (w m.columns)) ∙ e in cc)
    step q false e = h q e

-- made tables that are not mapped
kept_put : (of : List Column → TableLoss) (made : List Made) (a : Losses) (b : LostTables)
    → Maps a b → Maps (with_made of made a) (tables.none_lost (made_names made) b)
kept_put of [] a b h = h
kept_put of (m ∷ made) a b h =
    kept_put of made (insert a m.name (of m.columns)) (remove b m.name)
    (λ q e. get-remove nat_list_cmp_total b m.name q
    ∙ step q (same q m.name)
    (sym (ap whole_loss (get-insert nat_list_cmp_total a m.name (of m.columns) q)) ∙ e))
  where
    step : (q : List ℕ) (c : Bool) → whole_loss (cond c (Some (of m.columns)) (get a q)) ≡ None
        → cond c None (get b q) ≡ None
    step q true e = refl
    step q false e = h q e

first_maps : (a : Losses) (b : LostTables) → Maps a b → (names : List (List ℕ))
    → first_loss (table_loss a) names ≡ None → first_loss (get b) names ≡ None
first_maps a b h names e = first_none (get b) names
    (λ n m. h n (none_first (table_loss a) names e n m))

over_maps : (t : Tables) (op : Operator) (a : Losses) (b : LostTables) → Maps a b
    → Maps (losses_over t op a) (tables.lost_over t op b)
over_maps t op a b h = step (made_loss t op a) refl
  where
    less : Maps (none_lost (line t op).consumed a) (tables.none_lost (line t op).consumed b)
    less = none_maps (line t op).consumed a b h

    step : (o : Option Loss) → made_loss t op a ≡ o
        → Maps (with_made (made_as o (made_column_loss op a)) (line t op).made
        (none_lost (line t op).consumed a))
        (tables.with_loss (first_loss (get b) (made_of op)) (made_names (line t op).made)
        (tables.none_lost (line t op).consumed b))
    step (Some loss) e = mapped_put (made_as (Some loss) (made_column_loss op a)) loss
        (line t op).made (none_lost (line t op).consumed a)
        (tables.none_lost (line t op).consumed b) (λ cs. refl)
        (first_loss (get b) (made_of op)) less
    step None e = none_so (first_loss (get b) (made_of op))
        (first_maps a b h (made_of op)
        (or_none (first_loss (table_loss a) (made_of op)) (rows_lost t op a) e).0)
      where
        none_so : (x : Option Loss) → x ≡ None
            → Maps (with_made (made_as None (made_column_loss op a)) (line t op).made
            (none_lost (line t op).consumed a))
            (tables.with_loss x (made_names (line t op).made)
            (tables.none_lost (line t op).consumed b))
        none_so None q = kept_put (made_as None (made_column_loss op a)) (line t op).made
            (none_lost (line t op).consumed a) (tables.none_lost (line t op).consumed b) less
        none_so (Some l) q = absurd (cc)

undone_maps : (loss : Loss) (t : Tables) (op : Operator) (a : Losses) (b : LostTables)
    → Maps a b → Maps (losses_undone loss t op a) (tables.lost_undone loss t op b)
undone_maps loss t op a b h =
    all_maps loss (line t op).consumed (none_lost (made_names (line t op).made) a)
    (tables.none_lost (made_names (line t op).made) b)
    (none_maps (made_names (line t op).made) a b h)

-- a filling is of one table, which it makes of itself
filled_maps : (loss : Loss) (t : Tables) (f : FilledColumn) (a : Losses) (b : LostTables)
    → Maps a b → Maps (losses_filled loss f a) (tables.lost_over t (filled_with blank f) b)
filled_maps loss t f a b h n e = step (table_loss a f.table) refl (get b f.table) refl e
  where
    step : (o : Option Loss) → table_loss a f.table ≡ o → (x : Option Loss) → get b f.table ≡ x
        → table_loss (filled_at loss f o a) n ≡ None
        → get (tables.with_loss (option_or x None) (f.table ∷ []) (remove b f.table)) n ≡ None
    step None p None q g =
        get-remove nat_list_cmp_total (remove b f.table) f.table n
        ∙ ap (cond (same n f.table) None) (get-remove nat_list_cmp_total b f.table n)
        ∙ either (same n f.table) refl
        (sym (ap whole_loss (get-insert nat_list_cmp_total a f.table
        (OfColumns (insert (lost_columns (get a f.table)) f.name loss)) n)) ∙ g)
      where
        either : (c : Bool) → same n f.table ≡ c
            → whole_loss (cond c (Some (OfColumns (insert (lost_columns (get a f.table)) f.name
            loss))) (get a n)) ≡ None
            → cond c None (cond c None (get b n)) ≡ None
        either true s k = refl
        either false s k = h n k
    step None p (Some l) q g = absurd (let r = sym q ∙ h f.table p in cc)
    step (Some l) p None q g =
        get-remove nat_list_cmp_total (remove b f.table) f.table n
        ∙ ap (cond (same n f.table) None) (get-remove nat_list_cmp_total b f.table n)
        ∙ either (same n f.table)
      where
        either : (c : Bool) → cond c None (cond c None (get b n)) ≡ None
        either true = refl
        either false = h n g
    step (Some l) p (Some m) q g =
        get-insert nat_list_cmp_total (remove b f.table) f.table m n
        ∙ ap (cond (same n f.table) (Some m)) (get-remove nat_list_cmp_total b f.table n)
        ∙ either (same n f.table) refl
      where
        either : (c : Bool) → same n f.table ≡ c → cond c (Some m) (cond c None (get b n)) ≡ None
        either true s = absurd (let r = sym p ∙ ap (table_loss a) (sym (same_is n f.table s)) ∙ g
            in cc)
        either false s = h n g

step_maps : (s : Step) (a : Losses) (b : LostTables) → Maps a b
    → Maps (losses_stepped s a) (lost_stepped s b)
step_maps (carrying t op) a b h = over_maps t op a b h
step_maps (filling loss t f) a b h = filled_maps loss t f a b h
step_maps (undoing loss t op) a b h = undone_maps loss t op a b h

pub not_mapped : (versions : List PlainVersion) (v q : ℕ) (n : List ℕ)
    → table_loss (lost_names versions v q) n ≡ None → get (lost_tables versions v q) n ≡ None
not_mapped versions v q n e = taken_so Maps losses_stepped lost_stepped step_maps
    (way versions v q) empty empty (λ m f. get-empty bytes_cmp m) n e

-- forward nothing is lost
pub none_forward : (versions : List PlainVersion) (v q : ℕ) (n : List ℕ) → v ≤ q
    → get (lost_tables versions v q) n ≡ None
none_forward versions v q n l = not_mapped versions v q n (no_table_forward versions v q l n)
