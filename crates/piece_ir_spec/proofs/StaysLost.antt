-- A table that is lost on the way from a version is lost on the way from each later one.
use Rattle.std.proofs.Common.{◌≡◌, ◌≤◌, ℕ, Bool, true, false, List, [], ◌∷◌}
use Rattle.std.proofs.Common.{refl, sym, ap, ◌∙◌}
use Rattle.std.specs.Prelude.{cond, Option, Some, None}
use Rattle.std.specs.FinMap.{get, insert, remove, empty, get-insert, get-remove, get-empty}
use Rattle.std.specs.Cmp.Lexicographic.{nat_list_cmp_total}
use Rattle.prima_base.specs.Order.{bytes_cmp}
use Rattle.schema_catalog.specs.Tables.{Tables}
use Rattle.smo_ops_types.specs.Operators.{Operator}
use Rattle.smo_ops_types.specs.Commands.{PlainVersion}
use Rattle.smo_ops_spec.specs.OneRow.{same}
use Rattle.smo_ops_spec.specs.Touching.{made_of}
use Rattle.smo_ops_spec.specs.OperatorTable.{line, made_names}
use Rattle.smo_ops_spec.specs.Losses.{Loss, first_loss}
use Rattle.smo_ops_spec.specs.WaysBack.{blank, filled_with}
use Rattle.smo_ops_versions_spec.specs.Steps.{Step, carrying, filling, undoing}
use Rattle.smo_ops_versions_spec.specs.Ways.{way}
use Rattle.smo_ops_versions_spec.specs.LostTables.{LostTables, none_lost, all_lost, with_loss}
use Rattle.smo_ops_versions_spec.specs.LostTables.{lost_over}
use Rattle.smo_ops_versions_spec.specs.LostTables.{lost_undone, lost_stepped, lost_tables}
use Rattle.smo_ops_versions_spec.proofs.StepLaws.{taken_so}
use Rattle.smo_ops_versions_spec.proofs.LossMaps.{none_first, first_none}
use Rattle.smo_ops_versions_spec.proofs.WaySteps.{taken_back_by}

-- each that is lost among the first is lost among the second
abbrev pub LostToo : LostTables → LostTables → Type 0
LostToo a b = (n : List ℕ) → get b n ≡ None → get a n ≡ None

none_kept : (a b : LostTables) (names : List (List ℕ)) → LostToo a b
    → LostToo (none_lost names a) (none_lost names b)
none_kept a b [] h = h
none_kept a b (n ∷ names) h = none_kept (remove a n) (remove b n) names
    (λ q e. get-remove nat_list_cmp_total a n q
    ∙ step q (same q n) (sym (get-remove nat_list_cmp_total b n q) ∙ e))
  where
    step : (q : List ℕ) (c : Bool) → cond c None (get b q) ≡ None → cond c None (get a q) ≡ None
    step q true e = refl
    step q false e = h q e

all_kept : (a b : LostTables) (l m : Loss) (names : List (List ℕ)) → LostToo a b
    → LostToo (all_lost l names a) (all_lost m names b)
all_kept a b l m [] h = h
all_kept a b l m (n ∷ names) h = all_kept (insert a n l) (insert b n m) l m names
    (λ q e. get-insert nat_list_cmp_total a n l q
    ∙ step q (same q n) (sym (get-insert nat_list_cmp_total b n m q) ∙ e))
  where
    step : (q : List ℕ) (c : Bool) → cond c (Some m) (get b q) ≡ None
        → cond c (Some l) (get a q) ≡ None
    step q true e = absurd (cc)
    step q false e = h q e

-- where fewer are kept
kept_or_lost : (a b : LostTables) (m : Loss) (names : List (List ℕ)) → LostToo a b
    → LostToo (none_lost names a) (all_lost m names b)
kept_or_lost a b m [] h = h
kept_or_lost a b m (n ∷ names) h = kept_or_lost (remove a n) (insert b n m) m names
    (λ q e. get-remove nat_list_cmp_total a n q
    ∙ step q (same q n) (sym (get-insert nat_list_cmp_total b n m q) ∙ e))
  where
    step : (q : List ℕ) (c : Bool) → cond c (Some m) (get b q) ≡ None → cond c None (get a q) ≡ None
    step q true e = refl
    step q false e = h q e

first_kept : (a b : LostTables) → LostToo a b → (names : List (List ℕ))
    → first_loss (get b) names ≡ None → first_loss (get a) names ≡ None
first_kept a b h names e = first_none (get a) names
    (λ n m. h n (none_first (get b) names e n m))

either : (a b : LostTables) (x y : Option Loss) (names : List (List ℕ)) → (y ≡ None → x ≡ None)
    → LostToo a b → LostToo (with_loss x names a) (with_loss y names b)
either a b None None names f h = none_kept a b names h
either a b None (Some m) names f h = kept_or_lost a b m names h
either a b (Some l) None names f h = absurd (let e = f refl in cc)
either a b (Some l) (Some m) names f h = all_kept a b l m names h

over_kept : (tables : Tables) (op : Operator) (a b : LostTables) → LostToo a b
    → LostToo (lost_over tables op a) (lost_over tables op b)
over_kept tables op a b h =
    either (none_lost (line tables op).consumed a) (none_lost (line tables op).consumed b)
    (first_loss (get a) (made_of op)) (first_loss (get b) (made_of op))
    (made_names (line tables op).made) (first_kept a b h (made_of op))
    (none_kept a b (line tables op).consumed h)

undone_kept : (loss : Loss) (before : Tables) (op : Operator) (a b : LostTables) → LostToo a b
    → LostToo (lost_undone loss before op a) (lost_undone loss before op b)
undone_kept loss before op a b h =
    all_kept (none_lost (made_names (line before op).made) a)
    (none_lost (made_names (line before op).made) b) loss loss (line before op).consumed
    (none_kept a b (made_names (line before op).made) h)

step_kept : (s : Step) (a b : LostTables) → LostToo a b
    → LostToo (lost_stepped s a) (lost_stepped s b)
step_kept (carrying tables op) a b h = over_kept tables op a b h
step_kept (filling loss tables f) a b h = over_kept tables (filled_with blank f) a b h
step_kept (undoing loss tables op) a b h = undone_kept loss tables op a b h

pub stays_lost : (versions : List PlainVersion) (w v q : ℕ) (n : List ℕ) → q ≤ v → v ≤ w
    → get (lost_tables versions w q) n ≡ None → get (lost_tables versions v q) n ≡ None
stays_lost versions w v q n l r e =
    taken_so LostToo lost_stepped lost_stepped step_kept (way versions v q) empty
    (lost_tables versions w v) (λ m f. get-empty bytes_cmp m) n
    (ap (λ (x : LostTables). get x n) (sym (taken_back_by versions lost_stepped w v q empty l r))
    ∙ e)
