-- The tables that are lost on a way, by names alone, are those that are lost in the database.
use Rattle.std.proofs.Common.{◌≡◌, ℕ, true, false, List, [], ◌∷◌, refl, sym}
use Rattle.std.proofs.Common.{ap, subst, ◌∙◌}
use Rattle.std.specs.Prelude.{cond, Option, Some, None}
use Rattle.std.specs.Option.{option_or}
use Rattle.std.specs.Ordering.{eq_by_cmp}
use Rattle.std.specs.FinMap.{get, insert, remove, empty, get-insert, get-remove, get-empty}
use Rattle.std.specs.Cmp.Lexicographic.{nat_list_cmp_total}
use Rattle.prima_base.specs.Order.{bytes_cmp}
use Rattle.prima_base.specs.Columns.{Column}
use Rattle.schema_catalog.specs.Tables.{Tables}
use Rattle.schema_catalog.specs.Databases.{DatabaseEntry, Rows, Lost, Database, IsEntry, IsDatabase}
use Rattle.smo_ops_types.specs.Operators.{Operator}
use Rattle.smo_ops_spec.specs.OperatorTable.{Made, line, made_names}
use Rattle.smo_ops_spec.specs.Touching.{made_of}
use Rattle.smo_ops_spec.specs.Losses.{Loss, loss_of, loss_in, first_loss}
use Rattle.smo_ops_spec.specs.After.{migrate, lose_all, make_all}
use Rattle.smo_ops_spec.proofs.LossLaws.{AllLose, each_hands_on}
use Rattle.smo_ops_spec.specs.WaysBack.{blank, filled_with}
use Rattle.smo_ops_versions_spec.specs.Steps.{Step, carrying, filling, undoing, taken}
use Rattle.smo_ops_versions_spec.specs.Migration.{lost_by, undone, stepped}
use Rattle.smo_ops_versions_spec.specs.LostTables.{LostTables, AreLosses, none_lost, all_lost, with_loss}
use Rattle.smo_ops_versions_spec.specs.LostTables.{lost_over, lost_undone, lost_stepped}
use Rattle.smo_ops_versions_spec.proofs.StepLaws.{taken_so}

-- ---- one name

without_name : (losses : LostTables) (db : Database) (n : List ℕ) → AreLosses losses db
    → AreLosses (remove losses n) (remove db n)
without_name losses db n h = λ q.
    rw (get-remove nat_list_cmp_total db n q, get-remove nat_list_cmp_total losses n q)
    (elim (eq_by_cmp bytes_cmp q n) as (λ b. loss_of (cond b None (get db q))
    ≡ cond b None (get losses q)) [
      | true ↦ refl
      | false ↦ h q
    ])

kept_under : (losses : LostTables) (db : Database) (n : List ℕ) (entry : DatabaseEntry)
    → loss_of (Some entry) ≡ None → AreLosses losses db
    → AreLosses (remove losses n) (insert db n entry)
kept_under losses db n entry e h = λ q.
    rw (get-insert nat_list_cmp_total db n entry q, get-remove nat_list_cmp_total losses n q)
    (elim (eq_by_cmp bytes_cmp q n) as (λ b. loss_of (cond b (Some entry) (get db q))
    ≡ cond b None (get losses q)) [
      | true ↦ e
      | false ↦ h q
    ])

lost_under : (losses : LostTables) (db : Database) (n : List ℕ) (entry : DatabaseEntry) (loss : Loss)
    → loss_of (Some entry) ≡ Some loss → AreLosses losses db
    → AreLosses (insert losses n loss) (insert db n entry)
lost_under losses db n entry loss e h = λ q.
    rw (get-insert nat_list_cmp_total db n entry q, get-insert nat_list_cmp_total losses n loss q)
    (elim (eq_by_cmp bytes_cmp q n) as (λ b. loss_of (cond b (Some entry) (get db q))
    ≡ cond b (Some loss) (get losses q)) [
      | true ↦ e
      | false ↦ h q
    ])

-- ---- several names

without_names : (losses : LostTables) (db : Database) (names : List (List ℕ)) → AreLosses losses db
    → AreLosses (none_lost names losses) (lose_all names db)
without_names losses db [] h = h
without_names losses db (n ∷ names) h = without_names (remove losses n) (remove db n) names
    (without_name losses db n h)

lost_names_by : (loss : Loss) (losses : LostTables) (db : Database) (names : List (List ℕ))
    → AreLosses losses db → AreLosses (all_lost loss names losses) (lost_by loss names db)
lost_names_by loss losses db [] h = h
lost_names_by loss losses db (n ∷ names) h = lost_names_by loss (insert losses n loss)
    (insert db n (Lost loss.0 loss.1)) names (lost_under losses db n (Lost loss.0 loss.1) loss refl
    h)

-- ---- what is made

made_whole : (before : Database) (made : List Made) (losses : LostTables) (db : Database)
    → AllLose None before made → AreLosses losses db
    → AreLosses (none_lost (made_names made) losses) (make_all made before db)
made_whole before [] losses db a h = h
made_whole before (m ∷ made) losses db a h = made_whole before made (remove losses m.name)
    (insert db m.name (m.entry before)) a.1 (kept_under losses db m.name (m.entry before) a.0 h)

made_lost : (before : Database) (loss : Loss) (made : List Made) (losses : LostTables) (db : Database)
    → AllLose (Some loss) before made → AreLosses losses db
    → AreLosses (all_lost loss (made_names made) losses) (make_all made before db)
made_lost before loss [] losses db a h = h
made_lost before loss (m ∷ made) losses db a h =
    made_lost before loss made (insert losses m.name loss) (insert db m.name (m.entry before)) a.1
    (lost_under losses db m.name (m.entry before) loss a.0 h)

made_by : (o : Option Loss) (before : Database) (made : List Made) (losses : LostTables) (db : Database)
    → AllLose o before made → AreLosses losses db
    → AreLosses (with_loss o (made_names made) losses) (make_all made before db)
made_by None before made losses db a h = made_whole before made losses db a h
made_by (Some loss) before made losses db a h = made_lost before loss made losses db a h

-- ---- over one operator, and back over one

first_is : (losses : LostTables) (db : Database) → AreLosses losses db → (names : List (List ℕ))
    → first_loss (loss_in db) names ≡ first_loss (get losses) names
first_is losses db h [] = refl
first_is losses db h (n ∷ names) = ap (λ o. option_or o (first_loss (loss_in db) names)) (h n)
    ∙ ap (option_or (get losses n)) (first_is losses db h names)

one_operator : (tables : Tables) (op : Operator) (losses : LostTables) (db : Database)
    → AreLosses losses db → AreLosses (lost_over tables op losses) (migrate tables op db)
one_operator tables op losses db h =
    made_by (first_loss (get losses) (made_of op)) db (line tables op).made _ _
    (subst (λ (o : Option Loss). AllLose o db (line tables op).made)
    (first_is losses db h (made_of op)) (each_hands_on tables db op))
    (without_names losses db (line tables op).consumed h)

one_undone : (loss : Loss) (before : Tables) (op : Operator) (losses : LostTables) (db : Database)
    → AreLosses losses db → AreLosses (lost_undone loss before op losses)
    (undone loss before op db)
one_undone loss before op losses db h = lost_names_by loss _ _ (line before op).consumed
    (without_names losses db (made_names (line before op).made) h)

-- ---- the way

one_step : (s : Step) (losses : LostTables) (db : Database) → AreLosses losses db
    → AreLosses (lost_stepped s losses) (stepped s db)
one_step (carrying tables op) losses db h = one_operator tables op losses db h
one_step (filling loss tables f) losses db h = one_operator tables (filled_with blank f) losses db h
one_step (undoing loss before op) losses db h = one_undone loss before op losses db h

pub losses_are : (steps : List Step) (losses : LostTables) (db : Database) → AreLosses losses db
    → AreLosses (taken lost_stepped steps losses) (taken stepped steps db)
losses_are steps losses db h = taken_so AreLosses lost_stepped stepped one_step steps losses db h

-- in a database of a schema nothing is lost
none_is : (o : Option (List Column)) (x : Option DatabaseEntry) → IsEntry o x → loss_of x ≡ None
none_is None None h = refl
none_is None (Some x) h = absurd h
none_is (Some cs) None h = absurd h
none_is (Some cs) (Some (Rows rows)) h = refl
none_is (Some cs) (Some (Lost k i)) h = absurd h

pub no_losses : (tables : Tables) (db : Database) → IsDatabase tables db → AreLosses empty db
no_losses tables db h = λ n. none_is (get tables n) (get db n) (h n) ∙ sym (get-empty bytes_cmp n)
