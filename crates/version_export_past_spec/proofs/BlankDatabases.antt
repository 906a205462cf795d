-- Operators make no rows of none.
use Rattle.std.specs.Prelude.{◌≡◌, ℕ, Bool, true, false, List, [], ◌∷◌}
use Rattle.std.specs.Prelude.{cond, Option, Some, None}
use Rattle.std.proofs.Common.{refl, sym, ap, ◌∙◌}
use Rattle.std.specs.FinMap.{get, insert, remove, get-insert, get-remove, same_map}
use Rattle.std.specs.FinMap.{slice_cmp-IsAntisymmetric, nat_cmp-IsAntisymmetric}
use Rattle.std.specs.Ordering.{eq_by_cmp}
use Rattle.std.specs.Cmp.Lexicographic.{nat_list_cmp_total}
use Rattle.relations_spec.specs.Sets.{set_of}
use Rattle.prima_base.specs.Order.{bytes_cmp}
use Rattle.prima_base.specs.Columns.{Column}
use Rattle.schema_catalog.specs.Tables.{Tables}
use Rattle.schema_catalog.specs.Databases.{DatabaseEntry, Rows, Lost, Database, IsEntry, IsDatabase}
use Rattle.smo_ops_types.specs.Operators.{Operator, nop, create_table, drop_table, rename_table}
use Rattle.smo_ops_types.specs.Operators.{copy_table, merge_table, partition_table, decompose_table}
use Rattle.smo_ops_types.specs.Operators.{join_table, add_column, drop_column, rename_column}
use Rattle.smo_ops_types.specs.Commands.{PlainVersion}
use Rattle.smo_ops_spec.specs.OneRow.{Relation}
use Rattle.smo_ops_spec.specs.Effects.{rows_of, rows_under}
use Rattle.smo_ops_spec.specs.Making.{from_one, from_two}
use Rattle.smo_ops_spec.specs.Losses.{Loss}
use Rattle.smo_ops_spec.specs.WaysBack.{blank, filled_with}
use Rattle.smo_ops_spec.specs.OperatorTable.{Made, line, made_names}
use Rattle.smo_ops_spec.specs.After.{schema_after, migrate, lose_all, make_all}
use Rattle.smo_ops_spec.specs.Evolutions.{carried_each}
use Rattle.smo_ops_versions_spec.specs.Steps.{Step, carrying, filling, undoing, taken}
use Rattle.smo_ops_versions_spec.specs.Ways.{way}
use Rattle.smo_ops_versions_spec.specs.Migration.{lost_by, stepped, migrated_from}
use Rattle.version_export_past_spec.specs.Blank.{IsBlank}

blank_lost : (consumed : List (List ℕ)) (db : Database) → IsBlank db
    → IsBlank (lose_all consumed db)
blank_lost [] db h = h
blank_lost (c ∷ consumed) db h = blank_lost consumed (remove db c)
    (λ n. ap rows_under (get-remove nat_list_cmp_total db c n)
    ∙ step n (eq_by_cmp bytes_cmp n c))
  where
    step : (n : List ℕ) (b : Bool) → rows_under (cond b None (get db n)) ≡ []
    step n true = refl
    step n false = h n

-- what is made has no rows
abbrev AllBlank : Database → List Made → Type 0
AllBlank before [] = Unit {0}
AllBlank before (m ∷ made) = (rows_of (m.entry before) ≡ []) × AllBlank before made

blank_made : (before : Database) (made : List Made) (db : Database) → AllBlank before made
    → IsBlank db → IsBlank (make_all made before db)
blank_made before [] db a h = h
blank_made before (m ∷ made) db a h = blank_made before made (insert db m.name (m.entry before)) a.1
    (λ n. ap rows_under (get-insert nat_list_cmp_total db m.name (m.entry before) n)
    ∙ step n (eq_by_cmp bytes_cmp n m.name))
  where
    step : (n : List ℕ) (b : Bool)
        → rows_under (cond b (Some (m.entry before)) (get db n)) ≡ []
    step n true = a.0
    step n false = h n

one_blank : (f : Relation → Relation) (x : Option DatabaseEntry) → rows_under x ≡ [] → f [] ≡ []
    → rows_of (from_one f x) ≡ []
one_blank f None e h = refl
one_blank f (Some (Rows rows)) e h = ap f e ∙ h
one_blank f (Some (Lost k i)) e h = refl

two_blank : (f : Relation → Relation → Relation) (x y : Option DatabaseEntry) → rows_under x ≡ []
    → rows_under y ≡ [] → f [] [] ≡ [] → rows_of (from_two f x y) ≡ []
two_blank f None y e k h = one_blank (λ rows. []) y k refl
two_blank f (Some (Rows rows)) y e k h = one_blank (f rows) y k
    (ap (λ (r : Relation). f r []) e ∙ h)
two_blank f (Some (Lost k i)) y e j h = refl

each_blank : (tables : Tables) (op : Operator) (db : Database) → IsBlank db
    → AllBlank db (line tables op).made
unfolding set_of
each_blank tables nop db h = tt
each_blank tables (create_table r cs) db h = (refl, tt)
each_blank tables (drop_table r) db h = tt
each_blank tables (rename_table r t) db h = (one_blank _ (get db r) (h r) refl, tt)
each_blank tables (copy_table r t) db h = (one_blank _ (get db r) (h r) refl, tt)
each_blank tables (merge_table r s t) db h =
    (two_blank _ (get db r) (get db s) (h r) (h s) refl, tt)
each_blank tables (partition_table r s c t) db h =
    (one_blank _ (get db r) (h r) refl, (one_blank _ (get db r) (h r) refl, tt))
each_blank tables (decompose_table r s xs t ys) db h =
    (one_blank _ (get db r) (h r) refl, (one_blank _ (get db r) (h r) refl, tt))
each_blank tables (join_table r s t c) db h =
    (two_blank _ (get db r) (get db s) (h r) (h s) refl, tt)
each_blank tables (add_column c e r) db h = (one_blank _ (get db r) (h r) refl, tt)
each_blank tables (drop_column c r) db h = (one_blank _ (get db r) (h r) refl, tt)
each_blank tables (rename_column b r c) db h = (one_blank _ (get db r) (h r) refl, tt)

pub blank_carried : (tables : Tables) (op : Operator) (db : Database) → IsBlank db
    → IsBlank (migrate tables op db)
blank_carried tables op db h = blank_made db (line tables op).made
    (lose_all (line tables op).consumed db) (each_blank tables op db h)
    (blank_lost (line tables op).consumed db h)

pub blank_carried_each : (tables : Tables) (ops : List Operator) (db : Database) → IsBlank db
    → IsBlank (carried_each tables ops db)
blank_carried_each tables [] db h = h
blank_carried_each tables (op ∷ ops) db h = blank_carried_each (schema_after tables op) ops
    (migrate tables op db) (blank_carried tables op db h)

-- ---- over steps, which lose tables or carry them

lost_blank : (loss : Loss) (names : List (List ℕ)) (db : Database) → IsBlank db
    → IsBlank (lost_by loss names db)
lost_blank loss [] db h = h
lost_blank loss (c ∷ names) db h = lost_blank loss names (insert db c (Lost loss.0 loss.1))
    (λ n. ap rows_under (get-insert nat_list_cmp_total db c (Lost loss.0 loss.1) n)
    ∙ step n (eq_by_cmp bytes_cmp n c))
  where
    step : (n : List ℕ) (b : Bool)
        → rows_under (cond b (Some (Lost loss.0 loss.1)) (get db n)) ≡ []
    step n true = refl
    step n false = h n

blank_step : (s : Step) (db : Database) → IsBlank db → IsBlank (stepped s db)
blank_step (carrying tables op) db h = blank_carried tables op db h
blank_step (filling loss tables f) db h = blank_carried tables (filled_with blank f) db h
blank_step (undoing loss before op) db h = lost_blank loss (line before op).consumed
    (lose_all (made_names (line before op).made) db)
    (blank_lost (made_names (line before op).made) db h)

pub blank_taken : (steps : List Step) (db : Database) → IsBlank db
    → IsBlank (taken stepped steps db)
blank_taken [] db h = h
blank_taken (s ∷ steps) db h = blank_taken steps (stepped s db) (blank_step s db h)

pub blank_migrated : (versions : List PlainVersion) (v q : ℕ) (db : Database) → IsBlank db
    → IsBlank (migrated_from versions v q db)
blank_migrated versions v q db h = blank_taken (way versions v q) db h

-- ---- one database of a schema has no rows

one_entry : (o : Option (List Column)) (x y : Option DatabaseEntry) → IsEntry o x → IsEntry o y
    → rows_under x ≡ [] → rows_under y ≡ [] → x ≡ y
one_entry None None None i j e f = refl
one_entry None None (Some y) i j e f = absurd j
one_entry None (Some x) y i j e f = absurd i
one_entry (Some cs) None y i j e f = absurd i
one_entry (Some cs) (Some (Lost k l)) y i j e f = absurd i
one_entry (Some cs) (Some (Rows a)) None i j e f = absurd j
one_entry (Some cs) (Some (Rows a)) (Some (Lost k l)) i j e f = absurd j
one_entry (Some cs) (Some (Rows a)) (Some (Rows b)) i j e f =
    ap (λ (r : Relation). Some (Rows r)) (e ∙ sym f)

pub one_blank_database : (tables : Tables) (a b : Database) → IsDatabase tables a
    → IsDatabase tables b → IsBlank a → IsBlank b → a ≡ b
one_blank_database tables a b h k e f = same_map nat_list_cmp_total
    (slice_cmp-IsAntisymmetric nat_cmp-IsAntisymmetric) a b
    (λ n. one_entry _ (get a n) (get b n) (h n) (k n) (e n) (f n))
