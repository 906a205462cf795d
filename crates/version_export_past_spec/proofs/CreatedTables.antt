-- Any tables that a version may have are created by one CREATE TABLE each, one after the other:
-- each is accepted after those before it, the schema after the last has just these tables, and no
-- row is made.
use Rattle.std.specs.Prelude.{◌≡◌, ◌+◌, ◌≤◌, ◌||◌, ℕ, Bool, true, false, not, List, []}
use Rattle.std.specs.Prelude.{◌∷◌, cond, length, map, nat_le, is_some, Option, Some, None, T}
use Rattle.std.proofs.Common.{refl, sym, ap, subst, ◌∙◌, arith}
use Rattle.std.specs.Option.{option_map}
use Rattle.std.specs.Ordering.{eq_by_cmp, is_lt}
use Rattle.std.specs.Cmp.Lexicographic.{nat_list_cmp_total}
use Rattle.std.specs.FinMap.{get, insert, entries, find, is_sorted, len, get-empty, get-insert}
use Rattle.std.specs.FinMap.{get-entries, entries_sorted, len-insert, len-empty, len-entries}
use Rattle.std.specs.FinMap.{same_map, slice_cmp-IsAntisymmetric, nat_cmp-IsAntisymmetric}
use Rattle.std.specs.FinMap.Entries.{below_all}
use Rattle.prima_base.specs.declared.refusal.What.TheVariants.{Tables as TABLES, Columns as COLUMNS}
use Rattle.prima_base.specs.declared.refusal.OpRefusal.TheVariants.{Exists, ColumnExists}
use Rattle.prima_base.specs.declared.refusal.OpRefusal.TheVariants.{LastColumn}
use Rattle.prima_base.specs.declared.refusal.OpRefusal.TheVariants.{TooMany}
use Rattle.prima_base.specs.Limits.{max_columns, max_tables}
use Rattle.prima_base.specs.Order.{bytes_cmp}
use Rattle.prima_base.specs.OrderLaws.{same_is}
use Rattle.prima_base.specs.Columns.{Column, names_of, AreColumns}
use Rattle.schema_catalog.specs.Places.{NamedColumns}
use Rattle.schema_catalog.specs.Tables.{Tables}
use Rattle.schema_catalog.specs.Databases.{Database}
use Rattle.smo_ops_types.specs.Operators.{Operator, create_table}
use Rattle.smo_ops_spec.specs.First.{unless, first_refusal}
use Rattle.smo_ops_spec.specs.OneRow.{same}
use Rattle.smo_ops_spec.specs.Preconditions.{among, is_some_column, each_once, few_columns}
use Rattle.smo_ops_spec.specs.Preconditions.{few_tables}
use Rattle.smo_ops_spec.specs.Making.{in_order}
use Rattle.smo_ops_spec.specs.After.{op_fault}
use Rattle.smo_ops_spec.specs.Evolutions.{schema_after_each, AllOperatorsAccepted}
use Rattle.smo_ops_spec.specs.Past.{no_tables}
use Rattle.smo_ops_spec.proofs.CountingLaws.{first, second, less}
use Rattle.smo_ops_spec.proofs.NameLaws.{same_not, same_turned}
use Rattle.smo_ops_versions_spec.specs.Steps.{carrying_each}
use Rattle.smo_ops_versions_spec.specs.Migration.{migrate_over}
use Rattle.version_export_past_spec.specs.Blank.{IsBlank}
use Rattle.version_export_past_spec.proofs.BlankDatabases.{blank_taken}
use Rattle.version_export_past_spec.proofs.CreatedPast.{already_in_order, none_again}

-- a table that can be created: its columns in the order of their names, some and not too many
pub record IsCreatable (t : NamedColumns) : Type 0 where
  pub are : AreColumns t.1
  pub some : 1 ≤ length t.1
  pub narrow : length t.1 ≤ max_columns

abbrev pub AllCreatable : List NamedColumns → Type 0
AllCreatable [] = Unit {0}
AllCreatable (t ∷ tables) = IsCreatable t × AllCreatable tables

abbrev pub creation : NamedColumns → Operator
creation t = create_table t.0 t.1

abbrev pub creations : List NamedColumns → List Operator
creations tables = map creation tables

fits : (m n : ℕ) → m ≤ n → nat_le m n ≡ true
fits m n l = grind (arith, l)

-- ---- one

one_more : (tables : Tables) (t : NamedColumns) → get tables t.0 ≡ None
    → len (insert tables t.0 (in_order t.1)) ≡ len tables + 1
one_more tables t free =
    len-insert nat_list_cmp_total tables t.0 (in_order t.1)
    ∙ ap (λ (o : Option (List Column)). cond (is_some o) (len tables) (len tables + 1)) free

pub one_accepted : (tables : Tables) (t : NamedColumns) → get tables t.0 ≡ None
    → len tables + 1 ≤ max_tables → IsCreatable t → op_fault tables (creation t) ≡ None
one_accepted tables t free few c =
    ap (λ (o : Option (List Column)). first_refusal
    (unless (not (is_some o) || among t.0 []) (Exists t.0) ∷ is_some_column t.0 t.1
    ∷ each_once t.0 (names_of t.1) ∷ few_columns t.1
    ∷ few_tables (insert tables t.0 (in_order t.1)) ∷ [])) free
    ∙ ap (λ b. first_refusal (unless b (LastColumn t.0) ∷ each_once t.0 (names_of t.1)
    ∷ few_columns t.1 ∷ few_tables (insert tables t.0 (in_order t.1)) ∷ []))
    (fits 1 (length t.1) c.some)
    ∙ ap (λ o. first_refusal (option_map (ColumnExists t.0) o ∷ few_columns t.1
    ∷ few_tables (insert tables t.0 (in_order t.1)) ∷ []))
    (none_again [] (names_of t.1) (λ n i j. j) c.are)
    ∙ ap (λ b. first_refusal (unless b (TooMany COLUMNS max_columns)
    ∷ few_tables (insert tables t.0 (in_order t.1)) ∷ []))
    (fits (length t.1) max_columns c.narrow)
    ∙ ap (λ b. first_refusal (unless b (TooMany TABLES max_tables) ∷ []))
    (fits (len (insert tables t.0 (in_order t.1))) max_tables
    (let e = one_more tables t free in omega (arith, e, few)))

-- ---- one after the other

abbrev AllFree : Tables → List NamedColumns → Type 0
AllFree tables [] = Unit {0}
AllFree tables (t ∷ ts) = (get tables t.0 ≡ None) × AllFree tables ts

-- after one of them the others are still free, since their names are greater
still_free : (tables : Tables) (t : NamedColumns) (ts : List NamedColumns)
    → T (below_all bytes_cmp t.0 ts) → AllFree tables ts
    → AllFree (insert tables t.0 (in_order t.1)) ts
still_free tables t [] b f = tt
still_free tables t (u ∷ ts) b f = (
  get-insert nat_list_cmp_total tables t.0 (in_order t.1) u.0
      ∙ ap (λ (x : Bool). cond x (Some (in_order t.1)) (get tables u.0))
      (same_turned u.0 t.0 ∙ same_not t.0 u.0 (less (bytes_cmp t.0 u.0) (first _ _ b))) ∙ f.0,
  still_free tables t ts (second (is_lt (bytes_cmp t.0 u.0)) _ b) f.1,
)

pub all_accepted : (tables : Tables) (ts : List NamedColumns) → T (is_sorted bytes_cmp ts)
    → AllFree tables ts → len tables + length ts ≤ max_tables → AllCreatable ts
    → AllOperatorsAccepted tables (creations ts)
all_accepted tables [] s f few c = tt
all_accepted tables (t ∷ ts) s f few c = (
  one_accepted tables t f.0 (omega (arith, few)) c.0,
  all_accepted (insert tables t.0 (in_order t.1)) ts (second (below_all bytes_cmp t.0 ts) _ s)
      (still_free tables t ts (first _ _ s) f.1)
      (let e = one_more tables t f.0 in omega (arith, e, few)) c.1,
)

-- what stands under a name after them
abbrev late : List ℕ → List NamedColumns → Option (List Column) → Option (List Column)
late n [] o = o
late n (t ∷ ts) o = late n ts (cond (eq_by_cmp bytes_cmp n t.0) (Some t.1) o)

after_all : (tables : Tables) (ts : List NamedColumns) (n : List ℕ) → AllCreatable ts
    → get (schema_after_each tables (creations ts)) n ≡ late n ts (get tables n)
after_all tables [] n c = refl
after_all tables (t ∷ ts) n c =
    after_all (insert tables t.0 (in_order t.1)) ts n c.1
    ∙ ap (late n ts) (get-insert nat_list_cmp_total tables t.0 (in_order t.1) n
    ∙ ap (λ (cs : List Column). cond (eq_by_cmp bytes_cmp n t.0) (Some cs) (get tables n))
    (already_in_order t.1 c.0.are))

-- none of these has the name
late_none : (n : List ℕ) (ts : List NamedColumns) (o : Option (List Column))
    → T (below_all bytes_cmp n ts) → late n ts o ≡ o
late_none n [] o b = refl
late_none n (t ∷ ts) o b =
    ap (λ (x : Bool). late n ts (cond x (Some t.1) o))
    (same_not n t.0 (less (bytes_cmp n t.0) (first _ _ b)))
    ∙ late_none n ts o (second (is_lt (bytes_cmp n t.0)) _ b)

late_found : (n : List ℕ) (ts : List NamedColumns) → T (is_sorted bytes_cmp ts)
    → late n ts None ≡ find bytes_cmp n ts
late_found n [] s = refl
late_found n (t ∷ ts) s = step (late_found n ts (second (below_all bytes_cmp t.0 ts) _ s))
    (same n t.0) refl
  where
    step : late n ts None ≡ find bytes_cmp n ts → (b : Bool) → same n t.0 ≡ b
        → late n ts (cond b (Some t.1) None) ≡ cond b (Some t.1) (find bytes_cmp n ts)
    step more true e = late_none n ts (Some t.1)
        (subst (λ (m : List ℕ). T (below_all bytes_cmp m ts))
        (sym (same_is n t.0 e)) (first _ _ s))
    step more false e = more

pub all_created : (tables : Tables) → AllCreatable (entries tables)
    → schema_after_each no_tables (creations (entries tables)) ≡ tables
all_created tables c = same_map nat_list_cmp_total
    (slice_cmp-IsAntisymmetric nat_cmp-IsAntisymmetric)
    (schema_after_each no_tables (creations (entries tables))) tables
    (λ n. after_all no_tables (entries tables) n c
    ∙ ap (late n (entries tables)) (get-empty bytes_cmp n)
    ∙ late_found n (entries tables) (entries_sorted tables) ∙ sym (get-entries tables n))

free_at_first : (ts : List NamedColumns) → AllFree no_tables ts
free_at_first [] = tt
free_at_first (t ∷ ts) = (get-empty bytes_cmp t.0, free_at_first ts)

pub all_created_accepted : (tables : Tables) → len tables ≤ max_tables
    → AllCreatable (entries tables)
    → AllOperatorsAccepted no_tables (creations (entries tables))
all_created_accepted tables few c = all_accepted no_tables (entries tables) (entries_sorted tables)
    (free_at_first (entries tables))
    (let a = len-empty bytes_cmp (List Column) in let b = len-entries tables in
    omega (arith, a, b, few)) c

-- and no row is made
pub blank_over_each : (tables : Tables) (ops : List Operator) (db : Database) → IsBlank db
    → IsBlank (migrate_over tables ops db)
blank_over_each tables ops db h = blank_taken (carrying_each tables ops) db h
