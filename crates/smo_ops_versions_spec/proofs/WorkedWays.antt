-- Worked rows: two tables that are merged and parted again, a table that is renamed twice, one that
-- is decomposed and joined again, and one that is dropped for good.
use Rattle.std.specs.Prelude.{◌≡◌, ℕ, List, [], ◌∷◌, not, codes, Option, Some, None}
use Rattle.std.proofs.Common.{refl, ap, ◌∙◌}
use Rattle.std.specs.List.{filter}
use Rattle.std.specs.Option.{unwrap_or}
use Rattle.std.specs.FinMap.{get, insert, remove, empty, get-insert, get-remove}
use Rattle.std.specs.Cmp.Lexicographic.{nat_list_cmp_total}
use Rattle.relations_spec.specs.Sets.{set_of}
use Rattle.prima_base.specs.declared.value.ColType.TheVariants.{Int as INT, Text as TEXT}
use Rattle.prima_base.specs.Columns.{Column}
use Rattle.schema_catalog.specs.Tables.{Tables}
use Rattle.schema_catalog.specs.Databases.{cell, DatabaseEntry, Rows, Lost, Database}
use Rattle.cond_expr.specs.declared.expr.CmpOp.TheVariants.{Lt}
use Rattle.cond_expr.specs.Trees.{Test, constant, always, compared}
use Rattle.smo_ops_types.specs.Operators.{create_table, drop_table, rename_table, merge_table}
use Rattle.smo_ops_types.specs.Operators.{partition_table, decompose_table, join_table}
use Rattle.smo_ops_types.specs.Commands.{evolving, PlainVersion}
use Rattle.smo_ops_spec.specs.OneRow.{Row, Relation, meets}
use Rattle.smo_ops_spec.specs.Making.{named, image, join_rows, from_one, from_two, union}
use Rattle.smo_ops_spec.specs.Effects.{columns_of}
use Rattle.smo_ops_spec.specs.After.{schema_after}
use Rattle.smo_ops_spec.specs.Counts.{first_excess}
use Rattle.smo_ops_spec.specs.Past.{no_tables}
use Rattle.smo_ops_versions_spec.specs.Migration.{migrated_from}
use Rattle.smo_ops_versions_spec.specs.LostTables.{lost_tables}
use Rattle.smo_ops_versions_spec.proofs.WorkedWords.{a, r, s, t, u, int, text, at_atom, a_columns}
use Rattle.smo_ops_versions_spec.proofs.WorkedWords.{t_there}
use Rattle.smo_ops_versions_spec.proofs.WorkedWords.{s_there, u_there, r_there, r_under_s}

abbrev row : ℕ → Row
row n = int n ∷ []

-- ---- r (a INT) and s (a INT) are merged into t, with PARTITION TABLE t INTO r WITH a < 10, s as
-- the inverse

abbrev pub low : Test
low = compared Lt (at_atom 0 a) (constant (int 10))

abbrev pub with_r : Tables
with_r = insert no_tables r a_columns

abbrev pub with_s : Tables
with_s = insert with_r s a_columns

abbrev pub merged : Tables
merged = schema_after with_s (merge_table r s t)

abbrev pub versions : List PlainVersion
versions = record { stamp = 1; op = create_table r a_columns ∷ []; inverse = []; tables = with_r }
    ∷ record { stamp = 2; op = create_table s a_columns ∷ []; inverse = []; tables = with_s }
    ∷ record {
      stamp = 4;
      op = merge_table r s t ∷ [];
      inverse = (partition_table t r low s ∷ []) ∷ [];
      tables =
          merged;
    } ∷ []

merged_columns : columns_of merged t ≡ a_columns
merged_columns =
    ap (λ o. unwrap_or o []) (t_there (remove (remove with_s r) s) (columns_of with_s r))
    ∙ ap (λ o. unwrap_or o []) (r_under_s with_r a_columns ∙ r_there no_tables a_columns)

-- its counts are within their limits
pub merge_counted : first_excess (evolving (merge_table r s t ∷ []) ((partition_table t r low s ∷ []) ∷ []))
    ≡ None
merge_counted = refl

-- 1 in r and 20 in s, in version 3
union_forward : (db : Database) → get db r ≡ Some (Rows (row 1 ∷ []))
    → get db s ≡ Some (Rows (row 20 ∷ []))
    → get (migrated_from versions 2 3 db) t ≡ Some (Rows (row 1 ∷ row 20 ∷ []))
unfolding set_of
union_forward db h k =
    t_there (remove (remove db r) s) (from_two union (get db r) (get db s))
    ∙ ap (λ e. Some (from_two union e (get db s))) h
    ∙ ap (λ e. Some (from_two union (Some (Rows (row 1 ∷ []))) e)) k

-- 1, 7, 20 and 30 in t, in version 2: those below 10 in r, the others in s
abbrev all_rows : Relation
all_rows = row 1 ∷ row 7 ∷ row 20 ∷ row 30 ∷ []

abbrev low_of : List Column → Option DatabaseEntry → DatabaseEntry
low_of columns entry = from_one (filter (meets columns low)) entry

abbrev high_of : List Column → Option DatabaseEntry → DatabaseEntry
high_of columns entry = from_one (filter (λ row. not (meets columns low row))) entry

pub r_back_of : (db : Database) (rows : Relation) → get db t ≡ Some (Rows rows)
    → get (migrated_from versions 3 2 db) r ≡ Some (Rows (filter (meets a_columns low) rows))
r_back_of db rows h =
    r_under_s (insert (remove db t) r (low_of (columns_of merged t) (get db t)))
    (high_of (columns_of merged t) (get db t))
    ∙ r_there (remove db t) (low_of (columns_of merged t) (get db t))
    ∙ ap (λ cs. Some (low_of cs (get db t))) merged_columns ∙ ap (λ e. Some (low_of a_columns e)) h

r_back : (db : Database) → get db t ≡ Some (Rows all_rows)
    → get (migrated_from versions 3 2 db) r ≡ Some (Rows (row 1 ∷ row 7 ∷ []))
r_back db h = r_back_of db all_rows h

s_back : (db : Database) → get db t ≡ Some (Rows all_rows)
    → get (migrated_from versions 3 2 db) s ≡ Some (Rows (row 20 ∷ row 30 ∷ []))
s_back db h =
    s_there (insert (remove db t) r (low_of (columns_of merged t) (get db t)))
    (high_of (columns_of merged t) (get db t))
    ∙ ap (λ cs. Some (high_of cs (get db t))) merged_columns
    ∙ ap (λ e. Some (high_of a_columns e)) h

-- ---- t is renamed to u with an inverse of two operators, RENAME TABLE u INTO s THEN RENAME TABLE
-- s INTO t; and then to r

abbrev with_t : Tables
with_t = insert no_tables t a_columns

abbrev u_tables : Tables
u_tables = schema_after with_t (rename_table t u)

abbrev renames : List PlainVersion
renames = record { stamp = 1; op = create_table t a_columns ∷ []; inverse = []; tables = with_t }
    ∷ record {
      stamp = 2;
      op = rename_table t u ∷ [];
      inverse = (rename_table u s ∷ []) ∷ (rename_table s t ∷ []) ∷ [];
      tables = u_tables;
    }
    ∷ record {
      stamp = 3;
      op = rename_table u r ∷ [];
      inverse = (rename_table r u ∷ []) ∷ [];
      tables =
          schema_after u_tables (rename_table u r);
    } ∷ []

abbrev same_rows : Option DatabaseEntry → DatabaseEntry
same_rows entry = from_one (λ rows. rows) entry

-- the operators of an inverse are gone back over first to last
first_to_last : (db : Database) (rows : Relation) → get db u ≡ Some (Rows rows)
    → get (migrated_from renames 2 1 db) t ≡ Some (Rows rows)
first_to_last db rows h =
    t_there (remove (insert (remove db u) s (same_rows (get db u))) s)
    (same_rows (get (insert (remove db u) s (same_rows (get db u))) s))
    ∙ ap (λ e. Some (same_rows e)) (s_there (remove db u) (same_rows (get db u)))
    ∙ ap (λ e. Some (same_rows (Some (same_rows e)))) h

-- and the versions last to first
last_to_first : (db : Database) (rows : Relation) → get db r ≡ Some (Rows rows)
    → get (migrated_from renames 3 1 db) t ≡ Some (Rows rows)
last_to_first db rows h =
    first_to_last (insert (remove db r) u (same_rows (get db r))) rows
    (u_there (remove db r) (same_rows (get db r)) ∙ ap (λ e. Some (same_rows e)) h)

-- ---- emp (id INT, name TEXT, city TEXT) is decomposed into who (id, name) and home (id, city),
-- with JOIN TABLE who, home INTO
-- emp WHERE TRUE as the inverse

abbrev pub id : List ℕ
id = codes "id"

abbrev pub name : List ℕ
name = codes "name"

abbrev pub city : List ℕ
city = codes "city"

abbrev pub emp : List ℕ
emp = codes "emp"

abbrev pub who : List ℕ
who = codes "who"

abbrev pub home : List ℕ
home = codes "home"

abbrev pub emp_columns : List Column
emp_columns = (city, TEXT) ∷ (id, INT) ∷ (name, TEXT) ∷ []

abbrev pub with_emp : Tables
with_emp = insert no_tables emp emp_columns

abbrev pub in_two : Tables
in_two = schema_after with_emp (decompose_table emp who (id ∷ name ∷ []) home (id ∷ city ∷ []))

abbrev pub decomposing : List PlainVersion
decomposing = record {
  stamp = 1;
  op = create_table emp emp_columns ∷ [];
  inverse = [];
  tables =
      with_emp;
}
    ∷ record {
      stamp = 3;
      op = decompose_table emp who (id ∷ name ∷ []) home (id ∷ city ∷ []) ∷ [];
      inverse = (join_table who home emp always ∷ []) ∷ [];
      tables = in_two;
    } ∷ []

-- its counts are within their limits
pub join_counted : first_excess (evolving (decompose_table emp who (id ∷ name ∷ []) home
    (id ∷ city ∷ []) ∷ []) ((join_table who home emp always ∷ []) ∷ [])) ≡ None
join_counted = refl

pub all_columns : columns_of with_emp emp ≡ emp_columns
all_columns = ap (λ o. unwrap_or o []) (get-insert nat_list_cmp_total no_tables emp emp_columns emp)

pub who_columns : columns_of in_two who ≡ (id, INT) ∷ (name, TEXT) ∷ []
who_columns =
    ap (λ o. unwrap_or o []) (get-insert nat_list_cmp_total
    (insert (remove with_emp emp) who (named (id ∷ name ∷ []) (columns_of with_emp emp))) home
    (named (id ∷ city ∷ []) (columns_of with_emp emp)) who
    ∙ get-insert nat_list_cmp_total (remove with_emp emp) who
    (named (id ∷ name ∷ []) (columns_of with_emp emp)) who)
    ∙ ap (named (id ∷ name ∷ [])) all_columns

pub home_columns : columns_of in_two home ≡ (city, TEXT) ∷ (id, INT) ∷ []
home_columns =
    ap (λ o. unwrap_or o []) (get-insert nat_list_cmp_total
    (insert (remove with_emp emp) who (named (id ∷ name ∷ []) (columns_of with_emp emp))) home
    (named (id ∷ city ∷ []) (columns_of with_emp emp)) home)
    ∙ ap (named (id ∷ city ∷ [])) all_columns

-- (1, 'Ann', 'Oslo') gives (1, 'Oslo') to home
abbrev pub projected : List (List ℕ) → List Column → Option DatabaseEntry → DatabaseEntry
projected names columns entry = from_one (image (named names columns) (cell columns)) entry

home_forward : (db : Database) → get db emp ≡ Some
    (Rows ((text (codes "Oslo") ∷ int 1 ∷ text (codes "Ann") ∷ []) ∷ []))
    → get (migrated_from decomposing 1 2 db) home
    ≡ Some (Rows ((text (codes "Oslo") ∷ int 1 ∷ []) ∷ []))
unfolding set_of
home_forward db h =
    get-insert nat_list_cmp_total (insert (remove db emp) who
    (projected (id ∷ name ∷ []) (columns_of with_emp emp) (get db emp))) home
    (projected (id ∷ city ∷ []) (columns_of with_emp emp) (get db emp)) home
    ∙ ap (λ cs. Some (projected (id ∷ city ∷ []) cs (get db emp))) all_columns
    ∙ ap (λ e. Some (projected (id ∷ city ∷ []) emp_columns e)) h

-- and (1, 'Ann') to who
who_forward : (db : Database) → get db emp ≡ Some
    (Rows ((text (codes "Oslo") ∷ int 1 ∷ text (codes "Ann") ∷ []) ∷ []))
    → get (migrated_from decomposing 1 2 db) who
    ≡ Some (Rows ((int 1 ∷ text (codes "Ann") ∷ []) ∷ []))
unfolding set_of
who_forward db h =
    get-insert nat_list_cmp_total (insert (remove db emp) who
    (projected (id ∷ name ∷ []) (columns_of with_emp emp) (get db emp))) home
    (projected (id ∷ city ∷ []) (columns_of with_emp emp) (get db emp)) who
    ∙ get-insert nat_list_cmp_total (remove db emp) who
    (projected (id ∷ name ∷ []) (columns_of with_emp emp) (get db emp)) who
    ∙ ap (λ cs. Some (projected (id ∷ name ∷ []) cs (get db emp))) all_columns
    ∙ ap (λ e. Some (projected (id ∷ name ∷ []) emp_columns e)) h

-- 'Ann' with id 1 in who and 'Bergen' with id 1 in home are joined again
abbrev joined_again : List Column → List Column → Option DatabaseEntry → Option DatabaseEntry
    → DatabaseEntry
joined_again cs ds first second = from_two (join_rows cs ds always) first second

pub emp_back_of : (db : Database) (ws hs : Relation) → get db who ≡ Some (Rows ws)
    → get db home ≡ Some (Rows hs)
    → get (migrated_from decomposing 2 1 db) emp
    ≡ Some (Rows (join_rows ((id, INT) ∷ (name, TEXT) ∷ []) ((city, TEXT) ∷ (id, INT) ∷ [])
    always ws hs))
unfolding set_of
emp_back_of db ws hs h k =
    get-insert nat_list_cmp_total (remove (remove db who) home) emp
    (joined_again (columns_of in_two who) (columns_of in_two home) (get db who) (get db home))
    emp
    ∙ ap (λ cs. Some (joined_again cs (columns_of in_two home) (get db who) (get db home)))
    who_columns
    ∙ ap (λ ds. Some (joined_again ((id, INT) ∷ (name, TEXT) ∷ []) ds (get db who) (get db home)))
    home_columns
    ∙ ap (λ e. Some (joined_again ((id, INT) ∷ (name, TEXT) ∷ []) ((city, TEXT) ∷ (id, INT) ∷ []) e
    (get db home))) h
    ∙ ap (λ e. Some (joined_again ((id, INT) ∷ (name, TEXT) ∷ []) ((city, TEXT) ∷ (id, INT) ∷ [])
    (Some (Rows ws)) e)) k

emp_back : (db : Database) → get db who ≡ Some (Rows ((int 1 ∷ text (codes "Ann") ∷ []) ∷ []))
    → get db home ≡ Some (Rows ((text (codes "Bergen") ∷ int 1 ∷ []) ∷ []))
    → get (migrated_from decomposing 2 1 db) emp
    ≡ Some (Rows ((text (codes "Bergen") ∷ int 1 ∷ text (codes "Ann") ∷ []) ∷ []))
unfolding set_of
emp_back db h k = emp_back_of db ((int 1 ∷ text (codes "Ann") ∷ []) ∷ [])
    ((text (codes "Bergen") ∷ int 1 ∷ []) ∷ []) h k

-- where home was lost, so is emp, by the same loss
lost_back : (db : Database) → get db who ≡ Some (Rows []) → get db home ≡ Some (Lost 4 1)
    → get (migrated_from decomposing 2 1 db) emp ≡ Some (Lost 4 1)
lost_back db h k =
    get-insert nat_list_cmp_total (remove (remove db who) home) emp
    (joined_again (columns_of in_two who) (columns_of in_two home) (get db who) (get db home))
    emp
    ∙ ap (λ e. Some (joined_again (columns_of in_two who) (columns_of in_two home) e (get db home)))
    h
    ∙ ap (λ e. Some (joined_again (columns_of in_two who) (columns_of in_two home) (Some (Rows []))
    e)) k

-- ---- t (a INT) is created, dropped with no inverse, and created again

abbrev pub dropped_versions : List PlainVersion
dropped_versions = record {
  stamp = 1;
  op = create_table t a_columns ∷ [];
  inverse = [];
  tables =
      with_t;
}
    ∷ record { stamp = 4; op = drop_table t ∷ []; inverse = []; tables = remove with_t t }
    ∷ record {
      stamp = 6;
      op = create_table t a_columns ∷ [];
      inverse = [];
      tables =
          insert (remove with_t t) t a_columns;
    } ∷ []

-- back in version 1 it is lost, by the first operator of version 2: in the database, and by names
-- alone
lost_table : (db : Database) → get (migrated_from dropped_versions 2 1 db) t ≡ Some (Lost 2 1)
lost_table db = t_there db (Lost 2 1)

lost_name : get (lost_tables dropped_versions 2 1) t ≡ Some (2, 1)
lost_name = t_there empty (2, 1)

-- from version 3 too, whose table of this name goes away first
lost_further : get (lost_tables dropped_versions 3 1) t ≡ Some (2, 1)
lost_further = t_there (remove empty t) (2, 1)

-- forward it is gone, and then empty, and not lost
not_lost_forward : get (lost_tables dropped_versions 1 3) t ≡ None
not_lost_forward = get-remove nat_list_cmp_total (remove empty t) t t
