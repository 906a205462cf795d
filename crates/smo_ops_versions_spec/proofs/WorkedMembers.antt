-- Worked rows of versions that several operators make together: the way back goes over the members
-- last to first, and a loss tells the member.
use Rattle.std.specs.Prelude.{◌≡◌, List, [], ◌∷◌, Some}
use Rattle.std.proofs.Common.{refl, ◌∙◌}
use Rattle.std.specs.Option.{unwrap_or}
use Rattle.std.specs.FinMap.{get, insert, empty, get-insert}
use Rattle.std.specs.Cmp.Lexicographic.{nat_list_cmp_total}
use Rattle.prima_base.specs.declared.value.ColType.TheVariants.{Int as INT}
use Rattle.prima_base.specs.declared.refusal.OpRefusal.TheVariants.{NoTable, WrongType}
use Rattle.schema_catalog.specs.Tables.{Tables, columns_of}
use Rattle.schema_catalog.specs.Databases.{Lost, Database}
use Rattle.cond_expr.specs.Trees.{length_of}
use Rattle.smo_ops_types.specs.Operators.{Operator, drop_table, rename_table, copy_table, add_column}
use Rattle.smo_ops_types.specs.Operators.{drop_column}
use Rattle.smo_ops_spec.specs.Preconditions.{type_in}
use Rattle.smo_ops_spec.specs.After.{schema_after}
use Rattle.smo_ops_spec.specs.Evolutions.{schema_after_each, counted_from, members_nodes}
use Rattle.smo_ops_versions_spec.specs.Steps.{carrying, filling, undoing, taken}
use Rattle.smo_ops_versions_spec.specs.Ways.{back_over_members, back_over}
use Rattle.smo_ops_versions_spec.specs.Migration.{stepped}
use Rattle.smo_ops_versions_spec.specs.LostTables.{LostTables, lost_stepped}
use Rattle.smo_ops_versions_spec.proofs.WorkedWords.{a, b, r, s, t, u, at_atom}
use Rattle.smo_ops_versions_spec.proofs.WorkedWords.{r_there, t_there}

-- ---- version 2 is made by (COPY TABLE s INTO u THEN DROP COLUMN a FROM s)

abbrev members : List Operator
members = copy_table s u ∷ drop_column a s ∷ []

abbrev between : Tables → Tables
between before = schema_after before (copy_table s u)

over_both : (before : Tables) → schema_after_each before members
    ≡ schema_after (between before) (drop_column a s)
over_both before = refl

-- back: the dropped column is filled, by the second member, and then u is dropped
back_over_both : (before after : Tables) → back_over 2 before members after []
    ≡ filling (2, 2) (schema_after (between before) (drop_column a s)) (record {
      table = s;
      name = a;
      kind = unwrap_or (type_in (columns_of (between before) s) a) INT;
    }) ∷ carrying (between before) (drop_table u) ∷ []
back_over_both before after = refl

-- with a named inverse of two operators, of which the first is a list, over all members in turn
back_by_inverse : (before after : Tables)
    → back_over 2 before members after
    ((drop_table u ∷ rename_table s t ∷ []) ∷ (rename_table t s ∷ []) ∷ [])
    ≡ carrying after (drop_table u)
    ∷ carrying (schema_after after (drop_table u)) (rename_table s t)
    ∷ carrying (schema_after (schema_after after (drop_table u)) (rename_table s t))
    (rename_table t s) ∷ []
back_by_inverse before after = refl

-- ---- version 3 is made by (DROP TABLE r THEN DROP TABLE t): each is lost by its own member

abbrev drops : List Operator
drops = drop_table r ∷ drop_table t ∷ []

last_to_first : (before : Tables) → back_over_members 3 1 before drops
    ≡ undoing (3, 2) (schema_after before (drop_table r)) (drop_table t)
    ∷ undoing (3, 1) before (drop_table r) ∷ []
last_to_first before = refl

t_lost : (before : Tables) (db : Database)
    → get (taken stepped (back_over_members 3 1 before drops) db) t ≡ Some (Lost 3 2)
t_lost before db =
    get-insert nat_list_cmp_total (insert db t (Lost 3 2)) r (Lost 3 1) t ∙ t_there db (Lost 3 2)

r_lost : (before : Tables) (db : Database)
    → get (taken stepped (back_over_members 3 1 before drops) db) r ≡ Some (Lost 3 1)
r_lost before db = r_there (insert db t (Lost 3 2)) (Lost 3 1)

abbrev none_lost : LostTables
none_lost = empty

t_lost_by_name : (before : Tables)
    → get (taken lost_stepped (back_over_members 3 1 before drops) none_lost) t ≡ Some (3, 2)
t_lost_by_name before =
    get-insert nat_list_cmp_total (insert none_lost t (3, 2)) r (3, 1) t ∙ t_there none_lost (3, 2)

-- ---- the nodes of the members before a refused one count: behind ADD COLUMN a AS LENGTH(b), of two
-- nodes, and a member that has none, node 1 is node 3

place_counts_on : counted_from (members_nodes (add_column a (length_of (at_atom 0 b)) t
    ∷ copy_table t u ∷ [])) (WrongType 1) ≡ WrongType 3
place_counts_on = refl

other_refusals_stay : counted_from 2 (NoTable t) ≡ NoTable t
other_refusals_stay = refl
