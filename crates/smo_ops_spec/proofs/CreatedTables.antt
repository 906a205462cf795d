-- The database after a CREATE TABLE.
use Rattle.std.proofs.Common.{ℕ, true, false, List, []}
use Rattle.std.specs.Prelude.{cond, Some}
use Rattle.std.specs.Ordering.{eq_by_cmp}
use Rattle.std.specs.FinMap.{get, get-insert}
use Rattle.std.specs.Cmp.Lexicographic.{nat_list_cmp_total}
use Rattle.prima_base.specs.Order.{bytes_cmp}
use Rattle.prima_base.specs.Columns.{Column, IsRelation}
use Rattle.schema_catalog.specs.Tables.{Tables}
use Rattle.schema_catalog.specs.Databases.{Rows, Database, IsEntry, IsDatabase}
use Rattle.smo_ops_types.specs.Operators.{create_table}
use Rattle.smo_ops_spec.specs.Making.{in_order}
use Rattle.smo_ops_spec.specs.After.{schema_after, migrate}

no_rows : (columns : List Column) → IsRelation columns []
no_rows columns = record { ascending = tt; fitting = λ row m. absurd m }

pub created_database : (tables : Tables) (database : Database) (r : List ℕ) (cs : List Column)
    → IsDatabase tables database
    → IsDatabase (schema_after tables (create_table r cs))
    (migrate tables (create_table r cs) database)
created_database tables database r cs h = λ q.
    rw (
      get-insert nat_list_cmp_total tables r (in_order cs) q,
      get-insert nat_list_cmp_total database r (Rows []) q,
    )
    (elim (eq_by_cmp bytes_cmp q r) as (λ b. IsEntry (cond b (Some (in_order cs)) (get tables q))
    (cond b (Some (Rows [])) (get database q))) [
      | true ↦ no_rows (in_order cs)
      | false ↦ h q
    ])
