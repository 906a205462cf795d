-- What is asked of a table: of the rows that meet a condition some columns, at each moment over the
-- database then, migrated to the asked version.
use Rattle.std.specs.Prelude.{ℕ, List}
use Rattle.std.specs.FinMap.{get}
use Rattle.cond_expr.specs.declared.expr.ColRef.{ColRef}
use Rattle.cond_expr.specs.Trees.{Test}
use Rattle.smo_ops_spec.specs.Effects.{columns_of, rows_under}
use Rattle.smo_ops_spec.specs.OneRow.{Relation}
use Rattle.smo_ops_spec.specs.Past.{Past, tables_of}
use Rattle.smo_ops_versions_spec.specs.Migration.{migrated}
use Rattle.plain_answers_spec.specs.Naming.{names_at}
use Rattle.plain_answers_spec.specs.Pushing.{pushed_cond}
use Rattle.plain_answers_spec.specs.Reading.{Read, read_of}
use Rattle.piece_ir_spec.specs.Beginnings.{asking}

-- of the table of an item, whose place in its branch this is: the columns that are named of it, of
-- the rows that meet the condition that is pushed to it
abbrev pub own_read : ℕ → List ColRef → Test → Read
own_read i references cond = asking (pushed_cond i cond) (names_at i references)

-- what is read of the table of version q at the moment
abbrev pub table_read : Past → ℕ → List ℕ → Read → ℕ → Relation
table_read past q table r m = read_of r (columns_of (tables_of past q) table)
    (rows_under (get (migrated past m q) table))
