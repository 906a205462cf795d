-- Worked rows: versions that are made by several operators each. Of a column that a member drops the
-- loss has the member's place, and a query that names it is refused with the member's kind.
use Rattle.std.specs.Prelude.{◌≡◌, ℕ, List, [], ◌∷◌, codes, Option, Some, None}
use Rattle.std.proofs.Common.{refl, ap, ◌∙◌}
use Rattle.std.specs.Option.{unwrap_or, option_or}
use Rattle.std.specs.FinMap.{FinMap, get, insert, empty, get-insert, get-remove, get-empty}
use Rattle.std.specs.Cmp.Lexicographic.{nat_list_cmp_total}
use Rattle.prima_base.specs.Order.{bytes_cmp}
use Rattle.prima_base.specs.declared.value.ColType.TheVariants.{Int as INT}
use Rattle.prima_base.specs.declared.refusal.OpKind.TheVariants.{DropColumn}
use Rattle.prima_base.specs.declared.refusal.Refusal.TheVariants.{NoInverse}
use Rattle.schema_catalog.specs.Tables.{Tables}
use Rattle.cond_expr.specs.Trees.{length_of, always}
use Rattle.smo_ops_types.specs.Operators.{Operator, create_table, drop_table, rename_table}
use Rattle.smo_ops_types.specs.Operators.{copy_table, add_column, drop_column}
use Rattle.smo_ops_types.specs.Commands.{PlainVersion}
use Rattle.smo_ops_spec.specs.First.{first_refusal as first_there}
use Rattle.smo_ops_spec.specs.After.{schema_after}
use Rattle.smo_ops_spec.specs.Evolutions.{schema_after_each}
use Rattle.smo_ops_spec.specs.Preconditions.{type_in}
use Rattle.smo_ops_spec.specs.Effects.{columns_of}
use Rattle.smo_ops_spec.specs.Losses.{Loss}
use Rattle.smo_ops_spec.specs.Past.{no_tables}
use Rattle.smo_ops_spec.specs.WaysBack.{FilledColumn}
use Rattle.plain_answers_spec.specs.Branches.{PlainBranch, a_branch}
use Rattle.smo_ops_versions_spec.proofs.WorkedWords.{a, b, r, s, u, at_atom, ab_columns}
use Rattle.smo_ops_versions_spec.specs.Steps.{filling, carrying}
use Rattle.smo_ops_versions_spec.specs.Ways.{from_next}
use Rattle.smo_ops_versions_spec.specs.ColumnLosses.{TableLoss, OfColumns, Losses, whole_loss}
use Rattle.smo_ops_versions_spec.specs.ColumnLosses.{lost_columns, table_loss, column_loss}
use Rattle.smo_ops_versions_spec.specs.LostNames.{lost_names, losses_filled, filled_at}
use Rattle.temporal_lang_spec.specs.Losing.{items_loss}
use Rattle.temporal_lang_spec.specs.Accepted.{no_way_back}

abbrev c : List ℕ
c = codes "c"

-- ---- EVOLVE (CREATE TABLE r (a INT, b TEXT) THEN ADD COLUMN c AS LENGTH(b) INTO r
-- THEN RENAME TABLE r INTO s); EVOLVE (COPY TABLE s INTO u THEN DROP COLUMN c FROM s)

abbrev first : List Operator
first = create_table r ab_columns ∷ add_column c (length_of (at_atom 0 b)) r ∷ rename_table r s
    ∷ []

abbrev second : List Operator
second = copy_table s u ∷ drop_column c s ∷ []

abbrev with_s : Tables
with_s = schema_after_each no_tables first

abbrev versions : List PlainVersion
versions = record { stamp = 1; op = first; inverse = []; tables = with_s }
    ∷ record { stamp = 3; op = second; inverse = []; tables = schema_after_each with_s second } ∷ []

-- back over the second version the last member comes first: the dropped column is filled, and then
-- the copy is dropped
abbrev with_u : Tables
with_u = schema_after with_s (copy_table s u)

abbrev filled : FilledColumn
filled = record { table = s; name = c; kind = unwrap_or (type_in (columns_of with_u s) c) INT }

back_is : from_next versions 1 ≡ filling (2, 2) (schema_after with_u (drop_column c s)) filled
    ∷ carrying with_u (drop_table u) ∷ []
back_is = refl

-- by names alone the column is lost, by member 2 of version 2, and no other column of the table
abbrev losses_before : Losses
losses_before = empty

abbrev lost : Losses
lost = lost_names versions 2 1

abbrev just_c : FinMap bytes_cmp Loss
just_c = insert empty c (2, 2)

lost_here : get lost s ≡ Some (OfColumns just_c)
lost_here =
    get-remove nat_list_cmp_total (losses_filled (2, 2) filled losses_before) u s
    ∙ ap (λ (o : Option TableLoss). get (filled_at (2, 2) filled (whole_loss o) losses_before) s)
    (get-empty bytes_cmp s)
    ∙ get-insert nat_list_cmp_total losses_before s
    (OfColumns (insert (lost_columns (get losses_before s)) c (2, 2))) s
    ∙ ap (λ (o : Option TableLoss). Some (OfColumns (insert (lost_columns o) c (2, 2))))
    (get-empty bytes_cmp s)

table_kept : table_loss lost s ≡ None
table_kept = ap whole_loss lost_here

c_lost : column_loss lost s c ≡ Some (2, 2)
c_lost = ap (λ (o : Option TableLoss). get (lost_columns o) c) lost_here
    ∙ get-insert nat_list_cmp_total empty c (2, 2) c

a_kept : column_loss lost s a ≡ None
a_kept = ap (λ (o : Option TableLoss). get (lost_columns o) a) lost_here
    ∙ get-insert nat_list_cmp_total empty c (2, 2) a ∙ get-empty bytes_cmp a

-- SELECT a FROM s is answered from version 2, and SELECT c FROM s is refused
abbrev of_a : PlainBranch
of_a = a_branch (at_atom 0 a ∷ []) ((s, s) ∷ []) always

abbrev of_c : PlainBranch
of_c = a_branch (at_atom 0 c ∷ []) ((s, s) ∷ []) always

answered : items_loss lost (of_a ∷ []) ≡ None
answered = ap (λ (o : Option Loss). first_there (option_or o
    (option_or (column_loss lost s a) None) ∷ [])) table_kept
    ∙ ap (λ (o : Option Loss). first_there (option_or o None ∷ [])) a_kept

refused : items_loss lost (of_c ∷ []) ≡ Some (2, 2)
refused = ap (λ (o : Option Loss). first_there (option_or o
    (option_or (column_loss lost s c) None) ∷ [])) table_kept
    ∙ ap (λ (o : Option Loss). first_there (option_or o None ∷ [])) c_lost

refused_as : no_way_back versions (2, 2) ≡ NoInverse 2 DropColumn
refused_as = refl
