-- The canonical texts of operators, byte for byte.
use Rattle.std.specs.Prelude.{ℕ, false, List, [], ◌∷◌, ◌++◌, codes, map}
use Rattle.prima_base.specs.declared.value.ColType.{ColType}
use Rattle.prima_base.specs.declared.value.ColType.TheVariants.{Int, Text}
use Rattle.prima_base.specs.Columns.{Column}
use Rattle.cond_expr.specs.Trees.{Tree, Test}
use Rattle.smo_ops_types.specs.Operators.{Operator, nop, create_table, drop_table, rename_table}
use Rattle.smo_ops_types.specs.Operators.{copy_table, merge_table, partition_table, decompose_table}
use Rattle.smo_ops_types.specs.Operators.{join_table, add_column, drop_column, rename_column}
use Rattle.smo_parse.specs.TreeTexts.{tree_text, test_text}

-- each after a comma
abbrev pub more_listed : List (List ℕ) → List ℕ
more_listed [] = []
more_listed (t ∷ texts) = codes ", " ++ t ++ more_listed texts

-- with commas between them
abbrev pub listed : List (List ℕ) → List ℕ
listed [] = []
listed (t ∷ texts) = t ++ more_listed texts

abbrev pub type_text : ColType → List ℕ
type_text Int = codes "INT"
type_text Text = codes "TEXT"

abbrev pub column_text : Column → List ℕ
column_text c = c.0 ++ codes " " ++ type_text c.1

-- a list in its brackets, after a name
abbrev pub part_text : List ℕ → List (List ℕ) → List ℕ
part_text name members = name ++ codes " (" ++ listed members ++ codes ")"

-- over one table
abbrev pub expr_text : Tree → List ℕ
expr_text e = tree_text false e

abbrev pub cond_text : Test → List ℕ
cond_text c = test_text false false c

unfoldable pub operator_text : Operator → List ℕ
operator_text nop = codes "NOP"
operator_text (create_table r cs) = codes "CREATE TABLE " ++ part_text r (map column_text cs)
operator_text (drop_table r) = codes "DROP TABLE " ++ r
operator_text (rename_table r t) = codes "RENAME TABLE " ++ r ++ codes " INTO " ++ t
operator_text (copy_table r t) = codes "COPY TABLE " ++ r ++ codes " INTO " ++ t
operator_text (merge_table r s t) = codes "MERGE TABLE " ++ r ++ codes ", " ++ s ++ codes " INTO "
    ++ t
operator_text (partition_table r s c t) = codes "PARTITION TABLE " ++ r ++ codes " INTO " ++ s
    ++ codes " WITH " ++ cond_text c ++ codes ", " ++ t
operator_text (decompose_table r s xs t ys) =
    codes "DECOMPOSE TABLE " ++ r ++ codes " INTO " ++ part_text s xs ++ codes ", "
    ++ part_text t ys
operator_text (join_table r s t c) = codes "JOIN TABLE " ++ r ++ codes ", " ++ s ++ codes " INTO "
    ++ t ++ codes " WHERE " ++ cond_text c
operator_text (add_column n e r) = codes "ADD COLUMN " ++ n ++ codes " AS " ++ expr_text e
    ++ codes " INTO " ++ r
operator_text (drop_column n r) = codes "DROP COLUMN " ++ n ++ codes " FROM " ++ r
operator_text (rename_column b r c) = codes "RENAME COLUMN " ++ b ++ codes " IN " ++ r
    ++ codes " TO " ++ c

-- members of an operator, each after THEN
abbrev pub more_members : List Operator → List ℕ
more_members [] = []
more_members (op ∷ ops) = codes " THEN " ++ operator_text op ++ more_members ops

-- the members of an operator, in brackets where there are several
abbrev pub evolution_text : List Operator → List ℕ
evolution_text [] = []
evolution_text (op ∷ []) = operator_text op
evolution_text (op ∷ next ∷ ops) = codes "(" ++ operator_text op ++ more_members (next ∷ ops)
    ++ codes ")"
