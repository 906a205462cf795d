-- What is read of the relations of a branch: of each the rows that meet a condition of its own, and
-- of these some columns.
use Rattle.std.specs.Prelude.{ℕ, ◌+◌, ◌==◌, List, [], ◌∷◌, map, pos, if◌then◌else◌, ⊤}
use Rattle.std.specs.List.{filter, flat_map}
use Rattle.relations_spec.specs.Sets.{In, set_of}
use Rattle.prima_base.specs.declared.value.Value.TheVariants.{Int}
use Rattle.prima_base.specs.Order.{row_cmp}
use Rattle.prima_base.specs.Columns.{Column}
use Rattle.schema_catalog.specs.Tables.{Tables}
use Rattle.schema_catalog.specs.Databases.{cell, Database}
use Rattle.cond_expr.specs.declared.expr.Whose.TheVariants.{Atom}
use Rattle.cond_expr.specs.Trees.{Tree, column, constant, Test, always, Filling, for_atoms}
use Rattle.cond_expr.specs.Trees.{fill_test}
use Rattle.cond_expr.specs.Parts.{parts_but_true}
use Rattle.smo_ops_spec.specs.OneRow.{Row, Relation, meets}
use Rattle.smo_ops_spec.specs.Making.{named, image}
use Rattle.plain_answers_spec.specs.Choosing.{answers_over}
use Rattle.plain_answers_spec.specs.Branches.{PlainBranch, item_columns, item_rows}
use Rattle.plain_answers_spec.specs.Naming.{all_references, IsNamed, names_from}

-- a condition over a relation's own columns, as those of atom 0, and the names of columns
pub record Read : Type 0 where
  pub test : Test
  pub names : List (List ℕ)

-- the selection by the condition, and of it the projection on the columns
abbrev pub read_of : Read → List Column → Relation → Relation
read_of r columns rows = image (named r.names columns) (cell columns)
    (filter (meets columns r.test) rows)

-- of each relation; and the columns that are left of each
abbrev pub read_columns : List Read → List (List Column) → List (List Column)
read_columns [] columns = []
read_columns (r ∷ reads) [] = []
read_columns (r ∷ reads) (cs ∷ columns) = named r.names cs ∷ read_columns reads columns

abbrev pub read_rows : List Read → List (List Column) → List Relation → List Relation
read_rows [] columns relations = []
read_rows (r ∷ reads) [] relations = []
read_rows (r ∷ reads) (cs ∷ columns) [] = []
read_rows (r ∷ reads) (cs ∷ columns) (rows ∷ relations) =
    read_of r cs rows ∷ read_rows reads columns relations

-- as many of each
abbrev pub AsMany : {X Y : Type 0} → List X → List Y → Type 0
AsMany [] [] = ⊤
AsMany [] (y ∷ ys) = ⊥
AsMany (x ∷ xs) [] = ⊥
AsMany (x ∷ xs) (y ∷ ys) = AsMany xs ys

-- ---- when that is enough

-- what is said of atom 0, said of another; no other reference has a meaning
abbrev pub said_of : ℕ → Filling
said_of i = for_atoms (λ j n. if 0 == j then column (Atom i) n else constant (Int (pos 0)))

-- each part of the first, said of the atom, is a part of the second
abbrev pub IsPartOf : ℕ → Test → Test → Type 0
IsPartOf i own cond = (t : Test) → In t (parts_but_true own)
    → In (fill_test (said_of i) t) (parts_but_true cond)

-- of the atom with this number: what is selected is a part of the condition, and each column that
-- is named is kept
pub record IsEnough (i : ℕ) (r : Read) (outs : List Tree) (cond : Test) : Type 0 where
  pub part : IsPartOf i r.test cond
  pub keeps : (name : List ℕ) → IsNamed i (all_references outs cond) name → In name r.names

-- of each atom, the first of which has this number
abbrev pub AreEnough : ℕ → List Read → List Tree → Test → Type 0
AreEnough i [] outs cond = ⊤
AreEnough i (r ∷ reads) outs cond = IsEnough i r outs cond × AreEnough (i + 1) reads outs cond

-- the least: nothing is selected, and the columns that are named are kept
abbrev pub whole_rows : List (List (List ℕ)) → List Read
whole_rows names = map (λ ns. record { test = always; names = ns }) names

abbrev pub needed_reads : PlainBranch → List Read
needed_reads b = whole_rows (names_from 0 b.from (all_references b.outs b.cond))

-- ---- branches over what is read

abbrev pub answers_read : Tables → Database → (PlainBranch → List Read) → PlainBranch → List Row
answers_read tables db reads b =
    answers_over (read_columns (reads b) (item_columns tables b.from))
    (read_rows (reads b) (item_columns tables b.from) (item_rows db b.from)) b.outs b.cond

abbrev pub plain_read : Tables → (PlainBranch → List Read) → List PlainBranch → Database → Relation
plain_read tables reads branches db = set_of row_cmp
    (flat_map (answers_read tables db reads) branches)
