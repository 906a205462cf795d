-- What is answered of choices of one row of each of several relations, each with its own columns.
use Rattle.std.specs.Prelude.{◌≡◌, ℕ, true, List, [], ◌∷◌, ◌++◌, map, length, ⊤}
use Rattle.std.specs.List.{flat_map, filter}
use Rattle.relations_spec.specs.Sets.{In, set_of}
use Rattle.relations_spec.specs.Choices.{choices}
use Rattle.prima_base.specs.declared.value.Value.{Value}
use Rattle.prima_base.specs.Order.{row_cmp}
use Rattle.cond_expr.specs.declared.expr.Column.{Column}
use Rattle.cond_expr.specs.Trees.{Tree, Test}
use Rattle.join_exec_spec.specs.Keeping.{meets, meets_all}
use Rattle.join_exec_spec.specs.Fitting.{AreOwn}
use Rattle.join_exec_spec.specs.Answering.{outputs, one_row}

-- the columns of an atom, which has this number, and its relation
pub record Block : Type 0 where
  pub number : ℕ
  pub columns : List Column
  pub rows : List (List Value)

abbrev pub types_of : List Block → List Column
types_of blocks = flat_map (λ (b : Block). b.columns) blocks

abbrev pub rows_of : List Block → List (List (List Value))
rows_of blocks = map (λ (b : Block). b.rows) blocks

-- the rows that are answered, with what they may repeat, and their relation
abbrev pub answered_rows : List Tree → Test → List Block → List (List Value)
answered_rows outs cond blocks = map (outputs (types_of blocks) outs)
    (filter (meets (types_of blocks) cond) (map one_row (choices (rows_of blocks))))

abbrev pub answered : List Tree → Test → List Block → List (List Value)
answered outs cond blocks = set_of row_cmp (answered_rows outs cond blocks)

-- the columns are the atom's own, and each row has a value for each
pub record IsBlock (b : Block) : Type 0 where
  pub own : AreOwn b.number b.columns
  pub wide : (row : List Value) → In row b.rows → length row ≡ length b.columns

-- the same atom without rows of no use: each row stays that meets the conditions with some values
-- of further columns after
pub record IsPruned (conds : List Test) (was is : Block) : Type 0 where
  pub number : is.number ≡ was.number
  pub columns : is.columns ≡ was.columns
  pub only : (row : List Value) → In row is.rows → In row was.rows
  pub useful : (row : List Value) → In row was.rows → (rest : List Column) (more : List Value)
      → meets_all (was.columns ++ rest) conds (row ++ more) ≡ true → In row is.rows

-- none of them has the number
abbrev pub Apart : ℕ → List Block → Type 0
Apart k [] = ⊤
Apart k (b ∷ blocks) = (b.number ≡ k → ⊥) × Apart k blocks

abbrev pub AreBlocks : List Block → Type 0
AreBlocks [] = ⊤
AreBlocks (b ∷ blocks) = IsBlock b × AreBlocks blocks
