-- Which texts of an answer are borrowed by the stored tables: those of the outputs that are plain
-- columns, but for the texts that a piece of their item computes.
use Rattle.std.specs.Prelude.{◌≡◌, ℕ, ◌+◌, true, List, [], ◌∷◌, map, ◌⊎◌, ⊤}
use Rattle.relations_spec.specs.Sets.{In}
use Rattle.relations_spec.specs.Spans.{Span, covers}
use Rattle.prima_base.specs.declared.timed_row.TimedRow.{TimedRow}
use Rattle.prima_base.specs.declared.value.Val.{Val}
use Rattle.prima_base.specs.Order.{shown}
use Rattle.cond_expr.specs.declared.expr.Whose.TheVariants.{Atom}
use Rattle.cond_expr.specs.declared.expr.Column.{Column}
use Rattle.cond_expr.specs.Trees.{Tree}
use Rattle.smo_ops_spec.specs.OneRow.{Row}
use Rattle.smo_ops_spec.specs.Past.{Past, tables_of}
use Rattle.smo_ops_versions_spec.specs.Migration.{migrated}
use Rattle.version_groups.specs.Groups.{Kept, versions_in}
use Rattle.join_exec.specs.Pieces.{stored_meaning}
use Rattle.join_exec_spec.specs.BorrowedOutputs.{BorrowedValues, is_plain, StaysBorrowed}
use Rattle.plain_answers_spec.specs.Branches.{PlainBranch, branch_answers}
use Rattle.temporal_lang_types.specs.Queries.{PlainQuery}
use Rattle.piece_ir_spec.specs.Pieces.{PlainPiece, out_trees}
use Rattle.piece_ir.specs.ExplainedPieces.{PlainExplained}
use Rattle.query_exec.specs.QueryPieces.{IsAlive}

-- which values of columns are borrowed, of each branch by its number
abbrev pub BorrowedByBranch : Type 0
BorrowedByBranch = ℕ → BorrowedValues

-- of a row of outputs no value that is computed is one of those, of the atom's columns
abbrev pub SparesRow : BorrowedValues → ℕ → List (List ℕ × Tree) → Row → Type 0
SparesRow which place [] row = ⊤
SparesRow which place (o ∷ outs) [] = ⊤
SparesRow which place (o ∷ outs) (x ∷ row) =
    (which (Atom place) o.0 x ≡ true → is_plain x o.1 ≡ true) × SparesRow which place outs row

-- the piece computes none of the values that are borrowed in its branch, in no row that it answers
-- in its period over what is stored
abbrev pub Spares : Kept → BorrowedByBranch → PlainExplained → Type 0
Spares kept by_branch e = (place : ℕ) → e.atom ≡ place + 1 → (m : ℕ) → covers e.period m ≡ true
    → (row : Row) → In row (stored_meaning kept e.version e.piece m)
    → SparesRow (by_branch e.branch) place e.piece.outs row

-- none of the pieces does
abbrev pub AreSpared : Kept → BorrowedByBranch → List PlainExplained → Type 0
AreSpared kept by_branch pieces = (e : PlainExplained) → In e pieces → Spares kept by_branch e

-- the branch answers the row at the moment, over the tables as they are migrated to the version
abbrev pub IsAnswered : Past → ℕ → ℕ → PlainBranch → Row → Type 0
IsAnswered past version m b row =
    In row (branch_answers (tables_of past version) (migrated past m version) b)

-- the values show what one of the branches answers, the first of which has this number: they are
-- borrowed where an output of that branch is a plain column, and this value one of those
abbrev pub IsBorrowedBy : (PlainBranch → Row → Type 0) → BorrowedByBranch → ℕ → List PlainBranch
    → List Val → Type 0
IsBorrowedBy answers by_branch number [] values = ⊥
IsBorrowedBy answers by_branch number (b ∷ branches) values =
    (answers b (map shown values) × StaysBorrowed (by_branch number) b.outs values)
    ⊎ IsBorrowedBy answers by_branch (number + 1) branches values

-- so are those of each row of a query's answer, by what the branches answer at the first moment of
-- the row's period
abbrev pub AreBorrowedBy : Past → PlainQuery → BorrowedByBranch → List TimedRow → Type 0
AreBorrowedBy past query by_branch rows = (row : TimedRow) → In row rows
    → IsBorrowedBy (IsAnswered past query.version row.period.start) by_branch 1 query.branches
    row.values.items

-- ---- on the way there

-- so are those of each row at each moment of its period, of branches over a version
abbrev pub AlwaysBorrowedBy : Past → ℕ → BorrowedByBranch → ℕ → List PlainBranch → List TimedRow
    → Type 0
AlwaysBorrowedBy past version by_branch number branches rows = (row : TimedRow) → In row rows
    → (m : ℕ) → covers row.period m ≡ true
    → IsBorrowedBy (IsAnswered past version m) by_branch number branches row.values.items

-- in a row of some outputs each whose value is to be borrowed, as of these columns, is a plain
-- column
abbrev pub ArePlainIn : BorrowedValues → List Column → List Tree → Row → Type 0
ArePlainIn which [] [] row = ⊤
ArePlainIn which [] (t ∷ outs) row = ⊥
ArePlainIn which (c ∷ columns) [] row = ⊥
ArePlainIn which (c ∷ columns) (t ∷ outs) [] = ⊤
ArePlainIn which (c ∷ columns) (t ∷ outs) (x ∷ row) =
    (which (Atom c.atom) c.name x ≡ true → is_plain x t ≡ true) × ArePlainIn which columns outs row

-- so it is in each row that a piece answers in its period, and each of some pieces over a version
abbrev pub IsPlainIn : Kept → BorrowedValues → List Column → PlainExplained → Type 0
IsPlainIn kept which columns e = (m : ℕ) → covers e.period m ≡ true → (row : Row)
    → In row (stored_meaning kept e.version e.piece m)
    → ArePlainIn which columns (out_trees e.piece.outs) row

abbrev pub AllPlainIn : Kept → ℕ → Span → BorrowedValues → List Column → List PlainPiece → Type 0
AllPlainIn kept version period which columns ps = (p : PlainPiece) → In p ps → (m : ℕ)
    → covers period m ≡ true → (row : Row) → In row (stored_meaning kept version p m)
    → ArePlainIn which columns (out_trees p.outs) row

-- each of some pieces that is not dead computes no value that is to be borrowed
abbrev pub AllSpare : Kept → BorrowedByBranch → List PlainExplained → Type 0
AllSpare kept by_branch all = (e : PlainExplained) → IsAlive (versions_in kept) all e
    → Spares kept by_branch e
