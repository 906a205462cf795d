-- A column is looked at once: at the first of the parts that compare it with a constant of a type.
use Rattle.std.specs.Prelude.{ℕ, ◌&&◌, ◌||◌, ◌++◌, List, [], ◌∷◌, Bool, false, not, Option}
use Rattle.std.specs.Prelude.{Some, None, map}
use Rattle.std.specs.List.{list_any}
use Rattle.prima_base.specs.declared.value.ColType.{ColType}
use Rattle.cond_expr.specs.Trees.{Test}
use Rattle.cond_expr.specs.Seen.{test, tests_of}
use Rattle.cond_expr.specs.Kinds.{value_kind, same_type}
use Rattle.cond_expr.specs.Parts.{Bound, all_parts, bound_of, is_on}
use Rattle.cond_expr_dead.specs.declared.earlier.Before.{Before, fold-Before}
use Rattle.cond_expr_dead.specs.declared.earlier.Before.TheOpen.{Before-F}
use Rattle.cond_expr_dead.specs.Tried.{is_never, empties}

abbrev pub before_step : Before-F (List Test) → List Test
before_step Before-F.Nothing = []
before_step (Before-F.Members earlier members) =
    earlier.now ++ all_parts (tests_of (map test members.now))

-- the parts that stand before one, in their order
abbrev pub parts_before : Before → List Test
parts_before = fold-Before (List Test) before_step

-- the part compares the column with a constant of the type
abbrev pub is_alike : ℕ → List ℕ → ColType → Option Bound → Bool
is_alike i n k None = false
is_alike i n k (Some b) = is_on i n (Some b) && same_type (value_kind b.limit) k

abbrev pub some_alike : List Test → Option Bound → Bool
some_alike ts None = false
some_alike ts (Some b) =
    list_any (λ t. is_alike b.atom b.name (value_kind b.limit) (bound_of t)) ts

-- the part is FALSE, or the first of its column, and its column is left none
abbrev pub kills_first : List Test → List Test → Test → Bool
kills_first all before t =
    is_never t || (not (some_alike before (bound_of t)) && empties all (bound_of t))

-- one of the parts does, where those come before
abbrev pub some_kills : List Test → List Test → List Test → Bool
some_kills all before [] = false
some_kills all before (t ∷ ts) =
    kills_first all before t || some_kills all (before ++ t ∷ []) ts
