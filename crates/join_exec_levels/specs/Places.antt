-- The places of columns in a row, and those whose values a condition says are equal.
use Rattle.std.specs.Prelude.{ℕ, Bool, true, ◌-◌, ◌&&◌, not, cond, nat_lt, nat_le, List, [], ◌∷◌}
use Rattle.std.specs.Prelude.{Option, Some, None}
use Rattle.std.specs.List.{flat_map}
use Rattle.std.specs.Option.{option_or, option_zip, option_and_then, option_map, option_to_list}
use Rattle.cond_expr.specs.declared.expr.ColRef.{ColRef}
use Rattle.cond_expr.specs.declared.expr.CmpOp.TheVariants.{Eq, Ne, Lt, Le, Gt, Ge}
use Rattle.cond_expr.specs.declared.expr.Column.{Column}
use Rattle.cond_expr.specs.Trees.{Tree, column, constant, length_of, joined, choose}
use Rattle.cond_expr.specs.Trees.{Test, never, always, compared, all_of, some_of, fails}
use Rattle.join_exec_spec.specs.Placing.{place, is_below}

-- the place of the column that an expression is; nothing else has one
abbrev pub column_place : List Column → Tree → Option ℕ
column_place columns (column w n) = place columns w n
column_place columns (constant v) = None
column_place columns (length_of t) = None
column_place columns (joined ts) = None
column_place columns (choose c a b) = None

-- those of the two columns that a condition compares by =
abbrev pub equal_places : List Column → Test → Option (ℕ × ℕ)
equal_places columns never = None
equal_places columns always = None
equal_places columns (compared Eq a b) = option_zip (column_place columns a)
    (column_place columns b)
equal_places columns (compared Ne a b) = None
equal_places columns (compared Lt a b) = None
equal_places columns (compared Le a b) = None
equal_places columns (compared Gt a b) = None
equal_places columns (compared Ge a b) = None
equal_places columns (all_of cs) = None
equal_places columns (some_of cs) = None
equal_places columns (fails c) = None

-- the first place in a choice of so many values, and the second in the row of so many after it,
-- where the two are there
abbrev pub choice_and_row : ℕ → ℕ → ℕ → ℕ → Option (ℕ × ℕ)
choice_and_row taken width a b = cond (nat_lt a taken && (nat_le taken b
    && nat_lt (b - taken) width)) (Some (a, b - taken)) None

-- the places of an equality, in either order, that are one in a choice and one in a row after it
abbrev pub key_places : List Column → Test → ℕ → ℕ → Option (ℕ × ℕ)
key_places columns c taken width = option_and_then
    (λ (p : ℕ × ℕ). option_or (choice_and_row taken width p.0 p.1)
    (choice_and_row taken width p.1 p.0)) (equal_places columns c)

-- of each condition that is such an equality the place in the choice, and that in the row after it
abbrev pub own_keys : List Column → List Test → ℕ → ℕ → List ℕ
own_keys columns cs taken width = flat_map (λ (c : Test). option_to_list
    (option_map (λ (p : ℕ × ℕ). p.0) (key_places columns c taken width))) cs

abbrev pub other_keys : List Column → List Test → ℕ → ℕ → List ℕ
other_keys columns cs taken width = flat_map (λ (c : Test). option_to_list
    (option_map (λ (p : ℕ × ℕ). p.1) (key_places columns c taken width))) cs

-- none of the references stands among the first so many values
abbrev pub none_below : List Column → ℕ → List ColRef → Bool
none_below columns n [] = true
none_below columns n (r ∷ rs) = not (is_below n (place columns r.whose r.name))
    && none_below columns n rs
