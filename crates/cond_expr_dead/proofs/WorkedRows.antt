-- Worked rows: conditions over an INT column a and a TEXT column b of atom 0, dead or alive.
use Rattle.std.specs.Prelude.{◌≡◌, ℕ, ◌^◌, ◌-◌, List, [], ◌∷◌, Bool, false, pos, refl}
use Rattle.std.specs.List.{list_any}
use Rattle.prima_base.specs.declared.value.Value.TheVariants.{Int, Text}
use Rattle.prima_base.specs.declared.value.ColType.TheVariants.{Int as INT, Text as TEXT}
use Rattle.cond_expr.specs.declared.expr.Whose.TheVariants.{Atom}
use Rattle.cond_expr.specs.declared.expr.CmpOp.TheVariants.{Eq, Ne, Lt, Gt, Ge}
use Rattle.cond_expr.specs.Trees.{Tree, column, constant, length_of, Test, never, compared, all_of}
use Rattle.cond_expr.specs.Trees.{some_of, fails}
use Rattle.cond_expr.specs.Seen.{tests_of}
use Rattle.cond_expr.specs.Kinds.{Kinds, kinds_of}
use Rattle.cond_expr.specs.Parts.{parts, IsDead}
use Rattle.cond_expr_dead.specs.Tried.{kills}
use Rattle.cond_expr_dead.proofs.DeadLaws.{killed_is_dead}

abbrev a : Tree
a = column (Atom 0) (97 ∷ [])

abbrev b : Tree
b = column (Atom 0) (98 ∷ [])

abbrev of : Kinds
of = kinds_of (record { atom = 0; name = 97 ∷ []; kind = INT }
    ∷ record { atom = 0; name = 98 ∷ []; kind = TEXT } ∷ [])

abbrev number : ℕ → Tree
number n = constant (Int (pos n))

abbrev text : List ℕ → Tree
text t = constant (Text t)

abbrev both : Test → Test → Test
both c d = all_of (tests_of (c ∷ d ∷ []))

abbrev dies : Test → Bool
dies c = list_any (kills (parts c)) (parts c)

-- a > 5 AND a < 6
abbrev between_numbers : Test
between_numbers = both (compared Gt a (number 5)) (compared Lt a (number 6))

between_numbers_dead : IsDead of between_numbers
between_numbers_dead = killed_is_dead of between_numbers refl refl

-- a >= 5 AND a < 6
a_number_left : dies (both (compared Ge a (number 5)) (compared Lt a (number 6))) ≡ false
a_number_left = refl

-- a >= 5 AND (a < 6 AND a <> 5)
abbrev excluded : Test
excluded = both (compared Ge a (number 5)) (both (compared Lt a (number 6))
    (compared Ne a (number 5)))

excluded_dead : IsDead of excluded
excluded_dead = killed_is_dead of excluded refl refl

-- (a > 5 AND a < 6) OR FALSE, and NOT a = a
under_or : dies (some_of (tests_of (between_numbers ∷ never ∷ []))) ≡ false
under_or = refl

under_not : dies (fails between_numbers) ≡ false
under_not = refl

-- b < ''
no_text_before : IsDead of (compared Lt b (text []))
no_text_before = killed_is_dead of (compared Lt b (text [])) refl refl

-- 'a' < b AND b < 'a ', the constant on the left
abbrev between_texts : Test
between_texts = both (compared Lt (text (97 ∷ [])) b) (compared Lt b (text (97 ∷ 32 ∷ [])))

between_texts_dead : IsDead of between_texts
between_texts_dead = killed_is_dead of between_texts refl refl

-- b > 'a' AND b < 'a!'
a_text_left : dies (both (compared Gt b (text (97 ∷ []))) (compared Lt b (text (97 ∷ 33 ∷ []))))
    ≡ false
a_text_left = refl

-- a > 2^63 - 1
no_number_after : IsDead of (compared Gt a (number (2 ^ 63 - 1)))
no_number_after = killed_is_dead of (compared Gt a (number (2 ^ 63 - 1))) refl refl

-- LENGTH(b) < 0, and a < a: no column with a constant
of_no_column : dies (both (compared Lt (length_of b) (number 0)) (compared Lt a a)) ≡ false
of_no_column = refl

-- 1 = 2
two_constants : dies (compared Eq (number 1) (number 2)) ≡ false
two_constants = refl

-- a = 1 AND FALSE
abbrev with_false : Test
with_false = both (compared Eq a (number 1)) never

with_false_dead : IsDead of with_false
with_false_dead = killed_is_dead of with_false refl refl
