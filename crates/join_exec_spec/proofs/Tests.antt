-- Conditions over the values that are shown, and valid values.
use Rattle.std.proofs.Common.{◌≡◌, ◌<◌, ℕ, zero, suc, Bool, List, [], ◌∷◌, ◌++◌, map, length}
use Rattle.std.proofs.Common.{get_or, refl, sym, subst, inl, inr, arith}
use Rattle.std.specs.List.{filter}
use Rattle.relations_spec.specs.Timed.{Entry}
use Rattle.relations_spec.proofs.SetLaws.{from_filter}
use Rattle.prima_base.specs.declared.value.Value.{Value}
use Rattle.prima_base.specs.declared.value.Val.{Val}
use Rattle.prima_base.specs.declared.timed_row.TimedRow.{TimedRow}
use Rattle.prima_base.specs.Order.{shown}
use Rattle.prima_base.specs.Timed.{entry_of, entries_of}
use Rattle.cond_expr.specs.declared.expr.Column.{Column}
use Rattle.cond_expr.specs.Trees.{Test}
use Rattle.cond_expr.specs.Values.{truth}
use Rattle.cond_expr.specs.Rows.{flat, AreValid}
use Rattle.join_exec_spec.specs.Keeping.{meets, IsValidRow, AllValid}

-- values meet what the row that they show meets
pub met_is : (cs : List Column) (vs : List Val) (c : Test)
    → truth (flat cs vs) c ≡ meets cs c (map shown vs)
met_is cs vs c = refl

-- valid values
pub are_valid : (vs : List Val) → IsValidRow (map shown vs) → AreValid vs
are_valid [] h = tt
are_valid (v ∷ vs) h = (h.0, are_valid vs h.1)

pub both_valid : (a b : List Value) → IsValidRow a → IsValidRow b → IsValidRow (a ++ b)
both_valid [] b h k = k
both_valid (v ∷ a) b h k = (h.0, both_valid a b h.1 k)

pub valid_row : (rows : List TimedRow) (i : ℕ) (row : TimedRow) → AllValid (entries_of rows)
    → i < length rows → row ≡ get_or rows i row → IsValidRow (map shown row.values.items)
valid_row [] i row h l e = absurd (omega arith)
valid_row (r ∷ rows) zero row h l e = subst (λ (x : TimedRow).
    IsValidRow (map shown x.values.items)) (sym e) (h (entry_of r) (inl refl))
valid_row (r ∷ rows) (suc i) row h l e = valid_row rows i row (λ x k. h x (inr k)) (omega arith) e

pub some_valid : (p : Entry (List Value) → Bool) (es : List (Entry (List Value))) → AllValid es
    → AllValid (filter p es)
some_valid p es h = λ e k. h e (from_filter p e es k).0

pub valid_of_both : (vs : List Val) (a b : List Value) → map shown vs ≡ a ++ b → IsValidRow a
    → IsValidRow b → AreValid vs
valid_of_both vs a b e h k = are_valid vs (subst IsValidRow (sym e) (both_valid a b h k))
