-- Valid values are computed from valid values and valid constants.
use Rattle.std.specs.Prelude.{◌≡◌, ◌≤◌, ℕ, List, Bool, true, false, None, length, take, pos}
use Rattle.std.specs.Prelude.{if◌then◌else◌}
use Rattle.std.proofs.Common.{refl, arith}
use Rattle.std.proofs.lemmas.Int.{ints}
use Rattle.prima_base.specs.Bytes.{first_control, is_control}
use Rattle.prima_base.specs.Order.{bytes_of}
use Rattle.prima_base.specs.Columns.{IsValid}
use Rattle.prima_base.specs.declared.value.Value.{Value}
use Rattle.prima_base.specs.declared.value.Value.TheVariants.{Int, Text}
use Rattle.cond_expr.specs.declared.expr.Whose.{Whose}
use Rattle.cond_expr.specs.Trees.{Tree, column, constant, length_of, joined, choose, Trees}
use Rattle.cond_expr.specs.Trees.{no_trees, a_tree}
use Rattle.cond_expr.specs.Values.{Cells, value, texts, truth}
use Rattle.cond_expr.specs.Constants.{HasValid, HaveValid}
use Rattle.cond_expr.proofs.TextLaws.{none_in_both, none_in_prefix, none_in_value, prefix_is_short}

pub small_number : (n : ℕ) → n ≤ 4096 → IsValid (Int (pos n))
small_number n l = (omega (arith, ints), omega (arith, ints))

short_bytes : (v : Value) → IsValid v → length (bytes_of v) ≤ 4096
short_bytes (Int n) l = omega arith
short_bytes (Text t) l = l.0

module _ (at : Cells) (valid : (w : Whose) (n : List ℕ) → IsValid (at w n)) where
  mutual
    pub value_valid : (t : Tree) → HasValid t → IsValid (value at t)
    value_valid (column w n) h = valid w n
    value_valid (constant v) h = h
    value_valid (length_of t) h = small_number (length (bytes_of (value at t)))
        (short_bytes (value at t) (value_valid t h))
    value_valid (joined ts) h = (
      prefix_is_short 4096 (texts at ts),
      none_in_prefix is_control 0 4096 (texts at ts) (texts_valid ts h),
    )
    value_valid (choose c a b) h = either (truth at c) (value_valid a h.0) (value_valid b h.1)
      where
        either : (p : Bool) → IsValid (value at a) → IsValid (value at b)
            → IsValid (if p then value at a else value at b)
        either true x y = x
        either false x y = y

    pub texts_valid : (ts : Trees) → HaveValid ts → first_control (texts at ts) ≡ None
    texts_valid no_trees h = refl
    texts_valid (a_tree t ts) h = none_in_both is_control 0 0 0 (bytes_of (value at t))
        (texts at ts) (none_in_value (value at t) (value_valid t h.0)) (texts_valid ts h.1)
