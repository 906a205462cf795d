-- The next value: nothing of its type lies between a value and the next.
use Rattle.std.proofs.Common.{◌≡◌, ◌-◌, ◌^◌, true, false, refl, sym, ap, ◌∙◌, arith}
use Rattle.std.specs.Prelude.{ℤ, pos, neg_ℤ, ◌+ℤ◌, ◌<ℤ◌, ◌≤ℤ◌}
use Rattle.std.proofs.lemmas.Cmp.{int_ranked, by_ranked}
use Rattle.std.proofs.lemmas.Int.{ints}
use Rattle.std.specs.declared.cmp.Ordering.TheVariants.{Less}
use Rattle.std.specs.Ordering.{int_cmp, is_lt, is_gt}
use Rattle.prima_base.specs.declared.value.Value.{Value}
use Rattle.prima_base.specs.declared.value.Value.TheVariants.{Int, Text}
use Rattle.prima_base.specs.declared.value.ColType.{ColType}
use Rattle.prima_base.specs.declared.value.ColType.TheVariants.{Int as INT, Text as TEXT}
use Rattle.prima_base.specs.Columns.{IsValid}
use Rattle.prima_base.specs.Order.{value_cmp}
use Rattle.cond_expr.specs.Kinds.{value_kind}
use Rattle.cond_expr.specs.Parts.{IsOf}
use Rattle.cond_expr_dead.specs.Steps.{least, next, has_next}
use Rattle.cond_expr_dead.proofs.NextText.{after_above, after_least, after_text, nothing_first}

below : (a b : ℤ) → int_cmp a b ≡ Less → a <ℤ b
below a b h = by_ranked (a <ℤ b) (a ≡ b) (b <ℤ a) (int_cmp a b) (int_ranked a b (int_cmp a b) refl)
    (λ o l. l) (λ o e. absurd (cc)) (λ o g. absurd (cc))

is_below : (a b : ℤ) → is_lt (int_cmp a b) ≡ true → a <ℤ b
is_below a b h = by_ranked (a <ℤ b) (a ≡ b) (b <ℤ a) (int_cmp a b)
    (int_ranked a b (int_cmp a b) refl)
    (λ o l. l)
    (λ o e. absurd (let k : false ≡ true = sym (ap is_lt o) ∙ h in cc))
    (λ o g. absurd (let k : false ≡ true = sym (ap is_lt o) ∙ h in cc))

from_below : (a b : ℤ) → a <ℤ b → int_cmp a b ≡ Less
from_below a b l = by_ranked (a <ℤ b) (a ≡ b) (b <ℤ a) (int_cmp a b)
    (int_ranked a b (int_cmp a b) refl)
    (λ o k. o)
    (λ o e. absurd (omega (arith, ints, ap (λ (x : ℤ). x) e)))
    (λ o g. absurd (omega (arith, ints)))

from_up_to : (a b : ℤ) → a ≤ℤ b → is_gt (int_cmp a b) ≡ false
from_up_to a b l = by_ranked (a <ℤ b) (a ≡ b) (b <ℤ a) (int_cmp a b)
    (int_ranked a b (int_cmp a b) refl)
    (λ o k. ap is_gt o)
    (λ o e. ap is_gt o)
    (λ o g. absurd (omega (arith, ints)))

pub next_above : (v : Value) → has_next v ≡ true → value_cmp v (next v) ≡ Less
next_above (Int n) h = from_below n (n +ℤ pos 1) (omega (arith, ints))
next_above (Text t) h = after_above t h

pub next_least : (v w : Value) → value_kind v ≡ value_kind w → IsValid w → value_cmp v w ≡ Less
    → (has_next v ≡ true) × (is_gt (value_cmp (next v) w) ≡ false)
next_least (Int n) (Int m) k i h =
    let l = below n m h in (
      ap is_lt (from_below n (pos (2 ^ 63 - 1)) (omega (arith, ints, i.0, i.1))),
      from_up_to (n +ℤ pos 1) m (omega (arith, ints)),
    )
next_least (Int n) (Text d) k i h = absurd (cc)
next_least (Text t) (Int m) k i h = absurd (cc)
next_least (Text t) (Text d) k i h = after_least t d i h

pub next_of : (k : ColType) (v : Value) → IsOf k v → has_next v ≡ true → IsOf k (next v)
next_of k (Int n) i h = (
  i.0,
  let l = is_below n (pos (2 ^ 63 - 1)) h in
      (omega (arith, ints, i.1.0, i.1.1), omega (arith, ints, i.1.0, i.1.1)),
)
next_of k (Text t) i h = (i.0, after_text t i.1 h)

pub least_of : (k : ColType) → IsOf k (least k)
least_of INT = (refl, (omega (arith, ints), omega (arith, ints)))
least_of TEXT = (refl, (omega arith, refl))

pub least_below : (k : ColType) (v : Value) → IsOf k v → is_gt (value_cmp (least k) v) ≡ false
least_below INT (Int n) i = from_up_to (neg_ℤ (pos (2 ^ 63))) n i.1.0
least_below INT (Text t) i = absurd (let e = i.0 in cc)
least_below TEXT (Int n) i = absurd (let e = i.0 in cc)
least_below TEXT (Text t) i = nothing_first t
