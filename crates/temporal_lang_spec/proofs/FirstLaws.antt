-- What there is at the first moment at which there is something.
use Rattle.std.specs.Prelude.{◌≡◌, ℕ, zero, suc, ◌+◌, ◌-◌, ◌<◌, ◌≤◌, Option, Some, None}
use Rattle.std.proofs.Common.{refl, sym, ap, ◌∙◌, arith}
use Rattle.std.specs.Option.{option_or}
use Rattle.smo_ops_spec.specs.Past.{Past}
use Rattle.smo_ops_spec.specs.Losses.{Loss}
use Rattle.temporal_lang_types.specs.Queries.{PlainQuery, slice_of}
use Rattle.temporal_lang_spec.specs.Losing.{loss_then, first_from, first_loss_of}

module _ {X : Type 0} (at : ℕ → Option X) where
  later : (m n : ℕ) → at m ≡ None → first_from at m (suc n) ≡ first_from at (m + 1) n
  unfolding first_from
  later m n e = ap (λ o. option_or o (first_from at (m + 1) n)) e

  now : (m n : ℕ) (x : X) → at m ≡ Some x → first_from at m (suc n) ≡ Some x
  unfolding first_from
  now m n x e = ap (λ o. option_or o (first_from at (m + 1) n)) e

  nowhere : (m : ℕ) → first_from at m zero ≡ None
  unfolding first_from
  nowhere m = refl

  moved : (m j : ℕ) → m + suc j ≡ m + 1 + j
  moved m j = omega arith

  pub first_is : (m n i : ℕ) (x : X) → i < n → ((j : ℕ) → j < i → at (m + j) ≡ None)
      → at (m + i) ≡ Some x → first_from at m n ≡ Some x
  first_is m zero i x l none some = absurd (omega arith)
  first_is m (suc n) zero x l none some = now m n x (ap at (omega arith) ∙ some)
  first_is m (suc n) (suc i) x l none some =
      later m n (ap at (omega arith) ∙ none 0 (omega arith))
      ∙ first_is (m + 1) n i x (omega arith) (λ j k. ap at (sym (moved m j))
      ∙ none (suc j) (omega arith)) (ap at (sym (moved m i)) ∙ some)

  pub first_none : (m n : ℕ) → ((j : ℕ) → j < n → at (m + j) ≡ None) → first_from at m n ≡ None
  first_none m zero none = nowhere m
  first_none m (suc n) none =
      later m n (ap at (omega arith) ∙ none 0 (omega arith))
      ∙ first_none (m + 1) n (λ j k. ap at (sym (moved m j)) ∙ none (suc j) (omega arith))

-- ---- of a query whose references are to items

from_start : (a m : ℕ) → a ≤ m → a + (m - a) ≡ m
from_start a m l = omega arith

pub least_loss : (past : Past) (query : PlainQuery) (m : ℕ) (loss : Loss)
    → (slice_of query.when).start ≤ m → m < (slice_of query.when).end
    → ((n : ℕ) → (slice_of query.when).start ≤ n → n < m → loss_then past query n ≡ None)
    → loss_then past query m ≡ Some loss → first_loss_of past query ≡ Some loss
least_loss past query m loss a b none some =
    let from : ℕ = (slice_of query.when).start in
    let to : ℕ = (slice_of query.when).end in
    first_is (loss_then past query) from (to - from) (m - from) loss (omega (arith, a, b))
    (λ j l. none (from + j) (omega arith) (omega (arith, a, l)))
    (ap (loss_then past query) (from_start from m a) ∙ some)

pub no_loss : (past : Past) (query : PlainQuery)
    → ((n : ℕ) → (slice_of query.when).start ≤ n → n < (slice_of query.when).end
    → loss_then past query n ≡ None)
    → first_loss_of past query ≡ None
no_loss past query none =
    let from : ℕ = (slice_of query.when).start in
    let to : ℕ = (slice_of query.when).end in
    first_none (loss_then past query) from (to - from)
    (λ j l. none (from + j) (omega arith) (omega (arith, l)))
