-- Which version decides what is lost first: the least of those in force in the slice from which an
-- item is lost. The references of the query are to items.
use Rattle.std.proofs.Common.{◌≡◌, ◌+◌, ◌-◌, ◌<◌, ◌≤◌, ℕ, zero, suc, Bool, true, false, cond, List}
use Rattle.std.proofs.Common.{[], ◌∷◌, length, refl, sym, ap, ◌∙◌, inl, inr, arith}
use Rattle.std.specs.Prelude.{◌⊎◌, nat_le, Option, Some, None}
use Rattle.std.specs.Option.{option_or}
use Rattle.std.proofs.lemmas.Bool.Decides.{nat_tests}
use Rattle.relations_spec.proofs.ListingLaws.{at_or_above, at_or_below}
use Rattle.smo_ops_types.specs.Commands.{PlainVersion}
use Rattle.smo_ops_spec.specs.Losses.{Loss}
use Rattle.smo_ops_spec.specs.Past.{Past, begun_at, version_at}
use Rattle.smo_ops_spec.proofs.PastLaws.{at_least}
use Rattle.temporal_lang_types.specs.Queries.{PlainQuery, slice_of}
use Rattle.temporal_lang_spec.specs.Losing.{loss_from, loss_then, first_from, first_loss_of}
use Rattle.temporal_lang_spec.proofs.FirstLaws.{first_is, no_loss}
use Rattle.temporal_lang_spec.proofs.ItemsLost.{items_stay_lost, no_item_forward}
use Rattle.query_pieces_spec.specs.Piecewise.{IsAskedOf}

-- what is not lost from a version is lost from none before it
pub none_before : (versions : List PlainVersion) (v w : ℕ) (query : PlainQuery) → v ≤ w
    → loss_from versions w query ≡ None → loss_from versions v query ≡ None
none_before versions v w query l e = step (at_or_below v query.version)
  where
    step : (v < query.version) ⊎ (query.version ≤ v) → loss_from versions v query ≡ None
    step (inl k) = no_item_forward versions v query.version (omega (arith, k)) query.branches
    step (inr k) = items_stay_lost versions w v query.version k l query.branches e

-- ---- of several moments

module _ {X : Type 0} (at : ℕ → Option X) (m n : ℕ) (x : X) (i : ℕ) (within : i < n)
    (is : at (m + i) ≡ Some x) (each : (j : ℕ) → j < i → (at (m + j) ≡ None)
    ⊎ (at (m + j) ≡ Some x)) where
  from_there : (d k : ℕ) → k + d ≡ i → ((j : ℕ) → j < k → at (m + j) ≡ None)
      → first_from at m n ≡ Some x
  from_there zero k e none = first_is at m n i x within (λ j l. none j (omega (arith, l, e))) is
  from_there (suc d) k e none = step (λ here. from_there d (k + 1) (omega (arith, e)) (more here))
      (each k (omega (arith, e)))
    where
      more : at (m + k) ≡ None → (j : ℕ) → j < k + 1 → at (m + j) ≡ None
      more here j l = last (at_or_above j k (omega (arith, l)))
        where
          last : (j ≡ k) ⊎ (j < k) → at (m + j) ≡ None
          last (inl s) = ap (λ y. at (m + y)) s ∙ here
          last (inr s) = none j s

      step : (at (m + k) ≡ None → first_from at m n ≡ Some x) → (at (m + k) ≡ None)
          ⊎ (at (m + k) ≡ Some x) → first_from at m n ≡ Some x
      step on (inl here) = on here
      step on (inr here) = first_is at m n k x (omega (arith, e, within)) none here

  -- where there is nothing else before
  pub first_of_one : first_from at m n ≡ Some x
  first_of_one = from_there i 0 (omega arith) (λ j l. absurd (omega (arith, l)))

module _ {X : Type 0} (at : ℕ → Option X) where
  or_none : (a b : Option X) → option_or a b ≡ None → (a ≡ None) × (b ≡ None)
  or_none None b e = (refl, e)
  or_none (Some x) b e = absurd (cc)

  here_none : (m n : ℕ) → first_from at m (suc n) ≡ None → (at m ≡ None)
      × (first_from at (m + 1) n ≡ None)
  unfolding first_from
  here_none m n e = or_none (at m) (first_from at (m + 1) n) e

  moved : (m j : ℕ) → m + suc j ≡ m + 1 + j
  moved m j = omega arith

  -- where there is none at first there is none at all
  each_none : (m n j : ℕ) → j < n → first_from at m n ≡ None → at (m + j) ≡ None
  each_none m zero j l e = absurd (omega (arith, l))
  each_none m (suc n) zero l e = ap at (omega arith) ∙ (here_none m n e).0
  each_none m (suc n) (suc j) l e = ap at (moved m j)
      ∙ each_none (m + 1) n j (omega (arith, l)) (here_none m n e).1

-- later more versions have begun
begun_more : (m n : ℕ) (versions : List PlainVersion) → m ≤ n
    → length (begun_at m versions) ≤ length (begun_at n versions)
begun_more m n [] l = omega arith
begun_more m n (v ∷ versions) l = step (begun_more m n versions l) (nat_le v.stamp m) refl
    (nat_le v.stamp n) refl
  where
    step : length (begun_at m versions) ≤ length (begun_at n versions) → (b : Bool)
        → nat_le v.stamp m ≡ b → (c : Bool) → nat_le v.stamp n ≡ c
        → length (cond b (v ∷ begun_at m versions) (begun_at m versions)) ≤ length
        (cond c (v ∷ begun_at n versions) (begun_at n versions))
    step h true p true q = omega (arith, h)
    step h true p false q = absurd (let low : v.stamp ≤ m = grind (arith, nat_tests) in let e =
        at_least v.stamp n (omega (arith, low, l)) in cc)
    step h false p true q = omega (arith, h)
    step h false p false q = h

-- ---- of a query

from_start : (a m : ℕ) → a ≤ m → a + (m - a) ≡ m
from_start a m l = omega arith

module _ (past : Past) (query : PlainQuery) where
  abbrev start : ℕ
  start = (slice_of query.when).start

  abbrev end : ℕ
  end = (slice_of query.when).end

  pub none_lost : (w : ℕ) → ((m : ℕ) → IsAskedOf query m → version_at past m ≤ w)
      → loss_from past.versions w query ≡ None → first_loss_of past query ≡ None
  none_lost w below e = no_loss past query (λ m a b.
      none_before past.versions (version_at past m) w query (below m (record { from = a; to = b }))
      e)

  pub least_lost : (m : ℕ) (loss : Loss) → IsAskedOf query m
      → loss_from past.versions (version_at past m) query ≡ Some loss
      → ((n : ℕ) → IsAskedOf query n → version_at past n < version_at past m
      → loss_from past.versions (version_at past n) query ≡ None)
      → first_loss_of past query ≡ Some loss
  least_lost m loss asked some none =
      let a = asked.from in
      let b = asked.to in
      first_of_one (loss_then past query) start (end - start) loss (m - start) (omega (arith, a, b))
      (ap (loss_then past query) (from_start start m a) ∙ some) each
    where
      each : (j : ℕ) → j < m - start → (loss_then past query (start + j) ≡ None)
          ⊎ (loss_then past query (start + j) ≡ Some loss)
      each j l = step (at_or_above (version_at past (start + j)) (version_at past m)
          (begun_more (start + j) m past.versions (let a = asked.from in omega (arith, l, a))))
        where
          step : (version_at past (start + j) ≡ version_at past m)
              ⊎ (version_at past (start + j) < version_at past m)
              → (loss_then past query (start + j) ≡ None)
              ⊎ (loss_then past query (start + j) ≡ Some loss)
          step (inl s) = inr (ap (λ v. loss_from past.versions v query) s ∙ some)
          step (inr s) =
              inl (none (start + j) (let a = asked.from in let b = asked.to in
              record { from = omega arith; to = omega (arith, l, a, b) }) s)

  pub kept_at : first_loss_of past query ≡ None → (m : ℕ) → IsAskedOf query m
      → loss_from past.versions (version_at past m) query ≡ None
  kept_at e m asked =
      let a = asked.from in
      let b = asked.to in
      ap (loss_then past query) (sym (from_start start m a))
      ∙ each_none (loss_then past query) start (end - start) (m - start) (omega (arith, a, b)) e
