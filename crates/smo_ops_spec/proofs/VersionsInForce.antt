-- The moments at which a version is in force are those from its stamp up to that of the next.
use Rattle.std.proofs.Common.{◌≡◌, ◌≤◌, ◌<◌, ℕ, zero, suc, Bool, true, false, cond, List, [], ◌∷◌}
use Rattle.std.proofs.Common.{length, refl, sym, ap, subst, ◌∙◌, arith}
use Rattle.std.specs.Prelude.{nat_le, Option, Some, slice_get}
use Rattle.relations_spec.specs.Spans.{forever}
use Rattle.schema_catalog.specs.Tables.{Tables}
use Rattle.smo_ops_types.specs.Commands.{PlainVersion}
use Rattle.smo_ops_spec.specs.Past.{begun_at}
use Rattle.smo_ops_spec.specs.InForce.{stamp_of, begins_at}
use Rattle.smo_ops_spec.specs.ValidPast.{AreVersions}
use Rattle.smo_ops_spec.proofs.PastLaws.{not_at, at_least}

-- before the first of them none has begun
none_begun : (last : Option ℕ) (before : Tables) (v : PlainVersion) (versions : List PlainVersion)
    (m : ℕ) → AreVersions last before (v ∷ versions) → m < v.stamp
    → length (begun_at m (v ∷ versions)) ≡ 0
none_begun last before v [] m are l = ap (λ b. length (cond b (v ∷ []) [])) (not_at m v.stamp l)
none_begun last before v (w ∷ versions) m are l =
    let later = are.1.0.later in
    ap (λ b. length (cond b (v ∷ begun_at m (w ∷ versions)) (begun_at m (w ∷ versions))))
    (not_at m v.stamp l)
    ∙ none_begun (Some v.stamp) v.tables w versions m are.1 (omega arith)

-- each of them begins later than the last one before them
begins_later : (low : ℕ) (before : Tables) (versions : List PlainVersion) (k : ℕ)
    → AreVersions (Some low) before versions → k < length versions
    → low < stamp_of (slice_get versions k)
begins_later low before [] k are l = absurd (omega (arith, l))
begins_later low before (v ∷ versions) zero are l = are.0.later
begins_later low before (v ∷ versions) (suc k) are l =
    let first = are.0.later in
    let more = begins_later v.stamp v.tables versions k are.1 (omega (arith, l)) in
    omega arith

one_begun : (v : PlainVersion) (versions : List PlainVersion) (m n : ℕ) → v.stamp ≤ m
    → length (begun_at m versions) ≡ n → length (begun_at m (v ∷ versions)) ≡ suc n
one_begun v versions m n l e = ap (λ b. length
    (cond b (v ∷ begun_at m versions) (begun_at m versions))) (at_least v.stamp m l) ∙ ap suc e

pub in_force_at : (last : Option ℕ) (before : Tables) (versions : List PlainVersion) (k m : ℕ)
    → AreVersions last before versions → k ≤ length versions
    → begins_at versions k ≤ m → m < begins_at versions (suc k) → length (begun_at m versions) ≡ k
in_force_at last before [] zero m are l b e = refl
in_force_at last before [] (suc k) m are l b e = absurd (omega (arith, l))
in_force_at last before (v ∷ versions) zero m are l b e = none_begun last before v versions m are e
in_force_at last before (v ∷ versions) (suc zero) m are l b e =
    one_begun v versions m 0 b (in_force_at (Some v.stamp) v.tables versions zero m are.1
    (omega arith) (omega arith) e)
in_force_at last before (v ∷ versions) (suc (suc k)) m are l b e =
    let later = begins_later v.stamp v.tables versions k are.1 (omega (arith, l)) in
    one_begun v versions m (suc k) (omega (arith, later, b))
    (in_force_at (Some v.stamp) v.tables versions (suc k) m are.1 (omega (arith, l)) b e)

-- the one that is in force has begun, and the next has not
abbrev pub IsNow : List PlainVersion → ℕ → ℕ → Type 0
IsNow versions m k = (begins_at versions k ≤ m) × (m < begins_at versions (suc k))

has_begun : (v : PlainVersion) (versions : List PlainVersion) (m n : ℕ) → v.stamp ≤ m
    → IsNow versions m n → IsNow (v ∷ versions) m (suc n)
has_begun v versions m zero l h = (l, h.1)
has_begun v versions m (suc n) l h = (h.0, h.1)

pub is_now : (last : Option ℕ) (before : Tables) (versions : List PlainVersion) (m : ℕ)
    → AreVersions last before versions → m < forever
    → IsNow versions m (length (begun_at m versions))
is_now last before [] m are l = (omega arith, l)
is_now last before (v ∷ versions) m are l = step (is_now (Some v.stamp) v.tables versions m are.1 l)
    (nat_le v.stamp m) refl
  where
    step : IsNow versions m (length (begun_at m versions)) → (b : Bool) → nat_le v.stamp m ≡ b
        → IsNow (v ∷ versions) m (length (begun_at m (v ∷ versions)))
    step rest true e =
        let low : v.stamp ≤ m = grind (arith, e) in
        subst (IsNow (v ∷ versions) m) (sym (one_begun v versions m (length (begun_at m versions))
        low refl))
        (has_begun v versions m (length (begun_at m versions)) low rest)
    step rest false e =
        let high : m < v.stamp = grind (arith, e) in
        subst (IsNow (v ∷ versions) m) (sym (none_begun last before v versions m are high))
        (omega arith, high)
