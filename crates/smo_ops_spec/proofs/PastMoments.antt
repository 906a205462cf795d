-- The versions of a past with one command more, and their moments.
use Rattle.std.proofs.Common.{◌≡◌, ◌≤◌, ◌<◌, ◌+◌, ℕ, suc, zero, Bool, true, false, cond, List, []}
use Rattle.std.proofs.Common.{◌∷◌, ◌++◌, length, refl, ap, ◌∙◌, arith, inl, inr}
use Rattle.std.specs.Prelude.{nat_le, nat_lt, Option, Some, None, ◌⊎◌}
use Rattle.prima_base.specs.declared.refusal.Refusal.TheVariants.{StampNotLater}
use Rattle.schema_catalog.specs.Tables.{Tables}
use Rattle.smo_ops_spec.specs.Accepts.{stamp_fault}
use Rattle.smo_ops_types.specs.Commands.{PlainVersion}
use Rattle.smo_ops_spec.specs.ValidPast.{AllInForce, IsLater}
use Rattle.smo_ops_spec.specs.Past.{begun_at, tables_from, newest_from}
use Rattle.smo_ops_spec.proofs.Firsts.{met}
use Rattle.smo_ops_spec.proofs.PastLaws.{not_at, at_least}

-- a later version has not begun
pub not_begun : (m : ℕ) (versions : List PlainVersion) (v : PlainVersion) → m < v.stamp
    → begun_at m (versions ++ v ∷ []) ≡ begun_at m versions
not_begun m [] v l = ap (λ b. cond b (v ∷ []) []) (not_at m v.stamp l)
not_begun m (w ∷ versions) v l = ap (λ rest. cond (nat_le w.stamp m) (w ∷ rest) rest)
    (not_begun m versions v l)

pub all_begun : (m n : ℕ) (versions : List PlainVersion) → AllInForce m versions → m ≤ n
    → begun_at n versions ≡ versions
all_begun m n [] h l = refl
all_begun m n (v ∷ versions) h l =
    let low = h.0 in
    ap (λ b. cond b (v ∷ begun_at n versions) (begun_at n versions))
    (at_least v.stamp n (omega arith)) ∙ ap (λ vs. v ∷ vs) (all_begun m n versions h.1 l)

pub few_begun : (m : ℕ) (versions : List PlainVersion)
    → length (begun_at m versions) ≤ length versions
few_begun m [] = omega arith
few_begun m (v ∷ versions) = step (few_begun m versions) (nat_le v.stamp m)
  where
    step : length (begun_at m versions) ≤ length versions → (b : Bool)
        → length (cond b (v ∷ begun_at m versions) (begun_at m versions)) ≤ suc (length versions)
    step more true = omega (arith, more)
    step more false = omega (arith, more)

-- with one more, all have begun from its stamp on
pub all_with_one : (m n : ℕ) (versions : List PlainVersion) (v : PlainVersion)
    → AllInForce m versions → m ≤ n → v.stamp ≤ n
    → length (begun_at n (versions ++ v ∷ [])) ≡ length versions + 1
all_with_one m n [] v h l k = ap (λ b. length (cond b (v ∷ []) [])) (at_least v.stamp n k)
all_with_one m n (w ∷ versions) v h l k =
    let low = h.0 in
    let more = all_with_one m n versions v h.1 l k in
    ap (λ b. length (cond b (w ∷ begun_at n (versions ++ v ∷ []))
    (begun_at n (versions ++ v ∷ [])))) (at_least w.stamp n (omega arith))
    ∙ (omega (arith, more))

-- the tables of a version stay
pub tables_still : (before : Tables) (versions : List PlainVersion) (v : PlainVersion) (k : ℕ)
    → k ≤ length versions → tables_from before (versions ++ v ∷ []) k
    ≡ tables_from before versions k
tables_still before [] v zero l = refl
tables_still before [] v (suc k) l = absurd (omega (arith, l))
tables_still before (w ∷ versions) v zero l = refl
tables_still before (w ∷ versions) v (suc k) l =
    tables_still w.tables versions v k (omega (arith, l))

pub tables_added : (before : Tables) (versions : List PlainVersion) (v : PlainVersion)
    → tables_from before (versions ++ v ∷ []) (suc (length versions)) ≡ v.tables
tables_added before [] v = refl
tables_added before (w ∷ versions) v = tables_added w.tables versions v

pub newest_tables_from : (before : Tables) (versions : List PlainVersion)
    → tables_from before versions (length versions) ≡ newest_from before versions
newest_tables_from before [] = refl
newest_tables_from before (v ∷ versions) = newest_tables_from v.tables versions

-- stamps
pub is_later : (last : Option ℕ) (stamp : ℕ) → stamp_fault last stamp ≡ None → IsLater last stamp
is_later None stamp e = tt
is_later (Some last) stamp e = (let h = met (nat_lt last stamp) (StampNotLater stamp last) e in
    grind (arith, h))

pub still_later : (last : Option ℕ) (m n : ℕ) → IsLater last m → m ≤ n → IsLater last n
still_later None m n h l = tt
still_later (Some last) m n h l = omega (arith, h, l)

-- one moment is before the other or not
pub before_or_not : (m n : ℕ) → (m < n) ⊎ (n ≤ m)
before_or_not m n = step (nat_lt m n) refl
  where
    step : (b : Bool) → nat_lt m n ≡ b → (m < n) ⊎ (n ≤ m)
    step true e = inl (grind (arith, e))
    step false e = inr (grind (arith, e))
