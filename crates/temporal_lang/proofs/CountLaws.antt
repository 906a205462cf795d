-- A count at most its limit, and one above it.
use Rattle.std.specs.Prelude.{◌≡◌, ℕ, ◌<◌, ◌≤◌, Bool, true, false, nat_le, Some, None}
use Rattle.std.proofs.Common.{refl, arith}
use Rattle.prima_base.specs.declared.refusal.What.{What}
use Rattle.smo_ops_spec.specs.First.{unless}
use Rattle.smo_ops_spec.specs.Counts.{at_most}

pub above_limit : (what : What) (limit n : ℕ) → limit < n
    → at_most what limit n ≡ Some (what, limit)
above_limit what limit n l = step (nat_le n limit) refl
  where
    step : (b : Bool) → nat_le n limit ≡ b → unless {R = What × ℕ} b (what, limit)
        ≡ Some (what, limit)
    step true e = absurd (grind (arith, e, l))
    step false e = refl

pub within_limit : (what : What) (limit n : ℕ) → n ≤ limit → at_most what limit n ≡ None
within_limit what limit n l = step (nat_le n limit) refl
  where
    step : (b : Bool) → nat_le n limit ≡ b → unless {R = What × ℕ} b (what, limit) ≡ None
    step true e = refl
    step false e = absurd (grind (arith, e, l))
