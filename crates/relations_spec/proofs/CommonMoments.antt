-- The common moments of two periods.
use Rattle.std.specs.Prelude.{◌≡◌, ◌&&◌, ℕ, ◌<◌, Bool, true, false, Some, None, IfSome, nat_lt, min}
use Rattle.std.specs.Prelude.{max, cond}
use Rattle.std.proofs.Common.{refl, arith}
use Rattle.std.proofs.lemmas.Bool.Decides.{nat_tests}
use Rattle.relations_spec.specs.Spans.{Span, span, covers, common}

covers_common : (p q : Span) (m : ℕ) → covers (span (max p.start q.start) (min p.end q.end)) m
    ≡ (covers p m && covers q m)
covers_common p q m = grind (arith, nat_tests)

pub in_common : (p q : Span) (m : ℕ) → IfSome (common p q)
    (λ r. covers r m ≡ (covers p m && covers q m))
in_common p q m = elim (nat_lt (max p.start q.start) (min p.end q.end)) as (λ b.
    IfSome (cond b (Some (span (max p.start q.start) (min p.end q.end))) None)
    (λ r. covers r m ≡ (covers p m && covers q m))) [
      | true ↦ covers_common p q m
      | false ↦ tt
    ]

lasts : (p q : Span) (b : Bool) → nat_lt (max p.start q.start) (min p.end q.end) ≡ b
    → IfSome (cond b (Some (span (max p.start q.start) (min p.end q.end))) None)
    (λ r. r.start < r.end)
lasts p q true e = grind (arith, nat_tests)
lasts p q false e = tt

pub common_lasts : (p q : Span) → IfSome (common p q) (λ r. r.start < r.end)
common_lasts p q = lasts p q (nat_lt (max p.start q.start) (min p.end q.end)) refl

none_below : (p q : Span) (m : ℕ) → nat_lt (max p.start q.start) (min p.end q.end) ≡ false
    → (covers p m && covers q m) ≡ false
none_below p q m e = grind (arith, nat_tests)

pub none_in_common : (p q : Span) → common p q ≡ None → (m : ℕ) → (covers p m && covers q m) ≡ false
none_in_common p q e m = step (nat_lt (max p.start q.start) (min p.end q.end)) refl e
  where
    step : (b : Bool) → nat_lt (max p.start q.start) (min p.end q.end) ≡ b
        → cond b (Some (span (max p.start q.start) (min p.end q.end))) None ≡ None
        → (covers p m && covers q m) ≡ false
    step true h k = absurd (cc)
    step false h k = none_below p q m h
