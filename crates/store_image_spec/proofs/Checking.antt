-- What the tests of periods and stamps say.
use Rattle.std.proofs.Common.{◌≡◌, ℕ, ◌≤◌, ◌<◌, ◌==◌, eqb-true, Bool, true, false, refl, sym, ap}
use Rattle.std.proofs.Common.{◌∙◌, arith, inl, inr}
use Rattle.std.specs.Prelude.{Option, Some, None, ◌&&◌, ◌||◌, ◌⊎◌, nat_lt}
use Rattle.std.proofs.lemmas.Bool.{ltb-true, leb-true, lt-ltb, le-leb}
use Rattle.relations_spec.specs.Spans.{Span, forever}
use Rattle.history_store_spec.specs.Store.{IsPeriod}
use Rattle.smo_ops_spec.specs.ValidPast.{last_or_nought}
use Rattle.command_codec_spec.proofs.Correctness.{true_false}
use Rattle.command_codec_spec.proofs.Numbers.{both_true, of_both}
use Rattle.store_image_spec.specs.Images.{IsUpTo, EndsUpTo}
use Rattle.store_image_spec.specs.ItemChecks.{is_stamp, is_end, is_period}

pub number_itself : (n : ℕ) → (n == n) ≡ true
number_itself n = grind arith

pub either : (a b : Bool) → (a || b) ≡ true → (a ≡ true) ⊎ (b ≡ true)
either true b e = inl refl
either false b e = inr e

pub first_true : (a b : Bool) → a ≡ true → (a || b) ≡ true
first_true true b e = refl
first_true false b e = true_false (sym e)

pub second_true : (a b : Bool) → b ≡ true → (a || b) ≡ true
second_true true b e = refl
second_true false b e = e

pub stamp_is : (last : Option ℕ) (m : ℕ) → is_stamp last m ≡ true → (k : ℕ) × (last ≡ Some k)
    × (m ≤ k)
stamp_is None m e = true_false (sym e)
stamp_is (Some k) m e = (k, refl, leb-true m k e)

pub is_stamp_so : (last : Option ℕ) (m k : ℕ) → last ≡ Some k → m ≤ k → is_stamp last m ≡ true
is_stamp_so last m k e h = ap (λ o. is_stamp o m) e ∙ le-leb m k h

pub stamp_within : (last : Option ℕ) (m : ℕ) → is_stamp last m ≡ true → m ≤ last_or_nought last
stamp_within None m e = true_false (sym e)
stamp_within (Some k) m e = leb-true m k e

stamp_up_to : (last : Option ℕ) (m : ℕ) → is_stamp last m ≡ true → IsUpTo last m
stamp_up_to last m e = inr (stamp_is last m e)

end_up_to : (last : Option ℕ) (m : ℕ) → is_end last m ≡ true → IsUpTo last m
end_up_to last m e = step (either (m == forever) (is_stamp last m) e)
  where
    step : ((m == forever) ≡ true) ⊎ (is_stamp last m ≡ true) → IsUpTo last m
    step (inl q) = inl (eqb-true m forever q)
    step (inr q) = stamp_up_to last m q

pub period_lasts : (last : Option ℕ) (p : Span) → is_period last p ≡ true → p.start < p.end
period_lasts last p e = ltb-true p.start p.end
    (of_both (nat_lt p.start p.end) (is_stamp last p.start && is_end last p.end) e).0

pub period_up_to : (last : Option ℕ) (p : Span) → is_period last p ≡ true → EndsUpTo last p
period_up_to last p e =
    let a = of_both (nat_lt p.start p.end) (is_stamp last p.start && is_end last p.end) e in
    let b = of_both (is_stamp last p.start) (is_end last p.end) a.1 in
    (stamp_up_to last p.start b.0, end_up_to last p.end b.1)

pub is_period_so : (last : Option ℕ) (p : Span) → IsPeriod p → EndsUpTo last p
    → is_period last p ≡ true
is_period_so last p h u =
    both_true (nat_lt p.start p.end) (is_stamp last p.start && is_end last p.end)
    (lt-ltb p.start p.end h.0)
    (both_true (is_stamp last p.start) (is_end last p.end) (starts u.0) (ends u.1))
  where
    starts : IsUpTo last p.start → is_stamp last p.start ≡ true
    starts (inl e) = absurd (let a = h.0 in let b = h.1 in omega (arith, a, b, e))
    starts (inr k) = is_stamp_so last p.start k.0 k.1 k.2

    ends : IsUpTo last p.end → is_end last p.end ≡ true
    ends (inl e) = first_true (p.end == forever) (is_stamp last p.end)
        (ap (λ n. n == forever) e ∙ number_itself forever)
    ends (inr k) = second_true (p.end == forever) (is_stamp last p.end)
        (is_stamp_so last p.end k.0 k.1 k.2)
