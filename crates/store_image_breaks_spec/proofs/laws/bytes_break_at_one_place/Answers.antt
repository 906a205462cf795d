use Rattle.std.proofs.Common.{◌≡◌, ◌<◌, ◌^◌, ◌++◌, inl, inr, ℕ, List, [], ◌∷◌}
use Rattle.std.proofs.Common.{length, sym, ◌∙◌, arith}
use Rattle.store_image_breaks_spec.specs.Breaks.{BreaksAt, Breaks}
use Rattle.store_image_breaks_spec.proofs.TwiceStops.{twice_stops}
use Rattle.store_image_breaks_spec.proofs.laws.bytes_break_at_one_place.Goals as goal

-- behind beginnings of one length the same is left
same_rest : (a b x y : List ℕ) → a ++ x ≡ b ++ y → length a ≡ length b → x ≡ y
same_rest [] [] x y e n = e
same_rest [] (k ∷ b) x y e n = absurd (omega (arith, n))
same_rest (k ∷ a) [] x y e n = absurd (omega (arith, n))
same_rest (j ∷ a) (k ∷ b) x y e n =
    let rest : a ++ x ≡ b ++ y = cc in same_rest a b x y rest (omega (arith, n))

both_break : (bytes rest other : List ℕ) → BreaksAt bytes rest → BreaksAt bytes other
    → rest ≡ other
both_break bytes rest other one two =
    let a = one.none two.image two.draft two.before other two.some two.are in
    let b = two.none one.image one.draft one.before rest one.some one.are in
    same_rest one.before two.before rest other (sym one.are ∙ two.are) (omega (arith, a, b))

one_place : (bytes rest other : List ℕ) → length bytes < 2 ^ 64 → Breaks bytes rest
    → Breaks bytes other → rest ≡ other
one_place bytes rest other few (inl one) (inl two) = both_break bytes rest other one two
one_place bytes rest other few (inl one) (inr two) = absurd (one.apart other two)
one_place bytes rest other few (inr one) (inl two) = absurd (two.apart rest one)
one_place bytes rest other few (inr one) (inr two) =
    let e = sym (twice_stops bytes rest few one) ∙ twice_stops bytes other few two in cc

pub returns : goal.returns
returns c = λ bytes rest other few one two. one_place bytes rest other few one two
