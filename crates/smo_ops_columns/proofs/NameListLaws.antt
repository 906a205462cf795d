-- Lists of names, step by step: names that stood before.
use Rattle.std.proofs.Common.{◌≡◌, ◌<◌, ◌+◌, ℕ, Bool, true, false, List, [], ◌∷◌, ◌++◌, length}
use Rattle.std.proofs.Common.{take, drop, get_or, refl, sym, ap, ◌∙◌}
use Rattle.std.specs.Prelude.{◌||◌, cond, if◌then◌else◌, Some}
use Rattle.std.proofs.lemmas.List.{take_more}
use Rattle.smo_ops_spec.specs.OneRow.{same}
use Rattle.smo_ops_spec.specs.Preconditions.{among, again_after}
use Rattle.smo_ops_spec.proofs.Firsts.{drop_at}
use Rattle.smo_ops_spec.proofs.NameLaws.{same_turned}
use Rattle.smo_ops_spec.proofs.FewNames.{one_later}

module _ (names : List (List ℕ)) (i : ℕ) (n : List ℕ) (below : i < length names)
    (is : n ≡ get_or names i n) where
  one_more : take (i + 1) names ≡ take i names ++ n ∷ []
  one_more = take_more names i n below ∙ ap (λ (m : List ℕ). take i names ++ m ∷ []) (sym is)

  here : again_after (take i names) (drop i names)
      ≡ (if among n (take i names) then Some n
      else again_after (take (i + 1) names) (drop (i + 1) names))
  here = ap (again_after (take i names)) (drop_at names i n below is)
      ∙ ap (λ before. if among n (take i names) then Some n
      else again_after before (drop (i + 1) names)) (sym one_more)

  pub name_not_again : among n (take i names) ≡ false
      → again_after (take i names) (drop i names)
      ≡ again_after (take (i + 1) names) (drop (i + 1) names)
  name_not_again e = here ∙ ap (λ b. if b then Some n
      else again_after (take (i + 1) names) (drop (i + 1) names)) e

  pub name_now_seen : (name : List ℕ) (old new : Bool) → old ≡ among name (take i names)
      → new ≡ cond (same n name) true old → new ≡ among name (take (i + 1) names)
  name_now_seen name old new e f =
      f ∙ ap (λ b. cond (same n name) true b) e
      ∙ step (same n name) (same name n) (among name (take i names)) (same_turned n name)
      ∙ sym (ap (among name) one_more ∙ one_later name n (take i names))
    where
      step : (p q b : Bool) → p ≡ q → cond p true b ≡ (b || q)
      step true true true e = refl
      step true true false e = refl
      step false false true e = refl
      step false false false e = refl
      step true false b e = absurd (cc)
      step false true b e = absurd (cc)
