-- Tests that are all met.
use Rattle.std.proofs.Common.{◌≡◌, List, [], ◌∷◌, refl, ◌∙◌}
use Rattle.std.specs.Prelude.{Option, None, ⊤}
use Rattle.prima_base.specs.declared.refusal.OpRefusal.{OpRefusal}
use Rattle.smo_ops_spec.specs.First.{first_refusal}
use Rattle.smo_ops_spec.proofs.Firsts.{none_of_first, first_later}

-- all of these are met
abbrev pub AllMet : List (Option OpRefusal) → Type 0
AllMet [] = ⊤
AllMet (p ∷ ps) = (p ≡ None) × AllMet ps

pub all_met : (ps : List (Option OpRefusal)) → AllMet ps → first_refusal ps ≡ None
all_met [] h = refl
all_met (p ∷ ps) h = first_later p ps h.0 ∙ all_met ps h.1

-- where none is refused, each is met
pub each_met : (ps : List (Option OpRefusal)) → first_refusal ps ≡ None → AllMet ps
each_met [] e = tt
each_met (p ∷ ps) e = (let h = none_of_first p ps e in (h.0, each_met ps h.1))
