-- One change more of those whose constants are valid.
use Rattle.std.specs.Prelude.{◌≡◌, ◌<◌, ◌+◌, ℕ, List, ◌∷◌, length}
use Rattle.std.proofs.Common.{suc, drop, get_or, drop-cons, add-one, sym, ap, subst, ◌∙◌}
use Rattle.smo_ops_types.specs.declared.change.Change.{Change}
use Rattle.smo_ops_types.specs.Changes.{change_of, changes_of}
use Rattle.smo_ops_spec.specs.ValidValues.{ChangeHolds, ChangesHold}

pub change_more : (changes : List Change) (i : ℕ) (c : Change) → i < length changes
    → c ≡ get_or changes i c → ChangeHolds (change_of c)
    → ChangesHold (changes_of (drop (i + 1) changes))
    → ChangesHold (changes_of (drop i changes))
change_more changes i c l is h rest =
    let d : drop i changes ≡ c ∷ drop (i + 1) changes = drop-cons changes i c l
    ∙ ap (λ (x : Change). x ∷ drop (suc i) changes) (sym is)
    ∙ ap (λ (k : ℕ). c ∷ drop k changes) (sym (add-one i)) in
    subst (λ (cs : List Change). ChangesHold (changes_of cs)) (sym d) (h, rest)
