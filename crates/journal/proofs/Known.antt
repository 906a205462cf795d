-- What is so of the content of a disk, where it tells it.
use Rattle.std.proofs.Common.{◌≡◌, ℕ, List, sym, subst}
use Rattle.std.specs.Prelude.{Option, Some, None}
use Rattle.disk_model.specs.Meaning.{IfKnown}

pub still : (P : List ℕ → Type 0) (old new : Option (List ℕ)) → new ≡ old → IfKnown old P
    → IfKnown new P
still P old new same = subst (λ o. IfKnown o P) (sym same)

pub known_one : (P Q : List ℕ → Type 0) → ((file : List ℕ) → P file → Q file)
    → (o : Option (List ℕ)) → IfKnown o P → IfKnown o Q
known_one P Q step None p = tt
known_one P Q step (Some file) p = step file p

pub known_two : (P Q R : List ℕ → Type 0) → ((file : List ℕ) → P file → Q file → R file)
    → (o : Option (List ℕ)) → IfKnown o P → IfKnown o Q → IfKnown o R
known_two P Q R step None p q = tt
known_two P Q R step (Some file) p q = step file p q

pub known_three : (P Q R S : List ℕ → Type 0)
    → ((file : List ℕ) → P file → Q file → R file → S file)
    → (o : Option (List ℕ)) → IfKnown o P → IfKnown o Q → IfKnown o R → IfKnown o S
known_three P Q R S step None p q r = tt
known_three P Q R S step (Some file) p q r = step file p q r
