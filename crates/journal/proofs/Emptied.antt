-- A file of at most nine bytes, with the empty journal written over it.
use Rattle.std.proofs.Common.{◌≡◌, ℕ, ◌≤◌, List, ◌++◌, length, ◌∙◌, ap, subst, arith}
use Rattle.std.specs.Prelude.{Option, Some, None}
use Rattle.std.proofs.lemmas.List.{drop_all}
use Rattle.disk_model.specs.Meaning.{IfKnown, BothKnown}
use Rattle.disk_model.specs.DeviceCalls.{with_bytes}
use Rattle.journal.specs.Records.{empty_journal}

abbrev Put : Option (List ℕ) → Option (List ℕ) → Type 0
Put = BothKnown (λ before after. after ≡ with_bytes before 0 empty_journal)

abbrev Is : Option (List ℕ) → Option (List ℕ) → Type 0
Is = BothKnown (λ before after. after ≡ empty_journal)

pub emptied : (old mid new : Option (List ℕ)) (len : ℕ) → len ≤ 9
    → IfKnown old (λ file. len ≡ length file) → mid ≡ old
    → BothKnown (λ before after. after ≡ with_bytes before 0 empty_journal) mid new
    → BothKnown (λ before after. after ≡ empty_journal) old new
emptied old mid new len short told same put = go old new told (subst (λ o. Put o new) same put)
  where
    go : (old new : Option (List ℕ)) → IfKnown old (λ file. len ≡ length file) → Put old new
        → Is old new
    go None None told put = tt
    go None (Some new) told put = absurd put
    go (Some old) None told put = absurd put
    go (Some old) (Some new) told put =
        put ∙ ap (λ (l : List ℕ). empty_journal ++ l) (drop_all 9 old (omega (arith, told, short)))
