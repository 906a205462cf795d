-- Lists whose items are seen as they are.
use Rattle.std.proofs.Common.{◌≡◌, ℕ, List, [], ◌∷◌, Result, Ok, Err, map, refl, ap, ◌∙◌}
use Rattle.command_codec.specs.declared.reader.ReadStop.{ReadStop}
use Rattle.command_codec_spec.specs.Reading.{Out, Parsed}
use Rattle.command_codec.specs.Reads.{Reads}

module _ {A : Type 0} where
  as_they_are : (l : List A) → map (λ a. a) l ≡ l
  as_they_are [] = refl
  as_they_are (a ∷ l) = ap (λ k. a ∷ k) (as_they_are l)

  pub seen_as_they_are : {X : Type 0} (items : X → List A) (out : Out (List A))
      (result : Result X ReadStop) (new : List ℕ)
      → Reads (λ v. map (λ a. a) (items v)) out result new → Reads items out result new
  seen_as_they_are items out (Ok v) new e = e ∙ ap (λ l. Parsed l new) (as_they_are (items v))
  seen_as_they_are items out (Err stop) new f = f
