-- A file that is a before_gate, a gate, and what stands after it.
use Rattle.std.proofs.Common.{◌≡◌, ℕ, ◌+◌, ◌<◌, List, [], ◌∷◌, ◌++◌, length, get_or, take, drop}
use Rattle.std.proofs.Common.{sym, ◌∙◌, ap, arith, append_assoc, length-append, take-append-drop}
use Rattle.std.proofs.lemmas.List.{take_at, drop_at, drop_more}
use Rattle.disk_model.specs.DeviceCalls.{Torn, with_bytes}

module _ (F : List ℕ) (at : ℕ) (ends : at ≡ length F) where
  up_to_gate : (g : ℕ) (rest : List ℕ) → take (at + 1) (F ++ g ∷ rest) ≡ F ++ g ∷ []
  up_to_gate g rest =
      ap (λ (l : List ℕ). take (at + 1) l) (sym (append_assoc F (g ∷ []) rest))
      ∙ take_at (F ++ g ∷ []) rest (at + 1) (omega (arith, length-append F (g ∷ [])))

  up_to_prefix : (g : ℕ) (rest : List ℕ) → take at (F ++ g ∷ rest) ≡ F
  up_to_prefix g rest = take_at F (g ∷ rest) at (sym ends)

  from_gate : (g : ℕ) (rest : List ℕ) → drop (at + 1) (F ++ g ∷ rest) ≡ rest
  from_gate g rest =
      ap (λ (l : List ℕ). drop (at + 1) l) (sym (append_assoc F (g ∷ []) rest))
      ∙ drop_at (F ++ g ∷ []) rest (at + 1) (omega (arith, length-append F (g ∷ [])))

  -- the gate stands in each outcome of a write after it
  pub torn_after : (g n : ℕ) (rest c : List ℕ) → Torn (at + 1) n (F ++ g ∷ rest) c
      → c ≡ F ++ g ∷ drop (at + 1) c
  torn_after g n rest c torn =
      sym (take-append-drop (at + 1) c)
      ∙ ap (λ (l : List ℕ). l ++ drop (at + 1) c) (torn.before ∙ up_to_gate g rest)
      ∙ append_assoc F (g ∷ []) (drop (at + 1) c)

  pub written_after : (g : ℕ) (rest bytes : List ℕ)
      → with_bytes (F ++ g ∷ rest) (at + 1) bytes
      ≡ F ++ g ∷ (bytes ++ drop (at + 1 + length bytes) (F ++ g ∷ rest))
  written_after g rest bytes =
      ap (λ (l : List ℕ). l ++ (bytes ++ drop (at + 1 + length bytes) (F ++ g ∷ rest)))
      (up_to_gate g rest) ∙ append_assoc F (g ∷ [])
      (bytes ++ drop (at + 1 + length bytes) (F ++ g ∷ rest))

  -- what stands after the gate is whole in each outcome of a write of the gate
  pub torn_gate : (g : ℕ) (rest c : List ℕ) → Torn at 1 (F ++ g ∷ rest) c
      → c ≡ F ++ get_or c at 0 ∷ rest
  torn_gate g rest c torn =
      let long : at < length c = omega (arith, ends, torn.no_shorter, length-append F (g ∷ rest)) in
      sym (take-append-drop at c) ∙ ap (λ (l : List ℕ). l ++ drop at c)
      (torn.before ∙ up_to_prefix g rest)
      ∙ ap (λ (l : List ℕ). F ++ l) (drop_more c at 0 long
      ∙ ap (λ (l : List ℕ). get_or c at 0 ∷ l) (torn.after ∙ from_gate g rest))

  pub written_gate : (g h : ℕ) (rest : List ℕ)
      → with_bytes (F ++ g ∷ rest) at (h ∷ []) ≡ F ++ h ∷ rest
  written_gate g h rest = ap (λ (l : List ℕ). l ++ h ∷ drop (at + 1) (F ++ g ∷ rest))
      (up_to_prefix g rest) ∙ ap (λ (l : List ℕ). F ++ h ∷ l) (from_gate g rest)
